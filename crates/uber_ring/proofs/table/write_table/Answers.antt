use Rattle.std.proofs.Common.{ℕ, List, sym, ap, subst, ◌∙◌, arith}
use Rattle.sha2.specs.Sha256.{sha256}
use Rattle.zms_units.specs.declared.segments.Group.{Group}
use Rattle.zms_dev.specs.Bytes.{Holds}
use Rattle.zms_dev.specs.Disk.{bytes_of}
use Rattle.vdev_map.specs.Places.{table_place}
use Rattle.uber_ring.proofs.RoundTrip.{written_as, written_table}
use Rattle.uber_ring.proofs.table.write_table.Goals as goal

pub returns-clause-encoded : goal.returns-clause-encoded
returns-clause-encoded g c tells =
    let old = bytes_of (g.D.Disk.state c.args.disk.now) in
    let new = bytes_of (g.D.Disk.state c.write_bytes.new.disk) in
    let uber = c.uber_for-uber.result in
    let place = c.table_place.ensures ∙ sym (ap (λ (group : Group). table_place group.0) c.uber_for-uber.ensures.names.group) in
    let holds : Holds old (table_place uber.group.0) c.in_ok-bytes.bytes.items new =
    subst (λ (at : ℕ). Holds old at c.in_ok-bytes.bytes.items new) place
    (subst (λ (bytes : List ℕ). Holds old c.table_place.result bytes new) c.deref-2.ensures.value (c.in_ok-write_bytes.ensures.written tells)) in
    written_as old new c.in_ok-bytes.bytes.items c.args.table.now uber holds c.in_ok-bytes.ensures c.uber_for-uber.ensures.names
    (c.uber_for-uber.ensures.digest ∙ ap sha256 c.deref.ensures.value)

pub returns-clause-written : goal.returns-clause-written
returns-clause-written g c tells head fits =
    let old = bytes_of (g.D.Disk.state c.args.disk.now) in
    let new = bytes_of (g.D.Disk.state c.write_bytes.new.disk) in
    let uber = c.uber_for-uber.result in
    let place = c.table_place.ensures ∙ sym (ap (λ (group : Group). table_place group.0) c.uber_for-uber.ensures.names.group) in
    let holds : Holds old (table_place uber.group.0) c.in_ok-bytes.bytes.items new =
    subst (λ (at : ℕ). Holds old at c.in_ok-bytes.bytes.items new) place
    (subst (λ (bytes : List ℕ). Holds old c.table_place.result bytes new) c.deref-2.ensures.value (c.in_ok-write_bytes.ensures.written tells)) in
    written_table old new c.in_ok-bytes.bytes.items c.args.table.now uber holds c.in_ok-bytes.ensures c.uber_for-uber.ensures.names
    (c.uber_for-uber.ensures.digest ∙ ap sha256 c.deref.ensures.value) head fits

pub returns-clause-lies : goal.returns-clause-lies
returns-clause-lies g c tells =
    let old = bytes_of (g.D.Disk.state c.args.disk.now) in
    let new = bytes_of (g.D.Disk.state c.write_bytes.new.disk) in
    let holds : Holds old c.table_place.result c.in_ok-bytes.bytes.items new =
    subst (λ (bytes : List ℕ). Holds old c.table_place.result bytes new) c.deref-2.ensures.value (c.in_ok-write_bytes.ensures.written tells) in
    let len = c.in_ok-bytes.ensures.len in
    omega (arith, c.table_place.ensures, len, holds.reaches (omega (arith, len)))
