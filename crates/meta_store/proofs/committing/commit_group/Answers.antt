use Rattle.std.proofs.Common.{◌≡◌, ℕ, ◌+◌, List, ◌∙◌, ap, subst}
use Rattle.zms_dev.specs.Bytes.{Outside}
use Rattle.zms_dev.specs.Disk.{DiskState}
use Rattle.zms_dev.specs.Runs.{Spares}
use Rattle.zms_units.specs.declared.places.VdevRow.{VdevRow}
use Rattle.zms_units.specs.declared.segments.Group.{Group}
use Rattle.vdev_map.specs.Places.{slot_place}
use Rattle.vdev_map.specs.declared.layout.Head.{Head}
use Rattle.uber_ring.proofs.Stages.{flushes_then}
use Rattle.meta_store.specs.CommitFaults.{IsCommitFailure}
use Rattle.meta_store.specs.Heads.{head_of}
use Rattle.zms_dev.proofs.Sparing.{spares_then, spares_less}
use Rattle.meta_store.specs.NextGroups.{IsSpared, IsLeft}
use Rattle.meta_store.proofs.Committed.{before_the_slot, rests_before_the_slot, honest_fault, with_the_slot, slot_commits, rests_behind_the_slot}
use Rattle.meta_store.proofs.Handing.{handed_on}
use Rattle.meta_store.proofs.committing.commit_group.Goals as goal

pub returns-in_err-next-clause-any_moment : goal.returns-in_err-next-clause-any_moment
returns-in_err-next-clause-any_moment g c at_rest =
    before_the_slot c.args.layout.now c.args.table.now c.args.batches.now c.head_for-head.result c.head_for-head.ensures c.requires.store.vdevs (g.D.Disk.state c.args.disk.now) (g.D.Disk.state c.lay_down.new.disk) at_rest (c.lay_down.ensures.spares at_rest.tells)

pub returns-in_err-next-clause-memory : goal.returns-in_err-next-clause-memory
returns-in_err-next-clause-memory g c at_rest is =
    rests_before_the_slot c.args.layout.now c.args.table.now c.args.batches.now c.head_for-head.result c.head_for-head.ensures c.requires.store.vdevs (g.D.Disk.state c.args.disk.now) (g.D.Disk.state c.lay_down.new.disk) at_rest (c.lay_down.ensures.spares at_rest.tells)

pub returns-in_err-next-clause-honest : goal.returns-in_err-next-clause-honest
returns-in_err-next-clause-honest g c at_rest =
    handed_on c.from_residual.result c.in_err-next.field-0.0 IsCommitFailure c.from_residual.ensures.1
    (honest_fault c.args.layout.now c.args.table.now c.args.batches.now c.head_for-head.result c.head_for-head.ensures c.requires.store.vdevs (g.D.Disk.state c.args.disk.now) (g.D.Disk.state c.lay_down.new.disk) at_rest (c.lay_down.ensures.spares at_rest.tells)
    (g.met.D.Disk.reads_as c.args.disk.now at_rest.tells) c.in_err-next.field-0.0 (c.in_err-next.ensures.fault at_rest.tells))

pub returns-in_err-write_slot-clause-any_moment : goal.returns-in_err-write_slot-clause-any_moment
returns-in_err-write_slot-clause-any_moment g c at_rest =
    with_the_slot c.args.layout.now c.args.table.now c.args.batches.now c.head_for-head.result c.head_for-head.ensures c.requires.store.vdevs (g.D.Disk.state c.args.disk.now) (g.D.Disk.state c.lay_down.new.disk) at_rest (c.lay_down.ensures.spares at_rest.tells)
    (g.met.D.Disk.reads_as c.args.disk.now at_rest.tells) (g.D.Disk.state c.write_slot.new.disk) c.requires.batches c.requires.group c.in_ok-next.next c.in_ok-next.ensures.next c.in_ok-next.ensures.group
    (c.in_ok-next.ensures.laid at_rest.tells) (c.in_ok-next.ensures.durable at_rest.tells) c.write_slot.ensures.spares c.write_slot.ensures.any_moment

pub returns-in_err-write_slot-clause-flushes : goal.returns-in_err-write_slot-clause-flushes
returns-in_err-write_slot-clause-flushes g c tells =
    flushes_then 1 3 (g.D.Disk.state c.args.disk.now) (g.D.Disk.state c.lay_down.new.disk) (g.D.Disk.state c.write_slot.new.disk) (c.lay_down.ensures.flushes tells)
    (c.write_slot.ensures.flushes (c.lay_down.ensures.spares tells).tells)

pub returns-clause-any_moment : goal.returns-clause-any_moment
returns-clause-any_moment g c at_rest =
    with_the_slot c.args.layout.now c.args.table.now c.args.batches.now c.head_for-head.result c.head_for-head.ensures c.requires.store.vdevs (g.D.Disk.state c.args.disk.now) (g.D.Disk.state c.lay_down.new.disk) at_rest (c.lay_down.ensures.spares at_rest.tells)
    (g.met.D.Disk.reads_as c.args.disk.now at_rest.tells) (g.D.Disk.state c.write_slot.new.disk) c.requires.batches c.requires.group c.in_ok-next.next c.in_ok-next.ensures.next c.in_ok-next.ensures.group
    (c.in_ok-next.ensures.laid at_rest.tells) (c.in_ok-next.ensures.durable at_rest.tells) c.write_slot.ensures.spares c.write_slot.ensures.any_moment

pub returns-clause-done : goal.returns-clause-done
returns-clause-done g c at_rest =
    slot_commits c.args.layout.now c.args.table.now c.args.batches.now c.head_for-head.result c.head_for-head.ensures c.requires.store.vdevs (g.D.Disk.state c.args.disk.now) (g.D.Disk.state c.lay_down.new.disk) at_rest (c.lay_down.ensures.spares at_rest.tells)
    (g.met.D.Disk.reads_as c.args.disk.now at_rest.tells) (g.D.Disk.state c.write_slot.new.disk) c.requires.batches c.requires.group c.in_ok-next.next c.in_ok-next.ensures.next c.in_ok-next.ensures.group
    (c.in_ok-next.ensures.laid at_rest.tells) (c.in_ok-next.ensures.durable at_rest.tells) c.write_slot.ensures.spares c.in_ok-write_slot.ensures.written c.in_ok-write_slot.ensures.durable

pub returns-clause-at_rest : goal.returns-clause-at_rest
returns-clause-at_rest g c at_rest =
    rests_behind_the_slot c.args.layout.now c.args.table.now c.args.batches.now c.head_for-head.result c.head_for-head.ensures c.requires.store.vdevs (g.D.Disk.state c.args.disk.now) (g.D.Disk.state c.lay_down.new.disk) at_rest (c.lay_down.ensures.spares at_rest.tells)
    (g.met.D.Disk.reads_as c.args.disk.now at_rest.tells) (g.D.Disk.state c.write_slot.new.disk) c.requires.batches c.requires.group c.in_ok-next.next c.in_ok-next.ensures.next c.in_ok-next.ensures.group
    (c.in_ok-next.ensures.laid at_rest.tells) (c.in_ok-next.ensures.durable at_rest.tells) c.write_slot.ensures.spares c.in_ok-write_slot.ensures.written c.in_ok-write_slot.ensures.durable

pub returns-clause-flushes : goal.returns-clause-flushes
returns-clause-flushes g c tells =
    flushes_then 1 3 (g.D.Disk.state c.args.disk.now) (g.D.Disk.state c.lay_down.new.disk) (g.D.Disk.state c.write_slot.new.disk) (c.lay_down.ensures.flushes tells)
    (c.write_slot.ensures.flushes (c.lay_down.ensures.spares tells).tells)

-- where the words and the table were laid down, nothing beside them was touched, and where the slot was written, nothing
-- beside it
laid_left : (head head_is : Head) (vdevs : List VdevRow) (group : ℕ) (old mid : DiskState) → head ≡ head_is → Spares (IsSpared head vdevs (record { 0 = group })) old mid → Spares (IsLeft head_is vdevs group) old mid
laid_left head head_is vdevs group old mid e run =
    subst (λ (h : Head). Spares (IsLeft h vdevs group) old mid) e (spares_less (IsSpared head vdevs (record { 0 = group })) old mid (IsLeft head vdevs group) (λ p left. left.0) run)

all_left : (head : Head) (vdevs : List VdevRow) (group at : ℕ) (old mid new : DiskState) → at ≡ group → Spares (IsLeft head vdevs group) old mid → Spares (Outside (slot_place at) 1024) mid new → Spares (IsLeft head vdevs group) old new
all_left head vdevs group at old mid new e first second =
    spares_then (IsLeft head vdevs group) old mid new first
    (spares_less (Outside (slot_place group) 1024) mid new (IsLeft head vdevs group) (λ p left. left.1) (subst (λ (n : ℕ). Spares (Outside (slot_place n) 1024) mid new) e second))

pub returns-in_err-next-clause-spares : goal.returns-in_err-next-clause-spares
returns-in_err-next-clause-spares g c tells =
    laid_left c.head_for-head.result (head_of c.args.layout.now) c.args.table.now.vdevs (c.args.table.now.group.0 + 1) (g.D.Disk.state c.args.disk.now) (g.D.Disk.state c.lay_down.new.disk) c.head_for-head.ensures
    (c.lay_down.ensures.spares tells)

pub returns-in_err-write_slot-clause-spares : goal.returns-in_err-write_slot-clause-spares
returns-in_err-write_slot-clause-spares g c tells =
    let run = c.lay_down.ensures.spares tells in
    all_left (head_of c.args.layout.now) c.args.table.now.vdevs (c.args.table.now.group.0 + 1) c.in_ok-next.next.uber.group.0 (g.D.Disk.state c.args.disk.now) (g.D.Disk.state c.lay_down.new.disk) (g.D.Disk.state c.write_slot.new.disk)
    (ap (λ (one : Group). one.0) (c.in_ok-next.ensures.next.names.group ∙ c.in_ok-next.ensures.group))
    (laid_left c.head_for-head.result (head_of c.args.layout.now) c.args.table.now.vdevs (c.args.table.now.group.0 + 1) (g.D.Disk.state c.args.disk.now) (g.D.Disk.state c.lay_down.new.disk) c.head_for-head.ensures run)
    (c.write_slot.ensures.spares run.tells)

pub returns-clause-spares : goal.returns-clause-spares
returns-clause-spares g c tells =
    let run = c.lay_down.ensures.spares tells in
    all_left (head_of c.args.layout.now) c.args.table.now.vdevs (c.args.table.now.group.0 + 1) c.in_ok-next.next.uber.group.0 (g.D.Disk.state c.args.disk.now) (g.D.Disk.state c.lay_down.new.disk) (g.D.Disk.state c.write_slot.new.disk)
    (ap (λ (one : Group). one.0) (c.in_ok-next.ensures.next.names.group ∙ c.in_ok-next.ensures.group))
    (laid_left c.head_for-head.result (head_of c.args.layout.now) c.args.table.now.vdevs (c.args.table.now.group.0 + 1) (g.D.Disk.state c.args.disk.now) (g.D.Disk.state c.lay_down.new.disk) c.head_for-head.ensures run)
    (c.write_slot.ensures.spares run.tells)
