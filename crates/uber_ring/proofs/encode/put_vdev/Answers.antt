use Rattle.std.proofs.Common.{ℕ, ◌+◌, subst}
use Rattle.uber_ring.specs.Numbers.{PutsNumber}
use Rattle.uber_ring.proofs.Encoded.{vdev_put}
use Rattle.uber_ring.proofs.encode.put_vdev.Goals as goal

pub returns-clause-row : goal.returns-clause-row
returns-clause-row c =
    let a = c.args.bytes.now in
    let b = c.put_u32.new.bytes in
    let d = c.put_u32-2.new.bytes in
    let e = c.put_u32-3.new.bytes in
    let f = c.put_u32-4.new.bytes in
    vdev_put a b d e f c.args.at c.args.row.now
    (subst (λ (x : ℕ). PutsNumber a b c.args.at 4 x) c.class_number.ensures c.put_u32.ensures)
    (subst (λ (x : ℕ). PutsNumber b d (c.args.at + 4) 4 x) c.from.ensures c.put_u32-2.ensures)
    c.put_u32-3.ensures
    (subst (λ (x : ℕ). PutsNumber e f (c.args.at + 12) 4 x) c.from-2.ensures c.put_u32-4.ensures)
    c.requires.zeros
