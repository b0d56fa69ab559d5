use Rattle.std.proofs.Common.{◌≡◌, ◌∙◌, inl, inr, ℕ, ◌+◌, ◌*◌, refl, subst, arith}
use Rattle.std.proofs.lemmas.Bool.{cases_lt}
use Rattle.std.proofs.lemmas.List.{get_or_default}
use Rattle.zms_units.specs.declared.places.VdevRow.{VdevRow}
use Rattle.vdev_map.specs.Numbers.{row_at}
use Rattle.uber_ring.specs.Encoding.{Changes, IsVdevAt}
use Rattle.uber_ring.proofs.Encoded.{changes_then, vdev_kept}
use Rattle.uber_ring.proofs.encode.put_vdevs.Goals as goal

pub loop-v-preserved : goal.loop-v-preserved
loop-v-preserved c =
    let was = c.loop-v.invariant in
    let old = c.args.bytes.now in
    let mid = c.loop-v.bytes in
    let new = c.put_vdev.new.bytes in
    let first = c.args.first in
    let v = c.loop-v.v in
    record {
      changes = subst (λ (n : ℕ). Changes old new first n) (let e : 32 * v + 32 ≡ 32 * (v + 1) = omega arith in e)
          (changes_then old mid new first (32 * v) (first + 32 * v) 32 was.changes refl c.put_vdev.ensures.changes);
      zeros = λ k low high. c.put_vdev.ensures.changes.outside k (λ le. omega arith) ∙ was.zeros k (omega arith) (omega arith);
      rows = λ k lt. elim (cases_lt k v) [
        | inl below ↦ vdev_kept mid new (first + 32 * v) 32 c.put_vdev.ensures.changes (first + 32 * k) (row_at c.args.rows.now k) (λ p low high le. absurd (omega arith)) (was.rows k below)
        | inr behind ↦
            let e : v ≡ k = omega arith in
            subst (λ (j : ℕ). IsVdevAt new (first + 32 * j) (row_at c.args.rows.now j)) e
            (subst (λ (r : VdevRow). IsVdevAt new (first + 32 * v) r) (get_or_default c.args.rows.now v _ _ c.loop-v-test.true) c.put_vdev.ensures.row)
      ];
    }
