use Rattle.std.proofs.Common.{◌≡◌, inl, inr, ℕ, ◌+◌, ◌*◌, get_or, refl, subst, arith}
use Rattle.std.proofs.lemmas.Bool.{cases_lt}
use Rattle.std.proofs.lemmas.List.{get_or_default}
use Rattle.vdev_map.specs.declared.table.LogRow.{LogRow}
use Rattle.uber_ring.specs.Encoding.{Changes, IsLogAt}
use Rattle.uber_ring.proofs.Encoded.{changes_then, log_kept}
use Rattle.uber_ring.proofs.encode.put_logs.Goals as goal

pub loop-l-preserved : goal.loop-l-preserved
loop-l-preserved c =
    let was = c.loop-l.invariant in
    let old = c.args.bytes.now in
    let mid = c.loop-l.bytes in
    let new = c.put_log.new.bytes in
    let first = c.args.first in
    let l = c.loop-l.l in
    record {
      changes = subst (λ (n : ℕ). Changes old new first n) (let e : 48 * l + 48 ≡ 48 * (l + 1) = omega arith in e)
          (changes_then old mid new first (48 * l) (first + 48 * l) 48 was.changes refl c.put_log.ensures.changes);
      rows = λ k d lt. elim (cases_lt k l) [
        | inl below ↦ log_kept mid new (first + 48 * l) 48 c.put_log.ensures.changes (first + 48 * k) (get_or c.args.rows.now k d) (λ p low high le. absurd (omega arith)) (was.rows k d below)
        | inr behind ↦
            let e : l ≡ k = omega arith in
            subst (λ (j : ℕ). IsLogAt new (first + 48 * j) (get_or c.args.rows.now j d)) e
            (subst (λ (r : LogRow). IsLogAt new (first + 48 * l) r) (get_or_default c.args.rows.now l _ d c.loop-l-test.true) c.put_log.ensures.row)
      ];
    }
