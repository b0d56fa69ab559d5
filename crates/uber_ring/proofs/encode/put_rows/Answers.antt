use Rattle.std.proofs.Common.{◌≡◌, ◌∙◌, inl, inr, ℕ, ◌+◌, ◌*◌, get_or, refl, subst, arith}
use Rattle.std.proofs.lemmas.Bool.{cases_lt}
use Rattle.std.proofs.lemmas.List.{get_or_default}
use Rattle.vdev_map.specs.declared.table.MsRow.{MsRow}
use Rattle.uber_ring.specs.Encoding.{Changes, IsMsRowAt}
use Rattle.uber_ring.proofs.Encoded.{changes_then, row_kept}
use Rattle.uber_ring.proofs.encode.put_rows.Goals as goal

pub loop-m-preserved : goal.loop-m-preserved
loop-m-preserved c =
    let was = c.loop-m.invariant in
    let old = c.args.bytes.now in
    let mid = c.loop-m.bytes in
    let new = c.put_row.new.bytes in
    let first = c.args.first in
    let m = c.loop-m.m in
    record {
      changes = subst (λ (n : ℕ). Changes old new first n) (let e : 40 * m + 40 ≡ 40 * (m + 1) = omega arith in e)
          (changes_then old mid new first (40 * m) (first + 40 * m) 40 was.changes refl c.put_row.ensures.changes);
      zeros = λ k low high. c.put_row.ensures.changes.outside k (λ le. omega arith) ∙ was.zeros k (omega arith) (omega arith);
      rows = λ k d lt. elim (cases_lt k m) [
        | inl below ↦ row_kept mid new (first + 40 * m) 40 c.put_row.ensures.changes (first + 40 * k) (get_or c.args.rows.now k d) (λ p low high le. absurd (omega arith)) (was.rows k d below)
        | inr behind ↦
            let e : m ≡ k = omega arith in
            subst (λ (j : ℕ). IsMsRowAt new (first + 40 * j) (get_or c.args.rows.now j d)) e
            (subst (λ (r : MsRow). IsMsRowAt new (first + 40 * m) r) (get_or_default c.args.rows.now m _ d c.loop-m-test.true) c.put_row.ensures.row)
      ];
    }
