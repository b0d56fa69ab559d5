use Rattle.std.proofs.Common.{◌≡◌, ◌∙◌, inl, inr, ℕ, ◌+◌, ◌*◌, length, get_or, refl, sym, ap, arith}
use Rattle.std.proofs.lemmas.Bool.{cases_lt}
use Rattle.std.proofs.lemmas.List.{get_or_default}
use Rattle.uber_ring.specs.Numbers.{number_at}
use Rattle.uber_ring.proofs.Pieces.{number_keeps_number}
use Rattle.meta_store.proofs.WordsAt.{words_at_from}
use Rattle.meta_store.proofs.side_bytes.put_words.Goals as goal

pub loop-k-preserved : goal.loop-k-preserved
loop-k-preserved c =
    let was = c.loop-k.invariant in
    let k = c.loop-k.k in
    let mid = c.loop-k.bytes in
    let new = c.put_word.new.bytes in
    record {
      len = c.put_word.ensures.len ∙ was.len;
      each = λ j lt. elim (cases_lt j k) [
        | inl below ↦ number_keeps_number mid new (8 * k) 8 _ (8 * j) 8 c.put_word.ensures (λ p low high le. absurd (omega arith)) ∙ was.each j below
        | inr behind ↦
            let e : j ≡ k = omega arith in
            ap (λ (i : ℕ). number_at new (8 * i) 8) e ∙ c.put_word.ensures.is ∙ get_or_default c.args.words.now k _ 0 c.loop-k-test.true ∙ ap (λ (i : ℕ). get_or c.args.words.now i 0) (sym e)
      ];
    }

pub returns : goal.returns
returns c =
    let was = c.loop-k.invariant in
    let bytes = c.loop-k.bytes in
    sym (words_at_from bytes 0 (length c.args.words.now) c.args.words.now refl
    (λ j lt. sym (was.each j (omega (arith, c.loop-k-test.false))) ∙ ap (λ (p : ℕ). number_at bytes p 8) (let e : 8 * j ≡ 0 + 8 * j = omega arith in e)))
