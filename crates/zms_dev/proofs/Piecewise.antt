-- Texts that go piece by piece.
use Rattle.std.proofs.Common.{◌≡◌, ℕ, ◌+◌, ◌-◌, ◌≤◌, List, [], ◌++◌, length, take, drop, refl, sym, ◌∙◌, ap, arith, append_assoc, length-append, length-drop}
use Rattle.std.proofs.Math.Seq.{take-add}
use Rattle.std.proofs.lemmas.List.{append-nil, drop-drop, take_all, drop_all, take_rest}
use Rattle.zms_dev.specs.Stream.{Moves}

pub moves_none : (left text : List ℕ) → Moves left left text text 0
moves_none left text = record { enough = omega arith; text = sym (append-nil text); rest = refl }

pub moves_more : (a b c : List ℕ) (old mid new : List ℕ) (m n : ℕ) → Moves a b old mid m → Moves b c mid new n → Moves a c old new (m + n)
moves_more a b c old mid new m n first second = record {
  enough = omega (arith, second.enough, first.enough, ap length first.rest, length-drop m a);
  text =
      second.text ∙ ap (λ (t : List ℕ). t ++ take n b) first.text ∙ append_assoc old (take m a) (take n b)
      ∙ ap (λ (t : List ℕ). old ++ (take m a ++ take n t)) first.rest ∙ ap (λ (t : List ℕ). old ++ t) (sym (take-add m n a));
  rest = second.rest ∙ ap (λ (t : List ℕ). drop n t) first.rest ∙ drop-drop n m a;
}

-- a source that has nothing left has given all that was wanted of it
module _ (a b : List ℕ) (old new : List ℕ) (m most : ℕ) (le : m ≤ most) (moved : Moves a b old new m) (ended : b ≡ []) where
  short : length a ≤ m
  short = omega (arith, ap length moved.rest, ap length ended, length-drop m a)

  pub ended_text : new ≡ old ++ take most a
  ended_text =
      moved.text ∙ ap (λ (t : List ℕ). old ++ t) (take_all m a short ∙ sym (take_all most a (omega (arith, short))))

  pub ended_rest : b ≡ drop most a
  ended_rest = ended ∙ sym (drop_all most a (omega (arith, short)))

-- so many bytes were added at the end
abbrev pub Added : List ℕ → List ℕ → ℕ → Type 0
Added old new n = (more : List ℕ) × (length more ≡ n) × (new ≡ old ++ more)

pub added_more : (old mid new : List ℕ) (m n : ℕ) → Added old mid m → Added mid new n → Added old new (m + n)
added_more old mid new m n first second = (
  first.0 ++ second.0,
  omega (arith, length-append first.0 second.0, first.1, second.1),
  second.2 ∙ ap (λ (t : List ℕ). t ++ second.0) first.2 ∙ append_assoc old first.0 second.0,
)

-- one more piece of what is written
pub written_more : (bytes old mid new : List ℕ) (m n : ℕ) → mid ≡ old ++ take m bytes → new ≡ mid ++ take n (take (length bytes - m) (drop m bytes)) → new ≡ old ++ take (m + n) bytes
written_more bytes old mid new m n first second =
    second ∙ ap (λ (t : List ℕ). mid ++ take n t) (take_rest bytes m) ∙ ap (λ (t : List ℕ). t ++ take n (drop m bytes)) first ∙ append_assoc old (take m bytes) (take n (drop m bytes))
    ∙ ap (λ (t : List ℕ). old ++ t) (sym (take-add m n bytes))
