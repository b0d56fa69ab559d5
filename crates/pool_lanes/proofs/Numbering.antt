-- Where no note needs right 0, each needs a right from 1 on.
use Rattle.std.proofs.Common.{◌≡◌, ℕ, ◌<◌, ◌≤◌, Bool, true, false, cond, List, [], ◌∷◌, leb, eq-eqb, subst, arith, ⊎_elim}
use Rattle.std.specs.Prelude.{◌==◌}
use Rattle.std.specs.List.{All}
use Rattle.std.proofs.lemmas.Bool.Decides.{leb_tells}
use Rattle.std.proofs.lemmas.List.Elements.{All-nil, All-cons}
use Rattle.turn_cell.specs.Notes.{notes_at}

module _ {N : Type 0} (right : N → ℕ) where
  rest_none : (b : Bool) (n : N) (l : List N) → cond b (n ∷ l) l ≡ [] → l ≡ []
  rest_none true n l e = absurd (cc)
  rest_none false n l e = e

  some_zero : (n : N) (j : List N) → 0 ≡ right n → notes_at right 0 (n ∷ j) ≡ [] → ⊥
  some_zero n j zero e =
      let there : n ∷ notes_at right 0 j ≡ [] = subst (λ (b : Bool). cond b (n ∷ notes_at right 0 j) (notes_at right 0 j) ≡ []) (eq-eqb 0 (right n) zero) e in
      absurd (cc)

  pub all_from_one : (j : List N) → notes_at right 0 j ≡ [] → All (λ n. 1 ≤ right n) j
  all_from_one [] e = All-nil (λ n. 1 ≤ right n)
  all_from_one (n ∷ j) e =
      All-cons (λ n. 1 ≤ right n) n j
      (⊎_elim
      (λ (t : (leb 1 (right n) ≡ true) × (1 ≤ right n)). t.1)
      (λ (t : (leb 1 (right n) ≡ false) × (right n < 1)). absurd (some_zero n j (omega (arith, t.1)) e))
      (leb_tells 1 (right n)))
      (all_from_one j (rest_none (0 == right n) n (notes_at right 0 j) e))
