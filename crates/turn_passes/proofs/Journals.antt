-- What a closed journal has of the lanes whose passes came back.
use Rattle.std.proofs.Common.{◌≡◌, ℕ, ◌≤◌, ◌<◌, Bool, true, false, cond, leb, List, [], ◌∷◌, ◌++◌, refl, eq-eqb, subst, ⊎_elim}
use Rattle.std.specs.Prelude.{◌==◌}
use Rattle.std.specs.List.{All}
use Rattle.std.specs.Option.{option_to_list}
use Rattle.std.proofs.lemmas.Bool.Decides.{leb_tells}
use Rattle.std.proofs.lemmas.List.Elements.{All-nil, All-cons, All-head, All-tail}
use Rattle.lane_steps.proofs.Steps.{follows_prefix, follows_split}
use Rattle.turn_cell.specs.Notes.{IsPrefix, notes_at}
use Rattle.turn_cell.specs.Lanes.{Step, Follows, after}
use Rattle.turn_cell.specs.declared.kept.TheConstants.{MAX_RIGHT}

module _ {N : Type 0} (right : N → ℕ) where
  tail_none : (b : Bool) (n : N) (notes : List N) → cond b (n ∷ notes) notes ≡ [] → notes ≡ []
  tail_none true n notes e = absurd (cc)
  tail_none false n notes e = e

  head_some : (n : N) (j : List N) → notes_at right (right n) (n ∷ j) ≡ [] → ⊥
  head_some n j e =
      let there : n ∷ notes_at right (right n) j ≡ [] = subst (λ (b : Bool). cond b (n ∷ notes_at right (right n) j) (notes_at right (right n) j) ≡ []) (eq-eqb (right n) (right n) refl) e in
      absurd (cc)

  at_most : (most : ℕ) (n : N) (j : List N) → right n ≤ MAX_RIGHT → ((r : ℕ) → most < r → r ≤ MAX_RIGHT → notes_at right r (n ∷ j) ≡ []) → right n ≤ most
  at_most most n j low none =
      ⊎_elim
      (λ (t : (leb (right n) most ≡ true) × (right n ≤ most)). t.1)
      (λ (t : (leb (right n) most ≡ false) × (most < right n)). absurd (head_some n j (none (right n) t.1 low)))
      (leb_tells (right n) most)

  -- where no note needs a right between, none needs one above
  pub all_at_most : (most : ℕ) (j : List N) → All (λ n. right n ≤ MAX_RIGHT) j → ((r : ℕ) → most < r → r ≤ MAX_RIGHT → notes_at right r j ≡ []) → All (λ n. right n ≤ most) j
  all_at_most most [] low none = All-nil (λ n. right n ≤ most)
  all_at_most most (n ∷ j) low none =
      All-cons (λ n. right n ≤ most) n j
      (at_most most n j (All-head (λ n. right n ≤ MAX_RIGHT) n j low) none)
      (all_at_most most j (All-tail (λ n. right n ≤ MAX_RIGHT) n j low) (λ r above below. tail_none (r == right n) n (notes_at right r j) (none r above below)))

  -- the place of a step and its note begin the journal
  pub step_stands : (lane : ℕ) (ss : List (Step N)) (s : Step N) (ts : List (Step N)) (j : List N) → Follows right lane [] (ss ++ (s ∷ ts)) j → IsPrefix (s.before ++ option_to_list s.note) j
  step_stands lane ss s ts j f = let late = (follows_split right lane [] ss s ts j f).1 in follows_prefix right lane (after s) ts j late.1.1
