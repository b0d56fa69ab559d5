-- A pick has one answer.
use Rattle.std.proofs.Common.{◌≡◌, ℕ, ◌<◌, ◌≤◌, Option, Some, None, List, refl, sym, ◌∙◌, ap, arith, ◌⊎◌, inl, inr}
use Rattle.std.proofs.lemmas.Bool.{cases_lt}
use Rattle.ms_model.specs.declared.notes.Got.{Got}
use Rattle.ms_model.specs.declared.notes.Start.{Start}
use Rattle.ms_model.specs.declared.notes.Start.TheVariants.{Active, Top, After}
use Rattle.class_model.specs.Replay.{LaneNote, Pair, active_at}
use Rattle.class_model.specs.Picks.{ComesBefore, IsFirstOf, IsActiveOr, IsAnswer}
use Rattle.class_model.specs.declared.origin.ClassOrigin.{ClassOrigin}

same_got : (a b : Got) → a.index ≡ b.index → a.weight ≡ b.weight → a ≡ b
same_got a b e f = ap (λ (i : ℕ). record { index = i; weight = a.weight }) e ∙ ap (λ (w : ℕ). record { index = b.index; weight = w }) f

-- of two metaslabs neither of which comes before the other
by_index : (a b : Got) → a.weight ≡ b.weight → (ComesBefore a b → ⊥) → (ComesBefore b a → ⊥) → (a.index < b.index) ⊎ (b.index ≤ a.index) → a ≡ b
by_index a b same not_ab not_ba (inl lt) = absurd (not_ab (inr (same, lt)))
by_index a b same not_ab not_ba (inr le) = at (cases_lt b.index a.index) where
  at : (b.index < a.index) ⊎ (a.index ≤ b.index) → a ≡ b
  at (inl lt) = absurd (not_ba (inr (sym same, lt)))
  at (inr ge) = same_got a b (omega (arith, le, ge)) same

by_weight : (a b : Got) → (ComesBefore a b → ⊥) → (ComesBefore b a → ⊥) → (a.weight < b.weight) ⊎ (b.weight ≤ a.weight) → a ≡ b
by_weight a b not_ab not_ba (inl lt) = absurd (not_ba (inl lt))
by_weight a b not_ab not_ba (inr le) = at (cases_lt b.weight a.weight) where
  at : (b.weight < a.weight) ⊎ (a.weight ≤ b.weight) → a ≡ b
  at (inl lt) = absurd (not_ab (inl lt))
  at (inr ge) = by_index a b (omega (arith, le, ge)) not_ab not_ba (cases_lt a.index b.index)

pub neither_before : (a b : Got) → (ComesBefore a b → ⊥) → (ComesBefore b a → ⊥) → a ≡ b
neither_before a b not_ab not_ba = by_weight a b not_ab not_ba (cases_lt a.weight b.weight)

pub first_once : (P : Got → Type 0) (a b : Option Got) → IsFirstOf P a → IsFirstOf P b → a ≡ b
first_once P None None p q = refl
first_once P None (Some b) p q = absurd (p b q.is)
first_once P (Some a) None p q = absurd (q a p.is)
first_once P (Some a) (Some b) p q = ap Some (neither_before a b (q.first a p.is) (p.first b q.is))

active_once : (o : ClassOrigin) (h : List LaneNote) (v bytes : ℕ) (m : Option ℕ) (a b : Option Got) → IsActiveOr o h v bytes m a → IsActiveOr o h v bytes m b → a ≡ b
active_once o h v bytes None a b p q = first_once _ a b p q
active_once o h v bytes (Some i) a b p q = p ∙ sym q

pub answer_once : (o : ClassOrigin) (h : List LaneNote) (v : ℕ) (p : Pair) (bytes : ℕ) (start : Start) (a b : Option Got) → IsAnswer o h v p bytes start a → IsAnswer o h v p bytes start b → a ≡ b
answer_once o h v p bytes Active a b one two = active_once o h v bytes (active_at h v p) a b one two
answer_once o h v p bytes Top a b one two = first_once _ a b one two
answer_once o h v p bytes (After weight index) a b one two = first_once _ a b one two
