-- A walk over a vdev goes down, visits no metaslab twice, and ends.
use Rattle.std.proofs.Common.{◌≡◌, ℕ, zero, suc, get_or, ◌<◌, ◌≤◌, Bool, true, false, eqb, List, [], ◌∷◌, length, refl, sym, ◌∙◌, ap, subst, arith, ◌⊎◌, inl, inr, ⊎_elim}
use Rattle.std.specs.Prelude.{map, ◌||◌}
use Rattle.std.specs.List.{IsDistinct, list_any}
use Rattle.std.proofs.lemmas.List.{length-map}
use Rattle.std.proofs.lemmas.Bool.{eqb-true}
use Rattle.std.proofs.lemmas.Bool.Decides.{eqb_tells}
use Rattle.std.proofs.lemmas.Map.Keys.{IsDistinct-from_apart}
use Rattle.std.proofs.lemmas.Map.Steps.{length-le_from_distinct_below}
use Rattle.ms_model.specs.declared.notes.Got.{Got}
use Rattle.ms_model.specs.declared.notes.Start.TheVariants.{Top, After}
use Rattle.class_model.specs.Replay.{LaneNote, Pair, metaslabs_of, weight_at}
use Rattle.class_model.specs.Picks.{ComesBefore}
use Rattle.class_model.specs.Laws.{IsLook, GoesOn, IsWalk, FallsFrom, Falls}
use Rattle.class_model.specs.declared.origin.ClassOrigin.{ClassOrigin}

before_then : (a b c : Got) → ComesBefore a b → ComesBefore b c → ComesBefore a c
before_then a b c (inl e) (inl f) = inl (omega arith)
before_then a b c (inl e) (inr f) = inl (omega (arith, e, f.0))
before_then a b c (inr e) (inl f) = inl (omega (arith, e.0, f))
before_then a b c (inr e) (inr f) = inr (e.0 ∙ f.0, omega (arith, e.1, f.1))

-- the metaslabs of a walk
abbrev indices : List Got → List ℕ
indices gots = map (λ g. g.index) gots

-- two metaslabs with their weights of one journal, one before the other, are two
apart : (a b : Got) (weight : ℕ → ℕ) → a.weight ≡ weight a.index → b.weight ≡ weight b.index → ComesBefore a b → a.index ≡ b.index → ⊥
apart a b weight wa wb before same = at before where
  equal : a.weight ≡ b.weight
  equal = wa ∙ ap weight same ∙ sym wb

  at : ComesBefore a b → ⊥
  at (inl lt) = omega (arith, lt, equal)
  at (inr both) = omega (arith, both.1, same)

module _ (o : ClassOrigin) (h : List LaneNote) (v : ℕ) (p : Pair) (bytes : ℕ) where
  -- what holds of each metaslab of a walk
  record IsSeen (g : Got) : Type 0 where
    pub within : g.index < metaslabs_of o v
    pub weight : g.weight ≡ weight_at o h v g.index

  top_seen : (g : Got) → IsLook o h v p bytes Top g → IsSeen g
  top_seen g look = record { within = look.answer.is.0.within; weight = look.answer.is.0.weight ∙ look.same g.index }

  after_seen : (w i : ℕ) (g : Got) → IsLook o h v p bytes (After w i) g → IsSeen g
  after_seen w i g look = record { within = look.answer.is.0.within; weight = look.answer.is.0.weight ∙ look.same g.index }

  falls_from : (g : Got) (xs : List Got) → GoesOn o h v p bytes g xs → FallsFrom g xs
  falls_from g [] on = tt
  falls_from g (x ∷ xs) on = (on.0.answer.is.1, falls_from x xs on.1)

  differs : (a b : Got) → IsSeen a → IsSeen b → ComesBefore a b → eqb a.index b.index ≡ false
  differs a b sa sb before =
      ⊎_elim (λ (t : (eqb a.index b.index ≡ true) × (a.index ≡ b.index)). absurd (apart a b (weight_at o h v) sa.weight sb.weight before t.1))
      (λ (t : (eqb a.index b.index ≡ false) × (a.index ≡ b.index → ⊥)). t.0) (eqb_tells a.index b.index)

  -- those behind a metaslab of the walk are others
  others : (a g : Got) (xs : List Got) → IsSeen a → (ComesBefore a g ⊎ (a ≡ g)) → GoesOn o h v p bytes g xs
      → (j d : ℕ) → j < length (indices xs) → eqb a.index (get_or (indices xs) j d) ≡ false
  others a g [] seen before goes j d lt = absurd (omega arith)
  others a g (x ∷ xs) seen before goes zero d lt =
      let next : ComesBefore g x = goes.0.answer.is.1 in
      differs a x seen (after_seen g.weight g.index x goes.0) (⊎_elim (λ (b : ComesBefore a g). before_then a g x b next) (λ (e : a ≡ g). subst (λ (z : Got). ComesBefore z x) (sym e) next) before)
  others a g (x ∷ xs) seen before goes (suc j) d lt =
      let next : ComesBefore g x = goes.0.answer.is.1 in
      others a x xs seen (inl (⊎_elim (λ (b : ComesBefore a g). before_then a g x b next) (λ (e : a ≡ g). subst (λ (z : Got). ComesBefore z x) (sym e) next) before)) goes.1 j d (omega (arith, lt))

  apart_at : (g : Got) (xs : List Got) → IsSeen g → GoesOn o h v p bytes g xs
      → (i j d : ℕ) → i < j → j < length (indices (g ∷ xs)) → eqb (get_or (indices (g ∷ xs)) i d) (get_or (indices (g ∷ xs)) j d) ≡ false
  apart_at g xs seen goes i zero d lt within = absurd (omega (arith, lt))
  apart_at g xs seen goes zero (suc j) d lt within = others g g xs seen (inr refl) goes j d (omega (arith, within))
  apart_at g [] seen goes (suc i) (suc j) d lt within = absurd (omega (arith, within))
  apart_at g (x ∷ xs) seen goes (suc i) (suc j) d lt within = apart_at x xs (after_seen g.weight g.index x goes.0) goes.1 i j d (omega (arith, lt)) (omega (arith, within))

  below_if : (g : Got) (q : ℕ) (r b : Bool) → IsSeen g → (r ≡ true → q < metaslabs_of o v) → eqb q g.index ≡ b → (b || r) ≡ true → q < metaslabs_of o v
  below_if g q r true seen rest e f = let same : q ≡ g.index = eqb-true q g.index e in omega (arith, same, seen.within)
  below_if g q r false seen rest e f = rest f

  below_from : (g : Got) (xs : List Got) → IsSeen g → GoesOn o h v p bytes g xs → (q : ℕ) → list_any (eqb q) (indices (g ∷ xs)) ≡ true → q < metaslabs_of o v
  below_from g [] seen goes q is = below_if g q false (eqb q g.index) seen (λ e. cc) refl is
  below_from g (x ∷ xs) seen goes q is =
      below_if g q (list_any (eqb q) (indices (x ∷ xs))) (eqb q g.index) seen (below_from x xs (after_seen g.weight g.index x goes.0) goes.1 q) refl is

  none_distinct : IsDistinct eqb (indices [])
  none_distinct = IsDistinct-from_apart eqb (indices []) (λ i j d lt within. absurd (omega (arith, within)))

  pub visits_once : (gots : List Got) → IsWalk o h v p bytes gots → Falls gots × (IsDistinct eqb (indices gots) × (length gots ≤ metaslabs_of o v))
  visits_once [] walk = (tt, (none_distinct, omega arith))
  visits_once (x ∷ xs) walk =
      let seen : IsSeen x = top_seen x walk.0 in
      let distinct : IsDistinct eqb (indices (x ∷ xs)) = IsDistinct-from_apart eqb (indices (x ∷ xs)) (apart_at x xs seen walk.1) in
      let few : length (indices (x ∷ xs)) ≤ metaslabs_of o v = length-le_from_distinct_below (indices (x ∷ xs)) (metaslabs_of o v) distinct (below_from x xs seen walk.1) in
      (falls_from x xs walk.1, (distinct, omega (arith, few, length-map (x ∷ xs) (λ (g : Got). g.index))))
