-- In a legal journal a metaslab is active for one pair at most.
use Rattle.std.proofs.Common.{◌≡◌, ℕ, Bool, true, false, eqb, Option, Some, None, List, refl, sym, ◌∙◌, ap, subst, ◌⊎◌, inl, inr}
use Rattle.std.specs.Prelude.{◌&&◌, if◌then◌else◌}
use Rattle.std.proofs.lemmas.Bool.{eqb-true}
use Rattle.ms_model.specs.declared.notes.ClassNote.{ClassNote}
use Rattle.ms_model.specs.declared.notes.ClassNote.TheVariants.{Pick, Granted, Missed, Weigh}
use Rattle.ms_model.specs.declared.notes.Got.{Got}
use Rattle.ms_model.specs.declared.notes.Kind.{Kind}
use Rattle.ms_model.specs.declared.notes.Kind.TheVariants.{Primary, Secondary}
use Rattle.ms_model.specs.declared.notes.Start.{Start}
use Rattle.ms_model.specs.declared.notes.Start.TheVariants.{Active, Top, After}
use Rattle.class_model.specs.Replay.{LaneNote, Pair, is_kind, is_pair, taken, dropped, weight_at, active_after, active_at}
use Rattle.class_model.specs.Picks.{IsActiveOr, IsAnswer}
use Rattle.class_model.specs.Legal.{MayNote, IsClassLegal}
use Rattle.class_model.specs.declared.origin.ClassOrigin.{ClassOrigin}
use Rattle.class_model.proofs.Journals.{active_at-push, by_legal}

pub both_of : (a b : Bool) → (a && b) ≡ true → (a ≡ true) × (b ≡ true)
both_of true b e = (refl, e)
both_of false b e = cc

kind_is : (a b : Kind) → is_kind a b ≡ true → a ≡ b
kind_is Primary Primary e = refl
kind_is Primary Secondary e = cc
kind_is Secondary Primary e = cc
kind_is Secondary Secondary e = refl

pair_is : (p : Pair) (allocator : ℕ) (kind : Kind) → is_pair p allocator kind ≡ true → p ≡ record { allocator = allocator; kind = kind }
pair_is p allocator kind e =
    let both : (eqb p.allocator allocator ≡ true) × (is_kind p.kind kind ≡ true) = both_of (eqb p.allocator allocator) (is_kind p.kind kind) e in
    ap (λ (a : ℕ). record { allocator = a; kind = p.kind }) (eqb-true p.allocator allocator both.0)
    ∙ ap (λ (k : Kind). record { allocator = allocator; kind = k }) (kind_is p.kind kind both.1)

-- what a pick gave was its pair's active one, or nobody's
active_given : (o : ClassOrigin) (h : List LaneNote) (v bytes : ℕ) (m : Option ℕ) (g : Got) → IsActiveOr o h v bytes m (Some g)
    → (m ≡ Some g.index) ⊎ ((q : Pair) → active_at h v q ≡ Some g.index → ⊥)
active_given o h v bytes None g answer = inr answer.is.0.inactive
active_given o h v bytes (Some i) g answer = let same : g ≡ record { index = i; weight = weight_at o h v i } = cc in inl (ap (λ (x : Got). Some x.index) (sym same))

given : (o : ClassOrigin) (h : List LaneNote) (v : ℕ) (p : Pair) (bytes : ℕ) (start : Start) (g : Got) → IsAnswer o h v p bytes start (Some g)
    → (active_at h v p ≡ Some g.index) ⊎ ((q : Pair) → active_at h v q ≡ Some g.index → ⊥)
given o h v p bytes Active g answer = active_given o h v bytes (active_at h v p) g answer
given o h v p bytes Top g answer = inr answer.is.0.inactive
given o h v p bytes (After weight index) g answer = inr answer.is.0.inactive

-- two pairs have the same active metaslab after a pick: both had it, both are the pick's, or one is and the other had it
pick_cases : (s t : Bool) (x y : Option ℕ) (got : Option Got) (i : ℕ) (C : Type 0)
    → (if s then taken x got else x) ≡ Some i → (if t then taken y got else y) ≡ Some i
    → (x ≡ Some i → y ≡ Some i → C)
    → (s ≡ true → t ≡ true → C)
    → ((g : Got) → got ≡ Some g → s ≡ true → g.index ≡ i → y ≡ Some i → C)
    → ((g : Got) → got ≡ Some g → t ≡ true → g.index ≡ i → x ≡ Some i → C) → C
pick_cases false false x y got i C e f old both one two = old e f
pick_cases true true x y got i C e f old both one two = both refl refl
pick_cases true false x y None i C e f old both one two = old e f
pick_cases true false x y (Some g) i C e f old both one two = one g refl refl (cc) f
pick_cases false true x y None i C e f old both one two = old e f
pick_cases false true x y (Some g) i C e f old both one two = two g refl refl (cc) e

cut : (b : Bool) (j i : ℕ) → (if b then None else Some j) ≡ Some i → Some j ≡ Some i
cut true j i e = cc
cut false j i e = e

pub dropped_less : (b : Bool) (j : ℕ) (x : Option ℕ) (i : ℕ) → (if b then dropped j x else x) ≡ Some i → x ≡ Some i
dropped_less false j x i e = e
dropped_less true j None i e = cc
dropped_less true j (Some k) i e = cut (eqb j k) k i e

abbrev pub OnePair : List LaneNote → Type 0
OnePair h = (v i : ℕ) (p q : Pair) → active_at h v p ≡ Some i → active_at h v q ≡ Some i → p ≡ q

-- the pick's pair and one that had what the pick gave
pick_pair : (o : ClassOrigin) (h : List LaneNote) (v w i : ℕ) (r q : Pair) (bytes : ℕ) (start : Start) (got : Option Got) (g : Got) → OnePair h
    → IsAnswer o h w r bytes start got → got ≡ Some g → w ≡ v → g.index ≡ i → active_at h v q ≡ Some i → r ≡ q
pick_pair o h v w i r q bytes start got g one answer is same index had = at (given o h w r bytes start g (subst (IsAnswer o h w r bytes start) is answer)) where
  there : active_at h w q ≡ Some g.index
  there = subst (λ u. active_at h u q ≡ Some g.index) (sym same) (had ∙ ap Some (sym index))

  at : (active_at h w r ≡ Some g.index) ⊎ ((p : Pair) → active_at h w p ≡ Some g.index → ⊥) → r ≡ q
  at (inl own) = one w g.index r q own there
  at (inr none) = absurd (none q there)

pair_step : (o : ClassOrigin) (h : List LaneNote) (lane : ℕ) (n : ClassNote) → MayNote o h lane n → OnePair h
    → (v i : ℕ) (p q : Pair) → active_after v p (active_at h v p) n ≡ Some i → active_after v q (active_at h v q) n ≡ Some i → p ≡ q
pair_step o h lane (Pick a k w bytes start got) may one v i p q e f =
    let r : Pair = record { allocator = a; kind = k } in
    pick_cases (eqb w v && is_pair p a k) (eqb w v && is_pair q a k) (active_at h v p) (active_at h v q) got i (p ≡ q) e f
    (one v i p q)
    (λ s t. pair_is p a k (both_of (eqb w v) (is_pair p a k) s).1 ∙ sym (pair_is q a k (both_of (eqb w v) (is_pair q a k) t).1))
    (λ g is s index had.
    let both : (eqb w v ≡ true) × (is_pair p a k ≡ true) = both_of (eqb w v) (is_pair p a k) s in
    pair_is p a k both.1 ∙ pick_pair o h v w i r q bytes start got g one may.1.1 is (eqb-true w v both.0) index had)
    (λ g is t index had.
    let both : (eqb w v ≡ true) × (is_pair q a k ≡ true) = both_of (eqb w v) (is_pair q a k) t in
    sym (pair_is q a k both.1 ∙ pick_pair o h v w i r p bytes start got g one may.1.1 is (eqb-true w v both.0) index had))
pair_step o h lane (Granted id bytes weight) may one v i p q e f = one v i p q e f
pair_step o h lane (Missed id weight) may one v i p q e f = one v i p q (dropped_less (eqb id.vdev v) id.index _ i e) (dropped_less (eqb id.vdev v) id.index _ i f)
pair_step o h lane (Weigh id weight) may one v i p q e f = one v i p q e f

pub one_pair : (o : ClassOrigin) (h : List LaneNote) → IsClassLegal o h → OnePair h
one_pair o h legal =
    by_legal o OnePair (λ v i p q e f. cc)
    (λ l n may one v i p q e f. pair_step o l n.0 n.1 may.1 one v i p q (sym (active_at-push l n v p) ∙ e) (sym (active_at-push l n v q) ∙ f))
    h legal
