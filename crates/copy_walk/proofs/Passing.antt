-- Where the last round goes on: what is passed stays marked.
use Rattle.std.proofs.Common.{◌≡◌, ℕ, ◌+◌, ◌<◌, ◌≤◌, Bool, true, false, cond, Some, None, List, length, set, get_or-set_same, get_or-set_other, sym, ◌∙◌, ap, subst, arith, ◌⊎◌, inl, inr, ◌≢◌}
use Rattle.std.specs.Prelude.{slice_get}
use Rattle.std.proofs.lemmas.Bool.{cases_lt}
use Rattle.std.proofs.lemmas.Bool.Decides.{eqb_tells}
use Rattle.std.proofs.Common.{eqb}
use Rattle.std.proofs.lemmas.List.{set-get_or}
use Rattle.std.proofs.lemmas.List.Sums.{sum_by-set}
use Rattle.copy_walk.specs.Walks.{is_marked, marked}
use Rattle.copy_walk.specs.Walked.{IsPassed, ArePassed, IsOpen, IsFirstOpen, AreMarked, IsFirstIn}
use Rattle.copy_walk.specs.declared.route.Stop.{Stop}

-- one metaslab more is marked
pub marked_more : (s : Stop) (marks : List Bool) (from i : ℕ) → AreMarked s marks from i → is_marked marks (s.first + i) ≡ true → AreMarked s marks from (i + 1)
marked_more s marks from i before here j ge lt = at (cases_lt j i) where
  at : (j < i) ⊎ (i ≤ j) → is_marked marks (s.first + j) ≡ true
  at (inl less) = before j ge less
  at (inr le) = let same : j ≡ i = omega (arith, lt, le) in ap (λ (k : ℕ). is_marked marks (s.first + k)) same ∙ here

-- a stop of which the rest is marked is passed
pub passed_stop : (stops : List Stop) (marks : List Bool) (round index : ℕ) (s : Stop) → ArePassed stops marks round index → slice_get stops round ≡ Some s → AreMarked s marks index s.metaslabs
    → ArePassed stops marks (round + 1) 0
passed_stop stops marks round index s passed here rest k i t at lt (inr both) = absurd (omega (arith, both.1))
passed_stop stops marks round index s passed here rest k i t at lt (inl less) = by_place (cases_lt k round) where
  by_index : t ≡ s → k ≡ round → (i < index) ⊎ (index ≤ i) → is_marked marks (t.first + i) ≡ true
  by_index same one (inl below) = passed k i t at lt (inr (one, below))
  by_index same one (inr above) = ap (λ (x : Stop). is_marked marks (x.first + i)) same ∙ rest i above (subst (λ (x : Stop). i < x.metaslabs) same lt)

  by_place : (k < round) ⊎ (round ≤ k) → is_marked marks (t.first + i) ≡ true
  by_place (inl before) = passed k i t at lt (inl before)
  by_place (inr le) =
      let one : k ≡ round = omega (arith, less, le) in
      let same : t ≡ s = cc in
      by_index same one (cases_lt i index)

-- the first metaslab of a stop that is not marked is the first of all
pub found_here : (stops : List Stop) (marks : List Bool) (round index found : ℕ) (s : Stop) → ArePassed stops marks round index → slice_get stops round ≡ Some s → IsFirstIn s marks index found
    → IsFirstOpen stops marks round found
found_here stops marks round index found s passed here is = record {
  passed = λ k i t at lt before. by_passed k i t at lt before;
  here = λ t at. let same : s ≡ t = cc in subst (IsOpen marks found) same is.here;
} where
  by_index : (k i : ℕ) (t : Stop) → slice_get stops k ≡ Some t → i < t.metaslabs → k ≡ round → i < found → (i < index) ⊎ (index ≤ i) → is_marked marks (t.first + i) ≡ true
  by_index k i t at lt one less (inl below) = passed k i t at lt (inr (one, below))
  by_index k i t at lt one less (inr above) = let same : t ≡ s = cc in ap (λ (x : Stop). is_marked marks (x.first + i)) same ∙ is.before i above less

  by_passed : (k i : ℕ) (t : Stop) → slice_get stops k ≡ Some t → i < t.metaslabs → IsPassed round found k i → is_marked marks (t.first + i) ≡ true
  by_passed k i t at lt (inl before) = passed k i t at lt (inl before)
  by_passed k i t at lt (inr both) = by_index k i t at lt both.0 both.1 (cases_lt i index)

-- behind the last stop there is none
pub found_none : (stops : List Stop) (marks : List Bool) (round index : ℕ) → ArePassed stops marks round index → slice_get stops round ≡ None → IsFirstOpen stops marks round index
found_none stops marks round index passed none = record { passed = passed; here = λ s at. cc }

-- a mark more

abbrev Tells : ℕ → ℕ → Type 0
Tells a b = ((eqb a b ≡ true) × (a ≡ b)) ⊎ ((eqb a b ≡ false) × (a ≢ b))

pub marks_there : (marks : List Bool) (n m : ℕ) → n < length marks → m ≡ n → is_marked (set marks n true) m ≡ true
marks_there marks n m lt e = ap (is_marked (set marks n true)) e ∙ get_or-set_same marks n true false lt

pub marks_else : (marks : List Bool) (n m : ℕ) → (m ≡ n → ⊥) → is_marked (set marks n true) m ≡ is_marked marks m
marks_else marks n m ne = get_or-set_other marks n m true false ne

pub marks_stay : (marks : List Bool) (n m : ℕ) → n < length marks → is_marked marks m ≡ true → is_marked (set marks n true) m ≡ true
marks_stay marks n m lt is = at (eqb_tells m n) where
  at : Tells m n → is_marked (set marks n true) m ≡ true
  at (inl t) = marks_there marks n m lt t.1
  at (inr t) = marks_else marks n m t.1 ∙ is

pub passed_stays : (stops : List Stop) (marks : List Bool) (n round index : ℕ) → n < length marks → ArePassed stops marks round index → ArePassed stops (set marks n true) round index
passed_stays stops marks n round index below passed k i s at lt before = marks_stay marks n (s.first + i) below (passed k i s at lt before)

abbrev weight : Bool → ℕ
weight mark = cond mark 1 0

pub counts_same : (marks : List Bool) (n : ℕ) → is_marked marks n ≡ true → marked (set marks n true) ≡ marked marks
counts_same marks n is =
    let e : set marks n true ≡ marks = ap (set marks n) (sym is) ∙ set-get_or marks n false in
    ap marked e

pub counts_more : (marks : List Bool) (n : ℕ) → n < length marks → is_marked marks n ≡ false → marked (set marks n true) ≡ marked marks + 1
counts_more marks n lt is =
    let e : marked (set marks n true) + weight (is_marked marks n) ≡ marked marks + 1 = sum_by-set weight marks n true false lt in
    let none : weight (is_marked marks n) ≡ 0 = ap weight is in
    omega (arith, e, none)
