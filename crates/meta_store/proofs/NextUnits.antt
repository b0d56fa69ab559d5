-- The units of the next group: which are held, and how many.
use Rattle.std.proofs.Common.{◌≡◌, inl, inr, ℕ, zero, suc, ◌+◌, ◌<◌, Bool, true, false, List, length, get_or, take, refl, sym, ◌∙◌, ap, subst, arith}
use Rattle.std.specs.Prelude.{◌||◌, ◌⊎◌, not, if◌then◌else◌}
use Rattle.std.proofs.lemmas.List.{take_more}
use Rattle.zms_units.specs.declared.segments.Seg.{Seg}
use Rattle.zms_units.specs.Segments.{covers, covered}
use Rattle.zms_units.specs.Runs.{units_in}
use Rattle.zms_units.proofs.Counting.{units_more}
use Rattle.zms_units.proofs.Covers.{covered-push}
use Rattle.meta_store.specs.NextWords.{is_held_after}

if_or : (first last value was : Bool) → (if last then value else (if first then value else was)) ≡ (if first || last then value else was)
if_or true true value was = refl
if_or true false value was = refl
if_or false true value was = refl
if_or false false value was = refl

-- one more segment
pub segs_more : (segs : List Seg) (i : ℕ) (d : Seg) (u : ℕ) (value now mid was : Bool) → i < length segs → mid ≡ (if covered (take i segs) u then value else was)
    → now ≡ (if covers (get_or segs i d) u then value else mid) → now ≡ (if covered (take (i + 1) segs) u then value else was)
segs_more segs i d u value now mid was lt so_far here =
    here ∙ ap (λ (b : Bool). if covers (get_or segs i d) u then value else b) so_far
    ∙ if_or (covered (take i segs) u) (covers (get_or segs i d) u) value was
    ∙ ap (λ (b : Bool). if b then value else was) (sym (covered-push (take i segs) (get_or segs i d) u) ∙ ap (λ (s : List Seg). covered s u) (sym (take_more segs i d lt)))

-- free where all were at first, and these were held, and these are allocated and freed
pub free_marks : (held allocs frees : List Seg) (u : ℕ) (first a b last : Bool) → first ≡ true → a ≡ (if covered held u then false else first) → b ≡ (if covered allocs u then false else a)
    → last ≡ (if covered frees u then true else b) → last ≡ not (is_held_after allocs frees u (covered held u))
free_marks held allocs frees u first a b last at_first is_a is_b is_last =
    is_last ∙ ap (λ (x : Bool). if covered frees u then true else x) (is_b ∙ ap (λ (x : Bool). if covered allocs u then false else x) (is_a ∙ ap (λ (x : Bool). if covered held u then false else x) at_first))
    ∙ by_case (covered frees u) (covered allocs u) (covered held u) where
      by_case : (f a h : Bool) → (if f then true else (if a then false else (if h then false else true))) ≡ not (if f then false else (if a then true else h))
      by_case true a h = refl
      by_case false true h = refl
      by_case false false true = refl
      by_case false false false = refl

-- as a number
abbrev one_if : Bool → ℕ
one_if b = if b then 1 else 0

module _ (held allocs frees : ℕ → Bool) (fresh : (u : ℕ) → allocs u ≡ true → held u ≡ false) (freed : (u : ℕ) → frees u ≡ true → (held u ≡ true) ⊎ (allocs u ≡ true)) where
  abbrev next : ℕ → Bool
  next u = if frees u then false else (if allocs u then true else held u)

  one_more : (f a h : Bool) → (a ≡ true → h ≡ false) → (f ≡ true → (h ≡ true) ⊎ (a ≡ true)) → one_if (if f then false else (if a then true else h)) + one_if f ≡ one_if h + one_if a
  one_more true true true fresh freed = let differ : true ≡ false = fresh refl in cc
  one_more true true false fresh freed = refl
  one_more true false true fresh freed = refl
  one_more true false false fresh freed = elim (freed refl) [ inl differ ↦ cc | inr differ ↦ cc ]
  one_more false true true fresh freed = let differ : true ≡ false = fresh refl in cc
  one_more false true false fresh freed = refl
  one_more false false true fresh freed = refl
  one_more false false false fresh freed = refl

  abbrev Balanced : ℕ → Type 0
  Balanced n = units_in next n + units_in frees n ≡ units_in held n + units_in allocs n

  balanced_more : (n : ℕ) → Balanced n → Balanced (n + 1)
  balanced_more n so_far =
      omega (arith, so_far, units_more next n, units_more frees n, units_more held n, units_more allocs n, one_more (frees n) (allocs n) (held n) (fresh n) (freed n))

  -- what is held next and what is freed are as many units as what is held and what is allocated
  pub units_after : (units : ℕ) → Balanced units
  units_after zero = refl
  units_after (suc n) = subst Balanced (let e : n + 1 ≡ suc n = omega arith in e) (balanced_more n (units_after n))
