-- How many units a set has: unions of sets that are apart, intervals, runs.
use Rattle.std.proofs.Common.{◌≡◌, ℕ, zero, suc, ◌+◌, ◌-◌, ◌≤◌, ◌<◌, Bool, true, false, cond, List, [], ◌∷◌, length, refl, subst, ◌∙◌, arith, ◌⊎◌, inl, inr, min, max}
use Rattle.std.specs.Prelude.{◌||◌, ◌&&◌, not}
use Rattle.std.specs.List.{count_by, range_with_len}
use Rattle.std.proofs.lemmas.List.Sums.{sum_by-cons, count_by-le-length}
use Rattle.std.proofs.lemmas.List.FromFn.{length-range_with_len}
use Rattle.zms_units.specs.declared.segments.Seg.{Seg}
use Rattle.zms_units.specs.Segments.{end_of, covers, covered, total_of, AreRisingFrom}
use Rattle.zms_units.specs.Runs.{units_in, has_before, begins_run, run_count}
use Rattle.zms_units.specs.Apart.{AreApartFrom}
use Rattle.zms_units.proofs.Bools.{le_or}
use Rattle.zms_units.proofs.Covers.{covers_true, covers_yes, covers_low, covers_high}
use Rattle.zms_units.proofs.RisingSegs.{rising_order, rising_below}
use Rattle.zms_units.proofs.ApartRuns.{apart_below, apart_order}

pub count_cons : {A : Type 0} (p : A → Bool) (x : A) (xs : List A) → count_by p (x ∷ xs) ≡ cond (p x) 1 0 + count_by p xs
count_cons p x xs = sum_by-cons (λ y. cond (p y) 1 0) x xs

pub count_same : (p q : ℕ → Bool) → ((u : ℕ) → p u ≡ q u) → (xs : List ℕ) → count_by p xs ≡ count_by q xs
count_same p q same [] = refl
count_same p q same (x ∷ xs) =
    let e : ◌≡◌ {A = ℕ} (cond (p x) 1 0) (cond (q x) 1 0) = rw (same x) in
    omega (arith, count_cons p x xs, count_cons q x xs, count_same p q same xs)

one_of : (a b : Bool) → (a ≡ true → b ≡ false) → cond (a || b) 1 0 ≡ cond a 1 0 + cond b 1 0
one_of true b f = rw (f refl)
one_of false b f = omega arith

pub count_or : (p q : ℕ → Bool) → ((u : ℕ) → p u ≡ true → q u ≡ false) → (xs : List ℕ) → count_by (λ u. p u || q u) xs ≡ count_by p xs + count_by q xs
count_or p q apart [] = refl
count_or p q apart (x ∷ xs) =
    omega (arith, count_cons (λ u. p u || q u) x xs, count_cons p x xs, count_cons q x xs, one_of (p x) (q x) (apart x), count_or p q apart xs)

pub units_same : (p q : ℕ → Bool) (units : ℕ) → ((u : ℕ) → p u ≡ q u) → units_in p units ≡ units_in q units
units_same p q units same = count_same p q same (range_with_len 0 units)

-- sets that agree below the units have as many
count_same_below : (p q : ℕ → Bool) (low n : ℕ) → ((u : ℕ) → low ≤ u → u < low + n → p u ≡ q u) → count_by p (range_with_len low n) ≡ count_by q (range_with_len low n)
count_same_below p q low zero same = refl
count_same_below p q low (suc n) same =
    let e : ◌≡◌ {A = ℕ} (cond (p low) 1 0) (cond (q low) 1 0) = rw (same low (omega arith) (omega arith)) in
    omega (
      arith,
      count_cons p low (range_with_len (low + 1) n),
      count_cons q low (range_with_len (low + 1) n),
      count_same_below p q (low + 1) n (λ u h l. same u (omega arith) (omega arith)),
    )

pub units_same_below : (p q : ℕ → Bool) (units : ℕ) → ((u : ℕ) → u < units → p u ≡ q u) → units_in p units ≡ units_in q units
units_same_below p q units same = count_same_below p q 0 units (λ u h l. same u (omega arith))

-- one unit more
count_more : (p : ℕ → Bool) (low n next at : ℕ) → n + 1 ≡ next → low + n ≡ at → count_by p (range_with_len low next) ≡ count_by p (range_with_len low n) + cond (p at) 1 0
count_more p low zero zero at e f = absurd (omega arith)
count_more p low zero (suc zero) at e f =
    let same : low ≡ at = omega arith in
    subst (λ k. count_by p (range_with_len low 1) ≡ count_by p (range_with_len low 0) + cond (p k) 1 0) same (omega (arith, count_cons p low (range_with_len (low + 1) 0)))
count_more p low zero (suc (suc next)) at e f = absurd (omega arith)
count_more p low (suc n) zero at e f = absurd (omega arith)
count_more p low (suc n) (suc next) at e f =
    omega (
      arith,
      count_cons p low (range_with_len (low + 1) next),
      count_cons p low (range_with_len (low + 1) n),
      count_more p (low + 1) n next at (omega arith) (omega arith),
    )

pub units_more : (p : ℕ → Bool) (n : ℕ) → units_in p (n + 1) ≡ units_in p n + cond (p n) 1 0
units_more p n = count_more p 0 n (n + 1) n (omega arith) (omega arith)

pub units_or : (p q : ℕ → Bool) (units : ℕ) → ((u : ℕ) → p u ≡ true → q u ≡ false) → units_in (λ u. p u || q u) units ≡ units_in p units + units_in q units
units_or p q units apart = count_or p q apart (range_with_len 0 units)

pub units_le : (p : ℕ → Bool) (units : ℕ) → units_in p units ≤ units
units_le p units = omega (arith, count_by-le-length p (range_with_len 0 units), length-range_with_len 0 units)

pub units_none : (p : ℕ → Bool) (units : ℕ) → ((u : ℕ) → p u ≡ false) → units_in p units ≡ 0
units_none p units none = none_of (range_with_len 0 units) where
  none_of : (xs : List ℕ) → count_by p xs ≡ 0
  none_of [] = refl
  none_of (x ∷ xs) = let e : ◌≡◌ {A = ℕ} (cond (p x) 1 0) 0 = rw (none x) in omega (arith, count_cons p x xs, none_of xs)

-- the units of a segment
count_next : (seg : Seg) (low n rest : ℕ) → rest ≡ min (end_of seg) (low + 1 + n) - max seg.start (low + 1)
    → cond (covers seg low) 1 0 + rest ≡ min (end_of seg) (low + suc n) - max seg.start low
count_next seg low n rest e = by_place (le_or seg.start low) (le_or (end_of seg) low) where
  by_place : (seg.start ≤ low) ⊎ (low < seg.start) → (end_of seg ≤ low) ⊎ (low < end_of seg)
      → cond (covers seg low) 1 0 + rest ≡ min (end_of seg) (low + suc n) - max seg.start low
  by_place (inl a) (inr b) = rw (covers_yes seg low a b) (omega arith)
  by_place (inl a) (inl b) = rw (covers_high seg low b) (omega arith)
  by_place (inr a) b = rw (covers_low seg low a) (omega arith)

count_seg : (seg : Seg) (low n : ℕ) → count_by (covers seg) (range_with_len low n) ≡ min (end_of seg) (low + n) - max seg.start low
count_seg seg low zero = omega arith
count_seg seg low (suc n) =
    count_cons (covers seg) low (range_with_len (low + 1) n) ∙ count_next seg low n _ (count_seg seg (low + 1) n)

pub units_seg : (seg : Seg) (units : ℕ) → end_of seg ≤ units → units_in (covers seg) units ≡ seg.count
units_seg seg units h = omega (arith, count_seg seg 0 units)

-- runs that stand apart are as many as the units that begin one
before_low : (r : Seg) (u : ℕ) → u ≤ r.start → has_before (covers r) u ≡ false
before_low r zero h = refl
before_low r (suc v) h = covers_low r v (omega arith)

before_high : (r : Seg) (u : ℕ) → end_of r < u → has_before (covers r) u ≡ false
before_high r zero h = refl
before_high r (suc v) h = covers_high r v (omega arith)

before_in : (r : Seg) (u : ℕ) → r.start < u → u ≤ end_of r → has_before (covers r) u ≡ true
before_in r zero g h = absurd (omega arith)
before_in r (suc v) g h = covers_yes r v (omega arith) (omega arith)

before_rest : (low next : ℕ) (rs : List Seg) (u : ℕ) → AreApartFrom low next rs → u ≤ low → has_before (covered rs) u ≡ false
before_rest low next rs zero a h = refl
before_rest low next rs (suc v) a h = apart_below low next rs a v (omega arith)

before_or : (r : Seg) (rs : List Seg) (u : ℕ) → has_before (covered (r ∷ rs)) u ≡ (has_before (covers r) u || has_before (covered rs) u)
before_or r rs zero = refl
before_or r rs (suc v) = refl

-- a unit below a run, at its start, in it or just after it, or above
outside : (f c cb x xb : Bool) → f ≡ false → c ≡ false → cb ≡ false → ((c || x) && not (cb || xb)) ≡ (f || (x && not xb))
outside f c cb x xb e g h = rw (e, g, h)

at_start : (f c cb x xb : Bool) → f ≡ true → c ≡ true → cb ≡ false → xb ≡ false → ((c || x) && not (cb || xb)) ≡ (f || (x && not xb))
at_start f c cb x xb e g h k = rw (e, g, h, k)

inside : (f c cb x xb : Bool) → f ≡ false → cb ≡ true → x ≡ false → ((c || x) && not (cb || xb)) ≡ (f || (x && not xb))
inside f true cb x xb e g h = rw (e, g, h)
inside f false cb x xb e g h = rw (e, g, h)

abbrev first_of : Seg → Seg
first_of r = record { start = r.start; count = 1 }

begins_more : (r : Seg) (rs : List Seg) (next : ℕ) → 0 < r.count → AreApartFrom (end_of r + 1) next rs
    → (u : ℕ) → begins_run (covered (r ∷ rs)) u ≡ (covers (first_of r) u || begins_run (covered rs) u)
begins_more r rs next some a u =
    rw (before_or r rs u) (by_place (le_or u r.start) (le_or r.start u) (le_or u (end_of r))) where
      by_place : (u ≤ r.start) ⊎ (r.start < u) → (r.start ≤ u) ⊎ (u < r.start) → (u ≤ end_of r) ⊎ (end_of r < u)
          → ((covers r u || covered rs u) && not (has_before (covers r) u || has_before (covered rs) u)) ≡ (covers (first_of r) u || begins_run (covered rs) u)
      by_place (inl l) (inl g) m =
          at_start (covers (first_of r) u) (covers r u) _ (covered rs u) _ (covers_yes (first_of r) u g (omega arith)) (covers_yes r u g (omega arith)) (before_low r u l) (before_rest (end_of r + 1) next rs u a (omega arith))
      by_place (inl l) (inr g) m = outside (covers (first_of r) u) (covers r u) _ (covered rs u) _ (covers_low (first_of r) u g) (covers_low r u g) (before_low r u l)
      by_place (inr l) g (inl m) = inside (covers (first_of r) u) (covers r u) _ (covered rs u) _ (covers_high (first_of r) u (omega arith)) (before_in r u l m) (apart_below (end_of r + 1) next rs a u (omega arith))
      by_place (inr l) g (inr m) = outside (covers (first_of r) u) (covers r u) _ (covered rs u) _ (covers_high (first_of r) u (omega arith)) (covers_high r u (omega arith)) (before_high r u m)

begins_below : (low next : ℕ) (rs : List Seg) (u : ℕ) → AreApartFrom low next rs → u < low → begins_run (covered rs) u ≡ false
begins_below low next rs u a h = rw (apart_below low next rs a u h)

pub run_count-length : (low units : ℕ) (runs : List Seg) → AreApartFrom low (units + 1) runs → run_count (covered runs) units ≡ length runs
run_count-length low units [] a = units_none (begins_run (covered [])) units (λ u. refl)
run_count-length low units (r ∷ rs) a =
    let e : run_count (covered (r ∷ rs)) units ≡ units_in (λ u. covers (first_of r) u || begins_run (covered rs) u) units = units_same _ _ units (begins_more r rs (units + 1) a.1 a.2) in
    let f : units_in (λ u. covers (first_of r) u || begins_run (covered rs) u) units ≡ units_in (covers (first_of r)) units + run_count (covered rs) units =
    units_or (covers (first_of r)) (begins_run (covered rs)) units
    (λ u c. let h = covers_true (first_of r) u c in begins_below (end_of r + 1) (units + 1) rs u a.2 (omega arith)) in
    omega (arith, units_seg (first_of r) units (omega (arith, apart_order (end_of r + 1) (units + 1) rs a.2)), run_count-length (end_of r + 1) units rs a.2)

pub run_count_same : (p q : ℕ → Bool) (units : ℕ) → ((u : ℕ) → p u ≡ q u) → run_count p units ≡ run_count q units
run_count_same p q units same = units_same (begins_run p) (begins_run q) units (λ u. begins_same u) where
  begins_same : (u : ℕ) → begins_run p u ≡ begins_run q u
  begins_same zero = rw (same 0)
  begins_same (suc v) = rw (same (suc v), same v)

-- segments that rise cover as many units as they have

pub rising_total : (low high : ℕ) (segs : List Seg) → AreRisingFrom low high segs → low + total_of segs ≤ high
rising_total low high [] a = omega arith
rising_total low high (s ∷ ss) a = omega (arith, sum_by-cons (λ (t : Seg). t.count) s ss, rising_total (end_of s) high ss a.1.1)

pub rising_units : (low units : ℕ) (segs : List Seg) → AreRisingFrom low units segs → units_in (covered segs) units ≡ total_of segs
rising_units low units [] a = units_none (covered []) units (λ u. refl)
rising_units low units (s ∷ ss) a =
    let f : units_in (covered (s ∷ ss)) units ≡ units_in (covers s) units + units_in (covered ss) units =
    units_or (covers s) (covered ss) units (λ u c. let h = covers_true s u c in rising_below (end_of s) units ss a.1.1 u (omega arith)) in
    omega (arith, sum_by-cons (λ (t : Seg). t.count) s ss, units_seg s units (rising_order (end_of s) units ss a.1.1), rising_units (end_of s) units ss a.1.1)
