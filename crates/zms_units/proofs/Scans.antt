-- Scans of a list of runs: the first that passes a test, the longest, and the shortest that is long enough.
use Rattle.std.proofs.Common.{◌≡◌, ℕ, zero, suc, ◌≤◌, ◌<◌, Bool, true, false, cond, Some, None, List, [], ◌∷◌, length, get_or, map, min, max, unwrap_or, refl, sym, subst, arith, ◌⊎◌, inl, inr}
use Rattle.std.specs.Prelude.{nat_le, find, fold}
use Rattle.std.specs.List.{filter, reduce}
use Rattle.std.proofs.lemmas.Bool.{leb-true, leb-false}
use Rattle.zms_units.specs.declared.segments.Seg.{Seg}
use Rattle.zms_units.proofs.Bools.{le_or}

abbrev pub count_of : Seg → ℕ
count_of run = run.count

-- the run at a place is the first that passes a test
pub record IsFirstAt (p : Seg → Bool) (runs : List Seg) (run : Seg) : Type 0 where
  pub k : ℕ
  pub within : k < length runs
  pub here : (d : Seg) → get_or runs k d ≡ run
  pub passes : p run ≡ true
  pub before : (j : ℕ) (d : Seg) → j < k → p (get_or runs j d) ≡ false

first_later : (p : Seg → Bool) (r : Seg) (rs : List Seg) (run : Seg) → p r ≡ false → IsFirstAt p rs run → IsFirstAt p (r ∷ rs) run
first_later p r rs run fails f = record { k = suc f.k; within = let within = f.within in omega arith; here = f.here; passes = f.passes; before = lower } where
  lower : (j : ℕ) (d : Seg) → j < suc f.k → p (get_or (r ∷ rs) j d) ≡ false
  lower zero d l = fails
  lower (suc j) d l = f.before j d (omega arith)

first_step : (p : Seg → Bool) (r : Seg) (rs : List Seg) (run : Seg) → (find p rs ≡ Some run → IsFirstAt p rs run) → (b : Bool) → p r ≡ b → cond b (Some r) (find p rs) ≡ Some run → IsFirstAt p (r ∷ rs) run
first_step p r rs run later true e found =
    let same : r ≡ run = cc in
    record { k = 0; within = omega arith; here = λ d. same; passes = subst (λ x. p x ≡ true) same e; before = λ j d l. absurd (omega arith) }
first_step p r rs run later false e found = first_later p r rs run e (later found)

pub find_first : (p : Seg → Bool) (runs : List Seg) (run : Seg) → find p runs ≡ Some run → IsFirstAt p runs run
find_first p [] run found = absurd (cc)
find_first p (r ∷ rs) run found = first_step p r rs run (find_first p rs run) (p r) refl found

none_step : (p : Seg → Bool) (r : Seg) (rs : List Seg) → (find p rs ≡ None → (k : ℕ) (d : Seg) → k < length rs → p (get_or rs k d) ≡ false) → (b : Bool) → p r ≡ b
    → cond b (Some r) (find p rs) ≡ None → (k : ℕ) (d : Seg) → k < length (r ∷ rs) → p (get_or (r ∷ rs) k d) ≡ false
none_step p r rs later true e none k d l = absurd (cc)
none_step p r rs later false e none zero d l = e
none_step p r rs later false e none (suc k) d l = later none k d (omega arith)

pub find_none : (p : Seg → Bool) (runs : List Seg) → find p runs ≡ None → (k : ℕ) (d : Seg) → k < length runs → p (get_or runs k d) ≡ false
find_none p [] none k d l = absurd (omega arith)
find_none p (r ∷ rs) none k d l = none_step p r rs (find_none p rs) (p r) refl none k d l

-- the longest so far and the runs to come
most_from : (most : ℕ) (runs : List Seg) → most ≤ fold max most (map count_of runs)
most_from most [] = omega arith
most_from most (r ∷ rs) = omega (arith, most_from (max most r.count) rs)

most_bounds : (most : ℕ) (runs : List Seg) (k : ℕ) (d : Seg) → k < length runs → (get_or runs k d).count ≤ fold max most (map count_of runs)
most_bounds most [] k d l = absurd (omega arith)
most_bounds most (r ∷ rs) zero d l = omega (arith, most_from (max most r.count) rs)
most_bounds most (r ∷ rs) (suc k) d l = most_bounds (max most r.count) rs k d (omega arith)

-- a run has this length
abbrev pub HasLength : List Seg → ℕ → Type 0
HasLength runs n = (k : ℕ) × (k < length runs) × ((d : Seg) → (get_or runs k d).count ≡ n)

length_later : (r : Seg) (rs : List Seg) (n : ℕ) → HasLength rs n → HasLength (r ∷ rs) n
length_later r rs n h = (suc h.0, omega arith, h.2)

most_step : (most : ℕ) (r : Seg) (rs : List Seg) (n : ℕ) → (n ≡ max most r.count) ⊎ HasLength rs n → (most ≤ r.count) ⊎ (r.count < most) → (n ≡ most) ⊎ HasLength (r ∷ rs) n
most_step most r rs n (inr h) o = inr (length_later r rs n h)
most_step most r rs n (inl e) (inl le) = inr (0, omega arith, λ d. omega arith)
most_step most r rs n (inl e) (inr lt) = inl (omega arith)

most_met : (most : ℕ) (runs : List Seg) → (fold max most (map count_of runs) ≡ most) ⊎ HasLength runs (fold max most (map count_of runs))
most_met most [] = inl refl
most_met most (r ∷ rs) = most_step most r rs (fold max (max most r.count) (map count_of rs)) (most_met (max most r.count) rs) (le_or most r.count)

pub longest_bounds : (runs : List Seg) (k : ℕ) (d : Seg) → k < length runs → (get_or runs k d).count ≤ unwrap_or (reduce max (map count_of runs)) 0
longest_bounds [] k d l = absurd (omega arith)
longest_bounds (r ∷ rs) zero d l = most_from r.count rs
longest_bounds (r ∷ rs) (suc k) d l = most_bounds r.count rs k d (omega arith)

longest_step : (r : Seg) (rs : List Seg) (n : ℕ) → (n ≡ r.count) ⊎ HasLength rs n → HasLength (r ∷ rs) n
longest_step r rs n (inl e) = (0, omega arith, λ d. sym e)
longest_step r rs n (inr h) = length_later r rs n h

pub longest_met : (runs : List Seg) → 0 < unwrap_or (reduce max (map count_of runs)) 0 → HasLength runs (unwrap_or (reduce max (map count_of runs)) 0)
longest_met [] some = absurd (omega arith)
longest_met (r ∷ rs) some = longest_step r rs (fold max r.count (map count_of rs)) (most_met r.count rs)

-- the lengths of at least so many units
abbrev longs : ℕ → List Seg → List ℕ
longs count runs = filter (nat_le count) (map count_of runs)

-- of those, this is the least
pub record IsLeast (count : ℕ) (runs : List Seg) (n : ℕ) : Type 0 where
  pub long : count ≤ n
  pub met : HasLength runs n
  pub bounds : (k : ℕ) (d : Seg) → k < length runs → count ≤ (get_or runs k d).count → n ≤ (get_or runs k d).count

least_from : (least : ℕ) (xs : List ℕ) → fold min least xs ≤ least
least_from least [] = omega arith
least_from least (x ∷ xs) = omega (arith, least_from (min least x) xs)

least_bounds_step : (count least : ℕ) (r : Seg) (rs : List Seg) → ((l : ℕ) (k : ℕ) (d : Seg) → k < length rs → count ≤ (get_or rs k d).count → fold min l (longs count rs) ≤ (get_or rs k d).count)
    → (b : Bool) → nat_le count r.count ≡ b → (k : ℕ) (d : Seg) → k < length (r ∷ rs) → count ≤ (get_or (r ∷ rs) k d).count
    → fold min least (cond b (r.count ∷ longs count rs) (longs count rs)) ≤ (get_or (r ∷ rs) k d).count
least_bounds_step count least r rs later true e zero d l h = omega (arith, least_from (min least r.count) (longs count rs))
least_bounds_step count least r rs later false e zero d l h = let short : r.count < count = leb-false _ _ e in absurd (omega arith)
least_bounds_step count least r rs later true e (suc k) d l h = later (min least r.count) k d (omega arith) h
least_bounds_step count least r rs later false e (suc k) d l h = later least k d (omega arith) h

least_bounds : (count : ℕ) (runs : List Seg) (least : ℕ) (k : ℕ) (d : Seg) → k < length runs → count ≤ (get_or runs k d).count → fold min least (longs count runs) ≤ (get_or runs k d).count
least_bounds count [] least k d l h = absurd (omega arith)
least_bounds count (r ∷ rs) least k d l h = least_bounds_step count least r rs (least_bounds count rs) (nat_le count r.count) refl k d l h

-- the least so far, or the length of a run that is long enough
abbrev IsMet : ℕ → ℕ → List Seg → ℕ → Type 0
IsMet count least runs n = (n ≡ least) ⊎ (HasLength runs n × (count ≤ n))

met_later : (count least : ℕ) (r : Seg) (rs : List Seg) (n : ℕ) → IsMet count least rs n → IsMet count least (r ∷ rs) n
met_later count least r rs n (inl e) = inl e
met_later count least r rs n (inr h) = inr (length_later r rs n h.0, h.1)

met_here : (count least : ℕ) (r : Seg) (rs : List Seg) (n : ℕ) → count ≤ r.count → IsMet count (min least r.count) rs n → (least ≤ r.count) ⊎ (r.count < least) → IsMet count least (r ∷ rs) n
met_here count least r rs n long (inr h) o = inr (length_later r rs n h.0, h.1)
met_here count least r rs n long (inl e) (inl le) = inl (omega arith)
met_here count least r rs n long (inl e) (inr lt) = inr ((0, omega arith, λ d. omega arith), omega arith)

least_met_step : (count least : ℕ) (r : Seg) (rs : List Seg) → ((l : ℕ) → IsMet count l rs (fold min l (longs count rs))) → (b : Bool) → nat_le count r.count ≡ b
    → IsMet count least (r ∷ rs) (fold min least (cond b (r.count ∷ longs count rs) (longs count rs)))
least_met_step count least r rs later true e = met_here count least r rs _ (leb-true _ _ e) (later (min least r.count)) (le_or least r.count)
least_met_step count least r rs later false e = met_later count least r rs _ (later least)

least_met : (count : ℕ) (runs : List Seg) (least : ℕ) → IsMet count least runs (fold min least (longs count runs))
least_met count [] least = inl refl
least_met count (r ∷ rs) least = least_met_step count least r rs (least_met count rs) (nat_le count r.count) refl

some_fold : (x : ℕ) (xs : List ℕ) (n : ℕ) → reduce min (x ∷ xs) ≡ Some n → fold min x xs ≡ n
some_fold x xs n e = cc

shortest_first : (count : ℕ) (r : Seg) (rs : List Seg) (n : ℕ) → count ≤ r.count → fold min r.count (longs count rs) ≡ n → IsMet count r.count rs n → IsLeast count (r ∷ rs) n
shortest_first count r rs n long e m = record { long = is_long m; met = is_met m; bounds = low } where
  is_long : IsMet count r.count rs n → count ≤ n
  is_long (inl f) = omega arith
  is_long (inr h) = h.1

  is_met : IsMet count r.count rs n → HasLength (r ∷ rs) n
  is_met (inl f) = (0, omega arith, λ d. sym f)
  is_met (inr h) = length_later r rs n h.0

  low : (k : ℕ) (d : Seg) → k < length (r ∷ rs) → count ≤ (get_or (r ∷ rs) k d).count → n ≤ (get_or (r ∷ rs) k d).count
  low zero d l h = omega (arith, least_from r.count (longs count rs))
  low (suc k) d l h = omega (arith, least_bounds count rs r.count k d (omega arith) h)

shortest_later : (count : ℕ) (r : Seg) (rs : List Seg) (n : ℕ) → r.count < count → IsLeast count rs n → IsLeast count (r ∷ rs) n
shortest_later count r rs n short f = record { long = f.long; met = length_later r rs n f.met; bounds = low } where
  low : (k : ℕ) (d : Seg) → k < length (r ∷ rs) → count ≤ (get_or (r ∷ rs) k d).count → n ≤ (get_or (r ∷ rs) k d).count
  low zero d l h = absurd (omega arith)
  low (suc k) d l h = f.bounds k d (omega arith) h

shortest_step : (count : ℕ) (r : Seg) (rs : List Seg) (n : ℕ) → (reduce min (longs count rs) ≡ Some n → IsLeast count rs n) → (b : Bool) → nat_le count r.count ≡ b
    → reduce min (cond b (r.count ∷ longs count rs) (longs count rs)) ≡ Some n → IsLeast count (r ∷ rs) n
shortest_step count r rs n later true e found =
    let same : fold min r.count (longs count rs) ≡ n = some_fold r.count (longs count rs) n found in
    shortest_first count r rs n (leb-true _ _ e) same (subst (λ m. IsMet count r.count rs m) same (least_met count rs r.count))
shortest_step count r rs n later false e found = shortest_later count r rs n (leb-false _ _ e) (later found)

pub shortest_found : (count : ℕ) (runs : List Seg) (n : ℕ) → reduce min (longs count runs) ≡ Some n → IsLeast count runs n
shortest_found count [] n found = absurd (cc)
shortest_found count (r ∷ rs) n found = shortest_step count r rs n (shortest_found count rs n) (nat_le count r.count) refl found

shortest_none_step : (count : ℕ) (r : Seg) (rs : List Seg) → (reduce min (longs count rs) ≡ None → (k : ℕ) (d : Seg) → k < length rs → (get_or rs k d).count < count) → (b : Bool) → nat_le count r.count ≡ b
    → reduce min (cond b (r.count ∷ longs count rs) (longs count rs)) ≡ None → (k : ℕ) (d : Seg) → k < length (r ∷ rs) → (get_or (r ∷ rs) k d).count < count
shortest_none_step count r rs later true e none k d l = absurd (cc)
shortest_none_step count r rs later false e none zero d l = leb-false _ _ e
shortest_none_step count r rs later false e none (suc k) d l = later none k d (omega arith)

pub shortest_none : (count : ℕ) (runs : List Seg) → reduce min (longs count runs) ≡ None → (k : ℕ) (d : Seg) → k < length runs → (get_or runs k d).count < count
shortest_none count [] none k d l = absurd (omega arith)
shortest_none count (r ∷ rs) none k d l = shortest_none_step count r rs (shortest_none count rs) (nat_le count r.count) refl none k d l
