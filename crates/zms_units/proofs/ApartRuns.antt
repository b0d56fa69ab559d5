-- Runs that stand apart: what they cover, and what stays true as runs are added, cut and taken away.
use Rattle.std.proofs.Common.{◌≡◌, ℕ, zero, suc, ◌+◌, ◌≤◌, ◌<◌, true, false, List, [], ◌∷◌, ◌++◌, length, get_or, set, take, drop, refl, sym, subst, arith, ◌⊎◌, inl, inr}
use Rattle.std.specs.Prelude.{◌||◌, ◌&&◌, not}
use Rattle.std.proofs.lemmas.Bool.Decides.{nat_tests}
use Rattle.zms_units.specs.declared.segments.Seg.{Seg}
use Rattle.zms_units.specs.Segments.{end_of, covers, covered, Covers}
use Rattle.zms_units.specs.Apart.{AreApartFrom}
use Rattle.zms_units.proofs.Bools.{or_none, or_left, or_right, or_rest, cut_head, cut_tail, cut_whole, true_or_false, le_or, same_not}
use Rattle.zms_units.proofs.Covers.{covers_true, covers_yes, covers_low, covers_high, split_covers}

pub apart_order : (low next : ℕ) (runs : List Seg) → AreApartFrom low next runs → low ≤ next
apart_order low next [] a = a
apart_order low next (r ∷ rs) a = omega (arith, apart_order (end_of r + 1) next rs a.2)

pub apart_low : (low low' next : ℕ) (runs : List Seg) → low ≤ low' → AreApartFrom low' next runs → AreApartFrom low next runs
apart_low low low' next [] le a = omega arith
apart_low low low' next (r ∷ rs) le a = (omega arith, a.1, a.2)

pub apart_next : (low next next' : ℕ) (runs : List Seg) → next ≤ next' → AreApartFrom low next runs → AreApartFrom low next' runs
apart_next low next next' [] le a = omega arith
apart_next low next next' (r ∷ rs) le a = (a.0, a.1, apart_next (end_of r + 1) next next' rs le a.2)

pub apart_push : (low next : ℕ) (runs : List Seg) (run : Seg) → AreApartFrom low next runs → next ≤ run.start → 0 < run.count → AreApartFrom low (end_of run + 1) (runs ++ run ∷ [])
apart_push low next [] run a le some = (omega arith, some, omega arith)
apart_push low next (r ∷ rs) run a le some = (a.0, a.1, apart_push (end_of r + 1) next rs run a.2 le some)

-- a run of the list
pub apart_at : (low next : ℕ) (runs : List Seg) (k : ℕ) (d : Seg) → AreApartFrom low next runs → k < length runs
    → (low ≤ (get_or runs k d).start) × (0 < (get_or runs k d).count) × (end_of (get_or runs k d) + 1 ≤ next)
apart_at low next [] k d a l = absurd (omega arith)
apart_at low next (r ∷ rs) zero d a l = (a.0, a.1, apart_order (end_of r + 1) next rs a.2)
apart_at low next (r ∷ rs) (suc k) d a l =
    let t = apart_at (end_of r + 1) next rs k d a.2 (omega arith) in
    (omega arith, t.1, t.2)

-- what stands apart from a unit does not cover it
pub apart_below : (low next : ℕ) (runs : List Seg) → AreApartFrom low next runs → (u : ℕ) → u < low → covered runs u ≡ false
apart_below low next [] a u l = refl
apart_below low next (r ∷ rs) a u l =
    or_none (covers r u) (covered rs u) (covers_low r u (omega arith)) (apart_below (end_of r + 1) next rs a.2 u (omega arith))

pub apart_above : (low next : ℕ) (runs : List Seg) → AreApartFrom low next runs → (u : ℕ) → next ≤ u + 1 → covered runs u ≡ false
apart_above low next [] a u l = refl
apart_above low next (r ∷ rs) a u l =
    or_none (covers r u) (covered rs u) (covers_high r u (omega (arith, apart_order (end_of r + 1) next rs a.2))) (apart_above (end_of r + 1) next rs a.2 u l)

-- the unit before a run and the unit after it are not covered
pub gap_before : (low next : ℕ) (runs : List Seg) (k : ℕ) (d : Seg) → AreApartFrom low next runs → k < length runs
    → (u : ℕ) → u + 1 ≡ (get_or runs k d).start → covered runs u ≡ false
gap_before low next [] k d a l u e = refl
gap_before low next (r ∷ rs) zero d a l u e =
    or_none (covers r u) (covered rs u) (covers_low r u (omega arith)) (apart_below (end_of r + 1) next rs a.2 u (omega arith))
gap_before low next (r ∷ rs) (suc k) d a l u e =
    let t = apart_at (end_of r + 1) next rs k d a.2 (omega arith) in
    or_none (covers r u) (covered rs u) (covers_high r u (omega arith)) (gap_before (end_of r + 1) next rs k d a.2 (omega arith) u e)

pub gap_after : (low next : ℕ) (runs : List Seg) (k : ℕ) (d : Seg) → AreApartFrom low next runs → k < length runs
    → covered runs (end_of (get_or runs k d)) ≡ false
gap_after low next [] k d a l = refl
gap_after low next (r ∷ rs) zero d a l =
    or_none (covers r (end_of r)) (covered rs (end_of r)) (covers_high r (end_of r) (omega arith)) (apart_below (end_of r + 1) next rs a.2 (end_of r) (omega arith))
gap_after low next (r ∷ rs) (suc k) d a l =
    let t = apart_at (end_of r + 1) next rs k d a.2 (omega arith) in
    let u : ℕ = end_of (get_or rs k d) in
    or_none (covers r u) (covered rs u) (covers_high r u (omega arith)) (gap_after (end_of r + 1) next rs k d a.2 (omega arith))

pub covered_at : (runs : List Seg) (k : ℕ) (d : Seg) → k < length runs → (u : ℕ) → Covers (get_or runs k d) u → covered runs u ≡ true
covered_at [] k d l u h = absurd (omega arith)
covered_at (r ∷ rs) zero d l u h = or_left (covers r u) (covered rs u) (covers_yes r u h.0 h.1)
covered_at (r ∷ rs) (suc k) d l u h = or_right (covers r u) (covered rs u) (covered_at rs k d (omega arith) u h)

past : (r : Seg) (rs : List Seg) (next u : ℕ) → AreApartFrom (end_of r + 1) next rs → covered rs u ≡ true → end_of r + 1 ≤ u
past r rs next u a is = by_case (le_or (end_of r + 1) u) where
  by_case : (end_of r + 1 ≤ u) ⊎ (u < end_of r + 1) → end_of r + 1 ≤ u
  by_case (inl h) = h
  by_case (inr h) = let no : covered rs u ≡ false = apart_below (end_of r + 1) next rs a u h in absurd (same_not is no)

-- units in a row that are covered lie within one run
abbrev pub LiesIn : List Seg → ℕ → ℕ → Seg → Type 0
LiesIn runs start count d = (k : ℕ) × (k < length runs) × ((get_or runs k d).start ≤ start) × (start + count ≤ end_of (get_or runs k d))

lies_first : (r : Seg) (rs : List Seg) (next start count : ℕ) (d : Seg) → AreApartFrom (end_of r + 1) next rs → Covers r start
    → ((u : ℕ) → start ≤ u → u < start + count → covered (r ∷ rs) u ≡ true) → LiesIn (r ∷ rs) start count d
lies_first r rs next start count d a c all = (0, omega arith, c.0, bound (le_or (start + count) (end_of r))) where
  stuck : end_of r < start + count → ⊥
  stuck l =
      let yes : covered (r ∷ rs) (end_of r) ≡ true = all (end_of r) (omega arith) l in
      let no : covered (r ∷ rs) (end_of r) ≡ false = or_none (covers r (end_of r)) (covered rs (end_of r)) (covers_high r (end_of r) (omega arith)) (apart_below (end_of r + 1) next rs a (end_of r) (omega arith)) in
      cc

  bound : (start + count ≤ end_of r) ⊎ (end_of r < start + count) → start + count ≤ end_of r
  bound (inl h) = h
  bound (inr h) = absurd (stuck h)

lies_next : (r : Seg) (rs : List Seg) (next start count : ℕ) (d : Seg) → AreApartFrom (end_of r + 1) next rs
    → ((u : ℕ) → start ≤ u → u < start + count → covered (r ∷ rs) u ≡ true) → (covers r start ≡ true) ⊎ (covers r start ≡ false)
    → (((u : ℕ) → start ≤ u → u < start + count → covered rs u ≡ true) → LiesIn rs start count d) → 0 < count → LiesIn (r ∷ rs) start count d
lies_next r rs next start count d a all (inl here) later some = lies_first r rs next start count d a (covers_true r start here) all
lies_next r rs next start count d a all (inr gone) later some =
    let far : end_of r + 1 ≤ start = past r rs next start a (or_rest (covers r start) (covered rs start) gone (all start (omega arith) (omega arith))) in
    let t = later (λ u h l. or_rest (covers r u) (covered rs u) (covers_high r u (omega arith)) (all u h l)) in
    (suc t.0, omega arith, t.2, t.3)

pub lies_in : (low next : ℕ) (runs : List Seg) (start count : ℕ) (d : Seg) → AreApartFrom low next runs → 0 < count
    → ((u : ℕ) → start ≤ u → u < start + count → covered runs u ≡ true) → LiesIn runs start count d
lies_in low next [] start count d a some all = absurd (none (all start (omega arith) (omega arith))) where
  none : false ≡ true → ⊥
  none e = cc
lies_in low next (r ∷ rs) start count d a some all =
    lies_next r rs next start count d a.2 all (true_or_false (covers r start))
    (λ rest. lies_in (end_of r + 1) next rs start count d a.2 some rest) some

-- the front of the run at a place is taken
pub front_apart : (low next : ℕ) (runs : List Seg) (k : ℕ) (d rest : Seg) → AreApartFrom low next runs → k < length runs
    → (get_or runs k d).start ≤ rest.start → 0 < rest.count → end_of rest ≡ end_of (get_or runs k d) → AreApartFrom low next (set runs k rest)
front_apart low next [] k d rest a l h some e = absurd (omega arith)
front_apart low next (r ∷ rs) zero d rest a l h some e = (omega arith, some, subst (λ n. AreApartFrom (n + 1) next rs) (sym e) a.2)
front_apart low next (r ∷ rs) (suc k) d rest a l h some e = (a.0, a.1, front_apart (end_of r + 1) next rs k d rest a.2 (omega arith) h some e)

pub remove_apart : (low next : ℕ) (runs : List Seg) (k : ℕ) → AreApartFrom low next runs → AreApartFrom low next (take k runs ++ drop (suc k) runs)
remove_apart low next [] zero a = a
remove_apart low next [] (suc k) a = a
remove_apart low next (r ∷ rs) zero a = apart_low low (end_of r + 1) next rs (omega arith) a.2
remove_apart low next (r ∷ rs) (suc k) a = (a.0, a.1, remove_apart (end_of r + 1) next rs k a.2)

-- and what is left covers the rest
pub front_covered : (low next : ℕ) (runs : List Seg) (k : ℕ) (d front rest : Seg) → AreApartFrom low next runs → k < length runs
    → front.start ≡ (get_or runs k d).start → rest.start ≡ end_of front → end_of rest ≡ end_of (get_or runs k d)
    → (u : ℕ) → covered (set runs k rest) u ≡ (not (covers front u) && covered runs u)
front_covered low next [] k d front rest a l e f g u = absurd (omega arith)
front_covered low next (r ∷ rs) zero d front rest a l e f g u =
    subst (λ b. (covers rest u || covered rs u) ≡ (not (covers front u) && (b || covered rs u))) (sym (split_covers r front rest u e f g))
    (cut_head (covers front u) (covers rest u) (covered rs u)
    (λ c. let h = covers_true front u c in covers_low rest u (omega arith))
    (λ c. let h = covers_true front u c in apart_below (end_of r + 1) next rs a.2 u (omega arith)))
front_covered low next (r ∷ rs) (suc k) d front rest a l e f g u =
    let t = apart_at (end_of r + 1) next rs k d a.2 (omega arith) in
    rw (front_covered (end_of r + 1) next rs k d front rest a.2 (omega arith) e f g u)
    (cut_tail (covers front u) (covers r u) (covered rs u) (λ c. let h = covers_true front u c in covers_high r u (omega arith)))

pub remove_covered : (low next : ℕ) (runs : List Seg) (k : ℕ) (d front : Seg) → AreApartFrom low next runs → k < length runs
    → front.start ≡ (get_or runs k d).start → front.count ≡ (get_or runs k d).count
    → (u : ℕ) → covered (take k runs ++ drop (suc k) runs) u ≡ (not (covers front u) && covered runs u)
remove_covered low next [] k d front a l e f u = absurd (omega arith)
remove_covered low next (r ∷ rs) zero d front a l e f u =
    let same : covers r u ≡ covers front u = grind (arith, nat_tests) in
    rw same (cut_whole (covers front u) (covered rs u) (λ c. let h = covers_true front u c in apart_below (end_of r + 1) next rs a.2 u (omega arith)))
remove_covered low next (r ∷ rs) (suc k) d front a l e f u =
    let t = apart_at (end_of r + 1) next rs k d a.2 (omega arith) in
    rw (remove_covered (end_of r + 1) next rs k d front a.2 (omega arith) e f u)
    (cut_tail (covers front u) (covers r u) (covered rs u) (λ c. let h = covers_true front u c in covers_high r u (omega arith)))
