-- Runs that come in the place of others: what stands apart still does, and what is covered then.
use Rattle.std.proofs.Common.{◌≡◌, ℕ, zero, suc, ◌+◌, ◌-◌, ◌≤◌, ◌<◌, Bool, true, false, List, [], ◌∷◌, ◌++◌, length, get_or, take, drop, set, add-one, append_assoc, refl, sym, ap, ◌∙◌, subst, arith, ◌⊎◌, inl, inr, min, max}
use Rattle.std.specs.Prelude.{◌||◌, ◌&&◌, not, ◌==◌}
use Rattle.std.proofs.lemmas.Bool.Decides.{nat_tests}
use Rattle.std.specs.List.{between}
use Rattle.std.proofs.lemmas.List.Edits.{split_between, length-between, get_or-between, between_none, between_more}
use Rattle.std.proofs.lemmas.List.{get_or_default, set_split, take_more_set, drop-set-lt}
use Rattle.std.proofs.lemmas.List.Folds.{list_any-append}
use Rattle.std.specs.Cmp.{both_ways}
use Rattle.zms_units.specs.declared.segments.Seg.{Seg}
use Rattle.zms_units.specs.Segments.{end_of, covers, covered, Covers}
use Rattle.zms_units.specs.Apart.{AreApartFrom}
use Rattle.seg_trees.specs.Pieces.{runs_of, Touches}
use Rattle.seg_trees.specs.Sets.{IsSegment}
use Rattle.zms_units.proofs.Bools.{le_or, or_cases, or_left, or_right, or_false, or_assoc}
use Rattle.zms_units.proofs.Covers.{covers_true, covers_yes, covers_none}
use Rattle.zms_units.proofs.ApartRuns.{apart_at, apart_low, apart_order, apart_below, apart_above, apart_next, apart_push, covered_at}
use Rattle.seg_trees.proofs.Places.{covered_found, rise, starts_rise, run_fits}

pub apart_append : (low mid next : ℕ) (xs ys : List Seg) → AreApartFrom low mid xs → AreApartFrom mid next ys → AreApartFrom low next (xs ++ ys)
apart_append low mid next [] ys a b = apart_low low mid next ys a b
apart_append low mid next (r ∷ rs) ys a b = (a.0, a.1, apart_append (end_of r + 1) mid next rs ys a.2 b)

pub take_apart : (low next limit : ℕ) (runs : List Seg) (k : ℕ) → AreApartFrom low next runs → low ≤ limit
    → ((i : ℕ) (d : Seg) → i < k → i < length runs → end_of (get_or runs i d) + 1 ≤ limit) → AreApartFrom low limit (take k runs)
take_apart low next limit [] zero a le below = le
take_apart low next limit [] (suc k) a le below = le
take_apart low next limit (r ∷ rs) zero a le below = le
take_apart low next limit (r ∷ rs) (suc k) a le below =
    (a.0, a.1, take_apart (end_of r + 1) next limit rs k a.2 (below 0 r (omega arith) (omega arith)) (λ i d l m. below (suc i) d (omega arith) (omega arith)))

pub drop_apart : (low next limit : ℕ) (runs : List Seg) (k : ℕ) → AreApartFrom low next runs → limit ≤ next
    → ((i : ℕ) (d : Seg) → k ≤ i → i < length runs → limit ≤ (get_or runs i d).start) → AreApartFrom limit next (drop k runs)
drop_apart low next limit [] zero a le above = le
drop_apart low next limit [] (suc k) a le above = le
drop_apart low next limit (r ∷ rs) zero a le above = (above 0 r (omega arith) (omega arith), a.1, a.2)
drop_apart low next limit (r ∷ rs) (suc k) a le above =
    drop_apart (end_of r + 1) next limit rs k a.2 le (λ i d l m. above (suc i) d (omega arith) (omega arith))

pub covered-append : (xs ys : List Seg) (u : ℕ) → covered (xs ++ ys) u ≡ (covered xs u || covered ys u)
covered-append xs ys u = list_any-append (λ s. covers s u) xs ys

pub covered-three : (xs ys zs : List Seg) (u : ℕ) → covered (xs ++ (ys ++ zs)) u ≡ (covered xs u || (covered ys u || covered zs u))
covered-three xs ys zs u = rw (covered-append xs (ys ++ zs) u, covered-append ys zs u)

-- the runs before a place, from it up to another, and from there
pub covered-split : (runs : List Seg) (low high : ℕ) → low ≤ high → (u : ℕ)
    → covered runs u ≡ (covered (take low runs) u || (covered (between low high runs) u || covered (drop high runs) u))
covered-split runs low high le u =
    ap (λ rs. covered rs u) (split_between runs low high le) ∙ covered-three (take low runs) (between low high runs) (drop high runs) u

-- in what stands in the middle
mid_in : (runs : List Seg) (low high k u : ℕ) (d : Seg) → low ≤ k → k < high → high ≤ length runs → Covers (get_or runs k d) u → covered (between low high runs) u ≡ true
mid_in runs low high k u d a b l c =
    let len : length (between low high runs) ≡ high - low = length-between runs low high l in
    let at : low + (k - low) ≡ k = omega arith in
    let here : get_or (between low high runs) (k - low) d ≡ get_or runs k d = get_or-between runs low high (k - low) d (omega arith) ∙ ap (λ n. get_or runs n d) at in
    covered_at (between low high runs) (k - low) d (omega arith) u (subst (λ r. Covers r u) (sym here) c)

mid_at : (runs : List Seg) (low high u : ℕ) (d : Seg) → high ≤ length runs → covered (between low high runs) u ≡ true → (k : ℕ) × (low ≤ k) × (k < high) × Covers (get_or runs k d) u
mid_at runs low high u d l e =
    let t = covered_found (between low high runs) u d e in
    let len : length (between low high runs) ≡ high - low = length-between runs low high l in
    let here : get_or (between low high runs) t.0 d ≡ get_or runs (low + t.0) d = get_or-between runs low high t.0 d (omega (arith, t.1)) in
    (low + t.0, omega arith, omega (arith, t.1), subst (λ r. Covers r u) here t.2)

-- a segment joins the runs that it touches
module _ (runs : List Seg) (next low high : ℕ) (seg whole d : Seg) (apart : AreApartFrom 0 next runs) (order : low < high) (bound : high ≤ length runs)
    (from : (k : ℕ) (d : Seg) → low ≤ k → k < length runs → seg.start ≤ end_of (get_or runs k d))
    (till : (k : ℕ) (d : Seg) → k < high → (get_or runs k d).start ≤ end_of seg)
    (start : whole.start ≡ min seg.start (get_or runs low d).start) (end : end_of whole ≡ max (end_of seg) (end_of (get_or runs (high - 1) d))) where
  into_whole : (u : ℕ) → (covers seg u || covered (between low high runs) u) ≡ true → covers whole u ≡ true
  into_whole u e = by_case (or_cases (covers seg u) (covered (between low high runs) u) e) where
    by_case : (covers seg u ≡ true) ⊎ (covered (between low high runs) u ≡ true) → covers whole u ≡ true
    by_case (inl h) = let c = covers_true seg u h in covers_yes whole u (omega arith) (omega arith)
    by_case (inr h) =
        let t = mid_at runs low high u d bound h in
        let a = starts_rise 0 next runs low t.0 d apart t.1 (omega (arith, t.2)) in
        let b = starts_rise 0 next runs t.0 (high - 1) d apart (omega (arith, t.2)) (omega arith) in
        covers_yes whole u (omega (arith, t.3)) (omega (arith, t.3))

  out_of_whole : (u : ℕ) → Covers whole u → (seg.start ≤ u) ⊎ (u < seg.start) → (end_of seg ≤ u) ⊎ (u < end_of seg) → (covers seg u || covered (between low high runs) u) ≡ true
  out_of_whole u c (inl a) (inr b) = or_left (covers seg u) (covered (between low high runs) u) (covers_yes seg u a b)
  out_of_whole u c (inr a) b =
      or_right (covers seg u) (covered (between low high runs) u)
      (mid_in runs low high low u d (omega arith) order bound (omega arith, omega (arith, from low d (omega arith) (omega arith))))
  out_of_whole u c (inl a) (inl b) =
      or_right (covers seg u) (covered (between low high runs) u)
      (mid_in runs low high (high - 1) u d (omega arith) (omega arith) bound (omega (arith, till (high - 1) d (omega arith)), omega arith))

  pub whole_covers : (u : ℕ) → covers whole u ≡ (covers seg u || covered (between low high runs) u)
  whole_covers u =
      both_ways (covers whole u) (covers seg u || covered (between low high runs) u)
      (λ e. out_of_whole u (covers_true whole u e) (le_or seg.start u) (le_or (end_of seg) u)) (into_whole u)

add_bool : (s t m x : Bool) → (t || ((s || m) || x)) ≡ (s || (t || (m || x)))
add_bool true true m x = refl
add_bool true false m x = refl
add_bool false t m x = refl

-- what a list covers once a run takes the place of others
pub joined_covered : (runs : List Seg) (low high : ℕ) (seg whole : Seg) (u : ℕ) → low ≤ high → covers whole u ≡ (covers seg u || covered (between low high runs) u)
    → covered (take low runs ++ whole ∷ drop high runs) u ≡ (covers seg u || covered runs u)
joined_covered runs low high seg whole u le e =
    covered-append (take low runs) (whole ∷ drop high runs) u
    ∙ ap (λ b. covered (take low runs) u || (b || covered (drop high runs) u)) e
    ∙ add_bool (covers seg u) (covered (take low runs) u) (covered (between low high runs) u) (covered (drop high runs) u)
    ∙ ap (λ b. covers seg u || b) (sym (covered-split runs low high le u))

pub joined_apart : (runs : List Seg) (next low high : ℕ) (whole : Seg) → AreApartFrom 0 next runs → 0 < whole.count → end_of whole + 1 ≤ next
    → ((k : ℕ) (d : Seg) → k < low → k < length runs → end_of (get_or runs k d) + 1 ≤ whole.start)
    → ((k : ℕ) (d : Seg) → high ≤ k → k < length runs → end_of whole + 1 ≤ (get_or runs k d).start)
    → AreApartFrom 0 next (take low runs ++ whole ∷ drop high runs)
joined_apart runs next low high whole a some fits below above =
    apart_append 0 whole.start next (take low runs) (whole ∷ drop high runs) (take_apart 0 next whole.start runs low a (omega arith) below)
    (omega arith, some, drop_apart 0 next (end_of whole + 1) runs high a fits above)

-- a segment is cut out of a run
pub cut_bool : (s t r x : Bool) → (s ≡ true → t ≡ false) → (s ≡ true → x ≡ false) → (t || ((not s && r) || x)) ≡ (not s && (t || (r || x)))
cut_bool true t r x f g = rw (f refl, g refl)
cut_bool false t r x f g = refl

is_some : (n : ℕ) → 0 < n → (n == 0) ≡ false
is_some n h = grind (arith, nat_tests)

pub runs_of-none : (seg : Seg) → seg.count ≡ 0 → runs_of seg ≡ []
runs_of-none seg e = rw e

pub runs_of-some : (seg : Seg) → 0 < seg.count → runs_of seg ≡ seg ∷ []
runs_of-some seg h = rw (is_some seg.count h)

piece_by : (low next : ℕ) (seg : Seg) (rest : List Seg) → low ≤ seg.start → AreApartFrom (end_of seg + 1) next rest → (seg.count ≤ 0) ⊎ (0 < seg.count) → AreApartFrom low next (runs_of seg ++ rest)
piece_by low next seg rest le a (inl h) =
    let e : runs_of seg ≡ [] = runs_of-none seg (omega arith) in
    subst (λ rs. AreApartFrom low next (rs ++ rest)) (sym e) (apart_low low (end_of seg + 1) next rest (omega arith) a)
piece_by low next seg rest le a (inr h) = subst (λ rs. AreApartFrom low next (rs ++ rest)) (sym (runs_of-some seg h)) (le, h, a)

piece_covered : (seg : Seg) (u : ℕ) → (seg.count ≤ 0) ⊎ (0 < seg.count) → covered (runs_of seg) u ≡ covers seg u
piece_covered seg u (inl h) =
    ap (λ rs. covered rs u) (runs_of-none seg (omega arith)) ∙ sym (covers_none seg u (omega arith))
piece_covered seg u (inr h) = ap (λ rs. covered rs u) (runs_of-some seg h) ∙ or_false (covers seg u)

only_run : (runs : List Seg) (i : ℕ) (run : Seg) (u : ℕ) → i < length runs → get_or runs i run ≡ run → covered (between i (i + 1) runs) u ≡ covers run u
only_run runs i run u within here =
    ap (λ rs. covered rs u) (between_more runs i i run (omega arith) within ∙ ap (λ rs. rs ++ get_or runs i run ∷ []) (between_none runs i))
    ∙ (or_false (covers (get_or runs i run) u) ∙ ap (λ r. covers r u) here)

module _ (runs : List Seg) (next i : ℕ) (run seg left right : Seg) (apart : AreApartFrom 0 next runs) (within : i < length runs) (here : get_or runs i run ≡ run)
    (some : 0 < seg.count) (from : run.start ≤ seg.start) (till : end_of seg ≤ end_of run)
    (left_start : left.start ≡ run.start) (left_end : end_of left ≡ seg.start) (right_start : right.start ≡ end_of seg) (right_end : end_of right ≡ end_of run) where
  here_at : (d : Seg) → get_or runs i d ≡ run
  here_at d = get_or_default runs i d run within ∙ here

  before_run : AreApartFrom 0 run.start (take i runs)
  before_run =
      take_apart 0 next run.start runs i apart (omega arith)
      (λ k d l m. subst (λ (r : Seg). end_of (get_or runs k d) + 1 ≤ r.start) (here_at d) (rise 0 next runs k i d apart l within))

  run_next : end_of run + 1 ≤ next
  run_next = subst (λ (r : Seg). end_of r + 1 ≤ next) here (apart_at 0 next runs i run apart within).2

  after_run : AreApartFrom (end_of run + 1) next (drop (i + 1) runs)
  after_run =
      drop_apart 0 next (end_of run + 1) runs (i + 1) apart run_next
      (λ k d l m. subst (λ (r : Seg). end_of r + 1 ≤ (get_or runs k d).start) (here_at d) (rise 0 next runs i k d apart (omega arith) m))

  pub left_apart : AreApartFrom 0 next (take i runs ++ (runs_of left ++ (runs_of right ++ drop (i + 1) runs)))
  left_apart =
      apart_append 0 run.start next (take i runs) (runs_of left ++ (runs_of right ++ drop (i + 1) runs)) before_run
      (piece_by run.start next left (runs_of right ++ drop (i + 1) runs) (omega arith)
      (piece_by (end_of left + 1) next right (drop (i + 1) runs) (omega arith) (subst (λ n. AreApartFrom (n + 1) next (drop (i + 1) runs)) (sym right_end) after_run) (le_or right.count 0))
      (le_or left.count 0))

  pieces : (u : ℕ) → (covers left u || covers right u) ≡ (not (covers seg u) && covers run u)
  pieces u = grind (arith, nat_tests)

  pub left_covered : (u : ℕ) → covered (take i runs ++ (runs_of left ++ (runs_of right ++ drop (i + 1) runs))) u ≡ (not (covers seg u) && covered runs u)
  left_covered u =
      covered-append (take i runs) (runs_of left ++ (runs_of right ++ drop (i + 1) runs)) u
      ∙ ap (λ b. covered (take i runs) u || b) (covered-three (runs_of left) (runs_of right) (drop (i + 1) runs) u ∙ gather ∙ ap (λ b. b || covered (drop (i + 1) runs) u) (pieces u))
      ∙ cut_bool (covers seg u) (covered (take i runs) u) (covers run u) (covered (drop (i + 1) runs) u)
      (λ e. let c = covers_true seg u e in apart_above 0 run.start (take i runs) before_run u (omega arith))
      (λ e. let c = covers_true seg u e in apart_below (end_of run + 1) next (drop (i + 1) runs) after_run u (omega arith))
      ∙ ap (λ b. not (covers seg u) && (covered (take i runs) u || (b || covered (drop (i + 1) runs) u))) (sym (only_run runs i run u within here))
      ∙ ap (λ b. not (covers seg u) && b) (sym (covered-split runs i (i + 1) (omega arith) u)) where
        gather : (covered (runs_of left) u || (covered (runs_of right) u || covered (drop (i + 1) runs) u)) ≡ ((covers left u || covers right u) || covered (drop (i + 1) runs) u)
        gather =
            ap (λ b. b || (covered (runs_of right) u || covered (drop (i + 1) runs) u)) (piece_covered left u (le_or left.count 0))
            ∙ ap (λ b. covers left u || (b || covered (drop (i + 1) runs) u)) (piece_covered right u (le_or right.count 0))
            ∙ sym (or_assoc (covers left u) (covers right u) (covered (drop (i + 1) runs) u))

-- the edits that put pieces in the place of a run
module _ (runs : List Seg) (i : ℕ) (left right : Seg) (within : i < length runs) where
  abbrev pub pieced : List Seg
  pieced = take i runs ++ (runs_of left ++ (runs_of right ++ drop (i + 1) runs))

  pub pieced-none : left.count ≡ 0 → right.count ≡ 0 → take i runs ++ drop (i + 1) runs ≡ pieced
  pieced-none e f =
      sym (ap (λ rs. take i runs ++ (rs ++ (runs_of right ++ drop (i + 1) runs))) (runs_of-none left e) ∙ ap (λ rs. take i runs ++ (rs ++ drop (i + 1) runs)) (runs_of-none right f))

  set_at : (run : Seg) → set runs i run ≡ take i runs ++ run ∷ drop (i + 1) runs
  set_at run = set_split runs i run within ∙ ap (λ n. take i runs ++ run ∷ drop n runs) (sym (add-one i))

  pub pieced-left : 0 < left.count → right.count ≡ 0 → set runs i left ≡ pieced
  pieced-left h f =
      set_at left ∙ sym (ap (λ rs. take i runs ++ (rs ++ (runs_of right ++ drop (i + 1) runs))) (runs_of-some left h) ∙ ap (λ rs. take i runs ++ left ∷ (rs ++ drop (i + 1) runs)) (runs_of-none right f))

  pub pieced-right : left.count ≡ 0 → 0 < right.count → set runs i right ≡ pieced
  pieced-right e h =
      set_at right ∙ sym (ap (λ rs. take i runs ++ (rs ++ (runs_of right ++ drop (i + 1) runs))) (runs_of-none left e) ∙ ap (λ rs. take i runs ++ (rs ++ drop (i + 1) runs)) (runs_of-some right h))

  pub pieced-both : 0 < left.count → 0 < right.count → take (i + 1) (set runs i left) ++ right ∷ drop (i + 1) (set runs i left) ≡ pieced
  pieced-both h j =
      ap (λ rs. rs ++ right ∷ drop (i + 1) (set runs i left)) (take_more_set runs i left within)
      ∙ ap (λ rs. (take i runs ++ left ∷ []) ++ right ∷ rs) (drop-set-lt (i + 1) runs i left (omega arith))
      ∙ append_assoc (take i runs) (left ∷ []) (right ∷ drop (i + 1) runs)
      ∙ sym (ap (λ rs. take i runs ++ (rs ++ (runs_of right ++ drop (i + 1) runs))) (runs_of-some left h) ∙ ap (λ rs. take i runs ++ left ∷ (rs ++ drop (i + 1) runs)) (runs_of-some right j))

-- the edit that puts one run in the place of some
pub joined_items : (runs : List Seg) (low high : ℕ) (whole : Seg) → low < high → high ≤ length runs
    → take (low + 1) (set runs low whole) ++ drop high (set runs low whole) ≡ take low runs ++ whole ∷ drop high runs
joined_items runs low high whole lt le =
    ap (λ rs. rs ++ drop high (set runs low whole)) (take_more_set runs low whole (omega arith))
    ∙ ap (λ rs. (take low runs ++ whole ∷ []) ++ rs) (drop-set-lt high runs low whole lt)
    ∙ append_assoc (take low runs) (whole ∷ []) (drop high runs)

-- what a segment that joins the runs that it touches leaves
module _ (runs : List Seg) (seg : Seg) (low high : ℕ) (apart : AreApartFrom 0 131073 runs) (segment : IsSegment seg) (t : Touches runs seg low high) where
  pub alone_apart : low ≡ high → AreApartFrom 0 131073 (take low runs ++ seg ∷ drop low runs)
  alone_apart e =
      joined_apart runs 131073 low low seg apart segment.some (omega (arith, segment.within))
      (λ k d l m. omega (arith, t.before k d (omega arith) l)) (λ k d l m. omega (arith, t.after k d (omega arith) m))

  pub alone_covered : low ≡ high → (u : ℕ) → covered (take low runs ++ seg ∷ drop low runs) u ≡ (covers seg u || covered runs u)
  alone_covered e u =
      joined_covered runs low low seg seg u (omega arith)
      (sym (ap (λ rs. covers seg u || covered rs u) (between_none runs low) ∙ or_false (covers seg u)))

  module _ (whole first last : Seg) (lt : low < high) (here : first ≡ get_or runs low first) (there : last ≡ get_or runs (high - 1) last)
      (start : whole.start ≡ min seg.start first.start) (end : end_of whole ≡ max (end_of seg) (end_of last)) where
    first_start : (d : Seg) → first.start ≡ (get_or runs low d).start
    first_start d = ap (λ (r : Seg). r.start) (here ∙ get_or_default runs low first d (omega (arith, t.bound)))

    last_end : (d : Seg) → end_of last ≡ end_of (get_or runs (high - 1) d)
    last_end d = ap end_of (there ∙ get_or_default runs (high - 1) last d (omega (arith, t.bound)))

    last_fits : end_of last + 1 ≤ 131073
    last_fits = (run_fits 131073 runs (high - 1) last apart (omega (arith, t.bound)) there).1

    pub joins_apart : AreApartFrom 0 131073 (take low runs ++ whole ∷ drop high runs)
    joins_apart =
        joined_apart runs 131073 low high whole apart (omega (arith, segment.some)) (omega (arith, segment.within, last_fits))
        (λ k d l m. omega (arith, t.before k d (omega arith) l, first_start d, rise 0 131073 runs k low d apart l (omega (arith, t.bound))))
        (λ k d l m. omega (arith, t.after k d l m, last_end d, rise 0 131073 runs (high - 1) k d apart (omega arith) m))

    pub joins_covered : (u : ℕ) → covered (take low runs ++ whole ∷ drop high runs) u ≡ (covers seg u || covered runs u)
    joins_covered u =
        joined_covered runs low high seg whole u t.order
        (whole_covers runs 131073 low high seg whole first apart lt t.bound t.from (λ k d l. t.till k d (omega arith) l) (omega (arith, first_start first)) (omega (arith, last_end first)) u)

-- a run behind the others
pub apart_lower : (low n : ℕ) (runs : List Seg) → AreApartFrom low (n + 1) runs → low ≤ n → ((k : ℕ) (d : Seg) → k + 1 ≡ length runs → end_of (get_or runs k d) ≡ n → ⊥) → AreApartFrom low n runs
apart_lower low n [] a le f = le
apart_lower low n (r ∷ []) a le f = (a.0, a.1, short (le_or (end_of r + 1) n)) where
  short : (end_of r + 1 ≤ n) ⊎ (n < end_of r + 1) → end_of r + 1 ≤ n
  short (inl h) = h
  short (inr h) = absurd (f 0 r (omega arith) (omega (arith, a.2)))
apart_lower low n (r ∷ s ∷ rs) a le f =
    (a.0, a.1, apart_lower (end_of r + 1) n (s ∷ rs) a.2 (omega (arith, a.2.0, a.2.1, apart_order (end_of s + 1) (n + 1) rs a.2.2)) (λ k d e. f (suc k) d (omega arith)))

pub same_last : (runs : List Seg) (i k n : ℕ) (last d : Seg) → i + 1 ≡ length runs → k + 1 ≡ length runs → last ≡ get_or runs i last → end_of (get_or runs k d) ≡ n → end_of last ≡ n
same_last runs i k n last d e f here h =
    let same : i ≡ k = omega arith in
    ap end_of (here ∙ ap (λ j. get_or runs j last) same ∙ get_or_default runs k last d (omega arith)) ∙ h

pub alone_last : (runs : List Seg) (run : Seg) → AreApartFrom 0 (run.start + 1) runs → 0 < run.count → ((k : ℕ) (d : Seg) → k + 1 ≡ length runs → end_of (get_or runs k d) ≡ run.start → ⊥)
    → AreApartFrom 0 (end_of run + 1) (runs ++ run ∷ [])
alone_last runs run a some f = apart_push 0 run.start runs run (apart_lower 0 run.start runs a (omega arith) f) (omega arith) some

module _ (runs : List Seg) (k : ℕ) (last run : Seg) (apart : AreApartFrom 0 (run.start + 1) runs) (some : 0 < run.count) (end : k + 1 ≡ length runs)
    (here : last ≡ get_or runs k last) (meets : end_of last ≡ run.start) where
  longer : Seg
  longer = record { start = last.start; count = last.count + run.count }

  starts_here : (d : Seg) → last.start ≡ (get_or runs k d).start
  starts_here d = ap (λ (r : Seg). r.start) (here ∙ get_or_default runs k last d (omega arith))

  long_list : set runs k longer ≡ take k runs ++ longer ∷ drop (k + 1) runs
  long_list = set_split runs k longer (omega arith) ∙ ap (λ n. take k runs ++ longer ∷ drop n runs) (sym (add-one k))

  pub longer_apart : AreApartFrom 0 (end_of run + 1) (set runs k (record { start = last.start; count = last.count + run.count }))
  unfolding longer
  longer_apart =
      subst (AreApartFrom 0 (end_of run + 1)) (sym long_list)
      (joined_apart runs (end_of run + 1) k (k + 1) longer (apart_next 0 (run.start + 1) (end_of run + 1) runs (omega arith) apart) (omega arith) (omega arith)
      (λ i d l m. omega (arith, starts_here d, rise 0 (run.start + 1) runs i k d apart l (omega arith)))
      (λ i d l m. absurd (omega arith)))

  pub longer_covered : (u : ℕ) → covered (set runs k (record { start = last.start; count = last.count + run.count })) u ≡ (covers run u || covered runs u)
  unfolding longer
  longer_covered u =
      ap (λ rs. covered rs u) long_list
      ∙ joined_covered runs k (k + 1) run longer u (omega arith) (both ∙ ap (λ b. covers run u || b) (sym (only_run runs k last u (omega arith) (sym here)))) where
        both : covers longer u ≡ (covers run u || covers last u)
        both = grind (arith, nat_tests)
