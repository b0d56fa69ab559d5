-- What rising segments leave of the units, as a walk over them has come.
use Rattle.std.proofs.Common.{◌≡◌, ℕ, zero, suc, ◌+◌, ◌-◌, ◌≤◌, ◌<◌, Bool, true, false, cond, List, [], ◌∷◌, ◌++◌, length, get_or, drop, add-one, refl, sym, ◌∙◌, ap, subst, arith, inl, inr}
use Rattle.std.specs.Prelude.{◌&&◌, ◌||◌, not, nat_lt}
use Rattle.std.specs.List.{count_by}
use Rattle.std.proofs.lemmas.Bool.{lt-ltb}
use Rattle.std.proofs.lemmas.Bool.Decides.{nat_tests}
use Rattle.std.proofs.lemmas.List.Sums.{sum_by_push, count_by-le-length}
use Rattle.zms_units.specs.declared.histograms.Histogram.{Histogram}
use Rattle.zms_units.specs.declared.segments.Seg.{Seg}
use Rattle.zms_units.specs.Segments.{end_of, covers, covered, AreRisingFrom}
use Rattle.zms_units.specs.Apart.{AreApartFrom}
use Rattle.zms_units.specs.Weights.{is_in_bucket, IsHistogramOf}
use Rattle.zms_units.proofs.ApartRuns.{apart_next, apart_push, apart_above}
use Rattle.zms_units.proofs.Bools.{or_false, or_left, or_right, le_or}
use Rattle.zms_units.proofs.Covers.{covers_yes, covers_low, covers_high, covered-push}
use Rattle.zms_units.proofs.Maximal.{apart_maximal}
use Rattle.zms_units.proofs.RisingSegs.{rising_below}
use Rattle.zdb_report.specs.Gaps.{AddsGap}

-- each run takes up a unit at least
length_fits : (low next : ℕ) (runs : List Seg) → AreApartFrom low next runs → low + length runs ≤ next
length_fits low next [] a = omega arith
length_fits low next (r ∷ rs) a = omega (arith, length_fits (end_of r + 1) next rs a.2)

-- the units below one that are not covered stand in these gaps, which are counted, and another gap may begin at `next`
pub record Gathered (held : List Seg) (ashift at next : ℕ) (hist : Histogram) : Type 0 where
  pub gaps : List Seg
  pub apart : AreApartFrom 0 next gaps
  pub whole : (u : ℕ) → u < at → covered gaps u ≡ not (covered held u)
  pub counts : (bucket : ℕ) → bucket < 64 → get_or hist.runs bucket 0 ≡ count_by (is_in_bucket ashift bucket) gaps

pub gathered_none : (held : List Seg) (ashift : ℕ) (hist : Histogram) → ((bucket : ℕ) → get_or hist.runs bucket 0 ≡ 0) → Gathered held ashift 0 0 hist
gathered_none held ashift hist none = record {
  gaps = [];
  apart = omega arith;
  whole = λ u lt. absurd (omega arith);
  counts = λ bucket lt. none bucket;
}

-- no bucket has more runs than there are units before
pub gathered_few : (held : List Seg) (ashift at next : ℕ) (hist : Histogram) → Gathered held ashift at next hist → next ≤ 131072
    → (bucket : ℕ) → bucket < 64 → get_or hist.runs bucket 0 ≤ 131072
gathered_few held ashift at next hist g le bucket lt =
    omega (arith, g.counts bucket lt, count_by-le-length (is_in_bucket ashift bucket) g.gaps, length_fits 0 next g.gaps g.apart)

module _ (held : List Seg) (ashift at to : ℕ) (old new : Histogram) (g : Gathered held ashift at at old) (adds : AddsGap old new at to ashift)
    (free : (u : ℕ) → at ≤ u → u < to → covered held u ≡ false) where
  no_gap : at ≡ to → Gathered held ashift to (to + 1) new
  no_gap same = record {
    gaps = g.gaps;
    apart = apart_next 0 at (to + 1) g.gaps (omega arith) g.apart;
    whole = λ u lt. g.whole u (omega arith);
    counts = λ bucket lt.
        let none : nat_lt at to ≡ false = grind (arith, nat_tests) in
        adds bucket lt ∙ ap (λ (b : Bool). get_or old.runs bucket 0 + cond (b && is_in_bucket ashift bucket (record { start = at; count = to - at })) 1 0) none
        ∙ (let e : get_or old.runs bucket 0 + 0 ≡ get_or old.runs bucket 0 = omega arith in e) ∙ g.counts bucket lt;
  }

  a_gap : at < to → Gathered held ashift to (to + 1) new
  a_gap some = record {
    gaps = g.gaps ++ record { start = at; count = to - at } ∷ [];
    apart =
        let pushed : AreApartFrom 0 (at + (to - at) + 1) (g.gaps ++ record { start = at; count = to - at } ∷ []) = apart_push 0 at g.gaps (record { start = at; count = to - at }) g.apart (omega arith) (omega arith) in
        let e : at + (to - at) + 1 ≡ to + 1 = omega arith in
        subst (λ (n : ℕ). AreApartFrom 0 n (g.gaps ++ record { start = at; count = to - at } ∷ [])) e pushed;
    whole = λ u lt.
        covered-push g.gaps (record { start = at; count = to - at }) u
        ∙ elim (le_or at u) [
          | inl there ↦
              or_right (covered g.gaps u) (covers (record { start = at; count = to - at }) u) (covers_yes (record { start = at; count = to - at }) u there (omega arith)) ∙ sym (ap not (free u there lt))
          | inr before ↦
              ap (λ (b : Bool). covered g.gaps u || b) (covers_low (record { start = at; count = to - at }) u before) ∙ or_false (covered g.gaps u) ∙ g.whole u before
        ];
    counts = λ bucket lt.
        let yes : nat_lt at to ≡ true = lt-ltb at to some in
        adds bucket lt ∙ ap (λ (b : Bool). get_or old.runs bucket 0 + cond (b && is_in_bucket ashift bucket (record { start = at; count = to - at })) 1 0) yes
        ∙ ap (λ (n : ℕ). n + cond (is_in_bucket ashift bucket (record { start = at; count = to - at })) 1 0) (g.counts bucket lt)
        ∙ sym (sum_by_push (λ (run : Seg). cond (is_in_bucket ashift bucket run) 1 0) g.gaps (record { start = at; count = to - at }));
  }

  -- the units from one to another are a gap, where there are any
  pub gathered_gap : at ≤ to → Gathered held ashift to (to + 1) new
  gathered_gap le = elim (le_or to at) [
    | inl none ↦ no_gap (omega arith)
    | inr some ↦ a_gap some
  ]

-- a segment ends the gap
pub gathered_seg : (held : List Seg) (ashift start end : ℕ) (hist : Histogram) → Gathered held ashift start (start + 1) hist → start < end
    → ((u : ℕ) → start ≤ u → u < end → covered held u ≡ true) → Gathered held ashift end end hist
gathered_seg held ashift start end hist g some all = record {
  gaps = g.gaps;
  apart = apart_next 0 (start + 1) end g.gaps (omega arith) g.apart;
  whole = λ u lt. elim (le_or start u) [
    | inl there ↦ apart_above 0 (start + 1) g.gaps g.apart u (omega arith) ∙ sym (ap not (all u there lt))
    | inr before ↦ g.whole u before
  ];
  counts = g.counts;
}

-- the gaps of all units
pub gathered_all : (held : List Seg) (ashift units : ℕ) (hist : Histogram) → Gathered held ashift units (units + 1) hist → IsHistogramOf (λ u. not (covered held u)) units ashift hist
gathered_all held ashift units hist g = record {
  runs = g.gaps;
  maximal = apart_maximal (λ u. not (covered held u)) units g.gaps g.apart g.whole;
  counts = g.counts;
}

-- as far as a walk over the segments has come
pub record Walked (held : List Seg) (units ashift i at : ℕ) (hist : Histogram) : Type 0 where
  pub gathered : Gathered held ashift at at hist
  pub rest : (u : ℕ) → at ≤ u → covered held u ≡ covered (drop i held) u
  pub rising : AreRisingFrom at units (drop i held)

drop_suc : (segs : List Seg) (i : ℕ) (d : Seg) → i < length segs → drop i segs ≡ get_or segs i d ∷ drop (suc i) segs
drop_suc [] i d lt = absurd (omega arith)
drop_suc (s ∷ ss) zero d lt = refl
drop_suc (s ∷ ss) (suc i) d lt = drop_suc ss i d (omega arith)

drop_at : (segs : List Seg) (i : ℕ) (d : Seg) → i < length segs → drop i segs ≡ get_or segs i d ∷ drop (i + 1) segs
drop_at segs i d lt = subst (λ (n : ℕ). drop i segs ≡ get_or segs i d ∷ drop n segs) (sym (add-one i)) (drop_suc segs i d lt)

module _ (held : List Seg) (units ashift i at : ℕ) (hist : Histogram) (d : Seg) (lt : i < length held) (w : Walked held units ashift i at hist) where
  rises : AreRisingFrom at units (get_or held i d ∷ drop (i + 1) held)
  rises = subst (λ (segs : List Seg). AreRisingFrom at units segs) (drop_at held i d lt) w.rising

  covered_here : (u : ℕ) → at ≤ u → covered held u ≡ covered (get_or held i d ∷ drop (i + 1) held) u
  covered_here u le = w.rest u le ∙ ap (λ (segs : List Seg). covered segs u) (drop_at held i d lt)

  pub walk_more : (new : Histogram) → AddsGap hist new at (get_or held i d).start ashift → Walked held units ashift (i + 1) (end_of (get_or held i d)) new
  walk_more new adds =
      let low : at ≤ (get_or held i d).start = rises.0 in
      let some : 0 < (get_or held i d).count = rises.1.0 in
      let from_start : AreRisingFrom (get_or held i d).start units (get_or held i d ∷ drop (i + 1) held) = (omega arith, (some, rises.1.1)) in
      record {
        gathered = gathered_seg held ashift (get_or held i d).start (end_of (get_or held i d)) new
            (gathered_gap held ashift at (get_or held i d).start hist new w.gathered adds
            (λ u le below. covered_here u le ∙ rising_below (get_or held i d).start units (get_or held i d ∷ drop (i + 1) held) from_start u below) low)
            (omega arith)
            (λ u le below. covered_here u (omega arith) ∙ or_left (covers (get_or held i d) u) (covered (drop (i + 1) held) u) (covers_yes (get_or held i d) u le below));
        rest = λ u le. covered_here u (omega arith) ∙ ap (λ (b : Bool). b || covered (drop (i + 1) held) u) (covers_high (get_or held i d) u le);
        rising = rises.1.1;
      }

pub walk_all : (held : List Seg) (units ashift i at : ℕ) (old new : Histogram) → Walked held units ashift i at old → at ≤ units → length held ≤ i → AddsGap old new at units ashift
    → IsHistogramOf (λ u. not (covered held u)) units ashift new
walk_all held units ashift i at old new w le all adds =
    gathered_all held ashift units new
    (gathered_gap held ashift at units old new w.gathered adds (λ u from below. w.rest u from ∙ ap (λ (segs : List Seg). covered segs u) (past held i all)) le)
  where
    past : (segs : List Seg) (n : ℕ) → length segs ≤ n → drop n segs ≡ []
    past [] zero h = refl
    past [] (suc n) h = refl
    past (s ∷ ss) zero h = absurd (omega arith)
    past (s ∷ ss) (suc n) h = past ss n (omega arith)
