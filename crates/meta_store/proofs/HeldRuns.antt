-- The units that the runs of a map hold, and their maximal runs.
use Rattle.std.proofs.Common.{◌≡◌, ◌≢◌, inl, inr, ℕ, ◌+◌, ◌<◌, ◌≤◌, Bool, true, false, Some, None, List, [], ◌∷◌, ◌++◌, length, get_or, set, take, nat_le, nat_lt, refl, sym, ◌∙◌, ap, subst, arith}
use Rattle.std.specs.Prelude.{◌&&◌, ◌==◌, if◌then◌else◌}
use Rattle.std.specs.List.{filter_map}
use Rattle.std.proofs.lemmas.Bool.{cases_lt, leb-true}
use Rattle.std.proofs.lemmas.Bool.Decides.{nat_tests}
use Rattle.std.proofs.lemmas.List.{get_or-set_same, get_or-set_other, take_more}
use Rattle.std.proofs.lemmas.List.Elements.{All-cons, All-nil}
use Rattle.zms_units.specs.declared.segments.Seg.{Seg}
use Rattle.zms_units.specs.declared.faults.MapCause.TheVariants.{Range, Straddle, Spelling, Vdev}
use Rattle.zms_units.specs.Segments.{end_of, covered, total_of}
use Rattle.zms_units.specs.Runs.{units_in, IsMaximalRun, AreMaximalRuns}
use Rattle.zms_units.proofs.Counting.{rising_units, units_same_below}
use Rattle.sm_entry.specs.declared.Entry.{Entry}
use Rattle.sm_entry.specs.declared.Entry.TheVariants.{One, Two, Debug}
use Rattle.space_map.specs.Layout.{is_block_end}
use Rattle.space_map.specs.Reading.{AreSound, Decodes, found_in, range_fault, long_fault}
use Rattle.space_map.specs.Replay.{is_alloc, is_held, run_covers}
use Rattle.space_map.specs.declared.places.Found.{Found}
use Rattle.space_map.specs.declared.places.MapKind.TheVariants.{Side}
use Rattle.space_map.proofs.Replaying.{last_decides}
use Rattle.meta_store.specs.Finding.{AreWithin}

-- one more unit of a range
abbrev in_range : ℕ → ℕ → ℕ → Bool → Bool → Bool
in_range start unit u value was = if nat_le start u && nat_lt u unit then value else was

pub range_more : (old held : List Bool) (start unit u : ℕ) (value : Bool) → start ≤ unit → unit < length held → get_or held u false ≡ in_range start unit u value (get_or old u false)
    → get_or (set held unit value) u false ≡ in_range start (unit + 1) u value (get_or old u false)
range_more old held start unit u value low lt was = elim (cases_lt u unit) [
  | inl below ↦
      let other : u ≢ unit = omega arith in
      let e : get_or (set held unit value) u false ≡ get_or held u false = get_or-set_other held unit u value false other in
      e ∙ was ∙ ap (λ (b : Bool). if nat_le start u && b then value else get_or old u false) (let t : nat_lt u unit ≡ nat_lt u (unit + 1) = grind (arith, nat_tests) in t)
  | inr ge ↦ elim (cases_lt unit u) [
    | inl above ↦
        let other : u ≢ unit = omega arith in
        let e : get_or (set held unit value) u false ≡ get_or held u false = get_or-set_other held unit u value false other in
        e ∙ was ∙ ap (λ (b : Bool). if nat_le start u && b then value else get_or old u false) (let t : nat_lt u unit ≡ nat_lt u (unit + 1) = grind (arith, nat_tests) in t)
    | inr le ↦
        let here : u ≡ unit = omega arith in
        let low_yes : nat_le start u ≡ true = grind (arith, nat_tests) in
        let high_yes : nat_lt u (unit + 1) ≡ true = grind (arith, nat_tests) in
        ap (λ (v : ℕ). get_or (set held unit value) v false) here ∙ get_or-set_same held unit value false lt ∙ sym (both_yes low_yes high_yes)
  ]
] where
  both_yes : nat_le start u ≡ true → nat_lt u (unit + 1) ≡ true → in_range start (unit + 1) u value (get_or old u false) ≡ value
  both_yes low_yes high_yes = rw (low_yes, high_yes)

-- no unit of an empty range
pub range_none : (start u : ℕ) (value was : Bool) → was ≡ in_range start start u value was
range_none start u value was = elim (cases_lt u start) [
  | inl below ↦ let low_no : nat_le start u ≡ false = grind (arith, nat_tests) in rw low_no
  | inr ge ↦ let high_no : nat_lt u start ≡ false = grind (arith, nat_tests) in low_or high_no (nat_le start u)
] where
  low_or : nat_lt u start ≡ false → (b : Bool) → was ≡ (if b && nat_lt u start then value else was)
  low_or high_no true = rw high_no
  low_or high_no false = refl

-- one more run of a map
pub run_more : (found : List Found) (run d : Found) (i u : ℕ) (now was : Bool) → i < length found → run ≡ get_or found i d → was ≡ is_held (take i found) u
    → now ≡ (if run_covers u run then is_alloc run.run.kind else was) → now ≡ is_held (take (i + 1) found) u
run_more found run d i u now was lt is so_far here =
    here ∙ ap (λ (h : Bool). if run_covers u run then is_alloc run.run.kind else h) so_far
    ∙ sym (last_decides (take i found) run u) ∙ ap (λ (f : List Found). is_held f u) (ap (λ (r : Found). take i found ++ r ∷ []) is ∙ sym (take_more found i d lt))

within_range : (units offset run : ℕ) → range_fault units offset run ≡ None → offset + run ≤ units
within_range units offset run none = by_test (nat_le (offset + run) units) refl none where
  by_test : (b : Bool) → nat_le (offset + run) units ≡ b → (if b then None else Some Range) ≡ None → offset + run ≤ units
  by_test true is none = leb-true (offset + run) units is
  by_test false is none = absurd (cc)

within_long : (units vdev offset run : ℕ) → long_fault (Side units) vdev offset run ≡ None → offset + run ≤ units
within_long units vdev offset run none = by_test (nat_le run 32768) (vdev == 0) none where
  by_test : (short first : Bool) → (if short then Some Spelling else if first then range_fault units offset run else Some Vdev) ≡ None → offset + run ≤ units
  by_test true first none = absurd (cc)
  by_test false true none = within_range units offset run none
  by_test false false none = absurd (cc)

within_two : (ends : Bool) (units vdev offset run : ℕ) → (if ends then Some Straddle else long_fault (Side units) vdev offset run) ≡ None → offset + run ≤ units
within_two true units vdev offset run none = absurd (cc)
within_two false units vdev offset run none = within_long units vdev offset run none

entries_within : (units at : ℕ) (entries : List Entry) → AreSound (Side units) at entries → AreWithin units (filter_map found_in entries)
entries_within units at [] sound = All-nil (λ (f : Found). f.run.offset + f.run.run ≤ units)
entries_within units at (One offset run kind ∷ entries) sound =
    All-cons (λ (f : Found). f.run.offset + f.run.run ≤ units) (record { vdev = 0; run = record { offset = offset; run = run; kind = kind } }) (filter_map found_in entries)
    (within_range units offset run sound.0) (entries_within units (at + 1) entries sound.1)
entries_within units at (Two vdev offset run kind ∷ entries) sound =
    All-cons (λ (f : Found). f.run.offset + f.run.run ≤ units) (record { vdev = vdev; run = record { offset = offset; run = run; kind = kind } }) (filter_map found_in entries)
    (within_two (is_block_end at) units vdev offset run sound.0) (entries_within units (at + 2) entries sound.1)
entries_within units at (Debug action pass group ∷ entries) sound = entries_within units (at + 1) entries sound.1

-- the runs of a side lie within its units
pub decodes_within : (units : ℕ) (words : List ℕ) (found : List Found) → Decodes (Side units) words found → AreWithin units found
decodes_within units words found decodes = subst (λ (f : List Found). AreWithin units f) decodes.given (entries_within units 0 decodes.entries decodes.sound)

module _ (set : ℕ → Bool) (units : ℕ) (runs : List Seg) (all : AreMaximalRuns set units runs) where
  -- maximal runs are as many units as the set has
  pub maximal_count : units_in set units ≡ total_of runs
  maximal_count = units_same_below set (covered runs) units (λ u lt. sym (all.whole u lt)) ∙ rising_units 0 units runs all.rising

  -- and maximal among what they cover themselves
  own_run : (run : Seg) → IsMaximalRun set units run → IsMaximalRun (covered runs) units run
  own_run run is = record {
    some = is.some;
    within = is.within;
    inside = λ u c. all.whole u (omega (arith, c.1, is.within)) ∙ is.inside u c;
    before = λ u e. all.whole u (omega (arith, is.some, is.within)) ∙ is.before u e;
    after = λ lt. all.whole (end_of run) lt ∙ is.after lt;
  }

  pub maximal_own : AreMaximalRuns (covered runs) units runs
  maximal_own = record {
    rising = all.rising;
    maximal = λ k d lt. own_run (get_or runs k d) (all.maximal k d lt);
    whole = λ u lt. refl;
  }

-- the same set under another name
pub maximal_same : (p q : ℕ → Bool) (units : ℕ) (runs : List Seg) → ((u : ℕ) → p u ≡ q u) → AreMaximalRuns p units runs → AreMaximalRuns q units runs
maximal_same p q units runs same all = record {
  rising = all.rising;
  maximal = λ k d lt.
      let is = all.maximal k d lt in
      record {
        some = is.some;
        within = is.within;
        inside = λ u c. sym (same u) ∙ is.inside u c;
        before = λ u e. sym (same u) ∙ is.before u e;
        after = λ below. sym (same (end_of (get_or runs k d))) ∙ is.after below;
      };
  whole = λ u lt. all.whole u lt ∙ same u;
}
