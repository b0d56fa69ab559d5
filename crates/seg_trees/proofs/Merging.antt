-- Two lists of runs that share no unit, as they are merged.
use Rattle.std.proofs.Common.{◌≡◌, ℕ, ◌+◌, ◌≤◌, ◌<◌, Bool, true, false, List, [], length, get_or, take, refl, sym, ap, ◌∙◌, arith, ◌⊎◌, inl, inr}
use Rattle.std.specs.Prelude.{◌||◌}
use Rattle.std.proofs.lemmas.List.{get_or_default, take_all}
use Rattle.std.proofs.lemmas.List.Folds.{list_any_more}
use Rattle.zms_units.specs.declared.segments.Seg.{Seg}
use Rattle.zms_units.specs.Segments.{end_of, covers, covered}
use Rattle.zms_units.specs.Apart.{AreApartFrom}
use Rattle.seg_trees.specs.Sets.{IsSegment, AreDisjoint}
use Rattle.seg_trees.specs.Pieces.{IsNextRun}
use Rattle.zms_units.proofs.Bools.{le_or, same_not}
use Rattle.zms_units.proofs.ApartRuns.{apart_next, covered_at}
use Rattle.seg_trees.proofs.Places.{rise, run_fits}

-- so many runs of each list are written, and the next ones begin where these end, or later
pub record IsMerged (first second : List Seg) (taken used : ℕ) (out : List Seg) : Type 0 where
  pub taken_in : taken ≤ length first
  pub used_in : used ≤ length second
  pub end : ℕ
  pub fits : end ≤ 131072
  pub apart : AreApartFrom 0 (end + 1) out
  pub first_from : (d : Seg) → taken < length first → end ≤ (get_or first taken d).start
  pub second_from : (d : Seg) → used < length second → end ≤ (get_or second used d).start
  pub units : (u : ℕ) → covered out u ≡ (covered (take taken first) u || covered (take used second) u)

pub or_comm : (a b : Bool) → (a || b) ≡ (b || a)
or_comm true true = refl
or_comm true false = refl
or_comm false true = refl
or_comm false false = refl

or_turn : (r a b : Bool) → (r || (a || b)) ≡ ((a || r) || b)
or_turn true true b = refl
or_turn true false b = refl
or_turn false true b = refl
or_turn false false b = refl

pub merged_swap : (first second : List Seg) (taken used : ℕ) (out : List Seg) → IsMerged first second taken used out → IsMerged second first used taken out
merged_swap first second taken used out m =
    record {
      taken_in = m.used_in;
      used_in = m.taken_in;
      end = m.end;
      fits = m.fits;
      apart = m.apart;
      first_from = m.second_from;
      second_from = m.first_from;
      units = λ u. m.units u ∙ or_comm (covered (take taken first) u) (covered (take used second) u);
    }

pub disjoint_swap : (set other : ℕ → Bool) → AreDisjoint set other → AreDisjoint other set
disjoint_swap set other f u e = by_case (set u) refl where
  by_case : (b : Bool) → set u ≡ b → set u ≡ false
  by_case true h = absurd (same_not e (f u h))
  by_case false h = h

pub none_merged : (first second : List Seg) → IsMerged first second 0 0 []
none_merged first second =
    record {
      taken_in = omega arith;
      used_in = omega arith;
      end = 0;
      fits = omega arith;
      apart = omega arith;
      first_from = λ d l. omega arith;
      second_from = λ d l. omega arith;
      units = λ u. refl;
    }

pub all_merged : (first second : List Seg) (taken used : ℕ) (out : List Seg) → IsMerged first second taken used out → length first ≤ taken → length second ≤ used
    → AreApartFrom 0 131073 out × ((u : ℕ) → covered out u ≡ (covered first u || covered second u))
all_merged first second taken used out m f s =
    let e : take taken first ≡ first = take_all taken first f in
    let g : take used second ≡ second = take_all used second s in (
      apart_next 0 (m.end + 1) 131073 out (omega (arith, m.fits)) m.apart,
      λ u. m.units u ∙ ap (λ rs. covered rs u || covered (take used second) u) e ∙ ap (λ rs. covered first u || covered rs u) g,
    )

module _ (first second : List Seg) (taken used : ℕ) (out : List Seg) (run : Seg) (apart : AreApartFrom 0 131073 first) (other : AreApartFrom 0 131073 second)
    (disjoint : AreDisjoint (covered first) (covered second)) (m : IsMerged first second taken used out) (next : IsNextRun first taken second used)
    (here : run ≡ get_or first taken run) where
  pub next_segment : IsSegment run
  next_segment = let t = run_fits 131073 first taken run apart next.place here in record { some = t.0; within = omega (arith, t.1) }

  start_is : (d : Seg) → run.start ≡ (get_or first taken d).start
  start_is d = ap (λ (r : Seg). r.start) (here ∙ get_or_default first taken run d next.place)

  pub next_apart : AreApartFrom 0 (run.start + 1) out
  next_apart = apart_next 0 (m.end + 1) (run.start + 1) out (omega (arith, m.first_from run next.place, start_is run)) m.apart

  clear_of : (d : Seg) → used < length second → end_of run ≤ (get_or second used d).start
  clear_of d l = by_place (le_or (end_of run) (get_or second used d).start) where
    by_place : (end_of run ≤ (get_or second used d).start) ⊎ ((get_or second used d).start < end_of run) → end_of run ≤ (get_or second used d).start
    by_place (inl h) = h
    by_place (inr h) =
        let s = get_or second used d in
        let fits = run_fits 131073 second used s other l (get_or_default second used d s l) in
        let ends : end_of run ≡ end_of (get_or first taken d) = ap end_of (here ∙ get_or_default first taken run d next.place) in
        absurd (same_not (covered_at second used d l s.start (omega arith, omega (arith, fits.0)))
        (disjoint s.start (covered_at first taken d next.place s.start (omega (arith, next.sooner l d), omega (arith, ends)))))

  pub merged_next : (longer : List Seg) → AreApartFrom 0 (end_of run + 1) longer → ((u : ℕ) → covered longer u ≡ (covers run u || covered out u)) → IsMerged first second (taken + 1) used longer
  merged_next longer a units =
      record {
        taken_in = omega (arith, next.place);
        used_in = m.used_in;
        end = end_of run;
        fits = omega (arith, next_segment.within);
        apart = a;
        first_from = λ d l. omega (arith, rise 0 131073 first taken (taken + 1) d apart (omega arith) l, ap end_of (here ∙ get_or_default first taken run d next.place));
        second_from = clear_of;
        units = λ u.
            units u ∙ ap (λ b. covers run u || b) (m.units u)
            ∙ or_turn (covers run u) (covered (take taken first) u) (covered (take used second) u)
            ∙ ap (λ b. b || covered (take used second) u) (ap (λ (r : Seg). covered (take taken first) u || covers r u) here ∙ sym (list_any_more (λ s. covers s u) first taken run next.place));
      }
