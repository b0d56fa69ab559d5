-- From one pass to all: what happens at the class of one place happens at no other.
use Rattle.std.proofs.Common.{◌≡◌, ◌≢◌, ℕ, ◌<◌, cond, List, [], ◌∷◌, length, get_or, set, sym, ap, ◌∙◌, subst, arith, eq-eqb, refl, Option, Some}
use Rattle.std.specs.Prelude.{slice_get}
use Rattle.std.proofs.Math.ListN.{length-set}
use Rattle.std.proofs.lemmas.Bool.{ne_eqb}
use Rattle.std.proofs.lemmas.Option.{slice_get_within}
use Rattle.turn_cell.specs.Known.{TableId}
use Rattle.turn_cell.specs.Lanes.{Step, Ready, Went}
use Rattle.turn_cell.proofs.Lanes.{went_none}
use Rattle.turn_passes.proofs.Pairs.{each_set, one_item, read_at, some_at, get_set_there}
use Rattle.zms_units.specs.declared.places.Class.{Class}
use Rattle.class_model.specs.Replay.{LaneNote}
use Rattle.class_model.specs.declared.origin.ClassOrigin.{ClassOrigin}
use Rattle.class_core.specs.Classes.{ClassState, IsOriginOf}
use Rattle.class_group.specs.Turns.{ClassTurns, place_of, origin_from}
use Rattle.class_group.specs.Passes.{ClassKnown, KnowsAt, Seated, right_of, fixed_of, seen_of, seen_in}
use Rattle.class_group.specs.Journey.{ClassStep, steps_at, Journey, Turned, TurnedOne}

pub went_still : (right : ℕ) (t : ClassTurns) (p : List ClassKnown) (k : ℕ) (c : ClassKnown) → Seated right t p → slice_get p k ≡ Some c → Went right_of right [] c c
went_still right t p k c s f =
    let turn = some_at t.cells k (omega (arith, s.know.count, slice_get_within p k c f)) in
    went_none right_of right turn.0 c (s.each.at k turn.0 c turn.1 f)

abbrev one_step : ℕ → Step LaneNote → List ClassStep
one_step k s = record { place = k; step = s } ∷ []

step_there : (k : ℕ) (s : Step LaneNote) → steps_at k (one_step k s) ≡ s ∷ []
step_there k s = ap (λ b. cond b (s ∷ []) []) (eq-eqb k k refl)

step_elsewhere : (k j : ℕ) (s : Step LaneNote) → j ≢ k → steps_at j (one_step k s) ≡ []
step_elsewhere k j s ne = ap (λ b. cond b (s ∷ []) []) (ne_eqb k j (λ e. ne (sym e)))

-- steps at one class alone
lift : (right : ℕ) (steps : List ClassStep) (t : ClassTurns) (p : List ClassKnown) (k : ℕ) (c d : ClassKnown) → Seated right t p → slice_get p k ≡ Some c
    → ((j : ℕ) → j ≢ k → steps_at j steps ≡ []) → Went right_of right (steps_at k steps) c d → Journey right steps p (set p k d)
lift right steps t p k c d s there elsewhere went = record {
  count = length-set p k d;
  each =
      each_set (λ j x y. (x ≡ y) × (slice_get p j ≡ Some x)) (λ j x y. Went right_of right (steps_at j steps) x y) p p k d
      (record { at = λ j x y e f. (one_item p j x y e f, e) })
      (λ j x y ne same.
      subst (λ (z : ClassKnown). Went right_of right (steps_at j steps) x z) same.0
      (subst (λ (l : List (Step LaneNote)). Went right_of right l x x) (sym (elsewhere j ne)) (went_still right t p j x s same.1)))
      (λ x e. subst (λ (z : ClassKnown). Went right_of right (steps_at k steps) z d) (one_item p k c x there e) went);
}

turned_at : (right : ℕ) (Answer : ClassState → Option LaneNote → Type 0) (t : ClassTurns) (p : List ClassKnown) (k : ℕ) (c d : ClassKnown) → Seated right t p → slice_get p k ≡ Some c
    → TurnedOne right Answer c d → Turned right k Answer p (set p k d)
turned_at right Answer t p k c d s there one =
    let step : Step LaneNote = record { before = one.before; note = one.note } in
    record {
      before = one.before;
      note = one.note;
      journey =
          lift right (one_step k step) t p k c d s there (λ j ne. step_elsewhere k j step ne)
          (subst (λ (l : List (Step LaneNote)). Went right_of right l c d) (sym (step_there k step)) one.went);
      answer = subst (λ (f : Option ClassOrigin). Answer (record { origin = origin_from f; notes = one.before }) one.note) (sym (ap fixed_of there)) one.answer;
    }

-- what the calls at a class meet: the classes and the passes are open, and a place was read

module _ (right : ℕ) (t : ClassTurns) (turns : List TableId) (m p : List ClassKnown) (at k : ℕ) (c : ClassKnown) (board : turns ≡ t.cells) (opens : m ≡ p) (place : at ≡ k) (s : Seated right t p)
    (lt : at < length t.cells) (read : c ≡ get_or m at c) where
  there : slice_get m at ≡ Some c
  there = read_at m at c (omega (arith, lt, s.know.count, ap length opens)) read

  found : slice_get p at ≡ Some c
  found = subst (λ (x : List ClassKnown). slice_get x at ≡ Some c) opens there

  pub turned_in : (Answer : ClassState → Option LaneNote → Type 0) (d : ClassKnown) → TurnedOne right Answer c d → Turned right k Answer p (set m at d)
  turned_in Answer d one =
      subst (λ (n : ℕ). Turned right n Answer p (set m at d)) place
      (subst (λ (x : List ClassKnown). Turned right at Answer p (set x at d)) (sym opens) (turned_at right Answer t p at c d s found one))

  pub ready_in : (turn : TableId) → turn ≡ get_or turns at turn → Ready right_of right turn c
  ready_in turn is = s.each.at at turn c (subst (λ (x : List TableId). slice_get x at ≡ Some turn) board (read_at turns at turn (omega (arith, lt, ap length board)) is)) found

  pub told_in : (d : ClassKnown) → Went right_of right [] c d → Journey right [] p (set m at d)
  told_in d went = subst (λ (x : List ClassKnown). Journey right [] p (set x at d)) (sym opens) (lift right [] t p at c d s found (λ j ne. refl) went)

  pub seen_read : seen_in p k ≡ c.seen
  seen_read = subst (λ (n : ℕ). seen_in p n ≡ c.seen) place (ap seen_of found)

  pub seen_set : (d : ClassKnown) → seen_in (set m at d) k ≡ d.seen
  seen_set d = subst (λ (n : ℕ). seen_in (set m at d) n ≡ d.seen) place (ap seen_of (get_set_there m at d (slice_get_within m at c there)))

  -- the pass knows the class of its place
  pub origin_at : (class : Class) → place_of class ≡ k → IsOriginOf t.vdevs class t.weights (origin_from c.fixed)
  origin_at class is =
      let knows : KnowsAt t.vdevs t.weights at c = s.know.each at c found in
      subst (λ (f : Option ClassOrigin). IsOriginOf t.vdevs class t.weights (origin_from f)) (sym knows.is) (knows.stands class (is ∙ sym place))
