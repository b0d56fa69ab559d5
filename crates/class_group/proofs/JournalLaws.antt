-- What the closed journals have of the journeys of holders.
use Rattle.std.proofs.Common.{◌≡◌, ℕ, ◌+◌, Bool, true, false, cond, List, [], ◌∷◌, ◌++◌, refl, sym, ap, ◌∙◌, subst, eq-eqb, arith}
use Rattle.std.specs.Prelude.{◌==◌}
use Rattle.std.proofs.lemmas.Option.{slice_get_within}
use Rattle.lane_steps.proofs.Steps.{prefix_trans, follows_notes, follows_order}
use Rattle.turn_cell.specs.Notes.{IsPrefix, notes_at}
use Rattle.turn_cell.specs.Lanes.{Step, Follows, Went, notes_of}
use Rattle.turn_cell.proofs.Lanes.{ready_after, went_both, went_settled}
use Rattle.turn_passes.specs.Parts.{Has}
use Rattle.turn_passes.proofs.Pairs.{one_item, some_at}
use Rattle.turn_passes.proofs.Parts.{has_itself, has_along, has_settled, unused_none}
use Rattle.turn_passes.proofs.Journals.{all_at_most, step_stands}
use Rattle.class_model.specs.Replay.{LaneNote}
use Rattle.class_group.specs.Passes.{ClassKnown, right_of, seen_of, Seated}
use Rattle.class_group.specs.Journey.{ClassStep, steps_at}
use Rattle.class_group.specs.Laws.{NoJourney, JourneysJoin, StepsJoin, StaysSeated, OwnNotesGrow, HaveThemselves, HaveAllAlong, JournalsHaveEachJourney, NotesAreOfHolders, JournalsGoOn, NotesAreSteps, StepsStand, PlacesNeverFall}
use Rattle.class_group.proofs.Lifting.{went_still}
use Rattle.class_group.proofs.Gathering.{know_along, fresh_seated}

-- journeys

pub no_journey : NoJourney
no_journey right t p s = record {
  count = refl;
  each = record { at = λ k x y e f. subst (λ (z : ClassKnown). Went right_of right [] x z) (one_item p k x y e f) (went_still right t p k x s e) };
}

one_more : (b : Bool) (s : Step LaneNote) (l : List (Step LaneNote)) (ss ts : List (Step LaneNote)) → l ≡ ss ++ ts → cond b (s ∷ l) l ≡ cond b (s ∷ ss) ss ++ ts
one_more true s l ss ts e = ap (λ (x : List (Step LaneNote)). s ∷ x) e
one_more false s l ss ts e = e

pub steps_join : StepsJoin
steps_join place [] ts = refl
steps_join place (s ∷ ss) ts = one_more (s.place == place) s.step (steps_at place (ss ++ ts)) (steps_at place ss) (steps_at place ts) (steps_join place ss ts)

pub journeys_join : JourneysJoin
journeys_join right ss ts p q r v w = record {
  count = w.count ∙ v.count;
  each = record {
    at = λ k c e x y.
        let d = some_at q k (omega (arith, v.count, slice_get_within p k c x)) in
        subst (λ (l : List (Step LaneNote)). Went right_of right l c e) (sym (steps_join k ss ts))
        (went_both right_of right (steps_at k ss) (steps_at k ts) c d.0 e (v.each.at k c d.0 x d.1) (w.each.at k d.0 e d.1 y));
  };
}

pub stays_seated : StaysSeated
stays_seated right t ss p q s w = record {
  each = record {
    at = λ k turn d e f.
        let c = some_at p k (omega (arith, w.count, slice_get_within q k d f)) in
        ready_after right_of right turn (steps_at k ss) c.0 d (s.each.at k turn c.0 e c.1) (w.each.at k c.0 d c.1 f);
  };
  know = know_along t p q s.know (sym w.count) (record { at = λ k c d e f. (w.each.at k c d e f).fixed });
}

pub own_notes : OwnNotesGrow
own_notes right ss p q w k lt =
    let c = some_at p k lt in
    let d = some_at q k (omega (arith, w.count)) in
    ap (λ x. notes_at right_of right (seen_of x)) d.1
    ∙ (follows_notes right_of right c.0.seen (steps_at k ss) d.0.seen (w.each.at k c.0 d.0 c.1 d.1).follows
    ∙ ap (λ x. notes_at right_of right (seen_of x) ++ notes_of (steps_at k ss)) (sym c.1))

-- passes

pub have_themselves : HaveThemselves
have_themselves p = record { at = λ k c d e f. subst (λ (z : ClassKnown). Has z c) (one_item p k c d e f) (has_itself c) }

pub have_all_along : HaveAllAlong
have_all_along t p q r first second h l = record {
  at = λ k c e x y.
      let d = some_at q k (omega (arith, first.know.count, second.know.count, slice_get_within p k c x)) in
      has_along c d.0 e (l.at k d.0 e d.1 y) (h.at k c d.0 x d.1);
}

-- the closed journals

pub each_journey : JournalsHaveEachJourney
each_journey right t ss p q last journals fresh journey have closed = λ k j e.
    let seated : Seated right t q = stays_seated right t ss p q (fresh_seated right t p fresh) journey in
    let lt = slice_get_within journals k j e in
    let turn = some_at t.cells k (omega (arith, closed.count)) in
    let c = some_at p k (omega (arith, closed.count, fresh.know.count)) in
    let d = some_at q k (omega (arith, closed.count, seated.know.count)) in
    let l = some_at last k (omega (arith, closed.count, closed.passes)) in
    went_settled right_of right (steps_at k ss) c.0 d.0 j.notes (journey.each.at k c.0 d.0 c.1 d.1) (fresh.each.at k turn.0 c.0 turn.1 c.1).seen
    (has_settled right_of right turn.0 d.0 l.0 j.notes (seated.each.at k turn.0 d.0 turn.1 d.1) (have.at k d.0 l.0 d.1 l.1) (closed.each.at k l.0 j l.1 e).back.ends)

pub of_holders : NotesAreOfHolders
of_holders lanes t rest last journals rests have closed = λ k j e.
    let lt = slice_get_within journals k j e in
    let turn = some_at t.cells k (omega (arith, closed.count)) in
    let c = some_at rest k (omega (arith, closed.count, rests.know.count)) in
    let l = some_at last k (omega (arith, closed.count, closed.passes)) in
    let back = (closed.each.at k l.0 j l.1 e).back in
    all_at_most right_of lanes j.notes back.rights
    (λ r above below. unused_none right_of (lanes + 1) r turn.0 c.0 l.0 j.notes (omega arith) below (rests.each.at k turn.0 c.0 turn.1 c.1) (have.at k c.0 l.0 c.1 l.1) back.ends)

pub go_on : JournalsGoOn
go_on t p last journals idle have closed = λ k j e.
    let lt = slice_get_within journals k j e in
    let c = some_at p k (omega (arith, closed.count, idle.know.count)) in
    let l = some_at last k (omega (arith, closed.count, closed.passes)) in
    subst (λ (x : List LaneNote). IsPrefix x j.notes) (sym (ap seen_of c.1)) (prefix_trans c.0.seen l.0.seen j.notes (have.at k c.0 l.0 c.1 l.1).seen (closed.each.at k l.0 j l.1 e).back.ends.begins)

-- steps

pub notes_steps : NotesAreSteps
notes_steps right ss journals inside = λ k j e. follows_notes right_of right [] (steps_at k ss) j.notes (inside k j e)

abbrev at_place : ℕ → Step LaneNote → ClassStep
at_place k s = record { place = k; step = s }

steps_from : (k : ℕ) (ss ts : List ClassStep) (s : Step LaneNote) → steps_at k (ss ++ (at_place k s ∷ ts)) ≡ steps_at k ss ++ (s ∷ steps_at k ts)
steps_from k ss ts s =
    steps_join k ss (at_place k s ∷ ts)
    ∙ ap (λ (l : List (Step LaneNote)). steps_at k ss ++ l) (ap (λ b. cond b (s ∷ steps_at k ts) (steps_at k ts)) (eq-eqb k k refl))

pub steps_stand : StepsStand
steps_stand right ss ts k s journals j inside e =
    step_stands right_of right (steps_at k ss) s (steps_at k ts) j.notes
    (subst (λ (l : List (Step LaneNote)). Follows right_of right [] l j.notes) (steps_from k ss ts s) (inside k j e))

pub places : PlacesNeverFall
places right ss ts us k r s journals j inside e =
    follows_order right_of right [] (steps_at k ss) r (steps_at k ts) s (steps_at k us) j.notes
    (subst (λ (l : List (Step LaneNote)). Follows right_of right [] l j.notes)
    (steps_from k ss (ts ++ (at_place k s ∷ us)) r ∙ ap (λ (l : List (Step LaneNote)). steps_at k ss ++ (r ∷ l)) (steps_from k ts us s))
    (inside k j e))
