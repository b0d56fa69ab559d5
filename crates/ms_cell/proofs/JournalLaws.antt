-- What the closed journals have of the journeys of holders.
use Rattle.std.proofs.Common.{◌≡◌, ℕ, ◌+◌, ◌≤◌, ◌<◌, Bool, true, false, cond, List, [], ◌∷◌, ◌++◌, length, refl, sym, ap, ◌∙◌, subst, append_assoc, eq-eqb, leb, ⊎_elim, arith}
use Rattle.std.specs.Prelude.{◌==◌}
use Rattle.std.specs.List.{All, fold}
use Rattle.std.specs.Option.{option_to_list}
use Rattle.std.proofs.lemmas.Bool.Decides.{leb_tells}
use Rattle.std.proofs.lemmas.List.{append-nil}
use Rattle.std.proofs.lemmas.List.Sums.{fold-append}
use Rattle.std.proofs.lemmas.List.Elements.{All-nil, All-cons, All-head, All-tail}
use Rattle.std.proofs.lemmas.Option.{slice_get_within}
use Rattle.lane_steps.proofs.Steps.{prefix_trans, follows_prefix, follows_notes, follows_split, follows_within, follows_order}
use Rattle.turn_cell.specs.Notes.{IsPrefix, notes_at}
use Rattle.turn_cell.specs.Known.{Known}
use Rattle.turn_cell.specs.Lanes.{Step, Follows, Went, noting, notes_of, after}
use Rattle.turn_cell.specs.declared.kept.TheConstants.{MAX_RIGHT}
use Rattle.turn_cell.proofs.Lanes.{ready_after, went_none, went_both, went_settled}
use Rattle.turn_passes.specs.Parts.{Has}
use Rattle.turn_passes.proofs.Pairs.{one_item}
use Rattle.turn_passes.proofs.Parts.{has_itself, has_along, has_settled, unused_none}
use Rattle.ms_model.specs.Origin.{Origin}
use Rattle.ms_model.specs.Parts.{right_of, gate_right}
use Rattle.ms_model.specs.Gates.{open_group, synced_group, synced_by, closings, MayPass, IsGateLegal}
use Rattle.ms_model.specs.Units.{collected_by, collected_group, settled_by, settled_group}
use Rattle.ms_model.specs.Legal.{IsLegal}
use Rattle.ms_model.specs.Events.{Event, at_gate, at_metaslab, gate_steps, metaslab_steps}
use Rattle.ms_model.specs.declared.notes.Act.TheVariants.{Settle}
use Rattle.ms_model.specs.declared.notes.Noted.{Noted}
use Rattle.ms_model.specs.declared.notes.GateNote.{GateNote}
use Rattle.ms_model.specs.declared.notes.GateNote.TheVariants.{Closed, Settled}
use Rattle.ms_model.proofs.Events.{gate_steps-append, metaslab_steps-append}
use Rattle.ms_model.proofs.GateGroups.{lane_rises, lane_within, gate_facts, gate_legal_before, gate_legal_last, gate_legal_along, synced_group-push}
use Rattle.ms_model.proofs.Histories.{settled_group-push}
use Rattle.ms_model.proofs.Lists.{by_snoc}
use Rattle.ms_model.proofs.Rights.{parts, gate_parts}
use Rattle.ms_core.specs.State.{origin_of}
use Rattle.ms_core.specs.declared.kept.Standing.{Standing}
use Rattle.ms_cell.specs.Turns.{origin_from}
use Rattle.ms_cell.specs.Passes.{Passes, Seated, fixed_of, seen_of, origin_in, seen_in}
use Rattle.ms_cell.specs.Journey.{Journey}
use Rattle.ms_cell.specs.Laws.{NoJourney, JourneysJoin, StepsJoin, StaysSeated, OwnNotesGrow, KeeperKnowsGroups, KeeperKnowsGate, HaveThemselves, HaveAllAlong, JournalsHaveEachJourney, NotesAreOfHolders, JournalsGoOn, LanePartsAreSteps, KeeperPartsAreSteps, StepsStand, GateStepsStand, PlacesNeverFall, GatePlacesNeverFall, HoldsAreWithin, HoldsNeverFall, SettlesStand, GateSettlesStand}
use Rattle.ms_cell.proofs.Lifting.{some_at, went_still}
use Rattle.ms_cell.proofs.Gathering.{know_along, fresh_seated}
use Rattle.ms_cell.proofs.Groups.{settled_grows, settled_notes, collected_notes}
use Rattle.ms_cell.proofs.Gating.{synced_notes}

-- journeys

pub no_journey : NoJourney
no_journey right t p s = record {
  gate = went_none gate_right right t.gate p.gate s.gate;
  count = refl;
  each = record {
    at = λ k x y e f. subst (λ (z : Known Noted Standing). Went right_of right [] x z) (one_item p.metaslabs k x y e f) (went_still right t p k x s e);
  };
}

pub steps_join : StepsJoin
steps_join es fs = (gate_steps-append es fs, λ k. metaslab_steps-append k es fs)

pub journeys_join : JourneysJoin
journeys_join right es fs p q r v w = record {
  gate = subst (λ (l : List (Step GateNote)). Went gate_right right l p.gate r.gate) (sym (gate_steps-append es fs)) (went_both gate_right right (gate_steps es) (gate_steps fs) p.gate q.gate r.gate v.gate w.gate);
  count = w.count ∙ v.count;
  each = record {
    at = λ k c e x y.
        let d = some_at q.metaslabs k (omega (arith, v.count, slice_get_within p.metaslabs k c x)) in
        subst (λ (l : List (Step Noted)). Went right_of right l c e) (sym (metaslab_steps-append k es fs))
        (went_both right_of right (metaslab_steps k es) (metaslab_steps k fs) c d.0 e (v.each.at k c d.0 x d.1) (w.each.at k d.0 e d.1 y));
  };
}

pub stays_seated : StaysSeated
stays_seated right t es p q s w = record {
  gate = ready_after gate_right right t.gate (gate_steps es) p.gate q.gate s.gate w.gate;
  each = record {
    at = λ k turn d e f.
        let c = some_at p.metaslabs k (omega (arith, w.count, slice_get_within q.metaslabs k d f)) in
        ready_after right_of right turn (metaslab_steps k es) c.0 d (s.each.at k turn c.0 e c.1) (w.each.at k c.0 d c.1 f);
  };
  know = know_along t p q s.know w.gate.fixed (sym w.count) (record { at = λ k c d e f. (w.each.at k c d e f).fixed });
}

-- what a holder knows of its own

pub own_notes : OwnNotesGrow
own_notes right es p q w = (
  follows_notes gate_right right p.gate.seen (gate_steps es) q.gate.seen w.gate.follows,
  λ k lt.
      let c = some_at p.metaslabs k lt in
      let d = some_at q.metaslabs k (omega (arith, w.count)) in
      ap (λ x. notes_at right_of right (seen_of x)) d.1
      ∙ (follows_notes right_of right c.0.seen (metaslab_steps k es) d.0.seen (w.each.at k c.0 d.0 c.1 d.1).follows
      ∙ ap (λ x. notes_at right_of right (seen_of x) ++ notes_of (metaslab_steps k es)) (sym c.1)),
)

origin_stays : (right : ℕ) (es : List Event) (p q : Passes) (k : ℕ) → Journey right es p q → k < length p.metaslabs → origin_in q k ≡ origin_in p k
origin_stays right es p q k w lt =
    let c = some_at p.metaslabs k lt in
    let d = some_at q.metaslabs k (omega (arith, w.count)) in
    ap (λ x. origin_from (fixed_of x)) d.1 ∙ (ap origin_from (w.each.at k c.0 d.0 c.1 d.1).fixed ∙ ap (λ x. origin_from (fixed_of x)) (sym c.1))

-- what is told by the keeper's notes alone goes on by those of its steps
told_on : {N : Type 0} (f : ℕ → N → ℕ) (x : ℕ) (mine : List N) (more : List N) (all : List N) (before : ℕ) → all ≡ mine ++ more → fold f x mine ≡ before → fold f x all ≡ fold f before more
told_on f x mine more all before e told = ap (fold f x) e ∙ (fold-append f x mine more ∙ ap (λ y. fold f y more) told)

pub keeper_groups : KeeperKnowsGroups
keeper_groups es p q k w lt =
    let o = origin_in p k in
    let same = origin_stays 0 es p q k w lt in
    let grows = (own_notes 0 es p q w).1 k lt in
    let more = notes_of (metaslab_steps k es) in (
      ap (λ (x : Origin). collected_group x (seen_in q k)) same
          ∙ (sym (collected_notes o (seen_in q k))
          ∙ told_on (λ x (n : Noted). collected_by x n.act) o.opened (notes_at right_of 0 (seen_in p k)) more (notes_at right_of 0 (seen_in q k)) (collected_group o (seen_in p k)) grows (collected_notes o (seen_in p k))),
      ap (λ (x : Origin). settled_group x (seen_in q k)) same
          ∙ (sym (settled_notes o (seen_in q k))
          ∙ told_on (λ x (n : Noted). settled_by x n.act) o.opened (notes_at right_of 0 (seen_in p k)) more (notes_at right_of 0 (seen_in q k)) (settled_group o (seen_in p k)) grows (settled_notes o (seen_in p k))),
    )

pub keeper_gate : KeeperKnowsGate
keeper_gate opened es p q w =
    sym (synced_notes opened q.gate.seen)
    ∙ told_on synced_by opened (notes_at gate_right 0 p.gate.seen) (notes_of (gate_steps es)) (notes_at gate_right 0 q.gate.seen) (synced_group opened p.gate.seen) (own_notes 0 es p q w).0 (synced_notes opened p.gate.seen)

-- passes

pub have_themselves : HaveThemselves
have_themselves p = record {
  gate = has_itself p.gate;
  each = record { at = λ k c d e f. subst (λ (z : Known Noted Standing). Has z c) (one_item p.metaslabs k c d e f) (has_itself c) };
}

pub have_all_along : HaveAllAlong
have_all_along t p q r first second h l = record {
  gate = has_along p.gate q.gate r.gate l.gate h.gate;
  each = record {
    at = λ k c e x y.
        let d = some_at q.metaslabs k (omega (arith, first.know.count, second.know.count, slice_get_within p.metaslabs k c x)) in
        has_along c d.0 e (l.each.at k d.0 e d.1 y) (h.each.at k c d.0 x d.1);
  };
}

-- the closed journals

pub each_journey : JournalsHaveEachJourney
each_journey right t events p q last g metaslabs fresh journey have closed =
    let seated : Seated right t q = stays_seated right t events p q (fresh_seated right t p fresh) journey in
    record {
      gate = went_settled gate_right right (gate_steps events) p.gate q.gate g.notes journey.gate fresh.gate.seen (has_settled gate_right right t.gate q.gate last.gate g.notes seated.gate have.gate closed.gate_ends);
      each = λ k m e.
          let lt = slice_get_within metaslabs k m e in
          let turn = some_at t.metaslabs k (omega (arith, closed.count)) in
          let c = some_at p.metaslabs k (omega (arith, closed.count, fresh.know.count)) in
          let d = some_at q.metaslabs k (omega (arith, closed.count, seated.know.count)) in
          let l = some_at last.metaslabs k (omega (arith, closed.count, closed.passes)) in
          went_settled right_of right (metaslab_steps k events) c.0 d.0 m.notes (journey.each.at k c.0 d.0 c.1 d.1) (fresh.each.at k turn.0 c.0 turn.1 c.1).seen
          (has_settled right_of right turn.0 d.0 l.0 m.notes (seated.each.at k turn.0 d.0 turn.1 d.1) (have.each.at k d.0 l.0 d.1 l.1) (closed.ends.at k l.0 m l.1 e));
    }

module _ {N : Type 0} (right : N → ℕ) where
  tail_none : (b : Bool) (n : N) (notes : List N) → cond b (n ∷ notes) notes ≡ [] → notes ≡ []
  tail_none true n notes e = absurd (cc)
  tail_none false n notes e = e

  head_some : (n : N) (j : List N) → notes_at right (right n) (n ∷ j) ≡ [] → ⊥
  head_some n j e =
      let there : n ∷ notes_at right (right n) j ≡ [] = subst (λ (b : Bool). cond b (n ∷ notes_at right (right n) j) (notes_at right (right n) j) ≡ []) (eq-eqb (right n) (right n) refl) e in
      absurd (cc)

  at_most : (most : ℕ) (n : N) (j : List N) → right n ≤ MAX_RIGHT → ((r : ℕ) → most < r → r ≤ MAX_RIGHT → notes_at right r (n ∷ j) ≡ []) → right n ≤ most
  at_most most n j low none =
      ⊎_elim
      (λ (t : (leb (right n) most ≡ true) × (right n ≤ most)). t.1)
      (λ (t : (leb (right n) most ≡ false) × (most < right n)). absurd (head_some n j (none (right n) t.1 low)))
      (leb_tells (right n) most)

  -- where no note needs a right between, none needs one above
  all_at_most : (most : ℕ) (j : List N) → All (λ n. right n ≤ MAX_RIGHT) j → ((r : ℕ) → most < r → r ≤ MAX_RIGHT → notes_at right r j ≡ []) → All (λ n. right n ≤ most) j
  all_at_most most [] low none = All-nil (λ n. right n ≤ most)
  all_at_most most (n ∷ j) low none =
      All-cons (λ n. right n ≤ most) n j
      (at_most most n j (All-head (λ n. right n ≤ MAX_RIGHT) n j low) none)
      (all_at_most most j (All-tail (λ n. right n ≤ MAX_RIGHT) n j low) (λ r above below. tail_none (r == right n) n (notes_at right r j) (none r above below)))

pub of_holders : NotesAreOfHolders
of_holders lanes t rest last g metaslabs rests have closed = record {
  gate =
      all_at_most gate_right lanes g.notes closed.gate_rights
      (λ r above low. unused_none gate_right (lanes + 1) r t.gate rest.gate last.gate g.notes (omega arith) low rests.gate have.gate closed.gate_ends);
  each = λ k m e.
      let lt = slice_get_within metaslabs k m e in
      let turn = some_at t.metaslabs k (omega (arith, closed.count)) in
      let c = some_at rest.metaslabs k (omega (arith, closed.count, rests.know.count)) in
      let l = some_at last.metaslabs k (omega (arith, closed.count, closed.passes)) in
      all_at_most right_of lanes m.notes (closed.rights k m e)
      (λ r above low.
      unused_none right_of (lanes + 1) r turn.0 c.0 l.0 m.notes (omega arith) low (rests.each.at k turn.0 c.0 turn.1 c.1) (have.each.at k c.0 l.0 c.1 l.1) (closed.ends.at k l.0 m l.1 e));
}

pub go_on : JournalsGoOn
go_on t p last g metaslabs idle have closed = record {
  gate = prefix_trans p.gate.seen last.gate.seen g.notes have.gate.seen closed.gate_ends.begins;
  each = λ k m e.
      let lt = slice_get_within metaslabs k m e in
      let c = some_at p.metaslabs k (omega (arith, closed.count, idle.know.count)) in
      let l = some_at last.metaslabs k (omega (arith, closed.count, closed.passes)) in
      subst (λ (h : List Noted). IsPrefix h m.notes) (sym (ap seen_of c.1))
      (prefix_trans c.0.seen l.0.seen m.notes (have.each.at k c.0 l.0 c.1 l.1).seen (closed.ends.at k l.0 m l.1 e).begins);
}

-- steps

pub lane_parts : LanePartsAreSteps
lane_parts lane events g metaslabs some inside = (
  sym ((gate_parts g.notes).0 lane some) ∙ follows_notes gate_right lane [] (gate_steps events) g.notes inside.gate,
  λ k m e. sym ((parts m.notes).0 lane some) ∙ follows_notes right_of lane [] (metaslab_steps k events) m.notes (inside.each k m e),
)

pub keeper_parts : KeeperPartsAreSteps
keeper_parts t last events g metaslabs closed inside = (
  sym ((gate_parts g.notes).1 closed.gate_lanes) ∙ follows_notes gate_right 0 [] (gate_steps events) g.notes inside.gate,
  λ k m e. sym ((parts m.notes).1 (closed.lawful k m e).lanes) ∙ follows_notes right_of 0 [] (metaslab_steps k events) m.notes (inside.each k m e),
)

-- the steps in one journal of a list of events that comes apart at an event there

step_first : (k : ℕ) (s : Step Noted) (fs : List Event) → metaslab_steps k (at_metaslab k s ∷ fs) ≡ s ∷ metaslab_steps k fs
step_first k s fs = ap (λ b. cond b (s ∷ metaslab_steps k fs) (metaslab_steps k fs)) (eq-eqb k k refl)

steps_from : (k : ℕ) (es fs : List Event) (s : Step Noted) → metaslab_steps k (es ++ (at_metaslab k s ∷ fs)) ≡ metaslab_steps k es ++ (s ∷ metaslab_steps k fs)
steps_from k es fs s = metaslab_steps-append k es (at_metaslab k s ∷ fs) ∙ ap (λ (l : List (Step Noted)). metaslab_steps k es ++ l) (step_first k s fs)

steps_between : (k : ℕ) (es fs gs : List Event) (r s : Step Noted) → metaslab_steps k (es ++ (at_metaslab k r ∷ (fs ++ (at_metaslab k s ∷ gs))))
    ≡ metaslab_steps k es ++ (r ∷ (metaslab_steps k fs ++ (s ∷ metaslab_steps k gs)))
steps_between k es fs gs r s =
    steps_from k es (fs ++ (at_metaslab k s ∷ gs)) r
    ∙ ap (λ (l : List (Step Noted)). metaslab_steps k es ++ (r ∷ l)) (steps_from k fs gs s)

gate_steps_between : (es fs gs : List Event) (r s : Step GateNote) → gate_steps (es ++ (at_gate r ∷ (fs ++ (at_gate s ∷ gs)))) ≡ gate_steps es ++ (r ∷ (gate_steps fs ++ (s ∷ gate_steps gs)))
gate_steps_between es fs gs r s =
    gate_steps-append es (at_gate r ∷ (fs ++ (at_gate s ∷ gs)))
    ∙ ap (λ (l : List (Step GateNote)). gate_steps es ++ (r ∷ l)) (gate_steps-append fs (at_gate s ∷ gs))

module _ {N : Type 0} (right : N → ℕ) (lane : ℕ) where
  stands : (ss : List (Step N)) (s : Step N) (ts : List (Step N)) (j : List N) → Follows right lane [] (ss ++ (s ∷ ts)) j → IsPrefix (s.before ++ option_to_list s.note) j
  stands ss s ts j f = let late = (follows_split right lane [] ss s ts j f).1 in follows_prefix right lane (after s) ts j late.1.1

pub steps_stand : StepsStand
steps_stand right es fs k s g metaslabs m inside e =
    stands right_of right (metaslab_steps k es) s (metaslab_steps k fs) m.notes
    (subst (λ (l : List (Step Noted)). Follows right_of right [] l m.notes) (steps_from k es fs s) (inside.each k m e))

pub gate_steps_stand : GateStepsStand
gate_steps_stand right es fs s g metaslabs inside =
    stands gate_right right (gate_steps es) s (gate_steps fs) g.notes
    (subst (λ (l : List (Step GateNote)). Follows gate_right right [] l g.notes) (gate_steps-append es (at_gate s ∷ fs)) inside.gate)

pub places : PlacesNeverFall
places right es fs gs k r s g metaslabs m inside e =
    follows_order right_of right [] (metaslab_steps k es) r (metaslab_steps k fs) s (metaslab_steps k gs) m.notes
    (subst (λ (l : List (Step Noted)). Follows right_of right [] l m.notes) (steps_between k es fs gs r s) (inside.each k m e))

pub gate_places : GatePlacesNeverFall
gate_places right es fs gs r s g metaslabs inside =
    follows_order gate_right right [] (gate_steps es) r (gate_steps fs) s (gate_steps gs) g.notes
    (subst (λ (l : List (Step GateNote)). Follows gate_right right [] l g.notes) (gate_steps_between es fs gs r s) inside.gate)

-- holds

pub holds_within : HoldsAreWithin
holds_within right es fs s g metaslabs legal inside =
    let follows : Follows gate_right right [] (gate_steps es ++ (s ∷ gate_steps fs)) g.notes =
    subst (λ (l : List (Step GateNote)). Follows gate_right right [] l g.notes) (gate_steps-append es (at_gate s ∷ fs)) inside.gate in
    let begins : IsPrefix s.before g.notes = follows_within gate_right right [] (gate_steps es) s (gate_steps fs) g.notes follows in
    let counts : open_group g.opened s.before ≡ g.opened + 1 + closings s.before =
    (gate_facts g.opened s.before (gate_legal_along g.opened s.before begins.0 g.notes begins.1 legal)).counts in
    record {
      counts = counts;
      within =
          omega (arith, counts, (gate_facts g.opened g.notes legal).counts, lane_within g.opened right (gate_steps es) s (gate_steps fs) g.notes legal follows);
    }

pub holds_rise : HoldsNeverFall
holds_rise right es fs gs r s g metaslabs legal inside =
    (lane_rises g.opened right (gate_steps es) r (gate_steps fs) s (gate_steps gs) g.notes legal
    (subst (λ (l : List (Step GateNote)). Follows gate_right right [] l g.notes) (gate_steps_between es fs gs r s) inside.gate)).0

-- what was settled

pub settles_stand : SettlesStand
settles_stand es fs k h lane group t last g metaslabs m closed inside e =
    let note : Noted = record { lane = lane; act = Settle group } in
    let begins : IsPrefix (h ++ note ∷ []) m.notes = steps_stand 0 es fs k (noting h note) g metaslabs m inside e in
    let whole : IsLegal (origin_of m) ((h ++ note ∷ []) ++ begins.0) = subst (IsLegal (origin_of m)) (sym begins.1) (closed.lawful k m e).legal in
    omega (arith, settled_grows (origin_of m) (h ++ note ∷ []) begins.0 whole, settled_group-push (origin_of m) h note, ap (settled_group (origin_of m)) begins.1)

synced_by_grows : (opened : ℕ) (h : List GateNote) (note : GateNote) → MayPass opened h note → synced_group opened h ≤ synced_by (synced_group opened h) note
synced_by_grows opened h (Closed lane group) may = omega arith
synced_by_grows opened h (Settled group) may = omega (arith, may.0)

synced_grows : (opened : ℕ) (h rest : List GateNote) → IsGateLegal opened (h ++ rest) → synced_group opened h ≤ synced_group opened (h ++ rest)
synced_grows opened h rest legal =
    by_snoc (λ l. IsGateLegal opened (h ++ l) → synced_group opened h ≤ synced_group opened (h ++ l))
    (λ _. omega (arith, ap (synced_group opened) (append-nil h)))
    (λ l n before both.
    let longer : h ++ (l ++ n ∷ []) ≡ (h ++ l) ++ n ∷ [] = sym (append_assoc h l (n ∷ [])) in
    let whole : IsGateLegal opened ((h ++ l) ++ n ∷ []) = subst (IsGateLegal opened) longer both in
    let first : synced_group opened h ≤ synced_group opened (h ++ l) = before (gate_legal_before opened (h ++ l) (n ∷ []) whole) in
    omega (arith, first, synced_by_grows opened (h ++ l) n (gate_legal_last opened (h ++ l) n [] whole), synced_group-push opened (h ++ l) n, ap (synced_group opened) longer))
    rest legal

pub gate_settles_stand : GateSettlesStand
gate_settles_stand es fs h group g metaslabs legal inside =
    let begins : IsPrefix (h ++ Settled group ∷ []) g.notes = gate_steps_stand 0 es fs (noting h (Settled group)) g metaslabs inside in
    let whole : IsGateLegal g.opened ((h ++ Settled group ∷ []) ++ begins.0) = subst (IsGateLegal g.opened) (sym begins.1) legal in
    omega (arith, synced_grows g.opened (h ++ Settled group ∷ []) begins.0 whole, synced_group-push g.opened h (Settled group), ap (synced_group g.opened) begins.1)
