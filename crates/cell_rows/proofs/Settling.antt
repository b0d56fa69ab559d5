-- What the keeper knows of the groups after each of its turns.
use Rattle.std.proofs.Common.{◌≡◌, ◌≢◌, ℕ, ◌+◌, ◌≤◌, ◌<◌, List, [], ◌∷◌, ◌++◌, length, sym, ap, ◌∙◌, subst, arith, ⊎_elim, inl, inr, ◌⊎◌, Option, Some, None, Result, Ok, Err}
use Rattle.std.specs.List.{fold}
use Rattle.std.specs.Option.{option_to_list}
use Rattle.zms_units.specs.declared.segments.Group.{Group}
use Rattle.zms_units.specs.declared.segments.Seg.{Seg}
use Rattle.zms_units.proofs.Bools.{le_or}
use Rattle.lane_steps.proofs.Steps.{follows_prefix, follows_within}
use Rattle.turn_cell.specs.Notes.{IsPrefix}
use Rattle.turn_cell.specs.Lanes.{Step, notes_of}
use Rattle.ms_model.specs.Origin.{Origin}
use Rattle.ms_model.specs.Parts.{gate_right}
use Rattle.ms_model.specs.Gates.{open_group, synced_group, synced_by}
use Rattle.ms_model.specs.Units.{collected_by, collected_group, settled_by, settled_group}
use Rattle.ms_model.specs.Events.{Event, at_gate, at_metaslab}
use Rattle.ms_model.specs.declared.notes.Act.TheVariants.{Load}
use Rattle.ms_model.specs.declared.notes.Noted.{Noted}
use Rattle.ms_model.specs.declared.notes.GateNote.{GateNote}
use Rattle.ms_cell.specs.Turns.{Turns, origin_from}
use Rattle.ms_cell.specs.Passes.{Passes, Seated, AreFresh, fixed_of, seen_of, origin_in, seen_in}
use Rattle.ms_cell.specs.Journey.{Turned, TurnedGate}
use Rattle.ms_cell.specs.Answers.{CollectAnswer, SettleAnswer, LoadAnswer}
use Rattle.ms_cell.specs.GateAnswers.{SettledAnswer, IsClosedBefore}
use Rattle.ms_cell.proofs.Lifting.{some_at, step_there, step_elsewhere}
use Rattle.ms_cell.proofs.JournalLaws.{keeper_groups, keeper_gate}
use Rattle.cell_rows.specs.Keeper.{IsSettledTo, HasSettled}

same_or : (a b : ℕ) → (a ≡ b) ⊎ (a ≢ b)
same_or a b =
    ⊎_elim
    (λ (le : a ≤ b). ⊎_elim (λ (ge : b ≤ a). inl (omega arith)) (λ (lt : a < b). inr (λ e. absurd (omega arith))) (le_or b a))
    (λ (gt : b < a). inr (λ e. absurd (omega arith)))
    (le_or a b)

module _ (t : Turns) (p q : Passes) (s : Seated 0 t p) (number : ℕ) (Answer : Origin → List Noted → Option Noted → Type 0) (w : Turned 0 number Answer p q) where
  abbrev step : Step Noted
  step = record { before = w.before; note = w.note }

  abbrev events : List Event
  events = at_metaslab number (record { before = w.before; note = w.note }) ∷ []

  pub gate_stays : synced_group t.opened q.gate.seen ≡ synced_group t.opened p.gate.seen
  gate_stays = keeper_gate t.opened events p q w.journey

  pub gate_later : IsPrefix p.gate.seen q.gate.seen
  gate_later = follows_prefix gate_right 0 p.gate.seen [] q.gate.seen w.journey.gate.follows

  pub elsewhere : (other group : ℕ) → other ≢ number → other < length t.metaslabs → IsSettledTo group other p → IsSettledTo group other q
  elsewhere other group ne lt has =
      let told = keeper_groups events p q other w.journey (omega (arith, s.know.count)) in
      let none = step_elsewhere number other step ne in record {
        collected = told.0 ∙ (ap (λ (l : List (Step Noted)). fold (λ x (n : Noted). collected_by x n.act) (collected_group (origin_in p other) (seen_in p other)) (notes_of l)) none ∙ has.collected);
        settled = told.1 ∙ (ap (λ (l : List (Step Noted)). fold (λ x (n : Noted). settled_by x n.act) (settled_group (origin_in p other) (seen_in p other)) (notes_of l)) none ∙ has.settled);
      }

  module _ (lt : number < length t.metaslabs) (noted : Option Noted) (is : w.note ≡ noted) where
    pub collected_there : collected_group (origin_in q number) (seen_in q number) ≡ fold (λ x (n : Noted). collected_by x n.act) (collected_group (origin_in p number) (seen_in p number)) (option_to_list noted ++ [])
    collected_there =
        let told = keeper_groups events p q number w.journey (omega (arith, s.know.count)) in
        told.0 ∙ (ap (λ (l : List (Step Noted)). fold (λ x (n : Noted). collected_by x n.act) (collected_group (origin_in p number) (seen_in p number)) (notes_of l)) (step_there number step)
        ∙ ap (λ (o : Option Noted). fold (λ x (n : Noted). collected_by x n.act) (collected_group (origin_in p number) (seen_in p number)) (option_to_list o ++ [])) is)

    pub settled_there : settled_group (origin_in q number) (seen_in q number) ≡ fold (λ x (n : Noted). settled_by x n.act) (settled_group (origin_in p number) (seen_in p number)) (option_to_list noted ++ [])
    settled_there =
        let told = keeper_groups events p q number w.journey (omega (arith, s.know.count)) in
        told.1 ∙ (ap (λ (l : List (Step Noted)). fold (λ x (n : Noted). settled_by x n.act) (settled_group (origin_in p number) (seen_in p number)) (notes_of l)) (step_there number step)
        ∙ ap (λ (o : Option Noted). fold (λ x (n : Noted). settled_by x n.act) (settled_group (origin_in p number) (seen_in p number)) (option_to_list o ++ [])) is)

-- a turn at the gate changes no metaslab
module _ (t : Turns) (p q : Passes) (s : Seated 0 t p) (Answer : List GateNote → Option GateNote → Type 0) (w : TurnedGate 0 Answer p q) where
  abbrev gate_event : List Event
  gate_event = at_gate (record { before = w.before; note = w.note }) ∷ []

  pub each_stays : (other group : ℕ) → other < length t.metaslabs → IsSettledTo group other p → IsSettledTo group other q
  each_stays other group lt has =
      let told = keeper_groups gate_event p q other w.journey (omega (arith, s.know.count)) in
      record { collected = told.0 ∙ has.collected; settled = told.1 ∙ has.settled }

  pub gate_after : (noted : Option GateNote) → w.note ≡ noted → synced_group t.opened q.gate.seen ≡ fold synced_by (synced_group t.opened p.gate.seen) (option_to_list noted ++ [])
  gate_after noted is =
      keeper_gate t.opened gate_event p q w.journey
      ∙ ap (λ (o : Option GateNote). fold synced_by (synced_group t.opened p.gate.seen) (option_to_list o ++ [])) is

  pub looked : (group : ℕ) → w.note ≡ None → HasSettled t group 0 p → HasSettled t group 0 q
  looked group quiet has = record {
    gate = gate_after None quiet ∙ has.gate;
    before = λ number lt. absurd (omega arith);
    others = λ number le lt. each_stays number group lt (has.others number le lt);
  }

  pub found_closed : (group : ℕ) → group < open_group t.opened w.before → IsClosedBefore t.opened group q.gate.seen
  found_closed group lt = record {
    before = w.before;
    begins = follows_within gate_right 0 p.gate.seen [] (record { before = w.before; note = w.note }) [] q.gate.seen w.journey.gate.follows;
    closed = lt;
  }

pub settled_gate : (t : Turns) (p q : Passes) (group : Group) (settled : ℕ) → Seated 0 t p → group.0 ≡ settled + 1 → HasSettled t settled (length t.metaslabs) p → TurnedGate 0 (SettledAnswer t.opened group) p q
    → HasSettled t (settled + 1) 0 q
settled_gate t p q group settled s next has w = record {
  gate = gate_after t p q s _ w _ w.answer.0 ∙ next;
  before = λ number lt. absurd (omega arith);
  others = λ number le lt. each_stays t p q s _ w number (settled + 1) lt (has.before number lt);
}

load_notes : {E : Type 0} (lane : ℕ) (held : List Seg) (result : Result (Option ℕ) E) (o : Origin) (h : List Noted) (noted : Option Noted) → LoadAnswer lane held result o h noted
    → (noted ≡ None) ⊎ (noted ≡ Some (record { lane = lane; act = Load }))
load_notes lane held (Ok None) o h noted a = ⊎_elim (λ t. inl t.1) (λ t. inr t.1) a.notes
load_notes lane held (Ok (Some unit)) o h noted a = inl a.0
load_notes lane held (Err _) o h noted a = inl a

-- a load leaves the groups
pub loaded_one : {E : Type 0} (t : Turns) (p q : Passes) (lane number group : ℕ) (held : List Seg) (result : Result (Option ℕ) E) → Seated 0 t p → number < length t.metaslabs → HasSettled t group 0 p
    → Turned 0 number (LoadAnswer lane held result) p q → HasSettled t group 0 q
loaded_one t p q lane number group held result s lt has w = record {
  gate = gate_stays t p q s number _ w ∙ has.gate;
  before = λ other below. absurd (omega arith);
  others = λ other le below.
      ⊎_elim
      (λ (same : number ≡ other).
      subst (λ k. IsSettledTo group k q) same
      (⊎_elim
      (λ (none : w.note ≡ None). record {
        collected = collected_there t p q s number _ w lt None none ∙ (has.others number (omega arith) lt).collected;
        settled = settled_there t p q s number _ w lt None none ∙ (has.others number (omega arith) lt).settled;
      })
      (λ (some : w.note ≡ Some (record { lane = lane; act = Load })). record {
        collected = collected_there t p q s number _ w lt _ some ∙ (has.others number (omega arith) lt).collected;
        settled = settled_there t p q s number _ w lt _ some ∙ (has.others number (omega arith) lt).settled;
      })
      (load_notes lane held result _ _ _ w.answer)))
      (λ (ne : number ≢ other). elsewhere t p q s number _ w other group (λ e. ne (sym e)) below (has.others other le below))
      (same_or number other);
}

-- after a collect the metaslab may settle the group
pub collected_one : (t : Turns) (p q : Passes) (lane room number settled : ℕ) (group : Group) (allocs frees : List Seg) → Seated 0 t p → number < length t.metaslabs → IsSettledTo settled number p
    → Turned 0 number (CollectAnswer lane group room allocs frees (Ok tt)) p q
    → (collected_group (origin_in q number) (seen_in q number) ≡ group.0) × (settled_group (origin_in q number) (seen_in q number) ≡ settled)
collected_one t p q lane room number settled group allocs frees s lt has w =
    (collected_there t p q s number _ w lt _ w.answer.0, settled_there t p q s number _ w lt _ w.answer.0 ∙ has.settled)

-- and then the keeper has settled one metaslab more
pub settled_one : (t : Turns) (p q r : Passes) (lane room number settled : ℕ) (group : Group) (allocs frees : List Seg) → Seated 0 t p → Seated 0 t q → number < length t.metaslabs → group.0 ≡ settled + 1
    → HasSettled t settled number p → Turned 0 number (CollectAnswer lane group room allocs frees (Ok tt)) p q → Turned 0 number (SettleAnswer lane group) q r → HasSettled t settled (number + 1) r
settled_one t p q r lane room number settled group allocs frees s u lt next has w v =
    let collected = collected_one t p q lane room number settled group allocs frees s lt (has.others number (omega arith) lt) w in
    let both : (other known : ℕ) → other ≢ number → other < length t.metaslabs → IsSettledTo known other p → IsSettledTo known other r =
    λ other known ne below old. elsewhere t q r u number _ v other known ne below (elsewhere t p q s number _ w other known ne below old) in
    let there : IsSettledTo (settled + 1) number r = record {
      collected = collected_there t q r u number _ v lt _ v.answer.0 ∙ (collected.0 ∙ next);
      settled = settled_there t q r u number _ v lt _ v.answer.0 ∙ next;
    } in
    record {
      gate = gate_stays t q r u number _ v ∙ (gate_stays t p q s number _ w ∙ has.gate);
      before = λ other below.
          ⊎_elim
          (λ (ge : number ≤ other). subst (λ k. IsSettledTo (settled + 1) k r) (omega arith) there)
          (λ (less : other < number). both other (settled + 1) (λ e. absurd (omega arith)) (omega arith) (has.before other less))
          (le_or number other);
      others = λ other above below. both other settled (λ e. absurd (omega arith)) below (has.others other (omega arith) below);
    }

-- of new cells nothing was settled
pub fresh_at : (right : ℕ) (t : Turns) (p : Passes) (number : ℕ) → AreFresh right t p → number < length t.metaslabs → IsSettledTo t.opened number p
fresh_at right t p number f lt =
    let turn = some_at t.metaslabs number lt in
    let c = some_at p.metaslabs number (omega (arith, f.know.count)) in
    let knows = f.know.each number c.0 c.1 in
    let seen : seen_in p number ≡ [] = ap seen_of c.1 ∙ (f.each.at number turn.0 c.0 turn.1 c.1).seen in
    let opened : (origin_in p number).opened ≡ t.opened = ap (λ x. (origin_from (fixed_of x)).opened) c.1 ∙ (ap (λ x. (origin_from x).opened) knows.is ∙ knows.stands.group) in record {
      collected = ap (collected_group (origin_in p number)) seen ∙ opened;
      settled = ap (settled_group (origin_in p number)) seen ∙ opened;
    }

pub fresh_settled : (t : Turns) (p : Passes) → AreFresh 0 t p → HasSettled t t.opened 0 p
fresh_settled t p f = record {
  gate = ap (synced_group t.opened) f.gate.seen;
  before = λ number lt. absurd (omega arith);
  others = λ number le lt. fresh_at 0 t p number f lt;
}

-- a group that is near the opened one is near what a new lane has seen settled
pub fresh_near : (right : ℕ) (t : Turns) (p : Passes) (number given group : ℕ) → given ≡ number → AreFresh right t p → number < length t.metaslabs → group ≤ t.opened + 3
    → group ≤ settled_group (origin_in p given) (seen_in p given) + 3
fresh_near right t p number given group same f lt near =
    subst (λ k. group ≤ settled_group (origin_in p k) (seen_in p k) + 3) (sym same) (omega (arith, (fresh_at right t p number f lt).settled))
