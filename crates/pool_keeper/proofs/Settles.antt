-- The keeper settles a group, one metaslab after the other, and then at the gate.
use Rattle.std.proofs.Common.{◌≡◌, ◌≢◌, ℕ, ◌+◌, ◌≤◌, ◌<◌, Option, List, [], ◌∷◌, ◌++◌, length, ◌⊎◌, inl, inr, refl, sym, ◌∙◌, ap, subst, arith}
use Rattle.std.specs.List.{fold}
use Rattle.std.specs.Option.{option_to_list}
use Rattle.std.proofs.lemmas.List.{append-nil}
use Rattle.zms_units.specs.declared.segments.Group.{Group}
use Rattle.lane_steps.proofs.Steps.{notes_of-append}
use Rattle.turn_cell.specs.Lanes.{Step, noting, notes_of}
use Rattle.ms_model.specs.Gates.{synced_group, synced_by}
use Rattle.ms_model.specs.Units.{settled_group, settled_by, collected_group, collected_by}
use Rattle.ms_model.specs.Events.{Event, at_gate, at_metaslab, metaslab_steps}
use Rattle.ms_model.specs.declared.notes.Noted.{Noted}
use Rattle.ms_model.specs.declared.notes.GateNote.{GateNote}
use Rattle.ms_model.proofs.Events.{gate_steps-append, metaslab_steps-append}
use Rattle.ms_cell.specs.Turns.{Turns}
use Rattle.ms_cell.specs.Passes.{Passes, Seated, origin_in, seen_in}
use Rattle.ms_cell.specs.Journey.{Journey, Turned, TurnedGate}
use Rattle.ms_cell.specs.Answers.{SettleAnswer}
use Rattle.ms_cell.specs.GateAnswers.{SettledAnswer}
use Rattle.ms_cell.proofs.JournalLaws.{no_journey, journeys_join, keeper_groups, keeper_gate, stays_seated}
use Rattle.pool_keeper.specs.Answers.{IsDue, settle_of, IsSettledAt, AreSettled, IsSettled}
use Rattle.pool_keeper.proofs.Knowing.{notes_there, notes_elsewhere}
use Rattle.pool_keeper.proofs.Sound.{same_or}

pub settled_here : (lane number : ℕ) (group : Group) (p q : Passes) → Turned 0 number (SettleAnswer lane group) p q → IsSettledAt lane number group p q
settled_here lane number group p q turn = record {
  before = turn.before;
  journey = subst (λ (n : Option Noted). Journey 0 (at_metaslab number (record { before = turn.before; note = n }) ∷ []) p q) turn.answer.0 turn.journey;
}

pub settled_none : (t : Turns) (lane : ℕ) (group : Group) (p : Passes) → Seated 0 t p → AreSettled 0 lane group p p
settled_none t lane group p seated = record { events = []; journey = no_journey 0 t p seated; gate = refl; each = λ k lt. absurd (omega arith); others = λ k le. refl }

pub settled_seated : (t : Turns) (few lane : ℕ) (group : Group) (p q : Passes) → Seated 0 t p → AreSettled few lane group p q → Seated 0 t q
settled_seated t few lane group p q seated are = stays_seated 0 t are.events p q seated are.journey

-- a group that is due is due still where nothing was noted
pub due_still : (t : Turns) (few lane : ℕ) (group : Group) (p q : Passes) (k : ℕ) → Seated 0 t p → AreSettled few lane group p q → few ≤ k → k < length t.metaslabs → IsDue group k p → IsDue group k q
due_still t few lane group p q k seated are le lt was =
    let told = keeper_groups are.events p q k are.journey (omega (arith, seated.know.count)) in
    let none = are.others k le in
    record {
      next = was.next ∙ ap (λ (n : ℕ). n + 1) (sym (told.1 ∙ ap (λ (l : List Noted). fold (λ x (n : Noted). settled_by x n.act) (settled_group (origin_in p k) (seen_in p k)) l) none));
      collected = subst (λ (n : ℕ). group.0 ≤ n) (sym (told.0 ∙ ap (λ (l : List Noted). fold (λ x (n : Noted). collected_by x n.act) (collected_group (origin_in p k) (seen_in p k)) l) none)) was.collected;
    }

pub settled_more : (few lane : ℕ) (group : Group) (p q r : Passes) → AreSettled few lane group p q → IsSettledAt lane few group q r → AreSettled (few + 1) lane group p r
settled_more few lane group p q r are one =
    let last : List Event = at_metaslab few (noting one.before (settle_of lane group)) ∷ [] in
    record {
      events = are.events ++ last;
      journey = journeys_join 0 are.events last p q r are.journey one.journey;
      gate = gate_steps-append are.events last ∙ ap (λ (l : List (Step GateNote)). l ++ []) are.gate;
      each = λ k lt. notes_at k ∙ by_place k lt (same_or k few);
      others = λ k le.
          notes_at k ∙ (ap (λ (l : List Noted). l ++ notes_of (metaslab_steps k last)) (are.others k (omega (arith, le))) ∙ notes_elsewhere few k (noting one.before (settle_of lane group)) (λ e. absurd (omega (arith, le))));
    } where
      notes_at : (k : ℕ) → notes_of (metaslab_steps k (are.events ++ at_metaslab few (noting one.before (settle_of lane group)) ∷ []))
          ≡ notes_of (metaslab_steps k are.events) ++ notes_of (metaslab_steps k (at_metaslab few (noting one.before (settle_of lane group)) ∷ []))
      notes_at k =
          ap notes_of (metaslab_steps-append k are.events (at_metaslab few (noting one.before (settle_of lane group)) ∷ []))
          ∙ notes_of-append (metaslab_steps k are.events) (metaslab_steps k (at_metaslab few (noting one.before (settle_of lane group)) ∷ []))

      by_place : (k : ℕ) → k < few + 1 → (k ≡ few) ⊎ (k ≢ few)
          → notes_of (metaslab_steps k are.events) ++ notes_of (metaslab_steps k (at_metaslab few (noting one.before (settle_of lane group)) ∷ [])) ≡ settle_of lane group ∷ []
      by_place k lt (inl e) =
          subst (λ (i : ℕ). notes_of (metaslab_steps i are.events) ++ notes_of (metaslab_steps i (at_metaslab few (noting one.before (settle_of lane group)) ∷ [])) ≡ settle_of lane group ∷ []) (sym e)
          (ap (λ (l : List Noted). l ++ notes_of (metaslab_steps few (at_metaslab few (noting one.before (settle_of lane group)) ∷ []))) (are.others few (omega arith)) ∙ notes_there few one.before (settle_of lane group))
      by_place k lt (inr ne) =
          ap (λ (l : List Noted). l ++ notes_of (metaslab_steps k (at_metaslab few (noting one.before (settle_of lane group)) ∷ []))) (are.each k (omega arith))
          ∙ ap (λ (l : List Noted). settle_of lane group ∷ l) (notes_elsewhere few k (noting one.before (settle_of lane group)) ne)

-- and then the gate
pub settled_all : (t : Turns) (lane : ℕ) (group : Group) (p q r : Passes) → AreSettled (length t.metaslabs) lane group p q → TurnedGate 0 (SettledAnswer t.opened group) q r → IsSettled t lane group p r
settled_all t lane group p q r are turn =
    let last : List Event = at_gate (record { before = turn.before; note = turn.note }) ∷ [] in
    record {
      events = are.events ++ last;
      journey = journeys_join 0 are.events last p q r are.journey turn.journey;
      each = λ k lt. ap notes_of (metaslab_steps-append k are.events last) ∙ (ap notes_of (append-nil (metaslab_steps k are.events)) ∙ are.each k lt);
      gate = keeper_gate t.opened last q r turn.journey ∙ ap (λ (o : Option GateNote). fold synced_by (synced_group t.opened q.gate.seen) (option_to_list o ++ [])) turn.answer.0;
    }

-- what is seen of the gate while metaslabs are settled
pub gate_before : (t : Turns) (lane few : ℕ) (group : Group) (p q : Passes) → AreSettled few lane group p q → synced_group t.opened q.gate.seen ≡ synced_group t.opened p.gate.seen
gate_before t lane few group p q are = keeper_gate t.opened are.events p q are.journey ∙ ap (λ (l : List (Step GateNote)). fold synced_by (synced_group t.opened p.gate.seen) (notes_of l)) are.gate
