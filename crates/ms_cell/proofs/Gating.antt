-- One turn at the gate: what happens there happens at no metaslab, and what a holder that has seen a beginning of the gate's
-- journal knows of its groups.
use Rattle.std.proofs.Common.{◌≡◌, ℕ, ◌+◌, ◌≤◌, ◌<◌, ◌^◌, true, false, Bool, leb, ⊎_elim, cond, List, [], ◌∷◌, ◌++◌, refl, sym, ap, ◌∙◌, subst, arith, Option, Some, None}
use Rattle.std.specs.Prelude.{◌==◌, ◌↔◌, IsTrue, IfSome}
use Rattle.std.specs.List.{fold}
use Rattle.std.proofs.lemmas.Bool.Decides.{leb_tells}
use Rattle.std.specs.Option.{option_to_list}
use Rattle.zms_units.specs.declared.segments.Group.{Group}
use Rattle.lane_steps.proofs.Steps.{prefix_trans}
use Rattle.turn_cell.specs.Notes.{Owns, IsPrefix, StandsFor, with_notes, notes_at}
use Rattle.turn_cell.specs.Known.{Known}
use Rattle.turn_cell.specs.Lanes.{Step, Went}
use Rattle.turn_cell.proofs.Lanes.{turned}
use Rattle.turn_passes.proofs.Pairs.{one_item}
use Rattle.ms_model.specs.Parts.{right_of, gate_right}
use Rattle.ms_model.specs.Gates.{open_group, synced_group, synced_by, IsGateLegal}
use Rattle.ms_model.specs.Events.{at_gate}
use Rattle.ms_model.specs.declared.notes.Noted.{Noted}
use Rattle.ms_model.specs.declared.notes.GateNote.{GateNote}
use Rattle.ms_model.specs.declared.notes.GateNote.TheVariants.{Closed, Settled}
use Rattle.ms_model.proofs.GateGroups.{rises}
use Rattle.txg_gate.specs.GateState.{GateState, open_of, synced_of, IsQuiesced}
use Rattle.txg_gate.proofs.Holds.{holds_settled}
use Rattle.ms_cell.specs.Turns.{Turns}
use Rattle.ms_cell.specs.Passes.{Passes, Seated}
use Rattle.ms_cell.specs.Journey.{Journey, TurnedGate}
use Rattle.ms_cell.specs.GateAnswers.{IsClosedBefore, QuiescedAnswer}
use Rattle.ms_cell.proofs.Lifting.{went_still}
use Rattle.ms_cell.proofs.Groups.{owned_same}

-- a gate stands for what its pass says
abbrev pub GateStands : Group → GateState → Type 0
GateStands f g = g.opened ≡ f.0

pub opened_is : (t : Turns) (fixed : Option Group) (g : GateState) → fixed ≡ Some (record { 0 = t.opened }) → StandsFor GateStands fixed g → g.opened ≡ t.opened
opened_is t fixed g is s = let v : StandsFor GateStands (Some (record { 0 = t.opened })) g = subst (λ (f : Option Group). StandsFor GateStands f g) is s in v

pub gate_still_stands : (fixed : Option Group) (g k : GateState) → k.opened ≡ g.opened → StandsFor GateStands fixed g → StandsFor GateStands fixed k
gate_still_stands None g k e s = s
gate_still_stands (Some f) g k e s = e ∙ s

-- a turn at the gate alone
pub lift_gate : (right : ℕ) (t : Turns) (p : Passes) (s : Step GateNote) (d : Known GateNote Group) → Seated right t p → Went gate_right right (s ∷ []) p.gate d → Journey right (at_gate s ∷ []) p (record p { gate = d })
lift_gate right t p s d seated went = record {
  gate = went;
  count = refl;
  each = record {
    at = λ k x y e f. subst (λ (z : Known Noted _). Went right_of right [] x z) (one_item p.metaslabs k x y e f) (went_still right t p k x seated e);
  };
}

pub turned_gate : (right : ℕ) (t : Turns) (Answer : List GateNote → Option GateNote → Type 0) (p now : Passes) (took q : Known GateNote Group) (m n : GateState) (note : Option GateNote)
    → p ≡ now → Seated right t now → took ≡ record p.gate { seen = m.notes; out = true; tries = took.tries } → IsPrefix p.gate.seen m.notes → Owns gate_right took.own took.seen
    → q ≡ record took { seen = n.notes; own = with_notes gate_right (option_to_list note) took.own; out = false }
    → n.notes ≡ m.notes ++ option_to_list note → IfSome note (λ x. gate_right x ≡ right) → Answer m.notes note → TurnedGate right Answer now (record p { gate = q })
turned_gate right t Answer p now took q m n note opens s takes begins owns gives is own answer =
    let seated : Seated right t p = subst (Seated right t) (sym opens) s in
    let step : Step GateNote = record { before = m.notes; note = note } in
    record {
      before = m.notes;
      note = note;
      journey =
          subst (λ (x : Passes). Journey right (at_gate step ∷ []) x (record p { gate = q })) opens
          (lift_gate right t p step q seated (turned gate_right right t.gate p.gate took q m.notes n.notes took.tries note seated.gate takes begins owns gives is own));
      answer = answer;
    }

-- the keeper has each settling among its notes

told_step : (b : Bool) (x : ℕ) (note : GateNote) (h : List GateNote) → (b ≡ false → synced_by x note ≡ x)
    → ((y : ℕ) → fold synced_by y (notes_at gate_right 0 h) ≡ fold synced_by y h)
    → fold synced_by x (cond b (note ∷ notes_at gate_right 0 h) (notes_at gate_right 0 h)) ≡ fold synced_by (synced_by x note) h
told_step true x note h other below = below (synced_by x note)
told_step false x note h other below = below x ∙ ap (λ y. fold synced_by y h) (sym (other refl))

synced_stays : (x : ℕ) (note : GateNote) → (0 == gate_right note) ≡ false → synced_by x note ≡ x
synced_stays x (Closed lane group) e = refl
synced_stays x (Settled group) e = absurd (cc)

told : (x : ℕ) (h : List GateNote) → fold synced_by x (notes_at gate_right 0 h) ≡ fold synced_by x h
told x [] = refl
told x (note ∷ h) = told_step (0 == gate_right note) x note h (synced_stays x note) (λ y. told y h)

pub synced_notes : (opened : ℕ) (h : List GateNote) → fold synced_by opened (notes_at gate_right 0 h) ≡ synced_group opened h
synced_notes opened h = told opened h

pub synced_told : (opened : ℕ) (h j : List GateNote) → notes_at gate_right 0 h ≡ notes_at gate_right 0 j → synced_group opened h ≡ synced_group opened j
synced_told opened h j e = sym (told opened h) ∙ (ap (λ l. fold synced_by opened l) e ∙ told opened j)

pub open_grows : (opened : ℕ) (h j : List GateNote) → IsPrefix h j → IsGateLegal opened j → open_group opened h ≤ open_group opened j
open_grows opened h j begins legal = omega (arith, (rises opened h begins.0 j begins.1 legal).by)

-- the same, where the gate was changed through a loan of it
pub turned_gate_by : (right : ℕ) (t : Turns) (Answer : List GateNote → Option GateNote → Type 0) (p now : Passes) (took q : Known GateNote Group) (m x n : GateState) (note : Option GateNote) → x ≡ m
    → p ≡ now → Seated right t now → took ≡ record p.gate { seen = m.notes; out = true; tries = took.tries } → IsPrefix p.gate.seen m.notes → Owns gate_right took.own took.seen
    → q ≡ record took { seen = n.notes; own = with_notes gate_right (option_to_list note) took.own; out = false }
    → n.notes ≡ x.notes ++ option_to_list note → IfSome note (λ y. gate_right y ≡ right) → Answer x.notes note → TurnedGate right Answer now (record p { gate = q })
turned_gate_by right t Answer p now took q m x n note same opens s takes begins owns gives is own answer =
    turned_gate right t Answer p now took q m n note opens s takes begins owns gives
    (subst (λ (y : GateState). n.notes ≡ y.notes ++ option_to_list note) same is) own
    (subst (λ (y : GateState). Answer y.notes note) same answer)

pub gate_opened : (right : ℕ) (t : Turns) (p now : Passes) (m x : GateState) → x ≡ m → p ≡ now → Seated right t now → StandsFor GateStands p.gate.fixed m → x.opened ≡ t.opened
gate_opened right t p now m x same opens s stands =
    ap (λ (y : GateState). y.opened) same
    ∙ opened_is t p.gate.fixed m (subst (λ (y : Passes). y.gate.fixed ≡ Some (record { 0 = t.opened })) (sym opens) s.know.opened) stands

-- the keeper's pass tells which group is settled, and that what it has seen closed is closed
pub keeper_synced : (t : Turns) (p now : Passes) (took : Known GateNote Group) (m x : GateState) → x ≡ m → p ≡ now → Seated 0 t now → took ≡ record p.gate { seen = m.notes; out = true; tries = took.tries }
    → Owns gate_right took.own took.seen → synced_group t.opened now.gate.seen ≡ synced_group t.opened x.notes
keeper_synced t p now took m x same opens s takes whole =
    let seated : Seated 0 t p = subst (Seated 0 t) (sym opens) s in
    let owns : Owns gate_right took.own x.notes = subst (λ (l : List GateNote). Owns gate_right took.own l) (ap (λ (k : Known GateNote Group). k.seen) takes ∙ ap (λ (y : GateState). y.notes) (sym same)) whole in
    subst (λ (y : Passes). synced_group t.opened y.gate.seen ≡ synced_group t.opened x.notes) opens
    (synced_told t.opened p.gate.seen x.notes (owned_same gate_right 0 p.gate.own took.own p.gate.seen x.notes (ap (λ (k : Known GateNote Group). k.own) takes) seated.gate.own owns))

pub keeper_closed : (t : Turns) (p now : Passes) (m x y : GateState) (group : ℕ) → x ≡ m → y ≡ m → p ≡ now → IsPrefix p.gate.seen m.notes → y.opened ≡ t.opened → IsGateLegal y.opened y.notes
    → IsClosedBefore t.opened group now.gate.seen → group < open_group t.opened x.notes
keeper_closed t p now m x y group same other opens begins opened legal closed =
    let lawful : IsGateLegal t.opened m.notes = subst (λ (l : List GateNote). IsGateLegal t.opened l) (ap (λ (k : GateState). k.notes) other) (subst (λ (o : ℕ). IsGateLegal o y.notes) opened legal) in
    let before : IsClosedBefore t.opened group p.gate.seen = subst (λ (q : Passes). IsClosedBefore t.opened group q.gate.seen) (sym opens) closed in
    let grows = open_grows t.opened before.before m.notes (prefix_trans before.before p.gate.seen m.notes before.begins begins) lawful in
    subst (λ (k : GateState). group < open_group t.opened k.notes) (sym same) (omega (arith, before.closed, grows))

-- a pass of the gate that was told what another had seen
pub told_gate : (right : ℕ) (t : Turns) (p now : Passes) (d : Known GateNote Group) → p ≡ now → Seated right t now → Went gate_right right [] p.gate d → Journey right [] now (record p { gate = d })
told_gate right t p now d opens s went =
    let seated : Seated right t p = subst (Seated right t) (sym opens) s in
    subst (λ (x : Passes). Journey right [] x (record p { gate = d })) opens
    (record {
      gate = went;
      count = refl;
      each = record {
        at = λ k x y e f. subst (λ (z : Known Noted _). Went right_of right [] x z) (one_item p.metaslabs k x y e f) (went_still right t p k x seated e);
      };
    })

-- an open group that is not the third above the settled one is below it
pub may_close : (group opens synced o s : ℕ) → group ≡ opens → opens ≡ o → synced ≡ s → opens ≤ synced + 3 → (opens ≡ synced + 3 → ⊥) → (group ≡ o) × (group < s + 3)
may_close group opens synced o s is open_is synced_is near ne = (
  is ∙ open_is,
  ⊎_elim
      (λ (t : (leb (opens + 1) (synced + 3) ≡ true) × (opens + 1 ≤ synced + 3)). omega (arith, t.1))
      (λ (t : (leb (opens + 1) (synced + 3) ≡ false) × (synced + 3 < opens + 1)). absurd (ne (omega (arith, t.1))))
      (leb_tells (opens + 1) (synced + 3)),
)

pub quiesced_so : (opened : ℕ) (group : Group) (quiesced : Bool) (g : GateState) → g.opened ≡ opened → synced_of g < open_of g → open_of g < 2 ^ 50 → IsTrue quiesced ↔ IsQuiesced g group.0
    → QuiescedAnswer opened group quiesced g.notes None
quiesced_so opened group quiesced g is ahead small answer = record {
  quiet = refl;
  gate = g;
  opened_is = is;
  notes = refl;
  answer = answer;
  closed = λ yes. subst (λ (o : ℕ). group.0 < open_group o g.notes) is (answer.0 yes).0;
  small = λ yes. omega (arith, small, (answer.0 yes).0);
  settled = λ le.
      let low : group.0 ≤ synced_of g = subst (λ (o : ℕ). group.0 ≤ synced_group o g.notes) (sym is) le in
      answer.1 (omega (arith, low, ahead), λ k under. holds_settled g k (omega (arith, low)));
}
