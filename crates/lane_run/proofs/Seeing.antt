-- Where a lane has seen more of a journal, and did nothing, it looked at what was to be seen.
use Rattle.std.proofs.Common.{◌≡◌, ℕ, zero, suc, ◌<◌, ◌≤◌, cond, Bool, true, false, List, [], ◌∷◌, ◌++◌, length, refl, sym, ap, ◌∙◌, subst, arith, append_assoc, None, Result, Ok, Err}
use Rattle.std.specs.Prelude.{◌==◌, IfOk}
use Rattle.std.proofs.lemmas.Bool.{eqb-true}
use Rattle.std.proofs.lemmas.List.{append-nil, append_cancel_left}
use Rattle.zms_units.specs.declared.segments.Group.{Group}
use Rattle.vdev_map.specs.Numbers.{metaslabs_in}
use Rattle.lane_steps.proofs.Steps.{notes_at-append, prefix_whole}
use Rattle.turn_cell.specs.Known.{Known}
use Rattle.turn_cell.specs.Notes.{IsPrefix, notes_at}
use Rattle.turn_cell.specs.Lanes.{Went, Quiet, look}
use Rattle.ms_model.specs.Parts.{right_of, gate_right}
use Rattle.ms_model.specs.Units.{is_loaded}
use Rattle.ms_model.specs.Events.{at_gate, at_metaslab}
use Rattle.ms_model.specs.declared.notes.Noted.{Noted}
use Rattle.ms_model.specs.declared.notes.GateNote.{GateNote}
use Rattle.ms_core.specs.declared.kept.Standing.{Standing}
use Rattle.ms_cell.specs.Loads.{IsPlace}
use Rattle.ms_cell.specs.Turns.{Turns}
use Rattle.ms_cell.specs.Passes.{Passes, seen_of, seen_in}
use Rattle.ms_cell.specs.Journey.{Journey as CellJourney}
use Rattle.ms_cell.proofs.JournalLaws.{no_journey}
use Rattle.class_group.specs.Turns.{ClassTurns}
use Rattle.lane_passes.specs.Lanes.{ground_of, IsSeated, Acted}
use Rattle.lane_passes.specs.Turns.{AtGate, AtMetaslab}
use Rattle.lane_passes.specs.declared.passes.LanePasses.{LanePasses}
use Rattle.lane_passes.proofs.Acting.{acted_none, at_metaslab_acted, at_gate_acted, acted_then}
use Rattle.lane_passes.proofs.Journeys.{lane_no_journey, lane_journeys_join}
use Rattle.pool_keeper.specs.Lines.{HasSettled}
use Rattle.pool_keeper.specs.declared.faults.SyncFault.{SyncFault}
use Rattle.lane_run.specs.Lines.{HasSettledAt, HasSynced, AreSeenSettled, SeenLine, none, more}

module _ {N : Type 0} where
  nil_first : (xs ys : List N) → xs ++ ys ≡ [] → xs ≡ []
  nil_first [] ys e = refl
  nil_first (x ∷ xs) ys e = absurd cc

  nil_second : (xs ys : List N) → xs ++ ys ≡ [] → ys ≡ []
  nil_second [] ys e = e
  nil_second (x ∷ xs) ys e = absurd cc

module _ {N : Type 0} (right : N → ℕ) (lane : ℕ) where
  -- a journal that grew by no note of the lane, cut at a place
  module _ (h i j : List N) (q : Quiet right lane h j) (a : IsPrefix h i) (b : IsPrefix i j) where
    parts : notes_at right lane a.0 ++ notes_at right lane b.0 ≡ []
    parts =
        sym (notes_at-append right lane a.0 b.0)
        ∙ (ap (notes_at right lane) (sym (append_cancel_left h q.more (a.0 ++ b.0) (q.is ∙ (sym b.1 ∙ (ap (λ l. l ++ b.0) (sym a.1) ∙ append_assoc h a.0 b.0))))) ∙ q.none)

    quiet_before : Quiet right lane h i
    quiet_before = record { more = a.0; is = a.1; none = nil_first _ _ parts }

    quiet_behind : Quiet right lane i j
    quiet_behind = record { more = b.0; is = b.1; none = nil_second _ _ parts }

  went_look : {F : Type 0} (h : List N) (c d : Known N F) → IsPrefix c.seen h → IsPrefix h d.seen → Went right lane [] c d → Went right lane (look h ∷ []) c d
  went_look h c d a b w = record {
    at = w.at;
    fixed = w.fixed;
    idle = w.idle;
    own = w.own;
    follows = (quiet_before c.seen h d.seen w.follows a b, (tt, subst (λ l. Quiet right lane l d.seen) (sym (append-nil h)) (quiet_behind c.seen h d.seen w.follows a b)));
  }

module _ (right : ℕ) (p q : Passes) (w : CellJourney right [] p q) where
  module _ (number : ℕ) (place : List Noted) (from : IsPrefix (seen_in p number) place) (to : IsPrefix place (seen_in q number)) where
    one_or_none : (b : Bool) (c d : Known Noted Standing) → (b ≡ true → Went right_of right (look place ∷ []) c d) → Went right_of right [] c d → Went right_of right (cond b (look place ∷ []) []) c d
    one_or_none true c d there elsewhere = there refl
    one_or_none false c d there elsewhere = elsewhere

    pub look_placed : CellJourney right (at_metaslab number (look place) ∷ []) p q
    look_placed = record {
      gate = w.gate;
      count = w.count;
      each = record {
        at = λ k c d e f.
            one_or_none (number == k) c d
            (λ same.
            let is = eqb-true number k same in
            went_look right_of right place c d (subst (λ l. IsPrefix l place) (ap (seen_in p) is ∙ ap seen_of e) from) (subst (λ l. IsPrefix place l) (ap (seen_in q) is ∙ ap seen_of f) to) (w.each.at k c d e f))
            (w.each.at k c d e f);
      };
    }

  pub look_gate_placed : (place : List GateNote) → IsPrefix p.gate.seen place → IsPrefix place q.gate.seen → CellJourney right (at_gate (look place) ∷ []) p q
  look_gate_placed place from to = record { gate = went_look gate_right right place p.gate q.gate from to w.gate; count = w.count; each = w.each }

-- a load

module _ {R : Type 0} (t : Turns) (c : ClassTurns) (p : LanePasses R) (s : IsSeated t c p) where
  pub placed_acted : (loaded : Bool) (number : ℕ) (q : Passes) → CellJourney p.lane [] p.cells q → IsPlace loaded number p.cells q
      → Acted t (AtMetaslab number (λ o h note. (note ≡ None) × (is_loaded h ≡ loaded))) p (record p { cells = q })
  placed_acted loaded number q w is =
      at_metaslab_acted t c p s number (λ o h note. (note ≡ None) × (is_loaded h ≡ loaded)) q
      (record { before = is.place; note = None; journey = look_placed p.lane p.cells q w number is.place is.from is.to; answer = (refl, is.is) })

  -- what is settled

  still : CellJourney p.lane [] p.cells p.cells
  still = no_journey p.lane t p.cells s.cells

  module _ (group : ℕ) (settled : HasSettled t group p.cells) where
    seen_one : (k : ℕ) → k < length t.metaslabs → Acted t (AtMetaslab k (λ o h note. (note ≡ None) × HasSettledAt group o h)) p p
    seen_one k lt =
        let at = settled.each k lt in
        let seen = seen_in p.cells k in
        at_metaslab_acted t c p s k (λ o h note. (note ≡ None) × HasSettledAt group o h) p.cells
        (record {
          before = seen;
          note = None;
          journey = look_placed p.lane p.cells p.cells still k seen (prefix_whole seen) (prefix_whole seen);
          answer = (refl, record { beginning = at.0; begins = at.1.0; settled = at.1.1 });
        })

    seen_few : (n : ℕ) → n ≤ length t.metaslabs → Acted t (λ g es. AreSeenSettled group g n es) p p
    seen_few zero le = record { events = []; journey = lane_no_journey R t c p s; fact = none }
    seen_few (suc n) le =
        let first = seen_few n (omega arith) in
        let next = seen_one n (omega arith) in
        record {
          events = first.events ++ next.events;
          journey = lane_journeys_join R first.events next.events p p p first.journey next.journey;
          fact = subst (λ (m : ℕ). AreSeenSettled group (ground_of t p) m (first.events ++ next.events)) (omega arith) (more n first.events next.events first.fact next.fact);
        }

    seen_gate : Acted t (λ g. AtGate (λ h note. (note ≡ None) × HasSynced group g.opened h) g) p p
    seen_gate =
        let seen = p.cells.gate.seen in
        let looked =
        at_gate_acted t c p s (λ h note. (note ≡ None) × HasSynced group t.opened h) p.cells
        (record {
          before = seen;
          note = None;
          journey = look_gate_placed p.lane p.cells p.cells still seen (prefix_whole seen) (prefix_whole seen);
          answer = (refl, record { beginning = settled.gate.0; begins = settled.gate.1.0; settled = settled.gate.1.1 });
        }) in
        record { events = looked.events; journey = looked.journey; fact = looked.fact }

  pub seen_acted : (result : Result Group SyncFault) → length t.metaslabs ≡ metaslabs_in t.vdevs → IfOk result (λ group. HasSettled t group.0 p.cells) → Acted t (SeenLine result) p p
  seen_acted (Ok group) count settled =
      let few = seen_few group.0 settled (metaslabs_in t.vdevs) (omega (arith, count)) in
      acted_then t (λ g es. AreSeenSettled group.0 g (metaslabs_in g.vdevs) es) (λ g. AtGate (λ h note. (note ≡ None) × HasSynced group.0 g.opened h) g) p p p
      (record { events = few.events; journey = few.journey; fact = few.fact }) (seen_gate group.0 settled)
  seen_acted (Err fault) count settled = acted_none t c p s
