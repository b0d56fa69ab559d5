-- Which groups a lane closes: none by an alloc, a free or a load, and at most one by a sync.
use Rattle.std.proofs.Common.{◌≡◌, ℕ, ◌+◌, ◌≤◌, List, [], ◌++◌, length, refl, sym, ap, ◌∙◌, subst, arith, Option, None, Some, length-append}
use Rattle.std.specs.Option.{option_to_list}
use Rattle.lane_steps.proofs.Steps.{notes_of-append}
use Rattle.turn_cell.specs.Notes.{notes_at}
use Rattle.turn_cell.specs.Lanes.{Step, notes_of}
use Rattle.txg_gate.specs.Closings.{closings_of}
use Rattle.ms_model.specs.Origin.{Origin}
use Rattle.ms_model.specs.Parts.{gate_right}
use Rattle.ms_model.specs.Events.{gate_steps}
use Rattle.ms_model.specs.declared.notes.GateNote.{GateNote}
use Rattle.ms_model.specs.declared.notes.Noted.{Noted}
use Rattle.ms_cell.proofs.JournalLaws.{own_notes, steps_join}
use Rattle.class_model.specs.Replay.{LaneNote}
use Rattle.class_core.specs.Classes.{ClassState}
use Rattle.lane_passes.specs.Lanes.{LaneEvent, Ground, cell_events, Journey}
use Rattle.lane_passes.specs.Turns.{AtGate, AtMetaslab, AtClass, Then}
use Rattle.lane_passes.specs.declared.passes.LanePasses.{LanePasses}
use Rattle.lane_passes.proofs.Journeys.{cell_events-append}

-- what a lane noted at the gate
abbrev pub gate_notes : List LaneEvent → List GateNote
gate_notes es = notes_of (gate_steps (cell_events es))

gate_notes-append : (es fs : List LaneEvent) → gate_notes (es ++ fs) ≡ gate_notes es ++ gate_notes fs
gate_notes-append es fs =
    ap (λ l. notes_of (gate_steps l)) (cell_events-append es fs)
    ∙ (ap (λ (l : List (Step GateNote)). notes_of l) (steps_join (cell_events es) (cell_events fs)).0 ∙ notes_of-append (gate_steps (cell_events es)) (gate_steps (cell_events fs)))

-- so many closings came with it
pub closings_then : {R : Type 0} (es : List LaneEvent) (p q : LanePasses R) → Journey es p q → closings_of q.lane q.cells.gate.seen ≡ closings_of p.lane p.cells.gate.seen + length (gate_notes es)
closings_then es p q w =
    ap (λ (n : ℕ). closings_of n q.cells.gate.seen) w.lane
    ∙ (ap (λ (l : List GateNote). length l) (own_notes p.lane (cell_events es) p.cells q.cells w.cells).0 ∙ length-append (notes_at gate_right p.lane p.cells.gate.seen) (gate_notes es))

-- nothing was noted at the gate
abbrev pub IsCalm : List LaneEvent → Type 0
IsCalm es = gate_notes es ≡ []

pub calm_join : (es fs : List LaneEvent) → IsCalm es → IsCalm fs → IsCalm (es ++ fs)
calm_join es fs x y = gate_notes-append es fs ∙ (ap (λ (l : List GateNote). l ++ gate_notes fs) x ∙ y)

-- at most one note was
abbrev pub IsOneAtMost : List LaneEvent → Type 0
IsOneAtMost es = length (gate_notes es) ≤ 1

pub one_of_calm : (es : List LaneEvent) → IsCalm es → IsOneAtMost es
one_of_calm es x = omega (arith, ap (λ (l : List GateNote). length l) x)

pub one_then : (es fs : List LaneEvent) → IsOneAtMost es → IsCalm fs → IsOneAtMost (es ++ fs)
one_then es fs x y =
    omega (arith, x, ap (λ (l : List GateNote). length l) y, ap (λ (l : List GateNote). length l) (gate_notes-append es fs), length-append (gate_notes es) (gate_notes fs))

pub then_one : (es fs : List LaneEvent) → IsCalm es → IsOneAtMost fs → IsOneAtMost (es ++ fs)
then_one es fs x y =
    omega (arith, y, ap (λ (l : List GateNote). length l) x, ap (λ (l : List GateNote). length l) (gate_notes-append es fs), length-append (gate_notes es) (gate_notes fs))

module _ (g : Ground) where
  pub calm_metaslab : (number : ℕ) (A : Origin → List Noted → Option Noted → Type 0) (es : List LaneEvent) → AtMetaslab number A g es → IsCalm es
  calm_metaslab number A es x = subst IsCalm (sym x.is) refl

  pub calm_class : (place : ℕ) (A : ClassState → Option LaneNote → Type 0) (es : List LaneEvent) → AtClass place A g es → IsCalm es
  calm_class place A es x = subst IsCalm (sym x.is) refl

  pub calm_gate : (A : List GateNote → Option GateNote → Type 0) (es : List LaneEvent) → ((h : List GateNote) (note : Option GateNote) → A h note → note ≡ None) → AtGate A g es → IsCalm es
  calm_gate A es quiet x = subst IsCalm (sym x.is) (ap (λ (n : Option GateNote). option_to_list n ++ []) (quiet x.before x.note x.answer))

  one_note : (n : Option GateNote) → length (option_to_list n ++ []) ≤ 1
  one_note None = omega arith
  one_note (Some n) = omega arith

  pub one_gate : (A : List GateNote → Option GateNote → Type 0) (es : List LaneEvent) → AtGate A g es → IsOneAtMost es
  one_gate A es x = subst IsOneAtMost (sym x.is) (one_note x.note)

  pub calm_then : (First Second : Ground → List LaneEvent → Type 0) (es : List LaneEvent) → ((fs : List LaneEvent) → First g fs → IsCalm fs) → ((fs : List LaneEvent) → Second g fs → IsCalm fs)
      → Then First Second g es → IsCalm es
  calm_then First Second es first second x = subst IsCalm (sym x.whole) (calm_join x.one x.two (first x.one x.first) (second x.two x.second))
