-- How many groups a lane closed, after what it did.
use Rattle.std.proofs.Common.{◌≡◌, ℕ, ◌+◌, ◌≤◌, Bool, true, false, List, [], ◌∷◌, ◌++◌, length, length-append, ap, ◌∙◌, refl, arith, Option, Result}
use Rattle.std.specs.Option.{option_to_list}
use Rattle.zms_units.specs.declared.segments.Group.{Group}
use Rattle.zms_units.specs.declared.places.MsId.{MsId}
use Rattle.turn_cell.specs.Lanes.{Step, notes_of}
use Rattle.turn_cell.specs.Notes.{notes_at}
use Rattle.txg_gate.specs.Closings.{closings_of}
use Rattle.ms_model.specs.Parts.{gate_right}
use Rattle.ms_model.specs.Events.{at_gate, at_metaslab, gate_steps}
use Rattle.ms_model.specs.Origin.{Origin}
use Rattle.ms_model.specs.declared.notes.Noted.{Noted}
use Rattle.ms_model.specs.declared.notes.GateNote.{GateNote}
use Rattle.ms_cell.proofs.JournalLaws.{own_notes}
use Rattle.class_model.specs.Replay.{LaneNote}
use Rattle.class_core.specs.Classes.{ClassState}
use Rattle.lane_passes.specs.Lanes.{LaneEvent, at_cell, at_class, cell_events, Ground, Journey}
use Rattle.lane_passes.specs.Turns.{AtGate, AtMetaslab, AtClass, Then}
use Rattle.lane_passes.specs.declared.passes.LanePasses.{LanePasses}
use Rattle.pool_keeper.specs.Notes.{KeeperNoted}
use Rattle.pool_keeper.specs.Syncs.{IsWeighedOnce, not_loaded, loaded, AreWeighed, none, more, AreWeighedInPart, ClosedLine, done, in_part, failed, TryLine, closed, no_memory, busy, SyncLine, suspended, at_once, behind, cut}
use Rattle.pool_keeper.specs.declared.faults.SyncFault.{SyncFault}

-- how many notes an event adds at the gate, and how many some events add
abbrev added_by : LaneEvent → ℕ
added_by (at_cell (at_gate s)) = length (option_to_list s.note)
added_by (at_cell (at_metaslab _ _)) = 0
added_by (at_class _) = 0

abbrev pub added : List LaneEvent → ℕ
added [] = 0
added (e ∷ es) = added_by e + added es

added-append : (es fs : List LaneEvent) → added (es ++ fs) ≡ added es + added fs
added-append [] fs = omega arith
added-append (e ∷ es) fs = omega (arith, added-append es fs)

gate_added : (es : List LaneEvent) → length (notes_of (gate_steps (cell_events es))) ≡ added es
gate_added [] = refl
gate_added (at_cell (at_gate s) ∷ es) = omega (arith, length-append (option_to_list s.note) (notes_of (gate_steps (cell_events es))), gate_added es)
gate_added (at_cell (at_metaslab number s) ∷ es) = omega (arith, gate_added es)
gate_added (at_class s ∷ es) = omega (arith, gate_added es)

pub gate_adds : (Answer : List GateNote → Option GateNote → Type 0) (given : Option GateNote) (g : Ground) (es : List LaneEvent) (a : AtGate Answer g es) → a.note ≡ given → added es ≡ length (option_to_list given)
gate_adds Answer given g es a is = omega (arith, ap added a.is, ap (λ (n : Option GateNote). length (option_to_list n)) is)

pub metaslab_adds : (number : ℕ) (Answer : Origin → List Noted → Option Noted → Type 0) (g : Ground) (es : List LaneEvent) → AtMetaslab number Answer g es → added es ≡ 0
metaslab_adds number Answer g es a = ap added a.is

class_adds : (place : ℕ) (Answer : ClassState → Option LaneNote → Type 0) (g : Ground) (es : List LaneEvent) → AtClass place Answer g es → added es ≡ 0
class_adds place Answer g es a = ap added a.is

posted_adds : (number place : ℕ) (Sight : Origin → List Noted → Option Noted → Type 0) (Post : ClassState → Option LaneNote → Type 0) (g : Ground) (es : List LaneEvent)
    → Then (AtMetaslab number Sight) (AtClass place Post) g es → added es ≡ 0
posted_adds number place Sight Post g es a = omega (arith, ap added a.whole, added-append a.one a.two, metaslab_adds number Sight g a.one a.first, class_adds place Post g a.two a.second)

once_adds : (lane : ℕ) (id : MsId) (g : Ground) (es : List LaneEvent) → IsWeighedOnce lane id g es → added es ≡ 0
once_adds lane id g es (not_loaded counts weight a) = metaslab_adds _ _ g es a
once_adds lane id g es (loaded counts weight a) = posted_adds _ _ _ _ g es a

weighed_adds : (lane : ℕ) (g : Ground) (few : ℕ) (es : List LaneEvent) → AreWeighed lane g few es → added es ≡ 0
weighed_adds lane g few es none = refl
weighed_adds lane g few es (more number id one two before inside place a) = omega (arith, added-append one two, weighed_adds lane g number one before, once_adds lane id g two a)

part_adds : (lane : ℕ) (g : Ground) (es : List LaneEvent) → AreWeighedInPart lane g es → added es ≡ 0
part_adds lane g es a =
    let w = a.turns in
    omega (arith, ap added w.whole, added-append w.one w.two, weighed_adds lane g a.few w.one w.first, posted_adds _ _ _ _ g w.two w.second)

line_adds : (lane : ℕ) (group : Group) (g : Ground) (t : Step KeeperNoted) (result : Result Group SyncFault) (es : List LaneEvent) → ClosedLine lane group g t result es → added es ≡ 0
line_adds lane group g t result es (done fs noted a) = weighed_adds lane g _ es a
line_adds lane group g t result es (in_part fs noted a) = part_adds lane g es a
line_adds lane group g t result es (failed fault noted) = refl

try_adds : (lane : ℕ) (again : Bool) (g : Ground) (result : Result Group SyncFault) (es : List LaneEvent) (steps : List (Step KeeperNoted)) → TryLine lane again g result es steps → added es ≤ 1
try_adds lane again g result es steps (closed group answer one two t a line) = omega (arith, added-append one two, gate_adds _ _ g one a a.answer.0, line_adds lane group g t answer two line)
try_adds lane again g result es steps (no_memory fs a) = omega (arith, gate_adds _ _ g es a a.answer)
try_adds lane again g result es steps (busy many fs second a) = omega (arith, gate_adds _ _ g es a a.answer.0)

pub sync_adds : (lane : ℕ) (g : Ground) (result : Result Group SyncFault) (es : List LaneEvent) (steps : List (Step KeeperNoted)) → SyncLine lane g result es steps → added es ≤ 1
sync_adds lane g result es steps (suspended first s noted) = omega arith
sync_adds lane g result es steps (at_once answer fs s rest quiet line) = try_adds lane false g result es rest line
sync_adds lane g result es steps (behind group many answer one two s t rest quiet a below noted line) = omega (arith, added-append one two, gate_adds _ _ g one a a.answer.0, try_adds lane true g answer two rest line)
sync_adds lane g result es steps (cut many fault fs s t quiet a noted) = omega (arith, gate_adds _ _ g es a a.answer.0)

module _ {R : Type 0} where
  pub closings_after : (es : List LaneEvent) (p q : LanePasses R) → Journey es p q → closings_of q.lane q.cells.gate.seen ≡ closings_of p.lane p.cells.gate.seen + added es
  closings_after es p q w =
      ap (λ (n : ℕ). closings_of n q.cells.gate.seen) w.lane
      ∙ omega (arith, ap length (own_notes p.lane (cell_events es) p.cells q.cells w.cells).0, length-append (notes_at gate_right p.lane p.cells.gate.seen) (notes_of (gate_steps (cell_events es))), gate_added es)
