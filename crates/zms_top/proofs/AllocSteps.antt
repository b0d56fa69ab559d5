-- An alloc, from what its look says.
use Rattle.std.proofs.Common.{◌≡◌, ◌≢◌, ℕ, ◌<◌, ◌≤◌, Option, Some, None, List, [], ◌∷◌, inl, inr, refl, arith}
use Rattle.std.specs.Prelude.{◌⊎◌, ◌↔◌, Result, Ok, Err, IsErr}
use Rattle.zms_units.specs.declared.blocks.Dva.{Dva}
use Rattle.zms_units.specs.declared.faults.First.{First}
use Rattle.zms_units.specs.declared.segments.Group.{Group}
use Rattle.zms_units.specs.declared.segments.Seg.{Seg}
use Rattle.zms_units.specs.Rounding.{AreUnitsOf}
use Rattle.ms_model.specs.Origin.{Origin}
use Rattle.ms_model.specs.Gates.{open_group}
use Rattle.ms_model.specs.Steps.{noting}
use Rattle.ms_model.specs.Parts.{right_of}
use Rattle.ms_model.specs.Events.{Event, at_metaslab}
use Rattle.ms_model.specs.declared.notes.Act.TheVariants.{Grant, Miss}
use Rattle.ms_model.specs.declared.notes.Noted.{Noted}
use Rattle.ms_model.specs.declared.notes.GateNote.{GateNote}
use Rattle.ms_core.specs.State.{MsState, origin_of, StaysButNotes}
use Rattle.txg_gate.specs.GateState.{GateState}
use Rattle.zms_top.specs.Pools.{IsPool}
use Rattle.zms_top.specs.declared.pool.Pool.{Pool}
use Rattle.zms_top.specs.declared.replies.Answer.TheVariants.{Granted, NoSpace}
use Rattle.zms_top.specs.Sound.{IsSound, shape_of}
use Rattle.zms_top.specs.Looks.{IsLook, act_of}
use Rattle.zms_top.specs.Lines.{Missed, AreLoads, AllocLine, dva_at}
use Rattle.ms_model.proofs.Histories.{LeavesGroups}
use Rattle.zms_top.proofs.StepLemmas.{StepLeaves, StepDid, StaysButHolds, step_events, step_did, note_leaves}

act_leaves : (group : Group) (count : ℕ) (found : Option Seg) → LeavesGroups (act_of group count found)
act_leaves group count None = tt
act_leaves group count (Some seg) = tt

act_right_is : (lane : ℕ) (group : Group) (count : ℕ) (found : Option Seg) → right_of (record { lane = lane; act = act_of group count found }) ≡ lane
act_right_is lane group count None = refl
act_right_is lane group count (Some seg) = refl

look_noted : (o : Origin) (lane : ℕ) (group : Group) (count : ℕ) (h new : List Noted) (g : List GateNote) (first : Option First) (found : Option Seg)
    → 1 ≤ lane → IsSound o h g first → (is : IsLook o lane group count h new found)
    → StepLeaves o lane (noting is.before (record { lane = lane; act = act_of group count found })) h new g first
look_noted o lane group count h new g first found some was is =
    note_leaves o lane (act_of group count found) h is.before new g first some was is.loads is.note is.may
    (act_leaves group count found) (act_right_is lane group count found)

found_line : (o : Origin) (lane size : ℕ) (group : Group) (count : ℕ) (g : List GateNote) (before : List Noted) (seg : Seg)
    → 0 < size → size ≤ 16777216 → AreUnitsOf size o.ashift count → group.0 ≡ open_group o.opened g → seg.count ≡ count
    → (kept : List Event) → AreLoads lane 1 kept
    → AllocLine (shape_of o) lane size (Granted group (dva_at (shape_of o) 0 seg ∷ [])) (step_events g (noting before (record { lane = lane; act = Grant group seg }))) kept
found_line o lane size group count g before seg some most units is counts kept loads = (
  (some, most),
  (
    record {
      count = count;
      units = units;
      inner = at_metaslab 0 (noting before (record { lane = lane; act = Grant group seg })) ∷ [];
      holding = record { start = g; stop = g; is_open = is; whole = refl };
      found = record {
        misses = [];
        at = 0;
        before = before;
        seg = seg;
        inside = omega arith;
        missed = Missed.none;
        counts = counts;
        whole = refl;
        copies_are = refl;
      };
    },
    loads,
  ),
)

missed_line : (o : Origin) (lane size : ℕ) (group : Group) (count : ℕ) (g : List GateNote) (before : List Noted)
    → 0 < size → size ≤ 16777216 → AreUnitsOf size o.ashift count → group.0 ≡ open_group o.opened g
    → (kept : List Event) → AreLoads lane 1 kept
    → AllocLine (shape_of o) lane size (NoSpace 1) (step_events g (noting before (record { lane = lane; act = Miss count }))) kept
missed_line o lane size group count g before some most units is kept loads = (
  (some, most),
  (
    record {
      count = count;
      units = units;
      group = group.0;
      inner = at_metaslab 0 (noting before (record { lane = lane; act = Miss count })) ∷ [];
      holding = record { start = g; stop = g; is_open = is; whole = refl };
      missed = Missed.more 0 [] before Missed.none;
      all = refl;
    },
    loads,
  ),
)

pub granted_did : (p : Pool) (m : MsState) (gate : GateState) (lane size : ℕ) (group : Group) (count : ℕ) (seg : Seg) (copies : List Dva)
    → IsPool p → 1 ≤ lane → 0 < size → size ≤ 16777216 → AreUnitsOf size 12 count → group.0 ≡ open_group p.gate.opened p.gate.notes
    → StaysButNotes p.metaslab m → StaysButHolds p.gate gate → IsLook (origin_of p.metaslab) lane group count p.metaslab.notes m.notes (Some seg)
    → copies ≡ dva_at (shape_of (origin_of p.metaslab)) 0 seg ∷ []
    → StepDid p lane (AllocLine (shape_of (origin_of p.metaslab)) lane size (Granted group copies)) m gate
granted_did p m gate lane size group count seg copies was some least most units is stays held looked copies_are =
    let o : Origin = origin_of p.metaslab in
    let open_is : group.0 ≡ open_group p.metaslab.opened p.gate.notes = rw (← was.opened) is in
    let units_are : AreUnitsOf size p.metaslab.ashift count = rw was.shift units in
    let leaves = look_noted o lane group count p.metaslab.notes m.notes p.gate.notes p.first (Some seg) some was.sound looked in
    let step = noting looked.before (record { lane = lane; act = Grant group seg }) in
    let line_is : (kept : List Event) → AreLoads lane 1 kept → AllocLine (shape_of o) lane size (Granted group copies) (step_events p.gate.notes step) kept =
    λ kept loads. rw copies_are (found_line o lane size group count p.gate.notes looked.before seg least most units_are open_is looked.counts kept loads) in
    step_did p m gate lane (AllocLine (shape_of o) lane size (Granted group copies)) step was stays held leaves line_is

pub missed_did : (p : Pool) (m : MsState) (gate : GateState) (lane size : ℕ) (group : Group) (count : ℕ)
    → IsPool p → 1 ≤ lane → 0 < size → size ≤ 16777216 → AreUnitsOf size 12 count → group.0 ≡ open_group p.gate.opened p.gate.notes
    → StaysButNotes p.metaslab m → StaysButHolds p.gate gate → IsLook (origin_of p.metaslab) lane group count p.metaslab.notes m.notes None
    → StepDid p lane (AllocLine (shape_of (origin_of p.metaslab)) lane size (NoSpace 1)) m gate
missed_did p m gate lane size group count was some least most units is stays held looked =
    let o : Origin = origin_of p.metaslab in
    let open_is : group.0 ≡ open_group p.metaslab.opened p.gate.notes = rw (← was.opened) is in
    let units_are : AreUnitsOf size p.metaslab.ashift count = rw was.shift units in
    let leaves = look_noted o lane group count p.metaslab.notes m.notes p.gate.notes p.first None some was.sound looked in
    step_did p m gate lane (AllocLine (shape_of o) lane size (NoSpace 1)) (noting looked.before (record { lane = lane; act = Miss count })) was stays held leaves
    (missed_line o lane size group count p.gate.notes looked.before least most units_are open_is)

not_err : {T E : Type 0} (r : Result T E) (x : T) → r ≡ Ok x → IsErr r → ⊥
not_err (Ok y) x is err = cc
not_err (Err y) x is err = cc

-- the size that units were counted for is that of a block
pub block_size : {E : Type 0} (r : Result ℕ E) (size count : ℕ) → r ≡ Ok count → (IsErr r ↔ ((size ≡ 0) ⊎ (16777216 < size))) → (0 < size) × (size ≤ 16777216)
block_size r size count is bad =
    let some : size ≢ 0 = λ e. not_err r count is (bad.1 (inl e)) in
    let most : 16777216 < size → ⊥ = λ lt. not_err r count is (bad.1 (inr lt)) in
    (omega arith, omega arith)
