-- A free, from what its calls say.
use Rattle.std.proofs.Common.{◌≡◌, ℕ, ◌*◌, ◌^◌, ◌<◌, ◌≤◌, Some, None, List, [], ◌∷◌, refl, sym, ◌∙◌, subst, arith}
use Rattle.std.specs.Prelude.{Result, Err, IsOk, true}
use Rattle.std.proofs.lemmas.List.{append-nil}
use Rattle.zms_units.specs.declared.segments.Group.{Group}
use Rattle.zms_units.specs.declared.segments.Seg.{Seg}
use Rattle.zms_units.specs.Segments.{Covers}
use Rattle.ms_model.specs.Origin.{Origin}
use Rattle.ms_model.specs.Units.{last_act, is_loaded, collected_group}
use Rattle.ms_model.specs.Legal.{IsWithin, IsGrantedBy, IsLowestLacking}
use Rattle.ms_model.specs.Gates.{open_group}
use Rattle.ms_model.specs.Steps.{look, noting}
use Rattle.ms_model.specs.Events.{Event, at_metaslab}
use Rattle.ms_model.specs.declared.notes.Act.TheVariants.{Free}
use Rattle.ms_model.specs.declared.notes.Noted.{Noted}
use Rattle.ms_model.specs.declared.notes.GateNote.{GateNote}
use Rattle.ms_core.specs.State.{MsState, origin_of, collected_of, StaysButNotes}
use Rattle.ms_core.proofs.Searching.{Searched, searched, granted_or_not}
use Rattle.ms_core.proofs.Searching.Searched.{lacks, all}
use Rattle.ms_core.specs.declared.faults.MsFault.{MsFault}
use Rattle.ms_core.specs.declared.faults.MsFault.TheVariants.{NotLive as NotLiveFault}
use Rattle.txg_gate.specs.GateState.{GateState}
use Rattle.zms_top.specs.Pools.{IsPool}
use Rattle.zms_top.specs.declared.pool.Pool.{Pool}
use Rattle.zms_top.specs.declared.replies.Answer.TheVariants.{Done, NotLive}
use Rattle.zms_top.specs.Sound.{Loads, shape_of}
use Rattle.zms_top.specs.Looks.{IsGivenBack}
use Rattle.zms_top.specs.Names.{copies_at}
use Rattle.zms_top.specs.Lines.{AreLoads, Freed, FreeLine, offset_at}
use Rattle.zms_top.proofs.StepLemmas.{StepLeaves, StepDid, StaysButHolds, step_events, step_did, look_leaves, note_leaves, collected_loads}
use Rattle.zms_top.proofs.LookLemmas.{loads_loaded}

pub search_segment : (o : Origin) (h : List Noted) (t : ℕ) (seg : Seg) → Searched (λ u. IsGrantedBy t (last_act o h u)) seg
search_segment o h t seg = searched (λ u. IsGrantedBy t (last_act o h u)) (λ u. granted_or_not t (last_act o h u)) seg.start seg.count

-- a free that is refused, at a metaslab that was loaded first where it needed to be, names the lowest unit that may not be freed
pub refused : (old m : MsState) (lane : ℕ) (group : Group) (seg : Seg) (r : Result (Unit {0}) MsFault) (fault : MsFault)
    → origin_of m ≡ origin_of old → Loads lane old.notes m.notes → collected_of old < group.0 → r ≡ Err fault
    → ((unit : ℕ) → collected_of m < group.0 → is_loaded m.notes ≡ true → IsLowestLacking (λ u. IsGrantedBy group.0 (last_act (origin_of m) m.notes u)) seg unit → r ≡ Err (NotLiveFault unit))
    → (collected_of m < group.0 → is_loaded m.notes ≡ true → ((u : ℕ) → Covers seg u → IsGrantedBy group.0 (last_act (origin_of m) m.notes u)) → IsOk r)
    → (unit : ℕ) × ((fault ≡ NotLiveFault unit) × IsLowestLacking (λ u. IsGrantedBy group.0 (last_act (origin_of old) m.notes u)) seg unit)
refused old m lane group seg r fault origin in_memory above is not_live taken = by_search (search_segment (origin_of m) m.notes group.0 seg) where
  above_now : collected_of m < group.0
  above_now = subst (λ (o : Origin). collected_group o m.notes < group.0) (sym origin) (rw (collected_loads (origin_of old) lane old.notes m.notes in_memory) above)

  same_fault : (f g : MsFault) → (s : Result (Unit {0}) MsFault) → s ≡ Err f → s ≡ Err g → f ≡ g
  same_fault f g s e d = cc

  no_ok : (s : Result (Unit {0}) MsFault) → s ≡ Err fault → IsOk s → ⊥
  no_ok s e ok = cc

  by_search : Searched (λ u. IsGrantedBy group.0 (last_act (origin_of m) m.notes u)) seg
      → (unit : ℕ) × ((fault ≡ NotLiveFault unit) × IsLowestLacking (λ u. IsGrantedBy group.0 (last_act (origin_of old) m.notes u)) seg unit)
  by_search (lacks unit low) = (
    unit,
    (
      same_fault fault (NotLiveFault unit) r is (not_live unit above_now (loads_loaded lane old.notes m.notes in_memory) low),
      subst (λ (o : Origin). IsLowestLacking (λ u. IsGrantedBy group.0 (last_act o m.notes u)) seg unit) origin low,
    ),
  )
  by_search (all each) = absurd (no_ok r is (taken above_now (loads_loaded lane old.notes m.notes in_memory) each))

pub not_live_given : (old m new : MsState) (lane : ℕ) (group : Group) (seg : Seg) (unit told : ℕ) → Loads lane old.notes m.notes → new ≡ m
    → NotLiveFault told ≡ NotLiveFault unit → IsLowestLacking (λ u. IsGrantedBy group.0 (last_act (origin_of old) m.notes u)) seg unit
    → IsGivenBack (origin_of old) lane group seg old.notes new.notes (Some told)
not_live_given old m new lane group seg unit told in_memory same fault low =
    let unit_is : unit ≡ told = cc in
    rw same (record {
      before = m.notes;
      loads = in_memory;
      notes = sym (append-nil m.notes);
      may = subst (IsLowestLacking (λ u. IsGrantedBy group.0 (last_act (origin_of old) m.notes u)) seg) unit_is low;
    })

-- the lines of a free

freed_line : (o : Origin) (lane : ℕ) (group : Group) (g : List GateNote) (before : List Noted) (seg : Seg)
    → IsWithin o.units seg → group.0 ≡ open_group o.opened g
    → (kept : List Event) → AreLoads lane 1 kept
    → FreeLine (shape_of o) lane (copies_at (shape_of o) (Some seg)) (Done group) (step_events g (noting before (record { lane = lane; act = Free group seg }))) kept
freed_line o lane group g before seg within is kept loads = (
  record {
    inner = at_metaslab 0 (noting before (record { lane = lane; act = Free group seg })) ∷ [];
    holding = record { start = g; stop = g; is_open = is; whole = refl };
    freed = Freed.more [] [] 0 seg before Freed.none (omega arith) within;
  },
  loads,
)

not_live_line : (o : Origin) (lane : ℕ) (group : Group) (g : List GateNote) (before : List Noted) (seg : Seg) (unit vdev offset : ℕ)
    → IsWithin o.units seg → group.0 ≡ open_group o.opened g → IsLowestLacking (λ u. IsGrantedBy group.0 (last_act o before u)) seg unit
    → vdev ≡ 0 → offset ≡ offset_at (shape_of o) 0 unit
    → (kept : List Event) → AreLoads lane 1 kept
    → FreeLine (shape_of o) lane (copies_at (shape_of o) (Some seg)) (NotLive vdev offset) (step_events g (look before)) kept
not_live_line o lane group g before seg unit vdev offset within is low vdev_is offset_is kept loads = (
  record {
    group = group;
    inner = at_metaslab 0 (look before) ∷ [];
    holding = record { start = g; stop = g; is_open = is; whole = refl };
    freed = [];
    frees = [];
    freed_are = Freed.none;
    at = 0;
    seg = seg;
    rest = [];
    inside = omega arith;
    within = within;
    copies_are = refl;
    before = before;
    unit = unit;
    lowest = low;
    vdev_is = vdev_is;
    offset_is = offset_is;
    whole = refl;
  },
  loads,
)

-- what a free did

pub freed_did : (p : Pool) (m : MsState) (gate : GateState) (lane : ℕ) (group : Group) (seg : Seg)
    → IsPool p → 1 ≤ lane → group.0 ≡ open_group p.gate.opened p.gate.notes → StaysButNotes p.metaslab m → StaysButHolds p.gate gate
    → IsGivenBack (origin_of p.metaslab) lane group seg p.metaslab.notes m.notes None
    → StepDid p lane (FreeLine (shape_of (origin_of p.metaslab)) lane (copies_at (shape_of (origin_of p.metaslab)) (Some seg)) (Done group)) m gate
freed_did p m gate lane group seg was some is stays held given =
    let o : Origin = origin_of p.metaslab in
    let open_is : group.0 ≡ open_group p.metaslab.opened p.gate.notes = rw (← was.opened) is in
    let leaves = note_leaves o lane (Free group seg) p.metaslab.notes given.before m.notes p.gate.notes p.first some was.sound given.loads given.notes given.may tt refl in
    step_did p m gate lane (FreeLine (shape_of o) lane (copies_at (shape_of o) (Some seg)) (Done group)) (noting given.before (record { lane = lane; act = Free group seg })) was stays held leaves
    (freed_line o lane group p.gate.notes given.before seg given.may.within open_is)

pub not_live_did : (p : Pool) (m : MsState) (gate : GateState) (lane : ℕ) (group : Group) (seg : Seg) (unit vdev offset : ℕ)
    → IsPool p → 1 ≤ lane → group.0 ≡ open_group p.gate.opened p.gate.notes → StaysButNotes p.metaslab m → StaysButHolds p.gate gate → IsWithin p.metaslab.units seg
    → IsGivenBack (origin_of p.metaslab) lane group seg p.metaslab.notes m.notes (Some unit) → vdev ≡ 0 → offset ≡ unit * 2 ^ 12
    → StepDid p lane (FreeLine (shape_of (origin_of p.metaslab)) lane (copies_at (shape_of (origin_of p.metaslab)) (Some seg)) (NotLive vdev offset)) m gate
not_live_did p m gate lane group seg unit vdev offset was some is stays held within given vdev_is offset_is =
    let o : Origin = origin_of p.metaslab in
    let open_is : group.0 ≡ open_group p.metaslab.opened p.gate.notes = rw (← was.opened) is in
    let same : m.notes ≡ given.before = given.notes ∙ append-nil given.before in
    let leaves = look_leaves o lane p.metaslab.notes given.before p.gate.notes p.first some was.sound given.loads in
    let placed : offset ≡ offset_at (shape_of o) 0 unit = rw was.shift (omega (arith, offset_is)) in
    step_did p m gate lane (FreeLine (shape_of o) lane (copies_at (shape_of o) (Some seg)) (NotLive vdev offset)) (look given.before) was stays held
    (subst (λ l. StepLeaves o lane (look given.before) p.metaslab.notes l p.gate.notes p.first) (sym same) leaves)
    (not_live_line o lane group p.gate.notes given.before seg unit vdev offset within open_is given.may vdev_is placed)
