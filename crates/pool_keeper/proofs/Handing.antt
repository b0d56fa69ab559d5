-- A keeper hands runs to a metaslab that is to be loaded.
use Rattle.std.proofs.Common.{◌≡◌, ◌≢◌, ℕ, ◌+◌, ◌≤◌, ◌<◌, Bool, true, false, Option, Some, None, Result, Ok, Err, List, [], ◌∷◌, ◌++◌, length, ◌⊎◌, inl, inr, refl, sym, ◌∙◌, ap, subst, arith, Vec}
use Rattle.std.specs.List.{fold}
use Rattle.std.specs.Option.{option_to_list}
use Rattle.std.specs.declared.alloc.AllocError.{AllocError}
use Rattle.std.specs.declared.alloc.Global.{Global}
use Rattle.std.proofs.lemmas.List.{append-nil}
use Rattle.zms_units.proofs.Bools.{le_or}
use Rattle.zms_units.specs.Segments.{covered}
use Rattle.zms_units.specs.declared.faults.Damage.{Damage}
use Rattle.zms_units.specs.declared.faults.First.TheVariants.{Damaged}
use Rattle.zms_units.specs.declared.places.MsId.{MsId}
use Rattle.zms_units.specs.declared.places.VdevRow.{VdevRow}
use Rattle.zms_units.specs.declared.segments.Seg.{Seg}
use Rattle.zms_dev.specs.Disk.{DiskState}
use Rattle.lane_steps.proofs.Steps.{prefix_trans, quiet_notes}
use Rattle.turn_cell.specs.Notes.{IsPrefix}
use Rattle.turn_cell.specs.Lanes.{Step, notes_of}
use Rattle.vdev_map.specs.Numbers.{IsIn, number_of, row_at, metaslabs_in}
use Rattle.ms_model.specs.Origin.{Origin}
use Rattle.ms_model.specs.Parts.{right_of}
use Rattle.ms_model.specs.Units.{held, is_loaded, collected_by, settled_by, settled_group}
use Rattle.ms_model.specs.Legal.{IsLegal}
use Rattle.ms_model.specs.Events.{Event, at_metaslab, metaslab_steps}
use Rattle.ms_model.specs.declared.notes.Act.TheVariants.{Load}
use Rattle.ms_model.specs.declared.notes.Noted.{Noted}
use Rattle.ms_model.proofs.Histories.{is_loaded-push}
use Rattle.ms_core.specs.Differences.{IsLowestDifference}
use Rattle.ms_cell.specs.Turns.{Turns}
use Rattle.ms_cell.specs.Passes.{Passes, origin_in, seen_in}
use Rattle.ms_cell.specs.Journey.{Journey, Turned}
use Rattle.ms_cell.specs.Answers.{LoadAnswer}
use Rattle.ms_cell.specs.Loads.{IsPlace}
use Rattle.ms_cell.proofs.Groups.{settled_told}
use Rattle.ms_cell.proofs.Lifting.{step_there, step_elsewhere}
use Rattle.ms_cell.proofs.JournalLaws.{journeys_join, keeper_gate}
use Rattle.pool_keeper.specs.Images.{IsReady}
use Rattle.pool_keeper.specs.Groups.{IsKnown}
use Rattle.pool_keeper.specs.Keeper.{IsOf, IsSound, history_of, unwritten}
use Rattle.pool_keeper.specs.Commits.{IsOnDevice}
use Rattle.pool_keeper.specs.Notes.{KeeperNoted, note_of}
use Rattle.pool_keeper.specs.declared.keeper.Keeper.{Keeper}
use Rattle.pool_keeper.proofs.Growing.{grows_along}
use Rattle.pool_keeper.proofs.Knowing.{known_along, gate_grows, step_found, step_left, step_quiet}
use Rattle.pool_keeper.proofs.Remembering.{number_within}
use Rattle.pool_keeper.proofs.CommitImages.{origin_units}
use Rattle.pool_keeper.proofs.Sound.{same_or, seated, places, origin_is, last_collected, closed_later}
use Rattle.pool_keeper.proofs.Finishing.{sound_uncommitted, first_noted}
use Rattle.pool_keeper.proofs.ReadImages.{faults_then}

abbrev pub load_of : ℕ → Noted
load_of lane = record { lane = lane; act = Load }

-- a load notes itself, or nothing
abbrev pub LoadNote : ℕ → Option Noted → Type 0
LoadNote lane note = (note ≡ None) ⊎ (note ≡ Some (load_of lane))

load_quiet : (lane : ℕ) (note : Option Noted) → LoadNote lane note → (x : ℕ)
    → (fold (λ y (n : Noted). collected_by y n.act) x (option_to_list note ++ []) ≡ x) × (fold (λ y (n : Noted). settled_by y n.act) x (option_to_list note ++ []) ≡ x)
load_quiet lane step (inl is) x = rw is (refl, refl)
load_quiet lane step (inr is) x = rw is (refl, refl)

pub load_note : (lane : ℕ) (segs : List Seg) (result : Result (Option ℕ) AllocError) (o : Origin) (h : List Noted) (added : Option Noted) → LoadAnswer lane segs result o h added → LoadNote lane added
load_note lane segs (Ok None) o h added told = by_case told.notes where
  by_case : ((is_loaded h ≡ true) × (added ≡ None)) ⊎ ((is_loaded h ≡ false) × (added ≡ Some (load_of lane))) → LoadNote lane added
  by_case (inl was) = inl was.1
  by_case (inr now) = inr now.1
load_note lane segs (Ok (Some unit)) o h added told = inl told.0
load_note lane segs (Err e) o h added told = inl told

-- it is loaded at the place behind the load
pub loaded_place : (lane number : ℕ) (segs : List Seg) (p q : Passes) → Turned 0 number (LoadAnswer {E = AllocError} lane segs (Ok None)) p q → number < length p.metaslabs → IsPlace true number p q
loaded_place lane number segs p q turn lt = record {
  place = turn.before ++ option_to_list turn.note;
  from = prefix_trans (seen_in p number) turn.before _ (step_found 0 number _ p q turn.journey lt) (option_to_list turn.note, refl);
  to = step_left 0 number _ p q turn.journey lt;
  is = by_case turn.note turn.answer.notes;
} where
  by_case : (note : Option Noted) → ((is_loaded turn.before ≡ true) × (note ≡ None)) ⊎ ((is_loaded turn.before ≡ false) × (note ≡ Some (load_of lane))) → is_loaded (turn.before ++ option_to_list note) ≡ true
  by_case added (inl was) = rw was.1 (ap is_loaded (append-nil turn.before) ∙ was.0)
  by_case added (inr now) = rw now.1 (is_loaded-push turn.before (load_of lane))

module _ {D R : Type 0} (state : D → DiskState) (faults : D → ℕ) (t : Turns) (k : Keeper D R) (of : IsOf t k.start) (s : IsSound state faults k) where
  abbrev g : ℕ
  g = k.store.table.group.0

  abbrev vdevs : List VdevRow
  vdevs = k.start.store.value.layout.vdevs

  abbrev origin : ℕ → Origin
  origin = origin_in k.start.passes.value

  module _ (lane number : ℕ) (step : Step Noted) (q : Passes) (w : Journey 0 (at_metaslab number step ∷ []) k.passes q) (load : LoadNote lane step.note) where
    abbrev act : List Event
    act = at_metaslab number step ∷ []

    still : (j c : ℕ) → j < metaslabs_in vdevs → IsKnown g c (origin j) (s.journal j) (seen_in k.passes j) → IsKnown g c (origin j) (s.journal j) (seen_in q j)
    still j c lt was = by_place (same_or j number) where
      less : j < length k.passes.metaslabs
      less = omega (arith, places state faults t k of s, (seated state faults t k of s).know.count)

      by_place : (j ≡ number) ⊎ (j ≢ number) → IsKnown g c (origin j) (s.journal j) (seen_in q j)
      by_place (inl e) =
          known_along act k.passes q (origin j) j g c (s.journal j) (option_to_list step.note ++ []) w less
          (ap notes_of (subst (λ (i : ℕ). metaslab_steps i act ≡ step ∷ []) (sym e) (step_there number step))) (load_quiet lane step.note load) was
      by_place (inr ne) = known_along act k.passes q (origin j) j g c (s.journal j) [] w less (ap notes_of (step_elsewhere number j step ne)) (λ x. (refl, refl)) was

    pub sound_handed : IsSound state faults (record k { passes = q })
    sound_handed = record {
      events = s.events ++ act;
      journey = journeys_join 0 s.events act k.start.passes.value k.passes q s.journey w;
      journal = s.journal;
      layout = s.layout;
      from = s.from;
      gathered = record {
        few = s.gathered.few;
        before = λ j lt. still j (g + 1) (omega (arith, s.gathered.few)) (s.gathered.before j lt);
        others = λ j le lt. still j g lt (s.gathered.others j le lt);
        changes = s.gathered.changes;
      };
      counted = s.counted;
      gate = keeper_gate k.start.store.value.table.group.0 act k.passes q w ∙ s.gate;
      closed = λ some. closed_later k.start.store.value.table.group.0 (g + 1) k.passes.gate.seen q.gate.seen (gate_grows 0 act k.passes q w) (s.closed some);
      noted = s.noted;
      counts = s.counts;
      device = s.device;
    }

  -- what an honest device gave differs nowhere
  pub handed_same : (lane : ℕ) (id : MsId) (segs : List Seg) (unit : ℕ) (q : Passes) → IsIn t.vdevs id → Turned 0 (number_of t.vdevs id) (LoadAnswer {E = AllocError} lane segs (Ok (Some unit))) k.passes q
      → IsOnDevice state faults k s id (covered segs) → IsReady (history_of k.start unwritten) k.start.store.value.table (state k.start.store.value.disk) → ⊥
  handed_same lane id segs unit q inside turn device ready =
      let there : IsIn vdevs id = subst (λ (v : List VdevRow). IsIn v id) of.vdevs inside in
      let number : number_of t.vdevs id ≡ number_of vdevs id = ap (λ (v : List VdevRow). number_of v id) of.vdevs in
      let n : ℕ = number_of t.vdevs id in
      let all : length t.metaslabs ≡ metaslabs_in vdevs = places state faults t k of s in
      let less : number_of t.vdevs id < metaslabs_in vdevs = omega (arith, number, number_within vdevs id there) in
      let low : number_of t.vdevs id < length t.metaslabs = omega (arith, all, less) in
      let short : number_of t.vdevs id < length k.passes.metaslabs = omega (arith, low, (seated state faults t k of s).know.count) in
      let o : origin_in k.passes (number_of t.vdevs id) ≡ origin (number_of t.vdevs id) = origin_is state faults t k of s (number_of t.vdevs id) low in
      let told : IsLegal (origin (number_of t.vdevs id)) turn.before × IsLowestDifference (covered segs) (held (origin (number_of t.vdevs id)) turn.before (settled_group (origin (number_of t.vdevs id)) turn.before)) (origin (number_of t.vdevs id)).units unit =
      subst (λ (x : Origin). IsLegal x turn.before × IsLowestDifference (covered segs) (held x turn.before (settled_group x turn.before)) x.units unit) o turn.answer.1 in
      let known = known_of (number_of t.vdevs id) less in
      let seen : IsPrefix (s.journal (number_of t.vdevs id)) turn.before = prefix_trans _ _ _ known.0 (step_found 0 (number_of t.vdevs id) _ k.passes q turn.journey short) in
      let settled : settled_group (origin (number_of t.vdevs id)) turn.before ≡ g =
      settled_told (origin (number_of t.vdevs id)) turn.before (seen_in k.passes (number_of t.vdevs id)) (quiet_notes right_of 0 _ turn.before (step_quiet 0 (number_of t.vdevs id) _ k.passes q turn.journey short)) ∙ known.1 in
      let grows = grows_along (origin (number_of t.vdevs id)) (s.journal (number_of t.vdevs id)) turn.before seen told.0 in
      let units : (origin (number_of vdevs id)).units ≡ (row_at vdevs id.vdev).units = origin_units t k.start.passes.value vdevs of.fresh.know of.vdevs of.count (number_within vdevs) id there in
      let within : unit < (row_at vdevs id.vdev).units = omega (arith, told.1.within, units, ap (λ (i : ℕ). (origin i).units) number) in
      told.1.differs (device ready unit within
      ∙ (ap (λ (i : ℕ). held (origin i) (s.journal i) g unit) (sym number)
      ∙ (sym (grows.holds g unit (last_collected vdevs origin g s.journal k.passes k.gathered.items s.gathered (number_of t.vdevs id) less))
      ∙ ap (λ (i : ℕ). held (origin (number_of t.vdevs id)) turn.before i unit) (sym settled)))) where
        known_of : (j : ℕ) → j < metaslabs_in vdevs → IsPrefix (s.journal j) (seen_in k.passes j) × (settled_group (origin j) (seen_in k.passes j) ≡ g)
        known_of j lt = by_case (le_or (length k.gathered.items) j) where
          by_case : (length k.gathered.items ≤ j) ⊎ (j < length k.gathered.items) → IsPrefix (s.journal j) (seen_in k.passes j) × (settled_group (origin j) (seen_in k.passes j) ≡ g)
          by_case (inl le) = let is = s.gathered.others j le lt in (is.begins, is.seen_settled)
          by_case (inr less) = let is = s.gathered.before j less in (is.begins, is.seen_settled)

  -- damage is kept
  pub sound_damaged : (lane : ℕ) (id : MsId) (damage : Damage) (notes : Vec KeeperNoted Global) → k.first ≡ None → notes.items ≡ k.notes.items ++ (lane, note_of (Damaged id damage)) ∷ []
      → (IsReady (history_of k.start unwritten) k.start.store.value.table (state k.start.store.value.disk) → ⊥) → IsSound state faults (record k { first = Some (Damaged id damage); notes = notes })
  sound_damaged lane id damage notes idle is refuted =
      sound_uncommitted state faults t k of s (Some (Damaged id damage)) k.store notes
      (record { layout = refl; table = refl; counts = faults_then state faults k s idle; device = λ ready. absurd (refuted ready) })
      (first_noted state faults t k of s lane (Damaged id damage) notes.items idle is)

  pub place_within : (id : MsId) → IsIn t.vdevs id → number_of t.vdevs id < length k.passes.metaslabs
  place_within id inside = omega (arith, number_within t.vdevs id inside, of.count, (seated state faults t k of s).know.count)

  -- what was seen at a look is a place
  pub seen_place : (number : ℕ) (before : List Noted) (note : Option Noted) (q : Passes) (loaded : Bool) → number < length k.passes.metaslabs → Journey 0 (at_metaslab number (record { before = before; note = note }) ∷ []) k.passes q
      → note ≡ None → loaded ≡ is_loaded before → IsPlace loaded number k.passes q
  seen_place number before note q loaded lt w quiet is = record {
    place = before;
    from = step_found 0 number _ k.passes q w lt;
    to = prefix_trans before (before ++ option_to_list note) (seen_in q number) (option_to_list note, refl) (step_left 0 number _ k.passes q w lt);
    is = sym is;
  }
