-- A keeper stays sound over a commit.
use Rattle.std.proofs.Common.{◌≡◌, ℕ, Bool, ◌+◌, ◌≤◌, ◌<◌, Option, Some, None, List, [], ◌∷◌, ◌++◌, length, sym, ◌∙◌, ap, subst, arith, Vec}
use Rattle.std.specs.List.{All}
use Rattle.std.specs.declared.alloc.Global.{Global}
use Rattle.std.proofs.lemmas.List.{append-nil}
use Rattle.std.proofs.lemmas.List.Elements.{All-weaker}
use Rattle.zms_units.specs.declared.faults.First.{First}
use Rattle.zms_units.specs.declared.places.VdevRow.{VdevRow}
use Rattle.zms_units.specs.declared.segments.Group.{Group}
use Rattle.zms_dev.specs.Disk.{DiskState}
use Rattle.lane_steps.proofs.Steps.{prefix_trans}
use Rattle.vdev_map.specs.Numbers.{metaslabs_in}
use Rattle.vdev_map.specs.declared.layout.Batch.{Batch}
use Rattle.vdev_map.specs.declared.table.Table.{Table}
use Rattle.ms_model.specs.Origin.{Origin}
use Rattle.ms_model.specs.Gates.{synced_group}
use Rattle.ms_model.specs.Units.{settled_group, collected_group}
use Rattle.ms_model.specs.declared.notes.KeeperNote.TheVariants.{Sync}
use Rattle.ms_cell.specs.Turns.{Turns}
use Rattle.ms_cell.specs.Passes.{Passes, origin_in, seen_in}
use Rattle.ms_cell.specs.GateAnswers.{IsClosedBefore}
use Rattle.ms_cell.proofs.JournalLaws.{journeys_join}
use Rattle.meta_store.specs.Stores.{StoreState}
use Rattle.pool_keeper.specs.Images.{IsHeldBy}
use Rattle.pool_keeper.specs.Groups.{IsKnown, AreGathered, AreCounted}
use Rattle.pool_keeper.specs.Notes.{KeeperNoted, IsSyncTo, AreNoted, IsCounted, note_of, noted}
use Rattle.pool_keeper.specs.Keeper.{IsOf, IsSound, history_of}
use Rattle.pool_keeper.specs.Answers.{AreDue, settle_of, IsSettled}
use Rattle.pool_keeper.specs.Commits.{IsCommittedAs, IsUncommitted, IsOnDevice}
use Rattle.pool_keeper.specs.History.{contents_of}
use Rattle.zms_units.specs.declared.places.MsId.{MsId}
use Rattle.pool_keeper.specs.declared.keeper.Keeper.{Keeper}
use Rattle.pool_keeper.proofs.Knowing.{seen_grows, settled_then, collected_then}
use Rattle.pool_keeper.proofs.Sound.{seated, places, origin_is}

sync_later : (a b : ℕ) (n : KeeperNoted) → a ≤ b → IsSyncTo a n → IsSyncTo b n
sync_later a b (lane, Sync group) le is = omega (arith, le, is)
sync_later a b (lane, _) le is = is

pub syncs_later : (a b : ℕ) (notes : List KeeperNoted) → a ≤ b → All (IsSyncTo a) notes → All (IsSyncTo b) notes
syncs_later a b notes le are = All-weaker (IsSyncTo a) (IsSyncTo b) (λ n is. sync_later a b n le is) notes are

module _ {D R : Type 0} (state : D → DiskState) (faults : D → ℕ) (t : Turns) (k : Keeper D R) (of : IsOf t k.start) (s : IsSound state faults k) where
  abbrev g : ℕ
  g = k.store.table.group.0

  abbrev vdevs : List VdevRow
  vdevs = k.start.store.value.layout.vdevs

  abbrev origin : ℕ → Origin
  origin = origin_in k.start.passes.value

  -- the group that each metaslab collected is due
  pub all_due : (group : Group) → length k.gathered.items ≡ length t.metaslabs → group.0 ≡ g + 1 → AreDue t group k.passes
  all_due group all is i lt =
      let known = s.gathered.before i (omega (arith, all)) in
      let same = origin_is state faults t k of s i lt in
      record {
        next = is ∙ ap (λ (n : ℕ). n + 1) (sym (ap (λ (o : Origin). settled_group o (seen_in k.passes i)) same ∙ known.seen_settled));
        collected = omega (arith, is, known.seen_collected, ap (λ (o : Origin). collected_group o (seen_in k.passes i)) same);
      }

  pub gate_next : (group : Group) → group.0 ≡ g + 1 → group.0 ≡ synced_group t.opened k.passes.gate.seen + 1
  gate_next group is = omega (arith, is, s.gate, ap (λ (n : ℕ). synced_group n k.passes.gate.seen) of.opened)

  module _ (lane : ℕ) (group : Group) (store : StoreState D) (q : Passes) (v : Vec Batch Global) (all : length k.gathered.items ≡ length t.metaslabs) (idle : k.first ≡ None) (is : group.0 ≡ g + 1)
      (laid : IsCommittedAs state faults k s store) (settled : IsSettled t lane group k.passes q) (empty : v.items ≡ []) where
    known : (i : ℕ) → i < metaslabs_in vdevs → IsKnown (g + 1) (g + 1) (origin i) (s.journal i) (seen_in q i)
    known i lt =
        let was = s.gathered.before i (omega (arith, all, places state faults t k of s)) in
        let here : i < length t.metaslabs = omega (arith, places state faults t k of s) in
        let less : i < length k.passes.metaslabs = omega (arith, here, (seated state faults t k of s).know.count) in
        record {
          begins = prefix_trans (s.journal i) (seen_in k.passes i) (seen_in q i) was.begins (seen_grows 0 settled.events k.passes q settled.journey i less);
          legal = was.legal;
          mark_settled = omega (arith, was.mark_settled);
          mark_collected = was.mark_collected;
          seen_settled = settled_then settled.events k.passes q settled.journey (origin i) i less (settle_of lane group ∷ []) (settled.each i here) ∙ is;
          seen_collected = collected_then settled.events k.passes q settled.journey (origin i) i less (settle_of lane group ∷ []) (settled.each i here) ∙ was.seen_collected;
        }

    gathered : AreGathered vdevs origin (g + 1) s.journal q []
    gathered = record { few = omega arith; before = λ i lt. absurd (omega arith); others = λ i le lt. known i lt; changes = λ i b e. cc }

    pub sound_committed : IsSound state faults (record k { store = store; passes = q; gathered = v })
    sound_committed = record {
      events = s.events ++ settled.events;
      journey = journeys_join 0 s.events settled.events k.start.passes.value k.passes q s.journey settled.journey;
      journal = s.journal;
      layout = laid.layout ∙ s.layout;
      from = omega (arith, laid.group, s.from);
      gathered = subst (AreGathered vdevs origin store.table.group.0 s.journal q) (sym empty) (subst (λ (n : ℕ). AreGathered vdevs origin n s.journal q []) (sym laid.group) gathered);
      counted = subst (λ (n : ℕ). AreCounted vdevs n store.table origin s.journal) (sym laid.group) laid.counted;
      gate = ap (λ (n : ℕ). synced_group n q.gate.seen) (sym of.opened) ∙ (settled.gate ∙ (is ∙ sym laid.group));
      closed = λ some. absurd (omega (arith, ap length empty, some));
      noted = subst (λ f. AreNoted store.table.group.0 f k.notes.items) (sym idle)
          (syncs_later g store.table.group.0 k.notes.items (omega (arith, laid.group)) (subst (λ f. AreNoted g f k.notes.items) idle s.noted));
      counts = subst (IsCounted (faults k.start.store.value.disk) (faults store.disk)) (sym idle) laid.counts;
      device = λ ready.
          subst (λ f. IsHeldBy (history_of k.start s.journal) store.table.group.0 f store.table (state k.start.store.value.disk) (state store.disk)) (sym idle)
          (subst (λ (n : ℕ). IsHeldBy (history_of k.start s.journal) n None store.table (state k.start.store.value.disk) (state store.disk)) (sym laid.group) (laid.device ready));
    }

  -- the group is not committed, and what was met is kept and noted
  pub sound_uncommitted : (first : Option First) (store : StoreState D) (notes : Vec KeeperNoted Global) → IsUncommitted state faults k s first store → AreNoted g first notes.items
      → IsSound state faults (record k { store = store; first = first; notes = notes })
  sound_uncommitted first store notes laid noted = record {
    events = s.events;
    journey = s.journey;
    journal = s.journal;
    layout = laid.layout ∙ s.layout;
    from = omega (arith, same, s.from);
    gathered = subst (λ (n : ℕ). AreGathered vdevs origin n s.journal k.passes k.gathered.items) (sym same) s.gathered;
    counted = subst (λ (x : Table). AreCounted vdevs x.group.0 x origin s.journal) (sym laid.table) s.counted;
    gate = s.gate ∙ sym same;
    closed = λ some. subst (λ (n : ℕ). IsClosedBefore k.start.store.value.table.group.0 (n + 1) k.passes.gate.seen) (sym same) (s.closed some);
    noted = subst (λ (n : ℕ). AreNoted n first notes.items) (sym same) noted;
    counts = laid.counts;
    device = λ ready.
        subst (λ (n : ℕ). IsHeldBy (history_of k.start s.journal) n first store.table (state k.start.store.value.disk) (state store.disk)) (sym same) (laid.device ready);
  } where
    same : store.table.group.0 ≡ g
    same = ap (λ (x : Table). x.group.0) laid.table

  pub first_noted : (lane : ℕ) (first : First) (notes : List KeeperNoted) → k.first ≡ None → notes ≡ k.notes.items ++ (lane, note_of first) ∷ [] → AreNoted g (Some first) notes
  first_noted lane first notes idle is = (record { before = k.notes.items; lane = lane; whole = is }, subst (λ f. AreNoted g f k.notes.items) idle s.noted)

  -- nothing was met
  pub sound_unmet : (store : StoreState D) → k.first ≡ None → IsUncommitted state faults k s None store → IsSound state faults (record k { store = store })
  sound_unmet store idle laid =
      subst (λ f. IsSound state faults (record k { store = store; first = f })) (sym idle)
      (sound_uncommitted None store k.notes laid (subst (λ f. AreNoted g f k.notes.items) idle s.noted))

  -- with what the device gave of a metaslab
  pub still_on_device : (store : StoreState D) (id : MsId) (found : ℕ → Bool) → k.first ≡ None → IsUncommitted state faults k s None store → IsOnDevice state faults k s id found
      → (after : IsSound state faults (record k { store = store })) × IsOnDevice state faults (record k { store = store }) after id found
  still_on_device store id found idle laid device = (
    record {
      events = s.events;
      journey = s.journey;
      journal = s.journal;
      layout = laid.layout ∙ s.layout;
      from = omega (arith, same, s.from);
      gathered = subst (λ (n : ℕ). AreGathered vdevs origin n s.journal k.passes k.gathered.items) (sym same) s.gathered;
      counted = subst (λ (x : Table). AreCounted vdevs x.group.0 x origin s.journal) (sym laid.table) s.counted;
      gate = s.gate ∙ sym same;
      closed = λ some. subst (λ (n : ℕ). IsClosedBefore k.start.store.value.table.group.0 (n + 1) k.passes.gate.seen) (sym same) (s.closed some);
      noted = subst (λ (n : ℕ). AreNoted n k.first k.notes.items) (sym same) s.noted;
      counts = subst (IsCounted (faults k.start.store.value.disk) (faults store.disk)) (sym idle) laid.counts;
      device = λ ready.
          subst (λ f. IsHeldBy (history_of k.start s.journal) store.table.group.0 f store.table (state k.start.store.value.disk) (state store.disk)) (sym idle)
          (subst (λ (n : ℕ). IsHeldBy (history_of k.start s.journal) n None store.table (state k.start.store.value.disk) (state store.disk)) (sym same) (laid.device ready));
    },
    λ ready u lt. device ready u lt ∙ ap (λ (n : ℕ). (contents_of (history_of k.start s.journal) n).held id u) (sym same),
  ) where
    same : store.table.group.0 ≡ g
    same = ap (λ (x : Table). x.group.0) laid.table

  pub met_noted : (lane : ℕ) (met : Option First) (notes : List KeeperNoted) → k.first ≡ None → notes ≡ k.notes.items ++ noted lane met → AreNoted g met notes
  met_noted lane None notes idle is = subst (λ (l : List KeeperNoted). All (IsSyncTo g) l) (sym (is ∙ append-nil k.notes.items)) (subst (λ f. AreNoted g f k.notes.items) idle s.noted)
  met_noted lane (Some first) notes idle is = first_noted lane first notes idle is
