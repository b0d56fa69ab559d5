-- What the keeper leaves of a pool, by the closed journals.
use Rattle.std.proofs.Common.{◌≡◌, ℕ, ◌<◌, ◌≤◌, List, [], Option, Some, true, false, map, length, leb, refl, sym, ap, ◌∙◌, subst, arith, ⊎_elim}
use Rattle.std.specs.Prelude.{slice_get, option_map}
use Rattle.std.proofs.lemmas.Option.{slice_get-map}
use Rattle.std.proofs.lemmas.Bool.Decides.{leb_tells}
use Rattle.zms_dev.specs.Disk.{DiskState}
use Rattle.lane_steps.proofs.Steps.{prefix_trans}
use Rattle.turn_cell.specs.Known.{Known}
use Rattle.turn_cell.specs.Notes.{IsPrefix}
use Rattle.vdev_map.specs.Numbers.{metaslabs_in}
use Rattle.turn_passes.proofs.Pairs.{some_at}
use Rattle.ms_model.specs.Origin.{Origin}
use Rattle.ms_model.specs.Legal.{IsLegal}
use Rattle.ms_model.specs.declared.notes.Noted.{Noted}
use Rattle.ms_core.specs.State.{MsState, origin_of}
use Rattle.ms_core.specs.Standing.{standing_of}
use Rattle.ms_core.specs.declared.kept.Standing.{Standing}
use Rattle.ms_cell.specs.Turns.{Turns, origin_from}
use Rattle.ms_cell.specs.Passes.{Passes, AreIdle, HaveAll, origin_in, seen_in}
use Rattle.ms_cell.specs.Closed.{AreClosed}
use Rattle.ms_cell.proofs.Gathering.{fresh_seated, seated_idle}
use Rattle.ms_cell.proofs.JournalLaws.{stays_seated, go_on}
use Rattle.lane_passes.specs.Lanes.{fixed_at}
use Rattle.meta_store.specs.Stores.{StoreState}
use Rattle.pool_keeper.specs.History.{History, Grows, GrowsTo}
use Rattle.pool_keeper.specs.Images.{IsReady, IsHeldBy}
use Rattle.pool_keeper.specs.Keeper.{unwritten, MayBegin, history_of, IsSound}
use Rattle.pool_keeper.specs.Notes.{AreNoted}
use Rattle.pool_keeper.specs.declared.keeper.Keeper.{Keeper}
use Rattle.pool_keeper.proofs.Growing.{grows_along}
use Rattle.pool_keeper.proofs.Holding.{held_grown}
use Rattle.range_tree.specs.declared.trees.RangeTrees.{RangeTrees}
use Rattle.pool_lanes.specs.Lanes.{Ended, notes_of, ground_in, IsKept}
use Rattle.pool_lanes.proofs.Grounds.{stands_of, origin_there, origins_there}

-- what a closed metaslab was when the pool was opened
pub origin_closed : (p : Passes) (metaslabs : List MsState) (k : ℕ) (m : MsState) → map (λ (c : Known Noted Standing). c.fixed) p.metaslabs ≡ stands_of metaslabs → slice_get metaslabs k ≡ Some m → origin_in p k ≡ origin_of m
origin_closed p metaslabs k m is there =
    origin_there p (record { vdevs = []; opened = 0; metaslabs = stands_of metaslabs; classes = [] }) k is
    ∙ ap (λ (x : Option (Option Standing)). origin_from (fixed_at x)) (slice_get-map (λ (n : MsState). Some (standing_of n)) metaslabs k ∙ ap (λ (x : Option MsState). option_map (λ (n : MsState). Some (standing_of n)) x) there)

module _ {D : Type 0} (state : D → DiskState) (faults : D → ℕ) (t : Turns) (k : Keeper D RangeTrees) (begins : MayBegin t k.start.store.value k.start.passes.value) (sound : IsSound state faults k)
    (last : Passes) (e : Ended) (has : HaveAll last k.passes) (closed : AreClosed t last e.gate e.metaslabs) (stands : map (λ (c : Known Noted Standing). c.fixed) k.start.passes.value.metaslabs ≡ stands_of e.metaslabs) where
  idle : AreIdle t k.passes
  idle = seated_idle 0 t k.passes (stays_seated 0 t sound.events k.start.passes.value k.passes (fresh_seated 0 t k.start.passes.value begins.fresh) sound.journey)

  known : (n : ℕ) → n < metaslabs_in k.start.store.value.layout.vdevs → IsPrefix (sound.journal n) (seen_in k.passes n)
  known n lt =
      ⊎_elim
      (λ (u : (leb (length k.gathered.items) n ≡ true) × (length k.gathered.items ≤ n)). (sound.gathered.others n u.1 lt).begins)
      (λ (u : (leb (length k.gathered.items) n ≡ false) × (n < length k.gathered.items)). (sound.gathered.before n u.1).begins)
      (leb_tells (length k.gathered.items) n)

  grown : GrowsTo (history_of k.start sound.journal) (λ n. notes_of (slice_get e.metaslabs n))
  grown = record {
    each = λ n lt.
        let m = some_at e.metaslabs n (omega (arith, lt, closed.count, begins.count, ap metaslabs_in begins.vdevs)) in
        let more = prefix_trans (sound.journal n) (seen_in k.passes n) m.0.notes (known n lt) ((go_on t k.passes last e.gate e.metaslabs idle has closed).each n m.0 m.1) in
        let origin = origin_closed k.start.passes.value e.metaslabs n m.0 stands m.1 in
        subst (λ (l : List Noted). Grows (origin_in k.start.passes.value n) (sound.journal n) l) (sym (ap notes_of m.1))
        (grows_along (origin_in k.start.passes.value n) (sound.journal n) m.0.notes more (subst (λ (o : Origin). IsLegal o m.0.notes) (sym origin) (closed.lawful n m.0 m.1).legal));
  }

  abbrev history : (ℕ → Origin) → (ℕ → List Noted) → History
  history origin journal = record { layout = k.start.store.value.layout; opened = k.start.store.value.table.group.0; origin = origin; journal = journal }

  kept_at_start : e.keeper ≡ k.notes.items → IsKept state faults k.start.store.value e k.store.table.group k.store.disk
  kept_at_start notes =
      let start = k.start.store.value in
      let same = origins_there k.start.passes.value (ground_in start e) stands in
      let closing : ℕ → List Noted = λ n. notes_of (slice_get e.metaslabs n) in
      record {
        first = k.first;
        table = k.store.table;
        group_is = refl;
        noted = subst (AreNoted k.store.table.group.0 k.first) (sym notes) sound.noted;
        counts = sound.counts;
        device = λ ready.
            subst (λ (o : ℕ → Origin). IsHeldBy (history o closing) k.store.table.group.0 k.first k.store.table (state start.disk) (state k.store.disk)) same
            (held_grown (history_of k.start sound.journal) closing k.store.table.group.0 k.first k.store.table (state start.disk) (state k.store.disk) grown
            (sound.device (subst (λ (o : ℕ → Origin). IsReady (history o unwritten) start.table (state start.disk)) (sym same) ready)));
      }

  pub kept : (store : StoreState D) → k.start.store.value ≡ store → e.keeper ≡ k.notes.items → IsKept state faults store e k.store.table.group k.store.disk
  kept store is notes = subst (λ (s : StoreState D). IsKept state faults s e k.store.table.group k.store.disk) is (kept_at_start notes)
