-- A new keeper is sound.
use Rattle.std.proofs.Common.{◌≡◌, ℕ, ◌<◌, None, List, [], length, refl, sym, ◌∙◌, ap, subst, arith}
use Rattle.std.specs.List.{All}
use Rattle.std.proofs.lemmas.List.Elements.{All-nil}
use Rattle.zms_dev.specs.Disk.{DiskState}
use Rattle.zms_dev.proofs.Moments.{started}
use Rattle.zms_dev.proofs.Sparing.{spares_none}
use Rattle.turn_passes.proofs.Pairs.{some_at}
use Rattle.vdev_map.specs.Numbers.{metaslabs_in}
use Rattle.ms_model.specs.Origin.{Origin}
use Rattle.ms_model.specs.Gates.{synced_group}
use Rattle.ms_model.specs.Units.{settled_group, collected_group}
use Rattle.ms_model.specs.declared.notes.Noted.{Noted}
use Rattle.ms_model.proofs.Histories.{legal_none}
use Rattle.ms_cell.specs.Turns.{Turns, origin_from}
use Rattle.ms_cell.specs.Passes.{Passes, AreFresh, fixed_of, seen_of, origin_in, seen_in}
use Rattle.ms_cell.proofs.Gathering.{fresh_seated}
use Rattle.ms_cell.proofs.JournalLaws.{no_journey}
use Rattle.meta_store.proofs.LastGroup.{adds_none}
use Rattle.pool_keeper.specs.Images.{Remembers, IsReady, IsHeldBy, IsBeside}
use Rattle.pool_keeper.specs.Groups.{IsKnown, AreGathered}
use Rattle.pool_keeper.specs.Notes.{IsSyncTo, AreNoted, IsCounted}
use Rattle.pool_keeper.specs.Keeper.{MayBegin, IsSound, history_of, unwritten}
use Rattle.pool_keeper.specs.declared.keeper.Keeper.{Keeper}

-- of new cells nothing was seen
fresh_seen : (t : Turns) (p : Passes) (k : ℕ) → AreFresh 0 t p → k < length t.metaslabs → seen_in p k ≡ []
fresh_seen t p k f lt =
    let turn = some_at t.metaslabs k lt in
    let c = some_at p.metaslabs k (omega (arith, f.know.count)) in
    ap seen_of c.1 ∙ (f.each.at k turn.0 c.0 turn.1 c.1).seen

fresh_opened : (t : Turns) (p : Passes) (k : ℕ) → AreFresh 0 t p → k < length t.metaslabs → (origin_in p k).opened ≡ t.opened
fresh_opened t p k f lt =
    let c = some_at p.metaslabs k (omega (arith, f.know.count)) in
    let knows = f.know.each k c.0 c.1 in
    ap (λ x. (origin_from (fixed_of x)).opened) c.1 ∙ (ap (λ x. (origin_from x).opened) knows.is ∙ knows.stands.group)

fresh_known : (o : Origin) (g : ℕ) (seen : List Noted) → o.opened ≡ g → seen ≡ [] → IsKnown g g o [] seen
fresh_known o g seen opened none = record {
  begins = (seen, refl);
  legal = legal_none o;
  mark_settled = omega (arith, opened);
  mark_collected = opened;
  seen_settled = ap (settled_group o) none ∙ opened;
  seen_collected = ap (collected_group o) none ∙ opened;
}

module _ {D R : Type 0} (state : D → DiskState) (faults : D → ℕ) (t : Turns) (k : Keeper D R) (may : MayBegin t k.start.store.value k.start.passes.value) (first : k.first ≡ None) (notes : k.notes.items ≡ []) (gathered : k.gathered.items ≡ [])
    (only_now : (c : List ℕ) → (state k.start.store.value.disk).left_since (state k.start.store.value.disk).moment c → (state k.start.store.value.disk).may_leave c) where
  abbrev g : ℕ
  g = k.start.store.value.table.group.0

  abbrev p : Passes
  p = k.start.passes.value

  abbrev disk : DiskState
  disk = state k.start.store.value.disk

  none_gathered : AreGathered k.start.store.value.layout.vdevs (origin_in p) g unwritten p []
  none_gathered = record {
    few = omega arith;
    before = λ i lt. absurd (omega arith);
    others = λ i le lt.
        let less : i < length t.metaslabs = omega (arith, may.count, ap metaslabs_in may.vdevs) in
        fresh_known (origin_in p i) g (seen_in p i) (fresh_opened t p i may.fresh less ∙ may.opened) (fresh_seen t p i may.fresh less);
    changes = λ i b e. cc;
  }

  held : IsReady (history_of k.start unwritten) k.start.store.value.table disk → IsHeldBy (history_of k.start unwritten) g None k.start.store.value.table disk disk
  held ready = record {
    tells = ready.rests.tells;
    run = started disk (Remembers (history_of k.start unwritten) g) (λ c since. ready.left c (only_now c since));
    left = ready.left;
    rests = λ e. ready.rests;
    honest = λ bad. bad;
    spares = spares_none (IsBeside k.start.store.value.layout) disk ready.rests.tells only_now;
    adds = adds_none disk disk refl;
  }

  begun : IsSound state faults (record k { store = k.start.store.value; passes = p })
  begun = record {
    events = [];
    journey = no_journey 0 t p (fresh_seated 0 t p may.fresh);
    journal = unwritten;
    layout = refl;
    from = omega arith;
    gathered = subst (AreGathered k.start.store.value.layout.vdevs (origin_in p) g unwritten p) (sym gathered) none_gathered;
    counted = may.counted;
    gate = ap (synced_group g) may.fresh.gate.seen;
    closed = λ some. absurd (omega (arith, ap length gathered, some));
    noted = subst (λ f. AreNoted g f k.notes.items) (sym first) (subst (All (IsSyncTo g)) (sym notes) (All-nil (IsSyncTo g)));
    counts = subst (IsCounted (faults k.start.store.value.disk) (faults k.start.store.value.disk)) (sym first) refl;
    device = λ ready. subst (λ f. IsHeldBy (history_of k.start unwritten) g f k.start.store.value.table disk disk) (sym first) (held ready);
  }

  pub sound_begun : k.start.store.value ≡ k.store → k.start.passes.value ≡ k.passes → IsSound state faults k
  sound_begun store passes =
      subst (λ x. IsSound state faults (record k { passes = x })) passes
      (subst (λ x. IsSound state faults (record k { store = x; passes = k.start.passes.value })) store begun)
