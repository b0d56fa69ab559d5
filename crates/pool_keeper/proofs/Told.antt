-- What one holder tells another.
use Rattle.std.proofs.Common.{◌≡◌, ◌≢◌, ℕ, ◌+◌, ◌≤◌, ◌<◌, Option, None, List, [], ◌∷◌, ◌++◌, length, ◌⊎◌, inl, inr, sym, ◌∙◌, ap, subst, arith, Vec}
use Rattle.std.specs.List.{All, fold}
use Rattle.std.specs.declared.alloc.Global.{Global}
use Rattle.std.proofs.lemmas.List.Elements.{All-push}
use Rattle.zms_units.proofs.Bools.{le_or}
use Rattle.zms_units.specs.declared.faults.First.{First}
use Rattle.zms_dev.specs.Disk.{DiskState}
use Rattle.lane_steps.proofs.Steps.{prefix_trans}
use Rattle.turn_cell.specs.Notes.{IsPrefix}
use Rattle.turn_passes.proofs.Pairs.{some_at}
use Rattle.ms_model.specs.Origin.{Origin}
use Rattle.ms_model.specs.Gates.{synced_group}
use Rattle.ms_model.specs.Units.{settled_group, settled_by}
use Rattle.ms_model.specs.declared.notes.Noted.{Noted}
use Rattle.ms_model.specs.declared.notes.KeeperNote.TheVariants.{Sync}
use Rattle.ms_cell.specs.Turns.{Turns, origin_from}
use Rattle.ms_cell.specs.Passes.{Passes, Seated, KnowAll, fixed_of, origin_in, seen_in}
use Rattle.ms_cell.specs.Journey.{Journey}
use Rattle.ms_cell.proofs.JournalLaws.{stays_seated}
use Rattle.pool_keeper.specs.Keeper.{IsOf, IsSound}
use Rattle.pool_keeper.specs.Lines.{HasSettled}
use Rattle.pool_keeper.specs.Notes.{KeeperNoted, IsSyncTo, AreNoted}
use Rattle.pool_keeper.specs.declared.keeper.Keeper.{Keeper}
use Rattle.pool_keeper.proofs.Knowing.{seen_grows}
use Rattle.pool_keeper.proofs.Sound.{same_or, places}

opened_in : (t : Turns) (p : Passes) (k : ℕ) → KnowAll t p → k < length t.metaslabs → (origin_in p k).opened ≡ t.opened
opened_in t p k know lt =
    let c = some_at p.metaslabs k (omega (arith, know.count)) in
    let knows = know.each k c.0 c.1 in
    ap (λ x. (origin_from (fixed_of x)).opened) c.1 ∙ (ap (λ x. (origin_from x).opened) knows.is ∙ knows.stands.group)

-- the group that was settled last is told by the opened group and the journal
settled_alike : (o x : Origin) (h : List Noted) → o.opened ≡ x.opened → settled_group o h ≡ settled_group x h
settled_alike o x h same = ap (λ (n : ℕ). fold (λ y (note : Noted). settled_by y note.act) n h) same

-- one more metaslab was told
pub told_more : (p q r : Passes) (number told : ℕ) → told ≡ number → ((k : ℕ) → k < number → IsPrefix (seen_in p k) (seen_in q k)) → ((k : ℕ) → k < length q.metaslabs → IsPrefix (seen_in q k) (seen_in r k)) → number < length q.metaslabs
    → IsPrefix (seen_in p told) (seen_in r told) → (k : ℕ) → k < number + 1 → IsPrefix (seen_in p k) (seen_in r k)
told_more p q r number told same before grows within now k lt = by_place (same_or k number) where
  by_place : (k ≡ number) ⊎ (k ≢ number) → IsPrefix (seen_in p k) (seen_in r k)
  by_place (inl e) = subst (λ (n : ℕ). IsPrefix (seen_in p n) (seen_in r n)) (same ∙ sym e) now
  by_place (inr ne) = prefix_trans (seen_in p k) (seen_in q k) (seen_in r k) (before k (omega arith)) (grows k (omega arith))

pub grows_calm : (right : ℕ) (p q : Passes) → Journey right [] p q → (k : ℕ) → k < length p.metaslabs → IsPrefix (seen_in p k) (seen_in q k)
grows_calm right p q w k lt = seen_grows right [] p q w k lt

module _ {D R : Type 0} (state : D → DiskState) (faults : D → ℕ) (t : Turns) (k : Keeper D R) (of : IsOf t k.start) (s : IsSound state faults k) where
  abbrev g : ℕ
  g = k.store.table.group.0

  pub told_settled : (lane : ℕ) (p q : Passes) → Seated lane t p → Journey lane [] p q → ((i : ℕ) → i < length t.metaslabs → IsPrefix (seen_in k.passes i) (seen_in q i)) → IsPrefix k.passes.gate.seen q.gate.seen → HasSettled t g q
  told_settled lane p q seat w each gate = record {
    each = λ i lt. (seen_in k.passes i, (each i lt, settled_at i lt (le_or (length k.gathered.items) i)));
    gate = (k.passes.gate.seen, (gate, omega (arith, s.gate, ap (λ (n : ℕ). synced_group n k.passes.gate.seen) of.opened)));
  } where
    after : Seated lane t q
    after = stays_seated lane t [] p q seat w

    alike : (i : ℕ) → i < length t.metaslabs → settled_group (origin_in q i) (seen_in k.passes i) ≡ settled_group (origin_in k.start.passes.value i) (seen_in k.passes i)
    alike i lt = settled_alike (origin_in q i) (origin_in k.start.passes.value i) (seen_in k.passes i) (opened_in t q i after.know lt ∙ sym (opened_in t k.start.passes.value i of.fresh.know lt))

    settled_at : (i : ℕ) → i < length t.metaslabs → (length k.gathered.items ≤ i) ⊎ (i < length k.gathered.items) → g ≤ settled_group (origin_in q i) (seen_in k.passes i)
    settled_at i lt (inl le) = let is = s.gathered.others i le (omega (arith, places state faults t k of s)) in omega (arith, is.seen_settled, alike i lt)
    settled_at i lt (inr less) = let is = s.gathered.before i less in omega (arith, is.seen_settled, alike i lt)

pub settled_lower : (t : Turns) (a b : ℕ) (q : Passes) → a ≤ b → HasSettled t b q → HasSettled t a q
settled_lower t a b q le is = record {
  each = λ k lt. let at = is.each k lt in (at.0, (at.1.0, omega (arith, le, at.1.1)));
  gate = (is.gate.0, (is.gate.1.0, omega (arith, le, is.gate.1.1)));
}

-- the last committed group is noted
pub sound_synced : {D R : Type 0} (state : D → DiskState) (faults : D → ℕ) (k : Keeper D R) (lane : ℕ) (notes : Vec KeeperNoted Global) → IsSound state faults k → k.first ≡ None
    → notes.items ≡ k.notes.items ++ (lane, Sync k.store.table.group) ∷ [] → IsSound state faults (record k { notes = notes })
sound_synced state faults k lane notes s idle is = record {
  events = s.events;
  journey = s.journey;
  journal = s.journal;
  layout = s.layout;
  from = s.from;
  gathered = s.gathered;
  counted = s.counted;
  gate = s.gate;
  closed = s.closed;
  noted = subst (λ (f : Option First). AreNoted k.store.table.group.0 f notes.items) (sym idle)
      (subst (All (IsSyncTo k.store.table.group.0)) (sym is)
      (All-push (IsSyncTo k.store.table.group.0) k.notes.items (lane, Sync k.store.table.group) (subst (λ (f : Option First). AreNoted k.store.table.group.0 f k.notes.items) idle s.noted) (omega arith)));
  counts = s.counts;
  device = s.device;
}
