-- A keeper takes room for its notes, or looks around.
use Rattle.std.proofs.Common.{◌≡◌, ℕ, sym, subst, Vec}
use Rattle.std.specs.declared.alloc.Global.{Global}
use Rattle.zms_dev.specs.Disk.{DiskState}
use Rattle.pool_keeper.specs.Keeper.{IsSound}
use Rattle.pool_keeper.specs.Notes.{KeeperNoted, AreNoted}
use Rattle.pool_keeper.specs.declared.keeper.Keeper.{Keeper}

pub sound_renoted : {D R : Type 0} (state : D → DiskState) (faults : D → ℕ) (k : Keeper D R) → IsSound state faults k → (notes : Vec KeeperNoted Global) → notes.items ≡ k.notes.items → IsSound state faults (record k { notes = notes })
sound_renoted state faults k s notes same = record {
  events = s.events;
  journey = s.journey;
  journal = s.journal;
  layout = s.layout;
  from = s.from;
  gathered = s.gathered;
  counted = s.counted;
  gate = s.gate;
  closed = s.closed;
  noted = subst (AreNoted k.store.table.group.0 k.first) (sym same) s.noted;
  counts = s.counts;
  device = s.device;
}
