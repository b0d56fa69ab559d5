-- The device of a run, as the journals grow.
use Rattle.std.proofs.Common.{ℕ, Option, List}
use Rattle.zms_units.specs.declared.faults.First.{First}
use Rattle.zms_dev.specs.Disk.{DiskState}
use Rattle.zms_dev.proofs.Moments.{weaker}
use Rattle.vdev_map.specs.declared.table.Table.{Table}
use Rattle.ms_model.specs.declared.notes.Noted.{Noted}
use Rattle.pool_keeper.specs.History.{History, GrowsTo}
use Rattle.pool_keeper.specs.Images.{Remembers, IsHeldBy}
use Rattle.pool_keeper.proofs.Remembering.{remembers_grown}

pub held_grown : (h : History) (journal : ℕ → List Noted) (group : ℕ) (first : Option First) (table : Table) (start now : DiskState) → GrowsTo h journal → IsHeldBy h group first table start now
    → IsHeldBy (record h { journal = journal }) group first table start now
held_grown h journal group first table start now grows was = record {
  tells = was.tells;
  run = weaker start now (Remembers h h.opened) (Remembers (record h { journal = journal }) h.opened) (λ c is. remembers_grown h journal h.opened c grows is) was.run;
  left = λ c may. remembers_grown h journal group c grows (was.left c may);
  rests = was.rests;
  honest = was.honest;
  spares = was.spares;
  adds = was.adds;
}
