-- Why a report was not written to its end.
use Rattle.std.specs.Prelude.{◌≡◌, ℕ, List, Result, IsErrOf}
use Rattle.zms_dev.specs.Causes.{one_more}
use Rattle.vdev_map.specs.Numbers.{IsIn, number_of}
use Rattle.vdev_map.specs.declared.table.Table.{Table}
use Rattle.meta_store.specs.Causes.{IsFirstDamaged, ShowsDamage}
use Rattle.meta_store.specs.Words.{row_of, units_of, words_in}
use Rattle.meta_store.specs.declared.causes.FoundFault.{FoundFault}
use Rattle.meta_store.specs.declared.causes.FoundFault.TheVariants.{Failed as FoundFailed, Memory as FoundMemory, Damaged as FoundDamaged}
use Rattle.zdb_report.specs.declared.faults.ReportFault.{ReportFault}
use Rattle.zdb_report.specs.declared.faults.ReportFault.TheVariants.{Write, Device, Damaged, Memory}

-- units that were not found, as a fault of a report
abbrev pub of_found : FoundFault → ReportFault
of_found FoundFailed = Device
of_found FoundMemory = Memory
of_found (FoundDamaged id damage) = Damaged id damage

-- damage of the first metaslab whose words show any; of a device or a sink that failed its count of faults tells, and want
-- of memory is free
abbrev pub IsReportFault : List ℕ → Table → ReportFault → Type 0
IsReportFault image table Write = Unit {0}
IsReportFault image table Device = Unit {0}
IsReportFault image table (Damaged id damage) = IsFirstDamaged image table id damage
IsReportFault image table Memory = Unit {0}

-- damage of the metaslab of a number
abbrev pub IsFaultAt : List ℕ → Table → ℕ → ReportFault → Type 0
IsFaultAt image table number Write = Unit {0}
IsFaultAt image table number Device = Unit {0}
IsFaultAt image table number (Damaged id damage) =
    IsIn table.vdevs id × (number_of table.vdevs id ≡ number) × ShowsDamage (words_in image table id) (units_of table id) (row_of table id).held damage
IsFaultAt image table number Memory = Unit {0}

-- the counts of faults of the device and of the sink stay, but that of the one that failed, which rises by one
pub record HaveFaulted (device device_now sink sink_now : ℕ) (result : Result (Unit {0}) ReportFault) : Type 0 where
  pub device_steady : (IsErrOf result Device → ⊥) → device_now ≡ device
  pub device_failed : IsErrOf result Device → device_now ≡ one_more device
  pub sink_steady : (IsErrOf result Write → ⊥) → sink_now ≡ sink
  pub sink_failed : IsErrOf result Write → sink_now ≡ one_more sink
