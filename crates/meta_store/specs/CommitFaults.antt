-- Why a group is not committed.
use Rattle.std.specs.Prelude.{◌≡◌, ℕ, ◌⊎◌, List}
use Rattle.vdev_map.specs.Numbers.{IsIn}
use Rattle.vdev_map.specs.declared.table.Table.{Table}
use Rattle.uber_ring.specs.declared.faults.TableFault.{TableFault}
use Rattle.uber_ring.specs.declared.faults.TableFault.TheVariants.{Failed as TableFailed, Memory as TableMemory, TableDamaged as DamagedTable, Malformed as MalformedTable}
use Rattle.meta_store.specs.Causes.{ShowsDamage}
use Rattle.meta_store.specs.Words.{row_of, units_of, words_in}
use Rattle.meta_store.specs.declared.causes.FoundFault.{FoundFault}
use Rattle.meta_store.specs.declared.causes.FoundFault.TheVariants.{Failed as FoundFailed, Memory as FoundMemory, Damaged as FoundDamaged}
use Rattle.meta_store.specs.declared.commit_faults.CommitFault.{CommitFault}
use Rattle.meta_store.specs.declared.commit_faults.CommitFault.TheVariants.{Failed, Memory, Damaged}

-- of the words that are read again
abbrev pub commit_of_found : FoundFault → CommitFault
commit_of_found FoundFailed = Failed
commit_of_found FoundMemory = Memory
commit_of_found (FoundDamaged id damage) = Damaged id damage

-- of the table that is written
abbrev pub commit_of_table : TableFault → CommitFault
commit_of_table TableFailed = Failed
commit_of_table TableMemory = Memory
commit_of_table (DamagedTable group kept found) = Memory
commit_of_table (MalformedTable part at) = Memory

-- damage is one that the words of the table's group show
abbrev pub IsCommitFault : List ℕ → Table → CommitFault → Type 0
IsCommitFault image table Failed = Unit {0}
IsCommitFault image table Memory = Unit {0}
IsCommitFault image table (Damaged id damage) = IsIn table.vdevs id × ShowsDamage (words_in image table id) (units_of table id) (row_of table id).held damage

-- a device that failed, or want of memory
abbrev pub IsCommitFailure : CommitFault → Type 0
IsCommitFailure fault = (fault ≡ Failed) ⊎ (fault ≡ Memory)
