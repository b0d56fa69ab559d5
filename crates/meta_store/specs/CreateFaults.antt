-- Why a pool is not made, where the table of its first group is not written.
use Rattle.uber_ring.specs.declared.faults.TableFault.{TableFault}
use Rattle.uber_ring.specs.declared.faults.TableFault.TheVariants.{Failed as TableFailed, Memory as TableMemory, TableDamaged as DamagedTable, Malformed as MalformedTable}
use Rattle.meta_store.specs.declared.create_faults.CreateFault.{CreateFault}
use Rattle.meta_store.specs.declared.create_faults.CreateFault.TheVariants.{Failed, Memory}

-- of the table that is written
abbrev pub create_of_table : TableFault → CreateFault
create_of_table TableFailed = Failed
create_of_table TableMemory = Memory
create_of_table (DamagedTable group kept found) = Memory
create_of_table (MalformedTable part at) = Memory
