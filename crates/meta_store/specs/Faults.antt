-- What becomes of a fault of a part where the whole is opened.
use Rattle.uber_ring.specs.declared.head.HeadFault.{HeadFault}
use Rattle.uber_ring.specs.declared.head.HeadFault.TheVariants.{HeadDamaged as DamagedHead, Malformed as MalformedHead}
use Rattle.uber_ring.specs.declared.faults.TableFault.{TableFault}
use Rattle.uber_ring.specs.declared.faults.TableFault.TheVariants.{Failed as TableFailed, Memory as TableMemory, TableDamaged as DamagedTable, Malformed as MalformedTable}
use Rattle.meta_store.specs.declared.causes.FoundFault.{FoundFault}
use Rattle.meta_store.specs.declared.causes.FoundFault.TheVariants.{Failed as FoundFailed, Memory as FoundMemory, Damaged}
use Rattle.meta_store.specs.declared.causes.OpenCause.TheVariants.{HeadDamaged, TableDamaged, Malformed, MapDamaged}
use Rattle.meta_store.specs.declared.causes.OpenCause.{OpenCause}
use Rattle.meta_store.specs.declared.causes.OpenFault.{OpenFault}
use Rattle.meta_store.specs.declared.causes.OpenFault.TheVariants.{Cause, Failed, Memory}

-- of the head
abbrev pub of_head : HeadFault → OpenCause
of_head (DamagedHead kept found) = HeadDamaged kept found
of_head (MalformedHead part at) = Malformed part at

-- of a table
abbrev pub of_table : TableFault → OpenFault
of_table TableFailed = Failed
of_table TableMemory = Memory
of_table (DamagedTable group kept found) = Cause (TableDamaged group kept found)
of_table (MalformedTable part at) = Cause (Malformed part at)

-- of the words of a metaslab
abbrev pub of_found : FoundFault → OpenFault
of_found FoundFailed = Failed
of_found FoundMemory = Memory
of_found (Damaged id damage) = Cause (MapDamaged id damage)
