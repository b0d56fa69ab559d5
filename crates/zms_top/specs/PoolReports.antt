-- How a report ends: each way, with its cause.
use Rattle.std.specs.Prelude.{◌≡◌, ℕ, Ok, List}
use Rattle.zms_dev.specs.Causes.{one_more}
use Rattle.zms_dev.specs.Disk.{DiskState, Tells, bytes_of}
use Rattle.zms_dev.specs.Prints.{HandsOn}
use Rattle.zms_dev.specs.Stream.{SinkState}
use Rattle.vdev_map.specs.declared.layout.Layout.{Layout}
use Rattle.vdev_map.specs.declared.table.Table.{Table}
use Rattle.meta_store.specs.Causes.{Shows}
use Rattle.meta_store.specs.Stores.{Opens}
use Rattle.meta_store.specs.declared.causes.At.{At}
use Rattle.meta_store.specs.declared.causes.OpenCause.{OpenCause}
use Rattle.meta_store.specs.declared.causes.OpenCause.TheVariants.{MapDamaged}
use Rattle.zdb_report.specs.Stats.{IsReport}
use Rattle.zdb_report.specs.declared.faults.ReportFault.{ReportFault}
use Rattle.zdb_report.specs.declared.faults.ReportFault.TheVariants.{Write, Device, Damaged, Memory as ReportMemory}
use Rattle.zms_top.specs.declared.status.PoolCause.TheVariants.{Open}
use Rattle.zms_top.specs.declared.status.Status.{Status}
use Rattle.zms_top.specs.declared.status.Status.TheVariants.{Done, WriteFault, DeviceFault, NotAPool, Memory}

-- the ways in which a report ends
pub data ReportEnds (at : At) (out out_now : SinkState) (start : DiskState) (low high : ℕ) : Status → Type 0 where
  -- the device shows why it does not open at what is asked for, and nothing was printed
  unopened : (cause : OpenCause) → (Tells start → Shows (bytes_of start) at cause) → high ≡ low → out_now.faults ≡ out.faults → (Tells start → out_now ≡ out)
      → ReportEnds at out out_now start low high (NotAPool (Open cause))
  -- the device failed
  device : high ≡ one_more low → out_now.faults ≡ out.faults → ReportEnds at out out_now start low high DeviceFault
  -- memory ran out
  memory : high ≡ low → out_now.faults ≡ out.faults → ReportEnds at out out_now start low high Memory
  -- the pool was opened, and the sink failed
  unprinted : (layout : Layout) (table : Table) → (Tells start → Opens (bytes_of start) at layout table) → high ≡ low → out_now.faults ≡ one_more out.faults
      → ReportEnds at out out_now start low high WriteFault
  -- the report of the group that is asked for was printed, as the device is, and handed on
  reported : (layout : Layout) (table : Table) → (Tells start → Opens (bytes_of start) at layout table) → high ≡ low
      → (text : List ℕ) → IsReport start layout table text → HandsOn {T = Unit {0}} {E = ReportFault} out out_now text (Ok tt)
      → ReportEnds at out out_now start low high Done

-- why a report was not written, as a status
abbrev pub status_of_report : ReportFault → Status
status_of_report Write = WriteFault
status_of_report Device = DeviceFault
status_of_report (Damaged id damage) = NotAPool (Open (MapDamaged id damage))
status_of_report ReportMemory = Memory
