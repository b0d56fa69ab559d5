-- A pool that is created.
use Rattle.std.proofs.Common.{◌≡◌, ℕ, List, Ok, Err, refl, inr}
use Rattle.zms_units.specs.declared.places.VdevRow.{VdevRow}
use Rattle.zms_dev.specs.Disk.{DiskState}
use Rattle.zms_dev.specs.Stream.{SinkState}
use Rattle.meta_store.specs.declared.create_faults.CreateFault.{CreateFault}
use Rattle.meta_store.specs.declared.create_faults.CreateFault.TheVariants.{AlreadyPool as HasPool, Failed as CreateFailed, Memory as CreateMemory}
use Rattle.zms_top.specs.Creations.{created_layout, IsUncalled, CreateEnds, refused_status, IsAnnounced, MakesPool}
use Rattle.zms_top.specs.declared.status.Status.{Status}

-- a device that was not called
pub uncalled : (disk : DiskState) → IsUncalled disk disk
uncalled disk = record {
  honest = (λ h. h, λ h. h);
  contents = refl;
  images = λ c. (λ i. i, λ i. i);
  moment = refl;
  since = λ t c. (λ i. i, λ i. i);
  flushes = refl;
}

-- a creation that was refused
pub refused_ends : (vdevs : List VdevRow) (out out_now : SinkState) (start now : DiskState) (low high : ℕ) (fault : CreateFault) (status : Status)
    → status ≡ refused_status fault → MakesPool (created_layout vdevs) start now low high (Err fault) → out_now ≡ out → CreateEnds vdevs out out_now start now low high status
refused_ends vdevs out out_now start now low high (HasPool newest) status is makes same =
    rw is (CreateEnds.already newest (λ tells. (makes.fault tells, (makes.creating tells).pool (makes.fault tells).uber (makes.fault tells).newest.valid)) (makes.steady (λ is. cc)) same)
refused_ends vdevs out out_now start now low high CreateFailed status is makes same = rw is (CreateEnds.device makes.creating (makes.failed refl) same)
refused_ends vdevs out out_now start now low high CreateMemory status is makes same =
    rw is (CreateEnds.memory (inr (λ tells. (makes.fault tells, makes.memory tells refl))) (makes.steady (λ is. cc)) same)

-- and one that was not
pub made_ends : (vdevs : List VdevRow) (out out_now : SinkState) (start now : DiskState) (low high : ℕ) (status : Status)
    → MakesPool (created_layout vdevs) start now low high (Ok tt) → IsAnnounced out out_now status → CreateEnds vdevs out out_now start now low high status
made_ends vdevs out out_now start now low high status makes said =
    rw said.status_is (CreateEnds.created (λ tells. record { creating = makes.creating tells; none = makes.none tells; made = makes.done tells }) (makes.steady (λ is. cc)) said.printed said.prints)
