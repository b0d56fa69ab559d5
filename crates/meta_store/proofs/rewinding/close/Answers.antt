use Rattle.std.proofs.Common.{◌+◌, ℕ, [], ◌∷◌, subst}
use Rattle.std.specs.Prelude.{OnOk}
use Rattle.zms_dev.specs.Bytes.{Outside, Holds}
use Rattle.zms_dev.specs.Disk.{bytes_of}
use Rattle.zms_dev.specs.Runs.{Spares}
use Rattle.meta_store.proofs.LastGroup.{adds_one}
use Rattle.meta_store.proofs.rewinding.close.Goals as goal

pub returns-clause-spares : goal.returns-clause-spares
returns-clause-spares g c tells =
    subst (λ (p : ℕ). Spares (Outside (p + 1023) 1) (g.D.Disk.state c.args.disk.now) (g.D.Disk.state c.put.new.disk)) c.slot_place.ensures (c.put.ensures.spares tells)

pub returns-clause-written : goal.returns-clause-written
returns-clause-written g c tells =
    subst (λ (p : ℕ). OnOk c.put.result (Holds (bytes_of (g.D.Disk.state c.args.disk.now)) (p + 1023) (0 ∷ []) (bytes_of (g.D.Disk.state c.put.new.disk)))) c.slot_place.ensures (c.put.ensures.written tells)

pub returns-clause-reads : goal.returns-clause-reads
returns-clause-reads g c tells = g.met.D.Disk.reads_as c.args.disk.now tells

pub returns-clause-flushes : goal.returns-clause-flushes
returns-clause-flushes g c tells = adds_one (g.D.Disk.state c.args.disk.now) (g.D.Disk.state c.put.new.disk) c.put.result (c.put.ensures.noted tells) (c.put.ensures.unnoted tells)
