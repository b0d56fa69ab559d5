use Rattle.std.proofs.Common.{◌≡◌, ◌<◌, List, None, sym, ◌∙◌, ap, subst}
use Rattle.zms_dev.specs.Causes.{one_more}
use Rattle.zms_dev.specs.Disk.{bytes_of}
use Rattle.pool_keeper.specs.History.{contents_of}
use Rattle.pool_keeper.specs.Keeper.{history_of}
use Rattle.zms_units.specs.Segments.{AreSegs}
use Rattle.zms_units.specs.declared.places.MsId.{MsId}
use Rattle.zms_units.specs.declared.places.VdevRow.{VdevRow}
use Rattle.zms_units.specs.declared.faults.Damage.{Damage}
use Rattle.vdev_map.specs.Numbers.{IsIn, row_at}
use Rattle.vdev_map.specs.declared.layout.Layout.{Layout}
use Rattle.meta_store.specs.declared.causes.FoundFault.TheVariants.{Failed, Memory, Damaged}
use Rattle.pool_keeper.proofs.Results.{err_of, not_err_of, ok_no_err}
use Rattle.pool_keeper.proofs.ReadImages.{read_left, start_counts, faults_then, rests_then, tells_then, finds_then, not_shown}
use Rattle.pool_keeper.proofs.keeper.Keeper.read.Goals as goal

pub found-requires : goal.found-requires
found-requires g c = subst (λ (v : List VdevRow). IsIn v c.args.id) (c.requires.of.vdevs ∙ sym (ap (λ (l : Layout). l.vdevs) c.requires.sound.layout)) c.requires.id

pub returns-in-Ok-clause-read : goal.returns-in-Ok-clause-read
returns-in-Ok-clause-read g c = λ s.
    read_left g.D.Disk.state g.D.Disk.faults c.args.self.now s c.requires.idle c.found.new.self None c.in-Ok.ensures.layout c.in-Ok.ensures.table
    (start_counts g.D.Disk.state g.D.Disk.faults c.args.self.now s c.requires.idle _ (c.in-Ok.ensures.steady (ok_no_err _ Failed))) c.in-Ok.ensures.rests (λ ready bad. bad)

pub returns-in-Ok-clause-runs : goal.returns-in-Ok-clause-runs
returns-in-Ok-clause-runs g c =
    let vdevs = c.layout.ensures.table.vdevs ∙ (ap (λ (l : Layout). l.vdevs) c.requires.sound.layout ∙ sym c.requires.of.vdevs) in
    subst (λ (v : List VdevRow). AreSegs (row_at v c.args.id.vdev).units c.in-Ok.runs.items) vdevs c.in-Ok.ensures.maximal.rising

pub returns-in-Ok-clause-finds : goal.returns-in-Ok-clause-finds
returns-in-Ok-clause-finds g c = λ s ready u lt.
    let k = c.args.self.now in
    let tells = tells_then g.D.Disk.state g.D.Disk.faults k s c.requires.idle ready in
    let reads = g.met.D.Disk.reads_as k.store.disk tells in
    let rests = rests_then g.D.Disk.state g.D.Disk.faults k s c.requires.idle ready in
    let here = rests.each (bytes_of (g.D.Disk.state k.store.disk)) reads in
    let vdevs = c.layout.ensures.table.vdevs ∙ ap (λ (l : Layout). l.vdevs) s.layout in
    let within : u < (row_at k.store.table.vdevs c.args.id.vdev).units = subst (λ (v : List VdevRow). u < (row_at v c.args.id.vdev).units) (sym vdevs) lt in
    c.in-Ok.ensures.finds here.uber (contents_of (history_of k.start s.journal) k.store.table.group.0) tells here.has (finds_then g.D.Disk.state g.D.Disk.faults k s c.requires.idle ready reads) u within

memory_failed : Memory ≡ Failed → ⊥
memory_failed e = cc

pub returns-in-Err-Memory-clause-read : goal.returns-in-Err-Memory-clause-read
returns-in-Err-Memory-clause-read g c = λ s.
    read_left g.D.Disk.state g.D.Disk.faults c.args.self.now s c.requires.idle c.found.new.self None c.in-Err-Memory.ensures.layout c.in-Err-Memory.ensures.table
    (start_counts g.D.Disk.state g.D.Disk.faults c.args.self.now s c.requires.idle _ (c.found.ensures.steady (not_err_of c.found.result c.in-Err-Memory.field-0 Failed c.in-Err-Memory.is (λ e. memory_failed (sym c.in-Err-Memory.field-0-is ∙ e)))))
    c.in-Err-Memory.ensures.rests (λ ready bad. bad)

pub returns-in-Err-Failed-clause-read : goal.returns-in-Err-Failed-clause-read
returns-in-Err-Failed-clause-read g c = λ s.
    read_left g.D.Disk.state g.D.Disk.faults c.args.self.now s c.requires.idle c.found.new.self _ c.in-Err-Failed.ensures.layout c.in-Err-Failed.ensures.table (
      c.faults-before.ensures ∙ faults_then g.D.Disk.state g.D.Disk.faults c.args.self.now s c.requires.idle,
      (
        c.faults-after.ensures ∙ (c.found.ensures.failed (err_of c.found.result c.in-Err-Failed.field-0 Failed c.in-Err-Failed.is c.in-Err-Failed.field-0-is) ∙ ap one_more (sym c.faults-before.ensures)),
        sym c.faults-after.ensures,
      ),
    )
    c.in-Err-Failed.ensures.rests (λ ready bad. bad)

damaged_failed : (id : MsId) (damage : Damage) → Damaged id damage ≡ Failed → ⊥
damaged_failed id damage e = cc

pub returns-in-Err-Damaged-clause-read : goal.returns-in-Err-Damaged-clause-read
returns-in-Err-Damaged-clause-read g c = λ s.
    read_left g.D.Disk.state g.D.Disk.faults c.args.self.now s c.requires.idle c.found.new.self _ c.in-Err-Damaged.ensures.layout c.in-Err-Damaged.ensures.table
    (start_counts g.D.Disk.state g.D.Disk.faults c.args.self.now s c.requires.idle _
    (c.found.ensures.steady (not_err_of c.found.result c.in-Err-Damaged.field-0 Failed c.in-Err-Damaged.is (λ e. damaged_failed c.in-Err-Damaged.id c.in-Err-Damaged.damage (sym c.in-Err-Damaged.field-0-is ∙ e)))))
    c.in-Err-Damaged.ensures.rests (λ ready bad.
    let k = c.args.self.now in
    let tells = tells_then g.D.Disk.state g.D.Disk.faults k s c.requires.idle ready in
    let reads = g.met.D.Disk.reads_as k.store.disk tells in
    let rests = rests_then g.D.Disk.state g.D.Disk.faults k s c.requires.idle ready in
    let shows = rw c.in-Err-Damaged.field-0-is at c.in-Err-Damaged.ensures.fault tells in
    let inside = subst (λ (v : List VdevRow). IsIn v c.args.id) (c.requires.of.vdevs ∙ (sym (ap (λ (l : Layout). l.vdevs) s.layout) ∙ sym c.layout.ensures.table.vdevs)) c.requires.id in
    not_shown k.store.layout k.store.table (bytes_of (g.D.Disk.state k.store.disk)) c.args.id c.in-Err-Damaged.damage (rests.each (bytes_of (g.D.Disk.state k.store.disk)) reads) inside shows.1)
