use Rattle.std.proofs.Common.{refl}
use Rattle.ms_core.specs.State.{origin_of}
use Rattle.zms_top.specs.World.{world}
use Rattle.zms_top.specs.Ends.{RunEnds}
use Rattle.zms_top.specs.Reports.{OpenedEnds, IsOpenedWhole}
use Rattle.zms_top.proofs.EndLemmas.{run_ends}
use Rattle.zms_top.proofs.OpenLemmas.{origin_from, opened_whole}
use Rattle.zms_top.proofs.run.run.Goals as goal

pub returns-in-Err-open-clause-ends : goal.returns-in-Err-open-clause-ends
returns-in-Err-open-clause-ends g c =
    RunEnds.unopened c.in-Ok.commands c.in-Ok.ensures.file c.in-Ok.ensures.read (rw (c.refused-in-Err-open.ensures.status, c.in-Err-open.status-is, c.in-Err-open.disk-is) c.in-Err-open.ensures.err)
    (rw c.in-Err-open.disk-is (record { device = c.in-Err-open.ensures.untouched; out = refl; trace = refl; no_journals = c.refused-in-Err-open.ensures.journals; no_lists = c.refused-in-Err-open.ensures.lists }))

pub returns-clause-ends : goal.returns-clause-ends
returns-clause-ends g c =
    let opened = c.in-Ok-open.ensures.opened in
    let pool = c.in-Ok-open.opened.0 in
    let layout = c.in-Ok-open.opened.1.layout in
    let table = c.in-Ok-open.opened.1.table in
    let start = g.D.Disk.state c.args.disk in
    let mid = g.D.Disk.state c.in-Ok-open.opened.1.disk in
    let end = g.D.Disk.state c.run_opened-ended.new.store.disk in
    let read = g.S.Source.state c.args.input.now in
    let left = g.S.Source.state c.read_script.new.input in
    let ends : OpenedEnds c.args.at c.in-Ok.commands pool layout table
    (world read (g.K.Sink.state c.args.out.now) (g.T.Sink.state c.args.trace.now) mid (g.D.Disk.faults c.in-Ok-open.opened.1.disk))
    (world left (g.K.Sink.state c.run_opened-ended.new.out) (g.T.Sink.state c.run_opened-ended.new.trace) end (g.D.Disk.faults c.run_opened-ended.new.store.disk))
    c.run_opened-ended.result.status c.run_opened-ended.result.journals c.run_opened-ended.result.lists = rw c.as_slice.ensures at (c.run_opened-ended.ensures.ends read left c.args.at) in
    rw c.into_disk-2.ensures
    (run_ends c.args.at (IsOpenedWhole c.args.at pool layout table mid) start mid end _ _ _ c.in-Ok-open.ensures.untouched c.in-Ok-open.ensures.steady
    (opened_whole c.args.at start mid pool layout table c.in-Ok-open.ensures.untouched opened) read left read left _ _ _ _
    c.run_opened-ended.result.status c.run_opened-ended.result.journals c.run_opened-ended.result.lists c.in-Ok.commands layout (origin_of pool.metaslab) c.in-Ok.ensures.file c.in-Ok.ensures.read
    (origin_from c.args.at start pool layout table opened) ends)
