use Rattle.zms_top.proofs.PoolReporting.{unopened_ends, unreported_ends, reported_ends}
use Rattle.zms_top.proofs.pool_report.report.Goals as goal

pub returns-in-Err-clause-ends : goal.returns-in-Err-clause-ends
returns-in-Err-clause-ends g c = rw (c.open_status.ensures, c.in-Err.fault-is, c.in-Err.disk-is) (unopened_ends c.args.at _ _ _ _ _ c.in-Err.ensures.cause c.in-Err.ensures.failed)

pub returns-in-Ok-report-clause-ends : goal.returns-in-Ok-report-clause-ends
returns-in-Ok-report-clause-ends g c =
    rw c.into_disk.ensures
    (reported_ends c.args.at (g.K.Sink.state c.args.out.now) (g.K.Sink.state c.report.new.out) (g.D.Disk.state c.args.disk) (g.D.Disk.state c.in-Ok.store.disk) c.in-Ok.store.layout c.in-Ok.store.table _ _ _
    c.in-Ok.ensures.steady c.in-Ok.ensures.rests c.in-Ok.ensures.opened c.in-Ok-report.ensures.printed c.in-Ok-report.ensures.faults)

pub returns-in-Err-report-clause-ends : goal.returns-in-Err-report-clause-ends
returns-in-Err-report-clause-ends g c =
    rw (c.into_disk-in-Err-report.ensures, c.report_status.ensures)
    (unreported_ends c.args.at (g.K.Sink.state c.args.out.now) (g.K.Sink.state c.report.new.out) (g.D.Disk.state c.args.disk) (g.D.Disk.state c.in-Ok.store.disk) c.in-Ok.store.layout c.in-Ok.store.table _ _ _ c.in-Err-report.fault
    c.in-Ok.ensures.steady c.in-Ok.ensures.rests c.in-Ok.ensures.opened c.in-Err-report.ensures.damaged c.in-Err-report.ensures.faults)
