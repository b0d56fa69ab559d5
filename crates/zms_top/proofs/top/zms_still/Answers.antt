use Rattle.std.proofs.Common.{◌≡◌, subst}
use Rattle.zms_top.specs.Creations.{CreateEnds}
use Rattle.zms_top.specs.PoolReports.{ReportEnds}
use Rattle.zms_top.specs.declared.words.Asked.TheVariants.{Create, Report}
use Rattle.zms_top.proofs.top.zms_still.Goals as goal

pub returns-in-Some-Create-clause-create : goal.returns-in-Some-Create-clause-create
returns-in-Some-Create-clause-create g c = λ vdevs asks.
    let is = c.read_words.ensures.only (Create vdevs) asks in
    let same : c.in-Some-Create.vdevs ≡ vdevs = cc in
    subst
    (λ u. CreateEnds u (g.K.Sink.state c.args.out.now) (g.K.Sink.state c.create.new.out) (g.D.Disk.state c.args.meta) (g.D.Disk.state c.create.result.1) (g.D.Disk.faults c.args.meta) (g.D.Disk.faults c.create.result.1) c.create.result.0)
    same c.create.ensures

pub returns-in-None-clause-create : goal.returns-in-None-clause-create
returns-in-None-clause-create g c = λ vdevs asks. absurd (c.in-None.ensures.nothing (Create vdevs) asks)

pub returns-in-Some-Report-clause-report : goal.returns-in-Some-Report-clause-report
returns-in-Some-Report-clause-report g c = λ at asks.
    let is = c.read_words.ensures.only (Report at) asks in
    let same : c.in-Some-Report.at ≡ at = cc in
    subst
    (λ a. ReportEnds a (g.K.Sink.state c.args.out.now) (g.K.Sink.state c.report.new.out) (g.D.Disk.state c.args.meta) (g.D.Disk.faults c.args.meta) (g.D.Disk.faults c.report.result.1) c.report.result.0)
    same c.report.ensures.ends

pub returns-in-None-clause-report : goal.returns-in-None-clause-report
returns-in-None-clause-report g c = λ at asks. absurd (c.in-None.ensures.nothing (Report at) asks)

pub returns-in-None-clause-rests : goal.returns-in-None-clause-rests
returns-in-None-clause-rests g c = λ at asks. absurd (c.in-None.ensures.nothing (Report at) asks)
