use Rattle.std.proofs.Common.{List, subst, arith}
use Rattle.std.specs.List.{All}
use Rattle.std.proofs.lemmas.List.{take_all}
use Rattle.std.proofs.lemmas.List.Elements.{All-more}
use Rattle.ms_core.specs.State.{MsState}
use Rattle.ms_cell.specs.Closed.{IsLawful}
use Rattle.ms_cell.proofs.closing.look_over.Goals as goal

pub loop-metaslab-init : goal.loop-metaslab-init
loop-metaslab-init g c = λ k d lt. absurd (omega arith)

pub loop-metaslab-preserved : goal.loop-metaslab-preserved
loop-metaslab-preserved g c =
    let m = c.metaslab-item.result in
    All-more IsLawful c.args.metaslabs.now c.loop-metaslab.metaslab-index m c.loop-metaslab-test.true c.loop-metaslab.invariant
    (subst IsLawful c.metaslab-item.is (record { legal = c.settled.ensures.legal; lanes = c.settled.ensures.lanes }))

pub returns : goal.returns
returns g c =
    subst (λ (l : List MsState). All IsLawful l)
    (take_all c.loop-metaslab.metaslab-index c.args.metaslabs.now c.loop-metaslab-test.false) c.loop-metaslab.invariant
