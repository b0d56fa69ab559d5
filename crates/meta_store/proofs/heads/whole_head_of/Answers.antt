use Rattle.std.proofs.Common.{subst, sym}
use Rattle.uber_ring.specs.declared.head.HeadFault.{HeadFault}
use Rattle.meta_store.specs.Heads.{IsNoHead}
use Rattle.meta_store.proofs.HeadFaults.{logged_wrong}
use Rattle.meta_store.proofs.heads.whole_head_of.Goals as goal

pub returns-in-Logged-clause-err : goal.returns-in-Logged-clause-err
returns-in-Logged-clause-err c =
    subst (λ (fault : HeadFault). IsNoHead c.args.bytes.now fault) (sym c.wrong_version.ensures) (logged_wrong c.args.bytes.now c.in-Ok.head c.in-Ok.ensures.ok c.in-Logged.is)
