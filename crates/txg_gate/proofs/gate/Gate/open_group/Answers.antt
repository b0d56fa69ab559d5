use Rattle.std.proofs.Common.{arith}
use Rattle.txg_gate.specs.GateInside.{gate_state}
use Rattle.txg_gate.proofs.Holds.{unheld}
use Rattle.txg_gate.proofs.gate.Gate.open_group.Goals as goal

pub returns-clause-unheld : goal.returns-clause-unheld
returns-clause-unheld c =
    let was = c.self.invariant in
    rw (← c.self.view_is) (unheld (gate_state c.self.inside) c.self.inside.open.0 (omega (arith, was.synced_is, was.ahead)) (λ k le. was.unused k (omega (arith, was.synced_is, le))))
