use Rattle.std.proofs.Common.{Bool, true, false, ◌≡◌, ◌+◌, sym, ◌∙◌, arith}
use Rattle.txg_gate.proofs.Holds.{holds_first}
use Rattle.txg_gate.specs.GateState.{synced_of}
use Rattle.txg_gate.specs.GateInside.{gate_state}
use Rattle.txg_gate.proofs.gate.Gate.quiesced.Goals as goal

false_not_true : ◌≡◌ {A = Bool} false true → ⊥
false_not_true e = cc

pub returns-then-self-ne0 : goal.returns-then-self-ne0
returns-then-self-ne0 c =
    let was = c.self.invariant in
    rw (← c.self.view_is) (
      (λ h. absurd (false_not_true h)),
      λ q. absurd (c.if-self-ne0.true (sym (holds_first (gate_state c.self.inside)) ∙ q.1 (synced_of (gate_state c.self.inside) + 1) (omega (arith, was.synced_is)))),
    )
