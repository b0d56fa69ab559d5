use Rattle.std.proofs.Common.{ℕ, refl, ◌∙◌, subst, arith}
use Rattle.turn_passes.specs.Parts.{IsRest}
use Rattle.keeper_rows.proofs.seats.skip.Goals as goal

pub loop-right-init : goal.loop-right-init
loop-right-init c = (c.requires.rest, refl)

pub next_pass-none-requires-clause-rest : goal.next_pass-none-requires-clause-rest
next_pass-none-requires-clause-rest c κs within = c.loop-right.invariant.0

pub loop-right-preserved : goal.loop-right-preserved
loop-right-preserved c = (c.next_pass-none.ensures.rest, c.next_pass-none.ensures.fixed.0 ∙ c.loop-right.invariant.1)

pub returns-clause-rest : goal.returns-clause-rest
returns-clause-rest c = subst (λ (n : ℕ). IsRest n c.args.turn.now c.loop-right.rest) (omega (arith, c.loop-right.auto.right-end, c.loop-right-test.false)) c.loop-right.invariant.0

pub returns-clause-fixed : goal.returns-clause-fixed
returns-clause-fixed c = c.loop-right.invariant.1
