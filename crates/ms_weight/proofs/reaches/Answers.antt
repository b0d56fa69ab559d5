use Rattle.std.proofs.Common.{arith}
use Rattle.std.proofs.lemmas.Bool.{ltb-true}
use Rattle.ms_weight.proofs.Passing.{shift_tells, never_reached}
use Rattle.ms_weight.proofs.reaches.Goals as goal

pub returns-then-power-lt64 : goal.returns-then-power-lt64
returns-then-power-lt64 c = shift_tells _ _

pub returns-else-power-lt64 : goal.returns-else-power-lt64
returns-else-power-lt64 c = (
  (λ e. absurd (omega (arith, ltb-true _ _ e, c.if-power-lt64.false))),
  (λ enough. absurd (never_reached _ _ c.ranges.bytes.fits c.if-power-lt64.false enough)),
)
