use Rattle.std.proofs.Common.{refl, arith, ◌∙◌, ◌-◌}
use Rattle.std.proofs.Math.ListN.{length-set}
use Rattle.trace_text.specs.Numbers.{weight_text}
use Rattle.trace_text.proofs.Weights.{digits_init, digits_step}
use Rattle.trace_text.proofs.pieces.weight_digits.Goals as goal

pub loop-at-init : goal.loop-at-init
loop-at-init c = record { within = omega arith; long = refl; digits = digits_init c.args.weight }

pub loop-at-preserved : goal.loop-at-preserved
loop-at-preserved c = record {
  within = omega arith;
  long = length-set c.loop-at.text (c.loop-at.at - 1) c.digit.result ∙ c.loop-at.invariant.long;
  digits = digits_step c.loop-at.at (c.loop-at.at - 1) c.loop-at.rest c.digit.result c.loop-at.text (weight_text c.args.weight) (omega arith) (omega arith) c.digit.ensures c.loop-at.invariant.digits;
}
