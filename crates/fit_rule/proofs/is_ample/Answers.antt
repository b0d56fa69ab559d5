use Rattle.std.proofs.Common.{arith}
use Rattle.fit_rule.proofs.Ample.{too_short, on_false}
use Rattle.fit_rule.proofs.is_ample.Goals as goal

pub returns-else-largest-clause-no : goal.returns-else-largest-clause-no
returns-else-largest-clause-no g c =
    on_false _ _ (too_short _ _ _ _ c.largest.ensures (omega (arith, c.if-largest.false, c.bytes_of-largest.ensures)))
