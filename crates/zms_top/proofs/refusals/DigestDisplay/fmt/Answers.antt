use Rattle.std.proofs.Common.{rules, sym}
use Rattle.std.proofs.Output.{has_written_append, has_written_of_eq}
use Rattle.trace_text.specs.Numbers.{hex_digits}
use Rattle.trace_text.proofs.Lists.{flat_map-more, flat_map-all}
use Rattle.zms_top.proofs.refusals.DigestDisplay.fmt.Goals as goal

pub loop-byte-preserved : goal.loop-byte-preserved
loop-byte-preserved g c = λ plain.
    has_written_of_eq _ _ _ _ _ (sym (flat_map-more (hex_digits 2) c.args.self.now.0 c.loop-byte.byte-index 0 c.loop-byte-test.true)) (has_written_append _ _ _ _ _ _ (c.loop-byte.invariant plain) (search rules))

pub returns-clause-writes : goal.returns-clause-writes
returns-clause-writes g c = λ plain _.
    has_written_of_eq _ _ _ _ _ (sym (flat_map-all (hex_digits 2) c.args.self.now.0 c.loop-byte.byte-index c.loop-byte-test.false)) (c.loop-byte.invariant plain)
