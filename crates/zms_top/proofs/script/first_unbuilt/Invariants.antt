use Rattle.zms_top.specs.Script.{AreBuiltBelow}
use Rattle.zms_top.proofs.script.first_unbuilt.Given as goal

abbrev pub invariant-loop-command : goal.invariant-loop-command
invariant-loop-command l = AreBuiltBelow l.commands l.command-index
