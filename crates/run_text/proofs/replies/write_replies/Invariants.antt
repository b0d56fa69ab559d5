use Rattle.std.proofs.Common.{take}
use Rattle.std.specs.List.{flat_map}
use Rattle.zms_dev.proofs.Prints.{Took}
use Rattle.lane_run.specs.Answers.{paired}
use Rattle.run_text.specs.Replies.{reply_line}
use Rattle.run_text.proofs.replies.write_replies.Given as goal

abbrev pub invariant-loop-at : goal.invariant-loop-at
invariant-loop-at g l = Took (g.S.Sink.state l.fn.out) (g.S.Sink.state l.out) (flat_map reply_line (take l.at (paired l.commands l.replies)))
