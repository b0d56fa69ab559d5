use Rattle.std.proofs.Common.{◌≡◌, drop}
use Rattle.zms_top.specs.Ends.{first_damage}
use Rattle.zms_top.proofs.report.find_damage.Given as goal

abbrev pub invariant-loop-reply : goal.invariant-loop-reply
invariant-loop-reply l = first_damage (drop l.reply-index l.replies) ≡ first_damage l.fn.replies
