use Rattle.std.proofs.Common.{◌≤◌, length, arith}
use Rattle.zms_dev.proofs.Prints.{took_none, took_more, prints_failed, prints_all}
use Rattle.lane_run.specs.Answers.{paired}
use Rattle.run_text.specs.Replies.{reply_line}
use Rattle.trace_text.proofs.Lists.{flat_map-all}
use Rattle.run_text.proofs.Pairs.{length-paired, replies_more, replies_split}
use Rattle.run_text.proofs.replies.write_replies.Goals as goal

pub loop-at-init : goal.loop-at-init
loop-at-init g c = took_none _

pub returns-in_err-write_reply : goal.returns-in_err-write_reply
returns-in_err-write_reply g c =
    prints_failed _ _ _ _ _ _ _ _ _ _ c.loop-at.invariant c.write_reply.ensures c.in_err-write_reply.was c.from_residual.ensures.0
    (replies_split c.args.commands.now c.args.replies.now c.loop-at.at _ _ c.requires c.loop-at-test.true c.index-commands-at.is c.index-replies-at.is)

pub loop-at-preserved : goal.loop-at-preserved
loop-at-preserved g c =
    took_more _ _ _ _ _ _ _ _ c.loop-at.invariant c.write_reply.ensures c.in_ok-write_reply.was
    (replies_more c.args.commands.now c.args.replies.now c.loop-at.at _ _ c.requires c.loop-at-test.true c.index-commands-at.is c.index-replies-at.is)

pub returns : goal.returns
returns g c =
    let all : length (paired c.args.commands.now c.args.replies.now) ≤ c.loop-at.at = omega (arith, length-paired c.args.commands.now c.args.replies.now c.requires, c.loop-at-test.false, c.requires) in
    prints_all _ _ _ _ _ c.loop-at.invariant (flat_map-all reply_line (paired c.args.commands.now c.args.replies.now) c.loop-at.at all)
