use Rattle.std.proofs.Common.{◌+◌, arith}
use Rattle.zms_dev.proofs.Prints.{took_none, took_more, prints_failed, prints_all}
use Rattle.trace_text.proofs.Lists.{numbered-item_more, numbered-item_split, numbered-all}
use Rattle.trace_text.proofs.lines.write_lines.Goals as goal

pub loop-at-init : goal.loop-at-init
loop-at-init g c = took_none _

pub returns-in_err-write_line : goal.returns-in_err-write_line
returns-in_err-write_line g c =
    prints_failed _ _ _ _ _ _ _ _ _ _ c.loop-at.invariant c.write_line.ensures c.in_err-write_line.was c.from_residual.ensures.0
    (numbered-item_split _ 1 (c.loop-at.at + 1) c.args.notes.now c.loop-at.at c.index-notes-at.result c.loop-at-test.true (omega arith) c.index-notes-at.is)

pub loop-at-preserved : goal.loop-at-preserved
loop-at-preserved g c =
    took_more _ _ _ _ _ _ _ _ c.loop-at.invariant c.write_line.ensures c.in_ok-write_line.was
    (numbered-item_more _ 1 (c.loop-at.at + 1) c.args.notes.now c.loop-at.at c.index-notes-at.result c.loop-at-test.true (omega arith) c.index-notes-at.is)

pub returns : goal.returns
returns g c = prints_all _ _ _ _ _ c.loop-at.invariant (numbered-all _ 1 c.args.notes.now c.loop-at.at c.loop-at-test.false)
