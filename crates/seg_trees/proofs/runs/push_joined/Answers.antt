use Rattle.std.proofs.Common.{◌+◌, ◌-◌, arith}
use Rattle.seg_trees.proofs.Places.{run_fits}
use Rattle.seg_trees.proofs.Splices.{alone_last, same_last, longer_apart, longer_covered}
use Rattle.seg_trees.proofs.runs.push_joined.Goals as goal
use Rattle.seg_trees.proofs.runs.push_joined.Goals.{then-len-gt0+else-last-run, else-len-gt0}

pub overflow_add-last : goal.overflow_add-last
overflow_add-last c =
    omega (arith, (run_fits (c.args.run.start + 1) c.args.out.now.items (c.len-len.result - 1) c.index-last.result.now c.requires.apart (omega (arith, c.args.out.now.ok.0)) c.index-last.ensures).1, c.requires.segment.within)

pub returns-then-last-run-clause-apart : goal.returns-then-last-run-clause-apart
returns-then-last-run-clause-apart c =
    longer_apart c.args.out.now.items (c.len-len.result - 1) c.index-last.result.now c.args.run c.requires.apart c.requires.segment.some (omega (arith, c.args.out.now.ok.0)) c.index-last.ensures c.if-last-run.true

pub returns-then-last-run-clause-units : goal.returns-then-last-run-clause-units
returns-then-last-run-clause-units c =
    longer_covered c.args.out.now.items (c.len-len.result - 1) c.index-last.result.now c.args.run c.requires.apart c.requires.segment.some (omega (arith, c.args.out.now.ok.0)) c.index-last.ensures c.if-last-run.true

pub returns-clause-apart : goal.returns-clause-apart
returns-clause-apart c =
    rw c.push_reserved.ensures.items
    (alone_last c.args.out.now.items c.args.run c.requires.apart c.requires.segment.some
    (λ k d e f. elim c.if-len-gt0.branch [
      | then-len-gt0+else-last-run w ↦ w.if-last-run.false (same_last c.args.out.now.items (c.len-len.result - 1) k c.args.run.start w.index-last.result.now d (omega (arith, c.args.out.now.ok.0, w.if-len-gt0.true)) e w.index-last.ensures f)
      | else-len-gt0 w ↦ omega (arith, c.args.out.now.ok.0)
    ]))
