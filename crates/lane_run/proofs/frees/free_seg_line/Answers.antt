use Rattle.pool_alloc.specs.Loads.{of_result, load_of_free}
use Rattle.lane_run.specs.Answers.{free_answer}
use Rattle.lane_run.specs.Lines.{IsFree}
use Rattle.lane_run.proofs.Acting.{did_loads, spared_loads, where_told}
use Rattle.lane_run.proofs.FreeClosings.{calm_free}
use Rattle.lane_run.proofs.frees.free_seg_line.Goals as goal

pub returns-clause-line : goal.returns-clause-line
returns-clause-line g c =
    let freed = c.free_seg.result in
    where_told _ (free_answer freed) c.answer_of.result c.answer_of.ensures
    (λ answer told.
    did_loads c.args.cells.now c.args.passes.now _ c.args.keeper.now _ c.requires.serves c.free_seg.ensures.follows c.requires.low (of_result load_of_free freed) c.free_seg.ensures.counts _ (IsFree _ _ answer)
    (λ es ks x loads. record { result = freed; told = told; line = x; loads = loads }) c.free_seg.ensures.acted)

pub returns-clause-spared : goal.returns-clause-spared
returns-clause-spared g c =
    let did = c.free_seg.ensures.acted in
    where_told _ (free_answer c.free_seg.result) c.answer_of.result c.answer_of.ensures
    (λ answer told.
    spared_loads c.args.cells.now c.args.passes.now _ c.args.keeper.now _ c.requires.serves c.free_seg.ensures.follows c.requires.low (of_result load_of_free c.free_seg.result) c.free_seg.ensures.counts
    did.events did.journey (calm_free _ _ _ c.free_seg.result did.events did.fact))
