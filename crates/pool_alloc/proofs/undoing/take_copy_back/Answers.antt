use Rattle.std.proofs.Common.{rules}
use Rattle.std.specs.Prelude.{IsErr}
use Rattle.std.specs.declared.alloc.AllocError.{AllocError}
use Rattle.lane_passes.proofs.Acting.{acted_seated}
use Rattle.pool_alloc.proofs.TakingBack.{copy_not_posted, copy_undone}
use Rattle.pool_alloc.proofs.undoing.take_copy_back.Goals as goal

pub post_weight-requires-clause-seated : goal.post_weight-requires-clause-seated
post_weight-requires-clause-seated g c = acted_seated c.args.cells.now c.args.classes.now _ c.args.passes.now c.take_seg_back.new.passes c.requires.seated c.take_seg_back.ensures

pub returns-in_err-post_weight : goal.returns-in_err-post_weight
returns-in_err-post_weight g c =
    let is : IsErr c.from_residual-in_err-post_weight.result = search (rules, c.from_residual-in_err-post_weight.ensures) in
    copy_not_posted c.args.cells.now c.args.group c.args.id c.args.seg AllocError AllocError AllocError c.in_ok-late.late (record {}) c.from_residual-in_err-post_weight.result c.args.passes.now c.take_seg_back.new.passes c.post_weight.new.passes
    is c.in_ok-late.ensures c.in_err-post_weight.ensures

pub returns : goal.returns
returns g c =
    copy_undone c.args.cells.now c.args.group c.args.id c.args.seg AllocError AllocError AllocError c.in_ok-late.late (record {}) c.args.passes.now c.take_seg_back.new.passes c.post_weight.new.passes c.in_ok-late.ensures c.in_ok-post_weight.ensures
