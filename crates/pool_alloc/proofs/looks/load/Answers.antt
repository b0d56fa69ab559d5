use Rattle.std.proofs.Common.{refl, arith}
use Rattle.lane_passes.specs.Lanes.{ground_of}
use Rattle.pool_alloc.specs.declared.turns.Post.TheVariants.{Weigh}
use Rattle.lane_passes.proofs.Acting.{acted_as, acted_seated, cells_went}
use Rattle.pool_alloc.proofs.Looking.{acted_behind, post_ok, post_err, not_posted, nothing_tail}
use Rattle.pool_alloc.proofs.looks.load.Goals as goal

pub post_weight-requires-clause-seated : goal.post_weight-requires-clause-seated
post_weight-requires-clause-seated g c =
    let t = c.args.cells.now in
    let p = c.args.passes.now in
    acted_seated t c.args.classes.now _ p _ c.requires.seated (cells_went t c.args.classes.now p c.requires.seated c.load.new.passes c.load.ensures.passes)

pub returns-in-Ok-post_weight-clause-acted : goal.returns-in-Ok-post_weight-clause-acted
returns-in-Ok-post_weight-clause-acted g c =
    let t = c.args.cells.now in
    let p = c.args.passes.now in
    acted_behind t _ _ p _ _ (λ es x. x) (cells_went t c.args.classes.now p c.requires.seated c.load.new.passes c.load.ensures.passes)
    (post_ok t p.lane p.lane c.args.id Weigh c.post_weight.result _ _ _ c.in-Ok-post_weight.is refl c.post_weight.ensures)

pub returns-in-Err-clause-acted : goal.returns-in-Err-clause-acted
returns-in-Err-clause-acted g c =
    let t = c.args.cells.now in
    let p = c.args.passes.now in
    acted_behind t _ _ p _ _ (λ es x. let quiet = not_posted c.args.id (ground_of t p) es x in (quiet.0, omega (arith, quiet.1))) (cells_went t c.args.classes.now p c.requires.seated c.load.new.passes c.load.ensures.passes)
    (post_err t p.lane c.args.id Weigh c.post_weight.result _ _ _ c.in-Err.is c.post_weight.ensures)

pub returns-in-Err-Device-clause-acted : goal.returns-in-Err-Device-clause-acted
returns-in-Err-Device-clause-acted g c =
    let p = c.args.passes.now in
    acted_as c.args.cells.now _ _ p _ (λ es x. x) (cells_went c.args.cells.now c.args.classes.now p c.requires.seated c.load.new.passes c.load.ensures.passes)

pub returns-in-Err-Damaged-clause-acted : goal.returns-in-Err-Damaged-clause-acted
returns-in-Err-Damaged-clause-acted g c =
    let p = c.args.passes.now in
    acted_as c.args.cells.now _ _ p _ (λ es x. x) (cells_went c.args.cells.now c.args.classes.now p c.requires.seated c.load.new.passes c.load.ensures.passes)

pub returns-in-Err-Suspended-clause-acted : goal.returns-in-Err-Suspended-clause-acted
returns-in-Err-Suspended-clause-acted g c =
    let p = c.args.passes.now in
    acted_as c.args.cells.now _ _ p _ (λ es x. x) (cells_went c.args.cells.now c.args.classes.now p c.requires.seated c.load.new.passes c.load.ensures.passes)

pub returns-in-Err-Memory-clause-acted : goal.returns-in-Err-Memory-clause-acted
returns-in-Err-Memory-clause-acted g c =
    let p = c.args.passes.now in
    acted_as c.args.cells.now _ _ p _ (λ es x. nothing_tail (ground_of c.args.cells.now p) es x) (cells_went c.args.cells.now c.args.classes.now p c.requires.seated c.load.new.passes c.load.ensures.passes)
