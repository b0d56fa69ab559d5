use Rattle.std.proofs.Common.{Ok, Err, Some, None, refl, ap, sym}
use Rattle.std.specs.Prelude.{List}
use Rattle.zms_units.specs.declared.blocks.Dva.{Dva}
use Rattle.pool_alloc.specs.Loads.{load_of_alloc}
use Rattle.lane_run.specs.Answers.{alloc_answer}
use Rattle.lane_run.specs.Lines.{IsAlloc}
use Rattle.lane_run.specs.declared.replies.Answer.TheVariants.{Granted}
use Rattle.lane_run.proofs.Acting.{did_loads, spared_loads, where_told}
use Rattle.lane_run.proofs.AllocClosings.{calm_alloc, counts_told}
use Rattle.lane_run.proofs.allocs.alloc_line.Goals as goal

pub returns-in_ok-add_block-in-Ok-clause-line : goal.returns-in_ok-add_block-in-Ok-clause-line
returns-in_ok-add_block-in-Ok-clause-line g c =
    let block = c.in-Ok.block in
    did_loads c.args.cells.now c.args.passes.now _ c.args.keeper.now _ c.requires.serves c.in-Ok.ensures.follows c.requires.low None c.in-Ok.ensures.counts _ _
    (λ es ks x loads. record { result = Ok block; told = ap (λ (l : List Dva). Some (Granted block.group l)) (sym c.copied-copies.ensures); line = x; loads = loads }) c.in-Ok.ensures.acted

pub returns-in_ok-add_block-in-Ok-clause-spared : goal.returns-in_ok-add_block-in-Ok-clause-spared
returns-in_ok-add_block-in-Ok-clause-spared g c =
    let did = c.in-Ok.ensures.acted in
    let block = c.in-Ok.block in
    spared_loads c.args.cells.now c.args.passes.now _ c.args.keeper.now _ c.requires.serves c.in-Ok.ensures.follows c.requires.low None c.in-Ok.ensures.counts did.events did.journey
    (calm_alloc _ _ _ _ _ did.events (Ok block) (Granted block.group block.copies) refl did.fact)

pub returns-in-Err-clause-line : goal.returns-in-Err-clause-line
returns-in-Err-clause-line g c =
    let fault = c.in-Err.fault in
    where_told _ (alloc_answer (Err fault)) c.refusal.result c.refusal.ensures
    (λ answer told.
    did_loads c.args.cells.now c.args.passes.now _ c.args.keeper.now _ c.requires.serves c.in-Err.ensures.follows c.requires.low (load_of_alloc fault) (counts_told (Err fault) answer _ _ _ _ told c.in-Err.ensures.counts) _ (IsAlloc _ _ _ _ answer)
    (λ es ks x loads. record { result = Err fault; told = told; line = x; loads = loads }) c.in-Err.ensures.acted)

pub returns-in-Err-clause-spared : goal.returns-in-Err-clause-spared
returns-in-Err-clause-spared g c =
    let fault = c.in-Err.fault in
    let did = c.in-Err.ensures.acted in
    where_told _ (alloc_answer (Err fault)) c.refusal.result c.refusal.ensures
    (λ answer told.
    spared_loads c.args.cells.now c.args.passes.now _ c.args.keeper.now _ c.requires.serves c.in-Err.ensures.follows c.requires.low (load_of_alloc fault) (counts_told (Err fault) answer _ _ _ _ told c.in-Err.ensures.counts) did.events did.journey
    (calm_alloc _ _ _ _ _ did.events (Err fault) answer told did.fact))
