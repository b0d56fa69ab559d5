use Rattle.std.proofs.Common.{Option, None, refl, sym, ap, subst}
use Rattle.std.specs.Prelude.{List, map}
use Rattle.zms_units.specs.declared.blocks.Dva.{Dva}
use Rattle.pool_alloc.specs.Frees.{place_of}
use Rattle.pool_alloc.specs.Loads.{of_result, load_of_free}
use Rattle.lane_run.specs.Acts.{Anything, LaneDid}
use Rattle.lane_run.specs.Answers.{free_answer}
use Rattle.lane_run.specs.Lines.{IsFree, FreeNamed}
use Rattle.lane_run.specs.Names.{copies_in}
use Rattle.lane_run.specs.declared.replies.Answer.TheVariants.{NoName}
use Rattle.lane_run.proofs.Acting.{did_loads, did_nothing, spared_loads, where_told}
use Rattle.lane_run.proofs.FreeClosings.{calm_free}
use Rattle.lane_run.proofs.frees.free_line.Goals as goal

pub returns-in_default-clause-did : goal.returns-in_default-clause-did
returns-in_default-clause-did g c = did_nothing c.args.cells.now c.args._classes.now c.args.passes.now c.args.keeper.now Anything c.requires.seated c.requires.serves tt

pub returns-in_default-clause-line : goal.returns-in_default-clause-line
returns-in_default-clause-line g c =
    subst (λ (x : Option (List Dva)). LaneDid c.args.cells.now (FreeNamed c.args.passes.now.lane x NoName) c.args.passes.now c.args.passes.now c.args.keeper.now c.args.keeper.now)
    (sym (ap copies_in c.in_default.ensures.none))
    (did_nothing c.args.cells.now c.args._classes.now c.args.passes.now c.args.keeper.now (FreeNamed c.args.passes.now.lane None NoName) c.requires.seated c.requires.serves (refl, (refl, refl)))

pub returns-clause-line : goal.returns-clause-line
returns-clause-line g c =
    let freed = c.free_block.result in
    let copies = c.in-Some.block.now.copies in
    where_told _ (free_answer freed) c.answer_of.result c.answer_of.ensures
    (λ answer told.
    subst (λ (x : Option (List Dva)). LaneDid c.args.cells.now (FreeNamed c.args.passes.now.lane x answer) c.args.passes.now c.free_block.new.passes c.args.keeper.now c.free_block.new.loader)
    (sym (ap copies_in c.in-Some.ensures.found))
    (did_loads c.args.cells.now c.args.passes.now _ c.args.keeper.now _ c.requires.serves c.free_block.ensures.follows c.requires.low (of_result load_of_free freed) c.free_block.ensures.counts _
    (IsFree c.args.passes.now.lane (map place_of copies) answer) (λ es ks x loads. record { result = freed; told = told; line = x; loads = loads }) c.free_block.ensures.acted))

pub returns-clause-spared : goal.returns-clause-spared
returns-clause-spared g c =
    let did = c.free_block.ensures.acted in
    where_told _ (free_answer c.free_block.result) c.answer_of.result c.answer_of.ensures
    (λ answer told.
    spared_loads c.args.cells.now c.args.passes.now _ c.args.keeper.now _ c.requires.serves c.free_block.ensures.follows c.requires.low (of_result load_of_free c.free_block.result) c.free_block.ensures.counts
    did.events did.journey (calm_free _ _ _ c.free_block.result did.events did.fact))
