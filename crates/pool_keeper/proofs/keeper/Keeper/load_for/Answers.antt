use Rattle.std.proofs.Common.{ap, sym, ◌∙◌, subst}
use Rattle.vdev_map.specs.Numbers.{number_of}
use Rattle.ms_cell.specs.Passes.{Passes, Seated}
use Rattle.pool_keeper.specs.Keeper.{IsOf}
use Rattle.pool_keeper.proofs.Loads.{loaded_wider}
use Rattle.pool_keeper.proofs.keeper.Keeper.load_for.Goals as goal

pub load-answer-requires-clause-of : goal.load-answer-requires-clause-of
load-answer-requires-clause-of g c = subst (λ x. IsOf c.args.cells.now x.start) (sym c.hear.ensures.rest) c.requires.of

pub tell-requires-clause-of : goal.tell-requires-clause-of
tell-requires-clause-of g c = subst (λ x. IsOf c.args.cells.now x) (sym (c.load-answer.ensures.start ∙ ap (λ x. x.start) c.hear.ensures.rest)) c.requires.of

pub tell-requires-clause-seated : goal.tell-requires-clause-seated
tell-requires-clause-seated g c = subst (λ (p : Passes). Seated c.args.lane c.args.cells.now p) (sym c.hear.ensures.passes) c.requires.seated

pub returns-clause-loaded : goal.returns-clause-loaded
returns-clause-loaded g c =
    let here = number_of c.args.cells.now.vdevs c.args.id in
    loaded_wider c.load-answer.result.0 here c.args.passes.now c.hear.new.self.passes c.load-answer.new.self.passes c.tell.new.passes c.hear.ensures.knows c.tell.ensures.knows c.load-answer.ensures.loaded
