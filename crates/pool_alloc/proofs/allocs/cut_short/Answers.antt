use Rattle.std.proofs.Common.{sym, ◌∙◌}
use Rattle.pool_alloc.proofs.Granting.{cut_kept}
use Rattle.pool_alloc.proofs.allocs.cut_short.Goals as goal

pub returns-in-None : goal.returns-in-None
returns-in-None g c =
    cut_kept c.args.cells.now c.args.classes.now c.args.passes.now c.args.group c.args.placed c.args.cut c.kept_of.result c.requires.seated (sym c.refusal_of.ensures ∙ c.in-None.is) c.kept_of.ensures
