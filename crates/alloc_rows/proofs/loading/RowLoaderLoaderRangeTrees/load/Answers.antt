use Rattle.std.proofs.Common.{[], subst, sym}
use Rattle.vdev_map.specs.Numbers.{number_of}
use Rattle.ms_cell.specs.Passes.{Passes}
use Rattle.ms_cell.proofs.JournalLaws.{stays_seated}
use Rattle.alloc_rows.specs.Serving.{Keeps, IsServing}
use Rattle.alloc_rows.specs.declared.loading.RowLoader.{RowLoader}
use Rattle.alloc_rows.proofs.Handing.{keeps_told, loaded_wider}
use Rattle.alloc_rows.proofs.Serving.{serves_kept}
use Rattle.alloc_rows.proofs.loading.RowLoaderLoaderRangeTrees.load.Goals as goal

pub tell_at-requires-clause-to : goal.tell_at-requires-clause-to
tell_at-requires-clause-to g c = (0, (c.let_others.ensures c.args.cells.now c.requires.serves).keeper_at)

pub load_kept-answer-requires-clause-seated : goal.load_kept-answer-requires-clause-seated
load_kept-answer-requires-clause-seated g c =
    let at = (c.let_others.ensures c.args.cells.now c.requires.serves).keeper_at in
    stays_seated 0 c.args.cells.now [] c.let_others.new.self.keeper c.tell_at.new.to at (c.tell_at.ensures.to 0 at)

pub tell_at-requires-2-clause-from : goal.tell_at-requires-2-clause-from
tell_at-requires-2-clause-from g c =
    let at = (c.let_others.ensures c.args.cells.now c.requires.serves).keeper_at in
    (0, (c.load_kept-answer.ensures.keeps c.args.cells.now (stays_seated 0 c.args.cells.now [] c.let_others.new.self.keeper c.tell_at.new.to at (c.tell_at.ensures.to 0 at))).0)

pub returns-clause-follows : goal.returns-clause-follows
returns-clause-follows g c = λ t serves.
    let at = (c.let_others.ensures c.args.cells.now c.requires.serves).keeper_at in
    let told = serves_kept t c.let_others.new.self.keeper c.tell_at.new.to _ _ (keeps_told c.let_others.new.self.keeper c.tell_at.new.to (c.tell_at.ensures.to 0 at)) (c.let_others.ensures t serves) in
    subst (λ (l : RowLoader). IsServing t c.tell_at-2.new.from l.other l.collected) (sym c.load_kept-answer.ensures.rest)
    (serves_kept t c.tell_at.new.to c.tell_at-2.new.from _ _ (subst (λ (p : Passes). Keeps c.tell_at.new.to p) (sym c.tell_at-2.ensures.from) c.load_kept-answer.ensures.keeps) told)

pub returns-clause-loaded : goal.returns-clause-loaded
returns-clause-loaded g c =
    loaded_wider c.load_kept-answer.result (number_of c.args.cells.now.vdevs c.args.id) c.args.passes.now c.tell_at.new.to c.load_kept-answer.new.self.keeper c.tell_at-2.new.to c.tell_at.ensures.knows c.tell_at-2.ensures.knows
    c.load_kept-answer.ensures.loaded
