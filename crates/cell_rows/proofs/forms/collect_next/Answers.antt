use Rattle.std.proofs.Common.{◌≡◌, ◌+◌, ℕ, subst, sym, arith}
use Rattle.ms_model.specs.Units.{collected_group}
use Rattle.ms_cell.specs.Passes.{origin_in, seen_in}
use Rattle.cell_rows.proofs.Holders.{seated_at, turned_to}
use Rattle.cell_rows.proofs.Settling.{collected_there}
use Rattle.cell_rows.proofs.forms.collect_next.Goals as goal

pub collect_at-requires-clause-group : goal.collect_at-requires-clause-group
collect_at-requires-clause-group g c =
    subst (λ (k : ℕ). c.args.collected + 1 ≡ collected_group (origin_in c.args.keeper.now k) (seen_in c.args.keeper.now k) + 1) (sym c.id_at-id.ensures.number) (omega (arith, c.requires.collected))

pub returns-in-Ok-clause-seated : goal.returns-in-Ok-clause-seated
returns-in-Ok-clause-seated g c = seated_at 0 c.args.keeper.now c.collect_at.new.passes _ _ c.in-Ok.ensures c.args.cells.now c.requires.seated

pub returns-in-Ok-clause-collected : goal.returns-in-Ok-clause-collected
returns-in-Ok-clause-collected g c = λ _.
    let w = turned_to 0 _ c.args.number _ c.args.keeper.now c.collect_at.new.passes c.id_at-id.ensures.number c.in-Ok.ensures in
    collected_there c.args.cells.now c.args.keeper.now c.collect_at.new.passes c.requires.seated c.args.number _ w c.requires.number _ w.answer.0

pub returns-clause-seated : goal.returns-clause-seated
returns-clause-seated g c = seated_at 0 c.args.keeper.now c.collect_at.new.passes _ _ c.in-Err.ensures c.args.cells.now c.requires.seated
