use Rattle.cell_rows.proofs.Holders.{seated_at, turned_to}
use Rattle.cell_rows.proofs.Settling.{loaded_one}
use Rattle.cell_rows.proofs.keeper.load.Goals as goal

pub returns-clause-seated : goal.returns-clause-seated
returns-clause-seated g c = seated_at 0 c.args.passes.now c.load_at.new.passes _ _ c.load_at.ensures c.args.cells.now c.requires.seated

pub returns-clause-settled : goal.returns-clause-settled
returns-clause-settled g c =
    loaded_one c.args.cells.now c.args.passes.now c.load_at.new.passes _ c.args.number _ _ _ c.requires.seated c.requires.number c.requires.settled
    (turned_to 0 _ c.args.number _ _ _ c.id_at-id.ensures.number c.load_at.ensures)
