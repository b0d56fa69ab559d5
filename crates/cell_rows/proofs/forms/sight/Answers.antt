use Rattle.cell_rows.proofs.Holders.{seated_at}
use Rattle.cell_rows.proofs.forms.sight.Goals as goal

pub look_at-loaded-requires-clause-seated : goal.look_at-loaded-requires-clause-seated
look_at-loaded-requires-clause-seated g c = (c.args.lane, c.requires.seated)

pub returns : goal.returns
returns g c = record { seated = seated_at c.args.lane c.args.passes.now c.look_at-loaded.new.passes _ _ (c.look_at-loaded.ensures c.args.lane c.requires.seated) c.args.cells.now c.requires.seated }
