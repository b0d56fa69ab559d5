use Rattle.cell_rows.proofs.Holders.{seated_gate}
use Rattle.cell_rows.proofs.Settling.{looked, found_closed}
use Rattle.cell_rows.proofs.keeper.is_quiesced.Goals as goal

pub quiesced_at-requires : goal.quiesced_at-requires
quiesced_at-requires g c = (0, c.requires.seated)

pub returns-clause-seated : goal.returns-clause-seated
returns-clause-seated g c = seated_gate 0 c.args.passes.now c.quiesced_at.new.passes _ (c.quiesced_at.ensures 0 c.requires.seated) c.args.cells.now c.requires.seated

pub returns-clause-settled : goal.returns-clause-settled
returns-clause-settled g c =
    let w = c.quiesced_at.ensures 0 c.requires.seated in
    looked c.args.cells.now c.args.passes.now c.quiesced_at.new.passes c.requires.seated _ w c.args.settled w.answer.quiet c.requires.settled

pub returns-clause-closed : goal.returns-clause-closed
returns-clause-closed g c = λ yes.
    let w = c.quiesced_at.ensures 0 c.requires.seated in
    found_closed c.args.cells.now c.args.passes.now c.quiesced_at.new.passes c.requires.seated _ w _ (w.answer.closed yes)
