use Rattle.std.proofs.Common.{length, ap, arith}
use Rattle.turn_cell.specs.Notes.{notes_at}
use Rattle.ms_model.specs.Parts.{gate_right}
use Rattle.ms_cell.proofs.Gathering.{fresh_seated, seated_idle}
use Rattle.cell_rows.proofs.lanes.run_lane.Goals as goal

pub loop-number-init : goal.loop-number-init
loop-number-init g c = (fresh_seated c.args.lane c.args.cells.now c.args.passes c.requires.fresh, omega (arith, ap (λ h. length (notes_at gate_right c.args.lane h)) c.requires.fresh.gate.seen))

pub returns-then-not-command : goal.returns-then-not-command
returns-then-not-command g c = seated_idle c.args.lane c.args.cells.now c.command.new.passes c.command.ensures.seated

pub returns-then-not-close : goal.returns-then-not-close
returns-then-not-close g c = seated_idle c.args.lane c.args.cells.now c.close.new.passes c.close.ensures.seated

pub returns : goal.returns
returns g c = seated_idle c.args.lane c.args.cells.now c.loop-number.passes c.loop-number.invariant.0
