use Rattle.ms_cell.proofs.JournalLaws.{holds_within, holds_rise}
use Rattle.ms_cell.proofs.laws.holds_rise.Goals as goal

pub returns : goal.returns
returns c = record { within = holds_within; between = holds_rise }
