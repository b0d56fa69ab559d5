use Rattle.ms_cell.proofs.JournalLaws.{stays_seated}
use Rattle.alloc_rows.proofs.meanwhile.collect_first.Goals as goal

pub returns : goal.returns
returns g c = λ t seated. stays_seated 0 t _ c.args.keeper.now c.collect_at.new.passes seated c.collect_at.ensures.journey
