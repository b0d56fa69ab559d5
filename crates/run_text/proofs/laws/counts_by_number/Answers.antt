use Rattle.run_text.proofs.ByVdev.{counts_at}
use Rattle.run_text.proofs.laws.counts_by_number.Goals as goal

pub returns : goal.returns
returns c = counts_at c.args.vdevs.now c.args.counts.now
