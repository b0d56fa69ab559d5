use Rattle.copy_walk.proofs.Counting.{counts_each}
use Rattle.copy_walk.proofs.laws.ends_count_each.Goals as goal

pub returns : goal.returns
returns c = counts_each
