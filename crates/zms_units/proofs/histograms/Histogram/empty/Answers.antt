use Rattle.zms_units.proofs.Buckets.{none_counted}
use Rattle.zms_units.proofs.histograms.Histogram.empty.Goals as goal

pub returns : goal.returns
returns c = λ bucket. none_counted 64 bucket
