use Rattle.std.proofs.Common.{arith}
use Rattle.zms_units.proofs.Buckets.{counted}
use Rattle.zms_units.proofs.histograms.Histogram.add.Goals as goal

pub returns : goal.returns
returns c = λ bucket l.
    counted c.args.self.now.runs c.args.ashift c.bucket_of.result bucket c.args.run (omega arith) (record { least = c.bucket_of.ensures.least; most = c.bucket_of.ensures.most })
