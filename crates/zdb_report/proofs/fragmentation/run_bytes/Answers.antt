use Rattle.std.proofs.Common.{◌*◌, ◌^◌, ◌<◌, ℕ, ◌∙◌, ap, arith}
use Rattle.zdb_report.proofs.Fragments.{bytes_few, bytes_fit}
use Rattle.zdb_report.proofs.fragmentation.run_bytes.Goals as goal

pub returns-clause-value : goal.returns-clause-value
returns-clause-value c =
    bytes_fit c.from.result c.args.bucket (omega (arith, c.from.ensures, c.ranges.count.fits)) c.requires ∙ ap (λ (n : ℕ). n * 2 ^ c.args.bucket) c.from.ensures

pub returns-clause-few : goal.returns-clause-few
returns-clause-few c =
    let fits : c.from.result < 4294967296 = omega (arith, c.from.ensures, c.ranges.count.fits) in
    omega (arith, bytes_fit c.from.result c.args.bucket fits c.requires, bytes_few c.from.result c.args.bucket fits c.requires)
