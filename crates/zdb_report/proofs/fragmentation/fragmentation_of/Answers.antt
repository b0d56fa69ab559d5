use Rattle.std.proofs.Common.{◌≡◌, ℕ, refl, sym, ◌∙◌, ap, arith}
use Rattle.std.specs.List.{sum_by, range_with_len}
use Rattle.zdb_report.specs.Fragmentation.{bucket_bytes}
use Rattle.zdb_report.proofs.Fragments.{one_more_bucket}
use Rattle.zdb_report.proofs.fragmentation.fragmentation_of.Goals as goal

pub loop-bucket-preserved : goal.loop-bucket-preserved
loop-bucket-preserved c =
    one_more_bucket c.args.hist.now c.loop-bucket.bucket c.loop-bucket.all c.loop-bucket.fragmented c.run_bytes-bytes.result c.from.result
    c.run_bytes-bytes.ensures.value c.run_bytes-bytes.ensures.few (c.from.ensures ∙ c.bucket_fragmentation.ensures.value) (let most = c.bucket_fragmentation.ensures.most in omega (arith, c.from.ensures))
    c.loop-bucket.invariant

pub returns-then-all-eq0 : goal.returns-then-all-eq0
returns-then-all-eq0 c =
    let at : c.loop-bucket.bucket ≡ 64 = omega (arith, c.loop-bucket-test.false, c.loop-bucket.auto.bucket-end) in
    let none : c.loop-bucket.all ≡ 0 = c.if-all-eq0.true in
    let sum : sum_by (bucket_bytes c.args.hist.now) (range_with_len 0 64) ≡ 0 =
    ap (λ (n : ℕ). sum_by (bucket_bytes c.args.hist.now) (range_with_len 0 n)) (sym at) ∙ sym c.loop-bucket.invariant.all ∙ none in
    rw sum refl
