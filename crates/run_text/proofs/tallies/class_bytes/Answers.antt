use Rattle.std.proofs.Common.{◌<◌, ◌≤◌, length, ◌∙◌, ap, arith}
use Rattle.std.specs.List.{sum_by}
use Rattle.std.proofs.lemmas.List.{take_all}
use Rattle.std.proofs.lemmas.List.Sums.{sum_by_more}
use Rattle.run_text.specs.Tallies.{by_vdev, bytes_if}
use Rattle.run_text.proofs.ByVdev.{no_vdev, length-by_vdev}
use Rattle.run_text.proofs.tallies.class_bytes.Goals as goal

pub loop-vdev-preserved : goal.loop-vdev-preserved
loop-vdev-preserved c =
    let pool = by_vdev c.args.vdevs.now c.args.counts.now in
    let f = bytes_if c.args.class c.args.share in
    let there : c.loop-vdev.vdev < length pool = omega (arith, length-by_vdev c.args.vdevs.now c.args.counts.now, c.loop-vdev-test.true) in
    record {
      value = omega (
        arith,
        c.loop-vdev.invariant.value,
        sum_by_more f pool c.loop-vdev.vdev no_vdev there,
        ap f (c.counts_of.ensures.value no_vdev),
        c.bytes_if-bytes.ensures.value,
      );
      few = omega (arith, c.loop-vdev.invariant.few, c.bytes_if-bytes.ensures.few);
    }

pub returns-clause-value : goal.returns-clause-value
returns-clause-value c =
    let pool = by_vdev c.args.vdevs.now c.args.counts.now in
    let past : length pool ≤ c.loop-vdev.vdev = omega (arith, length-by_vdev c.args.vdevs.now c.args.counts.now, c.loop-vdev-test.false) in
    c.loop-vdev.invariant.value ∙ ap (sum_by (bytes_if c.args.class c.args.share)) (take_all c.loop-vdev.vdev pool past)
