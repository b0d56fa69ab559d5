use Rattle.std.proofs.Common.{arith}
use Rattle.zms_top.specs.Texts.{live_bytes, deferred_bytes, vacant_bytes}
use Rattle.zms_top.proofs.TallyLemmas.{sum_fits}
use Rattle.zms_top.proofs.output.sums_of.Goals as goal

pub overflow_add-sums : goal.overflow_add-sums
overflow_add-sums c =
    let fits = sum_fits c.args.asked live_bytes c.args.tallies.now c.loop-tally.tally-index c.tally-item.result c.loop-tally-test.true c.tally-item.is c.requires.fits.live in omega (arith, fits, c.loop-tally.invariant.live, c.bytes_of.ensures)

pub overflow_add-sums-then-is_wanted : goal.overflow_add-sums-then-is_wanted
overflow_add-sums-then-is_wanted c =
    let fits = sum_fits c.args.asked deferred_bytes c.args.tallies.now c.loop-tally.tally-index c.tally-item.result c.loop-tally-test.true c.tally-item.is c.requires.fits.deferred in omega (arith, fits, c.loop-tally.invariant.deferred, c.bytes_of-then-is_wanted.ensures)

pub overflow_add-sums-then-is_wanted-2 : goal.overflow_add-sums-then-is_wanted-2
overflow_add-sums-then-is_wanted-2 c =
    let fits = sum_fits c.args.asked vacant_bytes c.args.tallies.now c.loop-tally.tally-index c.tally-item.result c.loop-tally-test.true c.tally-item.is c.requires.fits.vacant in omega (arith, fits, c.loop-tally.invariant.vacant, c.bytes_of-then-is_wanted-2.ensures)
