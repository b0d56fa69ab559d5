use Rattle.std.proofs.Common.{◌<◌, length, arith}
use Rattle.std.proofs.lemmas.Bool.Decides.{nat_tests}
use Rattle.zms_units.specs.declared.segments.Seg.{Seg}
use Rattle.space_map.proofs.Batching.{again, heading_fits, run_fits, written_all}
use Rattle.space_map.proofs.writing.append.Goals as goal

abbrev none : Seg
none = record { start = 0; count = 0 }

pub put-requires-clause-fits : goal.put-requires-clause-fits
put-requires-clause-fits c =
    let some : 0 < length c.args.runs.now = grind (arith, nat_tests) in
    rw c.type_number.ensures (heading_fits c.args.place.now c.args.group.0 c.args.kind c.args.runs.now c.requires.fits some)

pub run_entry-requires-clause-fits : goal.run_entry-requires-clause-fits
run_entry-requires-clause-fits c =
    run_fits c.args.place.now c.args.group.0 c.args.kind c.args.runs.now c.requires.fits c.loop-run.run-index none c.loop-run-test.true

pub put-requires-in-loop-run-clause-fits : goal.put-requires-in-loop-run-clause-fits
put-requires-in-loop-run-clause-fits c =
    rw c.run_entry.ensures
    (run_fits c.args.place.now c.args.group.0 c.args.kind c.args.runs.now c.requires.fits c.loop-run.run-index none c.loop-run-test.true)

pub returns-clause-again : goal.returns-clause-again
returns-clause-again c =
    again c.args.place.now c.args.group.0 c.args.kind c.args.runs.now c.args.words.now.items c.loop-run.words.items c.requires.fits
    (written_all c.args.place.now c.args.group.0 c.args.kind c.args.runs.now c.args.words.now.items c.loop-run.run-index c.loop-run.words.items c.loop-run-test.false c.loop-run.invariant.0)
