use Rattle.std.proofs.Common.{[]}
use Rattle.ms_cell.proofs.JournalLaws.{no_journey, journeys_join, stays_seated}
use Rattle.pool_keeper.proofs.syncing.wait_for.Goals as goal

pub loop-init : goal.loop-init
loop-init g c = no_journey c.args.lane c.args.cells.now c.args.passes.now c.requires.seated

pub is_quiesced-requires : goal.is_quiesced-requires
is_quiesced-requires g c = record { seated = stays_seated c.args.lane c.args.cells.now [] c.args.passes.now c.loop.passes c.requires.seated c.loop.invariant }

pub loop-preserved : goal.loop-preserved
loop-preserved g c = journeys_join c.args.lane [] [] c.args.passes.now c.loop.passes c.is_quiesced.new.passes c.loop.invariant c.is_quiesced.ensures.passes

pub returns-then-is_quiesced-clause-passes : goal.returns-then-is_quiesced-clause-passes
returns-then-is_quiesced-clause-passes g c = journeys_join c.args.lane [] [] c.args.passes.now c.loop.passes c.is_quiesced.new.passes c.loop.invariant c.is_quiesced.ensures.passes
