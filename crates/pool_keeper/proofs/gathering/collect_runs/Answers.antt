use Rattle.std.proofs.Common.{◌+◌, ℕ, [], rules, ap, ◌∙◌, sym, refl}
use Rattle.ms_cell.specs.Journey.{Journey}
use Rattle.ms_cell.proofs.JournalLaws.{no_journey, journeys_join, stays_seated}
use Rattle.pool_keeper.proofs.Collecting.{collected_now, still_collected, quiet_collect}
use Rattle.pool_keeper.proofs.gathering.collect_runs.Goals as goal

pub loop-init : goal.loop-init
loop-init g c = record { allocs = c.new-buf.ensures.allocs; frees = c.new-buf.ensures.frees; calm = no_journey 0 c.args.cells.now c.args.passes.now c.requires.seated }

pub collect_at-requires-clause-group : goal.collect_at-requires-clause-group
collect_at-requires-clause-group g c =
    c.requires.group ∙ ap (λ (n : ℕ). n + 1) (sym (still_collected c.args.cells.now c.args.passes.now c.loop.passes _ c.requires.seated c.requires.within c.loop.invariant.calm))

pub collect_at-requires-clause-empty : goal.collect_at-requires-clause-empty
collect_at-requires-clause-empty g c = (c.loop.invariant.allocs, c.loop.invariant.frees)

pub collect_at-requires-clause-seated : goal.collect_at-requires-clause-seated
collect_at-requires-clause-seated g c = stays_seated 0 c.args.cells.now _ c.args.passes.now c.loop.passes c.requires.seated c.loop.invariant.calm

pub returns-in-Ok-clause-collected : goal.returns-in-Ok-clause-collected
returns-in-Ok-clause-collected g c =
    collected_now c.args.cells.now c.args.lane _ 0 c.args.group _ _ _ c.args.passes.now c.loop.passes c.collect_at.new.passes refl c.requires.seated c.requires.within c.requires.group c.loop.invariant.calm c.in-Ok.ensures

pub returns-in_err-reserve-in-Err-Ms-Short-clause-err : goal.returns-in_err-reserve-in-Err-Ms-Short-clause-err
returns-in_err-reserve-in-Err-Ms-Short-clause-err g c =
    let quiet = quiet_collect c.args.lane _ _ c.args.group _ _ _ c.loop.passes c.collect_at.new.passes c.in-Err-Ms-Short.ensures in
    let calm : Journey 0 [] c.args.passes.now c.collect_at.new.passes = journeys_join 0 [] [] c.args.passes.now c.loop.passes c.collect_at.new.passes c.loop.invariant.calm quiet.0 in
    search rules

pub loop-preserved : goal.loop-preserved
loop-preserved g c =
    let quiet = quiet_collect c.args.lane _ _ c.args.group _ _ _ c.loop.passes c.collect_at.new.passes c.in-Err-Ms-Short.ensures in
    record {
      allocs = c.reserve.ensures.allocs ∙ quiet.1.0;
      frees = c.reserve.ensures.frees ∙ quiet.1.1;
      calm = journeys_join 0 [] [] c.args.passes.now c.loop.passes c.collect_at.new.passes c.loop.invariant.calm quiet.0;
    }

pub returns-in-Err-clause-err : goal.returns-in-Err-clause-err
returns-in-Err-clause-err g c =
    let quiet = quiet_collect c.args.lane _ _ c.args.group _ _ _ c.loop.passes c.collect_at.new.passes c.in-Err.ensures in
    journeys_join 0 [] [] c.args.passes.now c.loop.passes c.collect_at.new.passes c.loop.invariant.calm quiet.0
