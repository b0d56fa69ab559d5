use Rattle.std.proofs.Common.{◌≡◌, ◌+◌, ◌<◌, ◌≤◌, ℕ, ◌∙◌, sym, subst, ap, arith}
use Rattle.ms_core.proofs.Words.{run_count, end_of, range-is, number_of}
use Rattle.ms_core.proofs.Narrowing.{runs_down}
use Rattle.ms_core.proofs.WalkedRuns.{Walks, walks_more, walks_all, walks_room}
use Rattle.ms_core.proofs.walking.push_runs.Goals as goal

fits : (nodes capacity most runs len now : ℕ) → nodes ≤ capacity → nodes ≡ most → runs + 1 ≤ most → len ≡ runs → now ≡ capacity → len < now
fits nodes capacity most runs len now room same more long kept = omega arith

pub push_reserved-requires : goal.push_reserved-requires
push_reserved-requires g c =
    let set = g.R.SegTrees.set c.args.trees.now (number_of c.args.tree) in
    let w = c.loop-run.invariant in
    fits _ _ _ _ _ _ c.requires.room (ap (run_count set) range-is)
    (walks_room set 131072 (λ u l. c.requires.within u (omega arith)) c.loop-run.at c.loop-run.out.items w.0 c.in-Some.run' c.in-Some.ensures.first) c.loop-run.out.ok.0 w.1

pub loop-run-smaller : goal.loop-run-smaller
loop-run-smaller g c = let first = c.in-Some.ensures.first.is_long in omega (arith, first.from, first.maximal.some, first.maximal.within)

pub loop-run-preserved : goal.loop-run-preserved
loop-run-preserved g c =
    let set = g.R.SegTrees.set c.args.trees.now (number_of c.args.tree) in (
      subst (Walks set 131072 (end_of c.in-Some.run')) (sym c.push_reserved.ensures.items)
          (walks_more set 131072 (λ u l. c.requires.within u (omega arith)) c.loop-run.at c.loop-run.out.items c.loop-run.invariant.0 c.in-Some.run' c.in-Some.ensures.first),
      c.push_reserved.ensures.capacity ∙ c.loop-run.invariant.1,
    )

pub returns-clause-runs : goal.returns-clause-runs
returns-clause-runs g c =
    let set = g.R.SegTrees.set c.args.trees.now (number_of c.args.tree) in
    runs_down set c.args.units 131072 c.requires.units c.requires.within c.loop-run.out.items
    (walks_all set 131072 (λ u l. c.requires.within u (omega arith)) c.loop-run.at c.loop-run.out.items c.loop-run.invariant.0 c.in_default.ensures.none)
