use Rattle.std.proofs.Common.{◌-◌, refl, arith}
use Rattle.meta_store.proofs.Gathering.{gathers_held, gathers_free, gathers_run, gathered_run, gathered_none}
use Rattle.meta_store.proofs.runs.maximal_runs.Goals as goal
use Rattle.meta_store.proofs.runs.maximal_runs.Goals.{then-not-held-unit, then-start-unit+in_ok-push, else-start-unit, else-not-held-unit, then-start-held+in_ok-push-2, else-start-held}

pub loop-unit-preserved : goal.loop-unit-preserved
loop-unit-preserved c =
    elim c.if-not-held-unit.branch [
      | then-not-held-unit w ↦ rw (w.runs-is, w.start-is)
          (elim w.if-start-unit.branch [
            | then-start-unit+in_ok-push w' ↦ rw (w'.runs-is, w'.in_ok-push.ensures.items)
                (gathers_run _ _ _ _ _ c.loop-unit.invariant (record { start = c.loop-unit.start; count = c.loop-unit.unit - c.loop-unit.start }) refl refl w'.if-start-unit.true c.loop-unit-test.true w.if-not-held-unit.true)
            | else-start-unit w' ↦ rw w'.runs-is (gathers_free _ _ _ _ _ c.loop-unit.invariant c.loop-unit-test.true w.if-not-held-unit.true w'.if-start-unit.false)
          ])
      | else-not-held-unit w ↦ rw (w.runs-is, w.start-is) (gathers_held _ _ _ _ _ c.loop-unit.invariant c.loop-unit-test.true w.if-not-held-unit.false)
    ]

pub returns : goal.returns
returns c =
    elim c.if-start-held.branch [
      | then-start-held+in_ok-push-2 w ↦ rw (w.runs-is, w.in_ok-push-2.ensures.items)
          (gathered_run _ _ _ _ _ c.loop-unit.invariant (record { start = c.loop-unit.start; count = _ }) refl (omega (arith, c.loop-unit.invariant.high, c.loop-unit-test.false)) (omega (arith, c.loop-unit-test.false, w.if-start-held.true)) c.loop-unit-test.false)
      | else-start-held w ↦ rw w.runs-is (gathered_none _ _ _ _ _ c.loop-unit.invariant c.loop-unit-test.false w.if-start-held.false)
    ]
