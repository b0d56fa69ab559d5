use Rattle.std.proofs.Common.{ℕ, ◌+◌, subst, arith}
use Rattle.keeper_rows.specs.Parts.{AreSeats}
use Rattle.keeper_rows.proofs.seats.seat_probes.Goals as goal

pub loop-number-init : goal.loop-number-init
loop-number-init c = c.requires.seats

pub seat_lane-requires-clause-seats : goal.seat_lane-requires-clause-seats
seat_lane-requires-clause-seats c = c.loop-number.invariant

pub loop-number-preserved : goal.loop-number-preserved
loop-number-preserved c = c.in_ok-rest.ensures.rest

pub returns : goal.returns
returns c = subst (λ (n : ℕ). AreSeats (n + 1) c.args.shared.now.cells c.args.shared.now.classes c.loop-number.seats) (omega (arith, c.loop-number.auto.number-end, c.loop-number-test.false)) c.loop-number.invariant
