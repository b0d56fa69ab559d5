use Rattle.std.proofs.Common.{◌≡◌, ℕ, ◌+◌, sym, subst, arith}
use Rattle.turn_passes.proofs.Parts.{idle_rest}
use Rattle.keeper_rows.specs.Parts.{AreSeats, IsKeeperRest}
use Rattle.keeper_rows.proofs.seats.seat_lanes.Goals as goal

pub loop-number-init : goal.loop-number-init
loop-number-init c =
    let none : c.args.first + 0 ≡ c.args.first = omega arith in
    (subst (λ (n : ℕ). AreSeats n c.args.shared.now.cells c.args.shared.now.classes c.args.seats) (sym none) c.requires.seats, subst (λ (n : ℕ). IsKeeperRest n c.args.shared.now.cells c.args.turn.now c.args.rest.now) (sym none) c.requires.keeper)

pub next_lane-requires-clause-seats : goal.next_lane-requires-clause-seats
next_lane-requires-clause-seats c = c.loop-number.invariant.0

pub next_lane-requires-clause-keeper : goal.next_lane-requires-clause-keeper
next_lane-requires-clause-keeper c = c.loop-number.invariant.1

pub loop-number-preserved : goal.loop-number-preserved
loop-number-preserved c =
    let next : c.args.first + c.loop-number.number + 1 ≡ c.args.first + (c.loop-number.number + 1) = omega arith in (
      subst (λ (n : ℕ). AreSeats n c.args.shared.now.cells c.args.shared.now.classes c.in_ok-others.others) next c.in_ok-others.ensures.rest,
      subst (λ (n : ℕ). IsKeeperRest n c.args.shared.now.cells c.args.turn.now c.next_lane.new.rest) next c.in_ok-others.ensures.keeper,
    )

pub returns-clause-rest : goal.returns-clause-rest
returns-clause-rest c =
    subst (λ (n : ℕ). AreSeats (c.args.first + n) c.args.shared.now.cells c.args.shared.now.classes c.loop-number.seats) (omega (arith, c.loop-number.auto.number-end, c.loop-number-test.false)) c.loop-number.invariant.0

pub returns-clause-idle : goal.returns-clause-idle
returns-clause-idle c = idle_rest (c.args.first + c.loop-number.number) c.args.turn.now c.loop-number.rest c.loop-number.invariant.1.rest
