use Rattle.std.proofs.Common.{◌≡◌}
use Rattle.turn_passes.specs.Parts.{IsRest}
use Rattle.keeper_rows.proofs.seats.skip.Given as goal

abbrev pub invariant-loop-right : goal.invariant-loop-right
invariant-loop-right l = IsRest l.right l.turn l.rest × (l.rest.fixed ≡ l.fn.rest.fixed)
