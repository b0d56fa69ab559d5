use Rattle.std.proofs.Common.{◌≡◌, ℕ, List}
use Rattle.turn_passes.proofs.single.close_turn.Given as goal

abbrev pub invariant-loop : goal.invariant-loop
invariant-loop g l = (l.turn ≡ l.initial.turn) × ((tries : List ℕ) × (l.pass ≡ record l.initial.pass { tries = tries }))
