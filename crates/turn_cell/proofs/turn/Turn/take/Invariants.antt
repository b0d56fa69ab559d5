use Rattle.std.proofs.Common.{◌≡◌, ℕ, ◌++◌, replicate}
use Rattle.turn_cell.proofs.turn.Turn.take.Given as goal

abbrev pub invariant-loop : goal.invariant-loop
invariant-loop g l = (k : ℕ) × (l.pass ≡ record l.initial.pass { tries = l.initial.pass.tries ++ replicate k 1 })
