use Rattle.std.proofs.Common.{◌≡◌}
use Rattle.turn_cell.specs.Notes.{IsPrefix}
use Rattle.ms_cell.proofs.turns.take_near.Given as goal

abbrev pub invariant-loop : goal.invariant-loop
invariant-loop g l = record {
  same : l.pass ≡ record l.initial.pass { seen = l.pass.seen; tries = l.pass.tries };
  seen : IsPrefix l.initial.pass.seen l.pass.seen;
}
