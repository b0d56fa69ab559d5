use Rattle.std.proofs.Common.{◌≡◌, ◌<◌, ℕ, []}
use Rattle.turn_cell.specs.Notes.{IsPrefix}
use Rattle.ms_cell.specs.Passes.{Seated, seen_in}
use Rattle.ms_cell.specs.Journey.{Journey}
use Rattle.pool_keeper.proofs.telling.tell_metaslabs.Given as goal

abbrev pub invariant-loop-number : goal.invariant-loop-number
invariant-loop-number g l = record {
  from : l.from ≡ l.fn.from;
  to : (right : ℕ) → Seated right l.cells l.fn.to → Journey right [] l.fn.to l.to;
  knows : (k : ℕ) → k < l.number → IsPrefix (seen_in l.fn.from k) (seen_in l.to k);
}
