use Rattle.std.proofs.Common.{◌≡◌, ◌-◌, ℕ, ◌≤◌, List, ◌++◌, length}
use Rattle.std.specs.Prelude.{IsSome, is_some}
use Rattle.zms_dev.specs.Stream.{told, Moves}
use Rattle.zms_dev.proofs.texts.read_pieces.Given as goal

abbrev pub invariant-loop-taken : goal.invariant-loop-taken
invariant-loop-taken g l = record {
  within : l.taken ≤ l.most;
  moves : IsSome (g.S.Source.state l.fn.source).left → Moves (told (g.S.Source.state l.fn.source).left) (told (g.S.Source.state l.source).left) l.fn.into.items l.into.items l.taken;
  appends : (more : List ℕ) × (length more ≡ l.taken) × (l.into.items ≡ l.fn.into.items ++ more);
  kind : is_some (g.S.Source.state l.source).left ≡ is_some (g.S.Source.state l.fn.source).left;
  steady : (g.S.Source.state l.source).faults ≡ (g.S.Source.state l.fn.source).faults;
}

abbrev pub decreases-loop-taken : goal.decreases-loop-taken
decreases-loop-taken g l = l.most - l.taken
