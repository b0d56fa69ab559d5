use Rattle.std.proofs.Common.{◌≡◌, ℕ, ◌≤◌, ◌<◌, length, vec_len, Some}
use Rattle.std.specs.Prelude.{slice_get}
use Rattle.turn_passes.specs.Parts.{Joined}
use Rattle.turn_passes.proofs.lists.join_passes.Given as goal

abbrev pub decreases-loop-pass : goal.decreases-loop-pass
decreases-loop-pass g l = vec_len l.second

abbrev pub invariant-loop-pass : goal.invariant-loop-pass
invariant-loop-pass g l = record {
  size : length l.first.items ≡ length l.turns;
  most : vec_len l.second ≤ length l.turns;
  front : (k : ℕ) (q : _) → slice_get l.second.items k ≡ Some q → slice_get l.fn.second.items k ≡ Some q;
  rest : (k : ℕ) (p : _) → k < vec_len l.second → slice_get l.first.items k ≡ Some p → slice_get l.fn.first.items k ≡ Some p;
  done : (k : ℕ) (p : _) (q : _) (r : _) → vec_len l.second ≤ k → slice_get l.fn.first.items k ≡ Some p → slice_get l.fn.second.items k ≡ Some q → slice_get l.first.items k ≡ Some r → Joined p q r;
}
