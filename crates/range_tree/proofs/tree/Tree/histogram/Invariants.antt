use Rattle.std.proofs.Common.{◌≡◌, ◌+◌, ◌<◌, ◌≤◌, ◌⊎◌, ℕ, length, get_or}
use Rattle.range_tree.proofs.tree.Tree.histogram.Given as goal

abbrev pub invariant-loop-bit : goal.invariant-loop-bit
invariant-loop-bit l = record {
  long : length l.hist.runs ≡ 64;
  done : (bit : ℕ) → bit < l.bit → get_or l.hist.runs (l.ashift + bit) 0 ≡ get_or l.self.lengths bit 0;
  rest : (bucket : ℕ) → (bucket < l.ashift) ⊎ (l.ashift + l.bit ≤ bucket) → get_or l.hist.runs bucket 0 ≡ 0;
}
