use Rattle.std.proofs.Common.{◌≡◌, ◌+◌, ◌≤◌, ◌<◌, length, vec_len}
use Rattle.std.specs.Vec.{vec_capacity}
use Rattle.turn_passes.specs.Parts.{IsRest, IsFresh}
use Rattle.turn_passes.specs.Pairs.{Each}
use Rattle.turn_passes.proofs.lists.next_passes.Given as goal

abbrev pub invariant-loop-at : goal.invariant-loop-at
invariant-loop-at g l = record {
  count : vec_len l.passes ≡ l.at;
  room : length l.turns ≤ vec_capacity l.passes;
  size : length l.rests.items ≡ length l.turns;
  rests : Each (λ k t p. (k < l.at → IsRest (l.right + 1) t p) × (l.at ≤ k → IsRest l.right t p)) l.turns l.rests.items;
  fixed : Each (λ k p q. q.fixed ≡ p.fixed) l.fn.rests.items l.rests.items;
  fresh : Each (λ k t p. IsFresh l.right t p) l.turns l.passes.items;
  same : Each (λ k p q. q.fixed ≡ p.fixed) l.fn.rests.items l.passes.items;
}
