use Rattle.std.proofs.Common.{◌≡◌, ◌+◌, ◌≤◌, length, drop, vec_len}
use Rattle.std.specs.Vec.{vec_capacity}
use Rattle.std.specs.Vec.Iter.{into_iter_items, into_iter_len}
use Rattle.turn_passes.specs.Pairs.{Each}
use Rattle.class_group.specs.Closed.{IsHandedBack}
use Rattle.class_group.proofs.closing.close_all.Given as goal

abbrev pub decreases-loop-turn : goal.decreases-loop-turn
decreases-loop-turn g l = into_iter_len l.turns

abbrev pub invariant-loop-turn : goal.invariant-loop-turn
invariant-loop-turn g l = record {
  turns : into_iter_items l.turns ≡ drop (length l.journals.items) l.fn.turns.items;
  passes : into_iter_items l.passes ≡ drop (length l.journals.items) l.fn.passes.items;
  left : into_iter_len l.turns + vec_len l.journals ≡ length l.fn.turns.items;
  both : into_iter_len l.passes ≡ into_iter_len l.turns;
  room : length l.fn.turns.items ≤ vec_capacity l.journals;
  backs : Each (λ k c j. IsHandedBack c j) l.fn.passes.items l.journals.items;
}
