use Rattle.std.proofs.Common.{◌≡◌, ◌+◌, ◌≤◌, length, drop, vec_len}
use Rattle.std.specs.Vec.{vec_capacity}
use Rattle.std.specs.Vec.Iter.{into_iter_items, into_iter_len}
use Rattle.std.specs.List.{All}
use Rattle.turn_cell.specs.Notes.{StandsFor, Ends}
use Rattle.turn_cell.specs.declared.kept.TheConstants.{MAX_RIGHT}
use Rattle.turn_passes.specs.Pairs.{Each}
use Rattle.turn_passes.proofs.lists.close_turns.Given as goal

abbrev pub decreases-loop-turn : goal.decreases-loop-turn
decreases-loop-turn g l = into_iter_len l.turns

abbrev pub invariant-loop-turn : goal.invariant-loop-turn
invariant-loop-turn g l = record {
  turns : into_iter_items l.turns ≡ drop (length l.values.items) l.fn.turns.items;
  passes : into_iter_items l.passes ≡ drop (length l.values.items) l.fn.passes.items;
  left : into_iter_len l.turns + vec_len l.values ≡ length l.fn.turns.items;
  both : into_iter_len l.passes ≡ into_iter_len l.turns;
  room : length l.fn.turns.items ≤ vec_capacity l.values;
  ends : Each (λ k p x. Ends g.T.Kept.right p.own p.seen (g.T.Kept.journal x)) l.fn.passes.items l.values.items;
  stands : Each (λ k p x. StandsFor g.T.Kept.stands p.fixed x) l.fn.passes.items l.values.items;
  rights : All (λ x. All (λ n. g.T.Kept.right n ≤ MAX_RIGHT) (g.T.Kept.journal x)) l.values.items;
}
