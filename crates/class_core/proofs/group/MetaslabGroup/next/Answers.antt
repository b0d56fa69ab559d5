use Rattle.class_core.specs.Rankings.{has}
use Rattle.class_core.specs.GroupInside.{group_state}
use Rattle.class_core.proofs.Standing.{next_passed}
use Rattle.class_core.proofs.group.MetaslabGroup.next.Goals as goal

pub returns-then-passes_over : goal.returns-then-passes_over
returns-then-passes_over c =
    rw (← c.self.view_is)
    (next_passed (group_state c.self.inside) (has c.self.inside.ranking) c.self.invariant.agrees c.args.bytes c.args.start c.in_ok-got.got c.in_ok-got.ensures (c.passes_over.ensures.0 c.if-passes_over.true))
