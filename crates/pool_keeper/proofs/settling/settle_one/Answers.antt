use Rattle.std.proofs.Common.{◌≡◌, ◌+◌, ◌≤◌, ℕ, sym, subst}
use Rattle.ms_model.specs.Units.{settled_group, collected_group}
use Rattle.ms_cell.specs.Passes.{origin_in, seen_in}
use Rattle.pool_keeper.specs.Answers.{IsSettledAt}
use Rattle.pool_keeper.proofs.Settles.{settled_here}
use Rattle.pool_keeper.proofs.settling.settle_one.Goals as goal

pub settle_at-requires-clause-next : goal.settle_at-requires-clause-next
settle_at-requires-clause-next g c = subst (λ (k : ℕ). c.args.group.0 ≡ settled_group (origin_in c.args.passes.now k) (seen_in c.args.passes.now k) + 1) (sym c.id_at-id.ensures.number) c.requires.due.next

pub settle_at-requires-clause-collected : goal.settle_at-requires-clause-collected
settle_at-requires-clause-collected g c = subst (λ (k : ℕ). c.args.group.0 ≤ collected_group (origin_in c.args.passes.now k) (seen_in c.args.passes.now k)) (sym c.id_at-id.ensures.number) c.requires.due.collected

pub returns : goal.returns
returns g c = subst (λ (k : ℕ). IsSettledAt c.args.lane k c.args.group c.args.passes.now c.settle_at.new.passes) c.id_at-id.ensures.number (settled_here c.args.lane _ c.args.group c.args.passes.now c.settle_at.new.passes c.settle_at.ensures)
