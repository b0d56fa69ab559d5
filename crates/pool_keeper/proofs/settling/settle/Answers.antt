use Rattle.std.proofs.Common.{◌+◌, ℕ, length, sym, ◌∙◌, ap}
use Rattle.pool_keeper.proofs.Knowing.{gate_grows}
use Rattle.pool_keeper.proofs.Sound.{closed_later}
use Rattle.pool_keeper.proofs.Settles.{settled_seated, settled_all, gate_before}
use Rattle.pool_keeper.proofs.settling.settle.Goals as goal

pub settled_at-requires-clause-next : goal.settled_at-requires-clause-next
settled_at-requires-clause-next g c =
    c.requires.next ∙ ap (λ (n : ℕ). n + 1) (sym (gate_before c.args.cells.now c.args.lane (length c.args.cells.now.metaslabs) c.args.group c.args.passes.now c.settle_each.new.passes c.settle_each.ensures))

pub settled_at-requires-clause-closed : goal.settled_at-requires-clause-closed
settled_at-requires-clause-closed g c =
    closed_later c.args.cells.now.opened c.args.group.0 c.args.passes.now.gate.seen c.settle_each.new.passes.gate.seen (gate_grows 0 _ _ _ c.settle_each.ensures.journey) c.requires.closed

pub settled_at-requires-clause-seated : goal.settled_at-requires-clause-seated
settled_at-requires-clause-seated g c = settled_seated c.args.cells.now (length c.args.cells.now.metaslabs) c.args.lane c.args.group c.args.passes.now c.settle_each.new.passes c.requires.seated c.settle_each.ensures

pub returns : goal.returns
returns g c = settled_all c.args.cells.now c.args.lane c.args.group c.args.passes.now c.settle_each.new.passes c.settled_at.new.passes c.settle_each.ensures c.settled_at.ensures
