use Rattle.std.proofs.Common.{suc, refl, sym, ◌∙◌, arith}
use Rattle.txg_gate.proofs.Journal.{knows_settled}
use Rattle.txg_gate.proofs.Holds.{shifted, shifted_at, settled_holds}
use Rattle.txg_gate.specs.GateInside.{gate_state}
use Rattle.txg_gate.specs.declared.gate.Gate.TheInside.{Inside}
use Rattle.txg_gate.proofs.gate.Gate.settled.Goals as goal

pub invariant_of-self : goal.invariant_of-self
invariant_of-self c =
    let next = rw (← c.self.view_is) at c.requires.next in
    let closed = rw (← c.self.view_is) at c.requires.closed in
    let was = c.self.invariant in
    let knows = knows_settled _ _ _ _ _ c.args.group was.open_is was.synced_is was.legal was.few next closed c.append.ensures.items in
    record {
      small = was.small;
      open_is = knows.open_is;
      synced_is = knows.synced_is;
      ahead = omega (arith, closed, was.open_is);
      near = omega (arith, next, was.near, was.open_is, was.synced_is);
      low = was.low;
      legal = knows.legal;
      few = knows.few;
      has_room = omega (arith, closed, next, was.open_is, was.synced_is, was.has_room, c.append.ensures.len, c.append.ensures.capacity);
      unused = λ k le. shifted_at c.self.inside.counts c.self.told k ∙ was.unused (suc k) (omega (arith, next, was.synced_is, le));
    }

pub returns-clause-holds : goal.returns-clause-holds
returns-clause-holds c =
    let next = rw (← c.self.view_is) at c.requires.next in
    let closed = rw (← c.self.view_is) at c.requires.closed in
    let was = c.self.invariant in
    let knows = knows_settled _ _ _ _ _ c.args.group was.open_is was.synced_is was.legal was.few next closed c.append.ensures.items in
    let new : Inside = record { opened = c.self.inside.opened; «open» = c.self.inside.open; synced = c.args.group; counts = shifted c.self.inside.counts; notes = c.append.new.notes } in
    rw (← c.self.view_is) (λ later lt. settled_holds (gate_state c.self.inside) (gate_state new) c.args.group.0 later refl c.self.told (sym knows.synced_is) next lt)
