use Rattle.std.proofs.Common.{ap, ◌∙◌, ◌+◌, refl, arith}
use Rattle.txg_gate.proofs.Closings.{open_small}
use Rattle.txg_gate.proofs.Journal.{knows_closed}
use Rattle.ms_model.specs.Gates.{synced_group}
use Rattle.ms_model.proofs.GateGroups.{synced_group-push}
use Rattle.txg_gate.specs.GateInside.{gate_state}
use Rattle.txg_gate.specs.declared.gate.Gate.TheInside.{Inside}
use Rattle.txg_gate.proofs.Holds.{same_holds}
use Rattle.txg_gate.proofs.gate.Gate.close_open.Goals as goal

pub invariant_of-self : goal.invariant_of-self
invariant_of-self c =
    let few = rw (← c.self.view_is) at c.requires.few in
    let room = rw (← c.self.view_is) at c.requires.room in
    let was = c.self.invariant in
    let knows = knows_closed _ _ _ _ _ c.args.lane c.self.inside.open was.open_is was.synced_is was.legal was.few refl (omega arith) c.requires.lane few c.append.ensures.items in
    record {
      small = was.small;
      open_is = knows.open_is;
      synced_is = knows.synced_is;
      ahead = omega (arith, was.ahead);
      near = omega arith;
      low = omega (arith, open_small _ _ was.small knows.legal knows.few, knows.open_is);
      legal = knows.legal;
      few = knows.few;
      has_room = omega (arith, room, was.ahead, was.has_room, c.append.ensures.len, c.append.ensures.capacity);
      unused = λ k le. was.unused k (omega arith);
    }

pub returns-clause-holds : goal.returns-clause-holds
returns-clause-holds c =
    let synced = ap (synced_group c.self.inside.opened.0) c.append.ensures.items ∙ synced_group-push _ c.self.inside.notes.items _ in
    let new : Inside = record c.self.inside { «open» = record { 0 = c.self.inside.open.0 + 1 }; notes = c.append.new.notes } in
    rw (← c.self.view_is) (same_holds (gate_state new) (gate_state c.self.inside) synced refl)
