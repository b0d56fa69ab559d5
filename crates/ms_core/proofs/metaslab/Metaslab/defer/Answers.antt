use Rattle.std.proofs.Common.{ap, refl, arith}
use Rattle.ms_core.proofs.Words.{MsState}
use Rattle.ms_core.proofs.Mirroring.{free_apart}
use Rattle.ms_core.proofs.Keeping.{freed_some, acted_in_room, frees}
use Rattle.ms_core.proofs.Sparing.{waiting_free}
use Rattle.ms_core.proofs.metaslab.Metaslab.defer.Goals as goal

pub add-requires : goal.add-requires
add-requires g c =
    let k = c.self.invariant.kept in
    let may = rw (← c.self.view_is) at c.requires.may in
    let room = rw (← c.self.view_is) at c.requires.room in
    record {
      segment = record { some = may.within.some; within = omega (arith, may.within.within, k.most) };
      apart = free_apart k.legal k.mirrors c.args.group.0 c.args.seg may;
      spare = omega (arith, room);
    }

pub overflow_sub-self : goal.overflow_sub-self
overflow_sub-self g c =
    let may = rw (← c.self.view_is) at c.requires.may in
    (freed_some c.self.invariant.kept c.args.lane c.args.group may).0

pub overflow_add-self : goal.overflow_add-self
overflow_add-self g c =
    let may = rw (← c.self.view_is) at c.requires.may in
    omega (arith, c.self.invariant.kept.most, (freed_some c.self.invariant.kept c.args.lane c.args.group may).1)

pub invariant_of-self : goal.invariant_of-self
invariant_of-self g c =
    let may = rw (← c.self.view_is) at c.requires.may in
    acted_in_room c.self.invariant c.requires.lane refl c.push_note.ensures (frees c.self.invariant.kept may c.add.ensures.adds) c.self.view_is c.requires.room (omega arith) refl
    (omega (arith, c.add.ensures.spare, waiting_free c.args.group.0 (record { some = may.within.some; within = omega (arith, may.within.within, c.self.invariant.kept.most) }) c.add.ensures.adds))

pub returns-clause-room : goal.returns-clause-room
returns-clause-room g c =
    let may = rw (← c.self.view_is) at c.requires.may in
    let most = waiting_free c.args.group.0 (record { some = may.within.some; within = omega (arith, may.within.within, c.self.invariant.kept.most) }) c.add.ensures.adds in
    omega (arith, ap (λ (s : MsState). s.room) c.self.view_is, most, c.self.invariant.kept.order, c.self.invariant.waiting, c.add.ensures.spare, c.push_note.ensures.capacity)
