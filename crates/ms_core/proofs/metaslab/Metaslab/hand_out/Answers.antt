use Rattle.std.proofs.Common.{ap, refl, arith}
use Rattle.ms_core.proofs.Words.{MsState}
use Rattle.ms_core.proofs.Mirroring.{can_grant}
use Rattle.ms_core.proofs.Keeping.{granted_few, acted_in_room, grants}
use Rattle.ms_core.proofs.Sparing.{waiting_moved}
use Rattle.ms_core.proofs.metaslab.Metaslab.hand_out.Goals as goal

pub move_seg-requires : goal.move_seg-requires
move_seg-requires g c =
    let may = rw (← c.self.view_is) at c.requires.may in
    let room = rw (← c.self.view_is) at c.requires.room in
    record { can = can_grant c.self.invariant.kept.legal c.self.invariant.kept.mirrors c.self.invariant.kept.most may; spare = omega (arith, room) }

pub overflow_add-self : goal.overflow_add-self
overflow_add-self g c =
    let may = rw (← c.self.view_is) at c.requires.may in
    omega (arith, c.self.invariant.kept.most, granted_few c.self.invariant.kept c.args.lane c.args.group may)

pub invariant_of-self : goal.invariant_of-self
invariant_of-self g c =
    let may = rw (← c.self.view_is) at c.requires.may in
    acted_in_room c.self.invariant c.requires.lane refl c.push_note.ensures (grants c.self.invariant.kept may c.move_seg.ensures.moves c.move_cursor.ensures) c.self.view_is c.requires.room
    (omega arith) refl (omega (arith, c.move_seg.ensures.spare, waiting_moved c.move_seg.ensures.moves (omega arith) (omega arith)))

pub returns-clause-room : goal.returns-clause-room
returns-clause-room g c =
    omega (arith, ap (λ (s : MsState). s.room) c.self.view_is, waiting_moved c.move_seg.ensures.moves (omega arith) (omega arith), c.self.invariant.kept.order, c.self.invariant.waiting, c.move_seg.ensures.spare, c.push_note.ensures.capacity)
