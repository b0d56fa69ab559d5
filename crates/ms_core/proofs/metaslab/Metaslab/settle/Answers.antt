use Rattle.std.proofs.Common.{ap, refl, arith}
use Rattle.ms_core.proofs.Words.{MsState}
use Rattle.ms_core.proofs.Mirroring.{settle_apart}
use Rattle.ms_core.proofs.Keeping.{vacates, acted, settles}
use Rattle.ms_core.proofs.Sparing.{waiting_settle}
use Rattle.ms_core.proofs.metaslab.Metaslab.settle.Goals as goal

pub overflow_sub-self : goal.overflow_sub-self
overflow_sub-self g c =
    let k = c.self.invariant.kept in
    let next = rw (← c.self.view_is) at c.requires.group in
    omega (arith, c.units.ensures, vacates k c.args.lane c.args.group (omega (arith, next, k.settled)))

pub settle_trees-requires : goal.settle_trees-requires
settle_trees-requires g c = settle_apart c.self.invariant.kept.legal c.self.invariant.kept.mirrors c.args.group.0 (rw (← c.self.view_is) at c.requires.group)

pub invariant_of-self : goal.invariant_of-self
invariant_of-self g c =
    let k = c.self.invariant.kept in
    let next = rw (← c.self.view_is) at c.requires.group in
    let within = rw (← c.self.view_is) at c.requires.collected in
    acted c.self.invariant c.requires.lane refl c.push_note.ensures
    (settles k (omega (arith, next, k.settled)) (omega (arith, within, k.collected)) c.settle_trees.ensures.moves c.units.ensures)
    (omega (arith, c.self.invariant.waiting, c.settle_trees.ensures.spare, waiting_settle c.settle_trees.ensures.moves))
    (omega (arith, next, k.settled, c.self.invariant.room, c.push_note.ensures.len, c.push_note.ensures.capacity))

pub returns-clause-room : goal.returns-clause-room
returns-clause-room g c =
    let k = c.self.invariant.kept in
    let next = rw (← c.self.view_is) at c.requires.group in
    let within = rw (← c.self.view_is) at c.requires.collected in
    omega (arith, ap (λ (s : MsState). s.room) c.self.view_is, waiting_settle c.settle_trees.ensures.moves, next, within, k.settled, k.collected, c.self.invariant.waiting, c.settle_trees.ensures.spare, c.push_note.ensures.capacity)
