use Rattle.std.proofs.Common.{ap, refl, arith}
use Rattle.ms_core.proofs.Words.{MsState}
use Rattle.ms_core.proofs.Keeping.{acted_in_room, collects}
use Rattle.ms_core.proofs.Sparing.{waiting_cleared}
use Rattle.ms_core.proofs.metaslab.Metaslab.collect.Goals as goal

pub invariant_of-self : goal.invariant_of-self
invariant_of-self g c =
    let k = c.self.invariant.kept in
    let next = rw (← c.self.view_is) at c.requires.group in
    acted_in_room c.self.invariant c.requires.lane refl c.push_note.ensures (collects k (omega (arith, next, k.collected)) c.clear.ensures.clears) c.self.view_is c.requires.room
    (omega (arith, next, k.collected)) refl (omega (arith, c.clear.ensures.spare, waiting_cleared c.clear.ensures.clears.others (omega arith)))

pub returns-clause-room : goal.returns-clause-room
returns-clause-room g c =
    let k = c.self.invariant.kept in
    let next = rw (← c.self.view_is) at c.requires.group in
    omega (arith, ap (λ (s : MsState). s.room) c.self.view_is, k.order, c.self.invariant.room, c.self.invariant.waiting, waiting_cleared c.clear.ensures.clears.others (omega arith), c.clear.ensures.spare, c.push_note.ensures.len, c.push_note.ensures.capacity, next, k.collected)
