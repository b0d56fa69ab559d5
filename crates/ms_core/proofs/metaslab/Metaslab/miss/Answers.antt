use Rattle.std.proofs.Common.{refl, arith}
use Rattle.ms_core.proofs.Keeping.{acted_in_room, misses}
use Rattle.ms_core.proofs.metaslab.Metaslab.miss.Goals as goal

pub invariant_of-self : goal.invariant_of-self
invariant_of-self g c =
    let may = rw (← c.self.view_is) at c.requires.may in
    acted_in_room c.self.invariant c.requires.lane refl c.push_note.ensures (misses c.self.invariant.kept may) c.self.view_is c.requires.room (omega arith) refl (omega arith)
