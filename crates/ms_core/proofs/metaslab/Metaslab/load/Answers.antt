use Rattle.std.proofs.Common.{refl, ap, arith}
use Rattle.ms_core.proofs.Words.{get_or-replicate, MsState}
use Rattle.ms_core.proofs.Keeping.{roomier, acted, loads}
use Rattle.ms_core.proofs.Narrowing.{segs_few}
use Rattle.ms_core.proofs.Sparing.{nodes_stay, waiting_cleared}
use Rattle.ms_core.proofs.metaslab.Metaslab.load.Goals as goal

pub overflow_cast-nodes : goal.overflow_cast-nodes
overflow_cast-nodes g c = omega (arith, c.self.invariant.kept.most, segs_few 0 c.self.inside.units c.args.held.now (rw (← c.self.view_is) at c.requires.segs))

pub overflow_add-nodes : goal.overflow_add-nodes
overflow_add-nodes g c = omega (arith, c.self.invariant.kept.most, segs_few 0 c.self.inside.units c.args.held.now (rw (← c.self.view_is) at c.requires.segs))

pub reserve-requires : goal.reserve-requires
reserve-requires g c = omega (arith, c.self.invariant.kept.most, segs_few 0 c.self.inside.units c.args.held.now (rw (← c.self.view_is) at c.requires.segs))

pub invariant_of-self : goal.invariant_of-self
invariant_of-self g c = roomier c.self.invariant refl c.reserve.ensures.roomier

pub invariant_of-self-2 : goal.invariant_of-self-2
invariant_of-self-2 g c =
    let fills = c.add_gaps.ensures.fills in
    let there = rw (← c.self.view_is) at c.requires.held in
    let was = roomier {new = record (c.self.inside) { notes = c.reserve.new.notes; trees = c.reserve.new.trees }} c.self.invariant refl c.reserve.ensures.roomier in
    acted was c.requires.lane refl c.push_note.ensures (loads was.kept c.if-self.false fills (rw (← c.reserve.ensures.roomier.items) at there) (λ number l. get_or-replicate 18 number 0 0 l))
    (omega (arith, c.in_ok-reserve.ensures.enough.1, c.add_gaps.ensures.spare, waiting_cleared fills.others (omega arith)))
    (omega (arith, c.self.invariant.room, c.self.invariant.kept.order, c.in_ok-reserve.ensures.enough.0, c.push_note.ensures.len, c.push_note.ensures.capacity))

pub returns-clause-memory : goal.returns-clause-memory
returns-clause-memory g c =
    let more = c.reserve.ensures.roomier in
    let same = nodes_stay _ _ more.stay in
    record {
      notes = omega (arith, ap (λ (s : MsState). s.memory.notes) c.self.view_is, more.capacity, c.push_note.ensures.capacity);
      nodes = omega (arith, ap (λ (s : MsState). s.memory.nodes) c.self.view_is, same, more.nodes, c.add_gaps.ensures.memory);
      base = ap (λ (s : MsState). s.memory.base) c.self.view_is;
    }
