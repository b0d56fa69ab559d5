use Rattle.std.proofs.Common.{◌+◌, ◌-◌, ◌/◌, ◌<◌, ◌≤◌, min, refl, ap, arith}
use Rattle.ms_core.proofs.Words.{vec_len, vec_capacity, MsState, waiting_nodes}
use Rattle.ms_core.proofs.Keeping.{roomier}
use Rattle.ms_core.proofs.Sparing.{on_ok, nodes_stay, waiting_same}
use Rattle.ms_core.proofs.metaslab.Metaslab.ready.Goals as goal

pub invariant_of-self : goal.invariant_of-self
invariant_of-self g c = roomier c.self.invariant refl c.reserve.ensures.roomier

pub returns-clause-ok : goal.returns-clause-ok
returns-clause-ok g c =
    let m = c.self.inside in
    let new = g.R.SegTrees.set c.reserve.new.trees in
    let spare = g.R.SegTrees.spare c.reserve.new.trees in
    let notes = c.reserve.new.notes in
    on_ok {P = (vec_len notes + (m.collected.0 - m.settled.0 + 2) ≤ vec_capacity notes) × (waiting_nodes new + 2 ≤ spare)} {Q = 0 < min ((vec_capacity notes - (vec_len notes + (m.collected.0 - m.settled.0))) / 2) ((spare - waiting_nodes new) / 2)} c.reserve.result
    (λ ok. omega (arith, ok.0, ok.1)) c.reserve.ensures.enough

pub returns-clause-room : goal.returns-clause-room
returns-clause-room g c =
    let more = c.reserve.ensures.roomier in
    omega (arith, ap (λ (s : MsState). s.room) c.self.view_is, waiting_same _ _ (λ tree u from to. more.stay tree u), c.self.invariant.waiting, more.nodes, more.len, more.capacity)

pub returns-clause-memory : goal.returns-clause-memory
returns-clause-memory g c =
    let more = c.reserve.ensures.roomier in
    record {
      notes = omega (arith, ap (λ (s : MsState). s.memory.notes) c.self.view_is, more.capacity);
      nodes = omega (arith, ap (λ (s : MsState). s.memory.nodes) c.self.view_is, nodes_stay _ _ more.stay, more.nodes);
      base = ap (λ (s : MsState). s.memory.base) c.self.view_is;
    }
