use Rattle.std.proofs.Common.{[], sym, subst, arith}
use Rattle.turn_cell.specs.Notes.{IsPrefix}
use Rattle.lane_steps.proofs.Steps.{prefix_trans}
use Rattle.ms_cell.specs.Passes.{Passes, Seated}
use Rattle.ms_cell.proofs.JournalLaws.{journeys_join, stays_seated}
use Rattle.pool_keeper.proofs.Told.{grows_calm}
use Rattle.pool_keeper.proofs.telling.tell_each.Goals as goal

pub tell_gate-requires-clause-from : goal.tell_gate-requires-clause-from
tell_gate-requires-clause-from g c = (c.requires.from.0, subst (λ (p : Passes). Seated c.requires.from.0 c.args.cells.now p) (sym c.tell_metaslabs.ensures.from) c.requires.from.1)

pub tell_gate-requires-clause-to : goal.tell_gate-requires-clause-to
tell_gate-requires-clause-to g c = (c.requires.to.0, stays_seated c.requires.to.0 c.args.cells.now [] c.args.to.now c.tell_metaslabs.new.to c.requires.to.1 (c.tell_metaslabs.ensures.to c.requires.to.0 c.requires.to.1))

pub returns-clause-gate : goal.returns-clause-gate
returns-clause-gate g c = subst (λ (p : Passes). IsPrefix p.gate.seen c.tell_gate.new.to.gate.seen) c.tell_metaslabs.ensures.from c.tell_gate.ensures.knows

pub returns-clause-knows : goal.returns-clause-knows
returns-clause-knows g c = λ k lt.
    let first = c.tell_metaslabs.ensures.to c.requires.to.0 c.requires.to.1 in
    let seat = stays_seated c.requires.to.0 c.args.cells.now [] c.args.to.now c.tell_metaslabs.new.to c.requires.to.1 first in
    prefix_trans _ _ _ (c.tell_metaslabs.ensures.knows k lt) (grows_calm c.requires.to.0 c.tell_metaslabs.new.to c.tell_gate.new.to (c.tell_gate.ensures.to c.requires.to.0 seat) k (omega (arith, lt, seat.know.count)))

pub returns-clause-to : goal.returns-clause-to
returns-clause-to g c = λ right seated.
    let first = c.tell_metaslabs.ensures.to right seated in
    journeys_join right [] [] c.args.to.now c.tell_metaslabs.new.to c.tell_gate.new.to first (c.tell_gate.ensures.to right (stays_seated right c.args.cells.now [] c.args.to.now c.tell_metaslabs.new.to seated first))
