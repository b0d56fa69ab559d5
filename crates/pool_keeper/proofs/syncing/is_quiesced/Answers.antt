use Rattle.std.proofs.Common.{◌∷◌, [], Option, subst, arith}
use Rattle.lane_steps.proofs.Steps.{follows_within}
use Rattle.ms_model.specs.Parts.{gate_right}
use Rattle.ms_model.specs.Events.{at_gate}
use Rattle.ms_model.specs.declared.notes.GateNote.{GateNote}
use Rattle.ms_cell.specs.Journey.{Journey}
use Rattle.pool_keeper.proofs.Knowing.{look_gate}
use Rattle.pool_keeper.proofs.syncing.is_quiesced.Goals as goal

pub quiesced_at-requires : goal.quiesced_at-requires
quiesced_at-requires g c = (c.args.lane, c.requires.seated)

pub returns-clause-passes : goal.returns-clause-passes
returns-clause-passes g c =
    let turn = c.quiesced_at.ensures c.args.lane c.requires.seated in
    look_gate c.args.lane turn.before c.args.passes.now c.quiesced_at.new.passes
    (subst (λ (n : Option GateNote). Journey c.args.lane (at_gate (record { before = turn.before; note = n }) ∷ []) c.args.passes.now c.quiesced_at.new.passes) turn.answer.quiet turn.journey)

pub returns-clause-closed : goal.returns-clause-closed
returns-clause-closed g c = λ yes.
    let turn = c.quiesced_at.ensures c.args.lane c.requires.seated in
    record {
      before = turn.before;
      begins = follows_within gate_right c.args.lane c.args.passes.now.gate.seen [] (record { before = turn.before; note = turn.note }) [] c.quiesced_at.new.passes.gate.seen turn.journey.gate.follows;
      closed = turn.answer.closed yes;
    }

pub returns-clause-small : goal.returns-clause-small
returns-clause-small g c = λ yes. let turn = c.quiesced_at.ensures c.args.lane c.requires.seated in let low = turn.answer.small yes in omega (arith, low)
