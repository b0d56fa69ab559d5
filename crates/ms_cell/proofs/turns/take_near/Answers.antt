use Rattle.std.proofs.Common.{refl, ap, ◌∙◌}
use Rattle.lane_steps.proofs.Steps.{prefix_whole, prefix_trans}
use Rattle.turn_cell.specs.Known.{Known}
use Rattle.ms_model.specs.declared.notes.Noted.{Noted}
use Rattle.ms_model.specs.Parts.{right_of}
use Rattle.ms_core.specs.declared.kept.Standing.{Standing}
use Rattle.ms_cell.proofs.Turning.{given_back, as_seen}
use Rattle.ms_cell.proofs.turns.take_near.Goals as goal

pub loop-init : goal.loop-init
loop-init g c = record { same = refl; seen = prefix_whole c.args.pass.now.seen }

pub take-held-requires-clause-turn : goal.take-held-requires-clause-turn
take-held-requires-clause-turn g c κs within = ap (λ (k : Known Noted Standing). k.turn) c.loop.invariant.same ∙ c.requires.at

pub take-held-requires-clause-idle : goal.take-held-requires-clause-idle
take-held-requires-clause-idle g c κs within = ap (λ (k : Known Noted Standing). k.out) c.loop.invariant.same ∙ c.requires.idle

pub loop-preserved : goal.loop-preserved
loop-preserved g c =
    let idle = ap (λ (k : Known Noted Standing). k.out) c.loop.invariant.same ∙ c.requires.idle in
    let back = given_back right_of c.loop.pass c.take-held.new.pass c.give.new.pass _ _ _ idle c.take-held.ensures.pass c.give.ensures.pass in
    record {
      same = as_seen c.args.pass.now c.loop.pass c.give.new.pass _ _ c.loop.invariant.same back;
      seen = prefix_trans c.args.pass.now.seen c.loop.pass.seen c.give.new.pass.seen c.loop.invariant.seen (rw (ap (λ (k : Known Noted Standing). k.seen) back) c.take-held.ensures.seen);
    }
