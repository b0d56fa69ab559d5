use Rattle.std.proofs.Common.{[], sym, ◌∙◌}
use Rattle.lane_steps.proofs.Steps.{follows_within, follows_place}
use Rattle.ms_model.specs.Parts.{right_of, gate_right}
use Rattle.ms_model.proofs.Rights.{parts, gate_parts}
use Rattle.ms_model.proofs.laws.places_are_within.Goals as goal

pub returns : goal.returns
returns c = record {
  metaslab = λ lane ss s ts h some follows.
      (follows_within right_of lane [] ss s ts h follows, sym ((parts s.before).0 lane some) ∙ follows_place right_of lane [] ss s ts h follows);
  gate = λ lane ss s ts h some follows.
      (follows_within gate_right lane [] ss s ts h follows, sym ((gate_parts s.before).0 lane some) ∙ follows_place gate_right lane [] ss s ts h follows);
}
