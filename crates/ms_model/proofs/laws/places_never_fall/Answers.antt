use Rattle.std.proofs.Common.{[]}
use Rattle.ms_model.specs.Parts.{right_of, gate_right}
use Rattle.lane_steps.proofs.Steps.{follows_order}
use Rattle.ms_model.proofs.laws.places_never_fall.Goals as goal

pub returns : goal.returns
returns c = record {
  metaslab = λ lane ss r ts s us h follows. follows_order right_of lane [] ss r ts s us h follows;
  gate = λ lane ss r ts s us h follows. follows_order gate_right lane [] ss r ts s us h follows;
}
