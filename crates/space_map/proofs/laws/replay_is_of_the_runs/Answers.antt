use Rattle.std.proofs.Common.{◌∙◌, ap, List}
use Rattle.space_map.specs.declared.places.Found.{Found}
use Rattle.space_map.specs.Replay.{is_held}
use Rattle.space_map.proofs.Deciding.{runs_certain}
use Rattle.space_map.proofs.laws.replay_is_of_the_runs.Goals as goal

pub returns : goal.returns
returns c = λ kind words found u held decodes. (
  λ replays. ap (λ (f : List Found). is_held f u) (runs_certain kind words found replays.found decodes replays.decodes) ∙ replays.says,
  λ says. record { found = found; decodes = decodes; says = says },
)
