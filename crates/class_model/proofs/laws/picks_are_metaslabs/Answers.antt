use Rattle.class_model.proofs.Within.{active_within, picks_within}
use Rattle.class_model.proofs.laws.picks_are_metaslabs.Goals as goal

pub returns : goal.returns
returns c = record { active = active_within; picks = picks_within }
