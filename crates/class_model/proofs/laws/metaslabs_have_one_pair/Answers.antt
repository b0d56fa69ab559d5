use Rattle.class_model.proofs.Pairs.{one_pair}
use Rattle.class_model.proofs.laws.metaslabs_have_one_pair.Goals as goal

pub returns : goal.returns
returns c = one_pair
