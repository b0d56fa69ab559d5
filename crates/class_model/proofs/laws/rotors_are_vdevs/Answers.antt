use Rattle.class_model.proofs.Rotors.{rotor_is}
use Rattle.class_model.proofs.laws.rotors_are_vdevs.Goals as goal

pub returns : goal.returns
returns c = rotor_is
