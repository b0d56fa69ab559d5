use Rattle.std.proofs.Common.{◌∙◌, arith}
use Rattle.std.proofs.lemmas.Grind.{common_steps}
use Rattle.vdev_map.proofs.InOrder.{one_number}
use Rattle.vdev_map.proofs.ids.number_of.Goals as goal

pub returns-clause-one_to_one : goal.returns-clause-one_to_one
returns-clause-one_to_one c other in_ same = one_number c.args.vdevs.now c.args.id other c.requires.id in_ (same ∙ grind (arith, common_steps))
