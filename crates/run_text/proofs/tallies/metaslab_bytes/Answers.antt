use Rattle.std.proofs.Common.{arith}
use Rattle.run_text.proofs.Bounds.{bytes_few}
use Rattle.run_text.proofs.tallies.metaslab_bytes.Goals as goal

pub returns-clause-few : goal.returns-clause-few
returns-clause-few c = let few = bytes_few c.units_in.result c.args.ashift c.units_in.type_inv c.requires in omega (arith, few, c.bytes_of.ensures)
