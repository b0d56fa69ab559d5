use Rattle.std.specs.Prelude.{Some}
use Rattle.std.proofs.lemmas.Map.Text.{hash_map_updates_str}
use Rattle.lane_run.proofs.blocks.add_block.Goals as goal

pub returns : goal.returns
returns c = λ other. hash_map_updates_str c.args.name.now c.args.blocks.now c.insert.new.self (Some c.args.block) c.in_ok-insert.ensures.updates other
