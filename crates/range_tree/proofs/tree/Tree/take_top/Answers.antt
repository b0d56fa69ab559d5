use Rattle.std.proofs.Common.{◌∙◌, length, arith, ap, sym}
use Rattle.range_tree.proofs.Empty.{empty_placed, top_listed}
use Rattle.range_tree.proofs.tree.Tree.take_top.Goals as goal

pub unreachable-requires : goal.unreachable-requires
unreachable-requires c = omega (arith, c.requires.some, ap length (empty_placed c.args.pool.now c.args.self.now (sym c.top.ensures ∙ c.in_default.is)))

pub take_out-requires-clause-listed : goal.take_out-requires-clause-listed
take_out-requires-clause-listed c = top_listed c.args.pool.now c.args.self.now c.in-Some.no c.requires.tree (sym c.top.ensures ∙ c.in-Some.is)
