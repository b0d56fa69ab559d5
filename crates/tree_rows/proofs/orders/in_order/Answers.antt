use Rattle.seg_order.specs.Trees.{IsOver}
use Rattle.range_tree.proofs.Putting.{contains_it}
use Rattle.tree_rows.specs.Keys.{key_rules}
use Rattle.tree_rows.proofs.Empty.{new_over, new_differs}
use Rattle.tree_rows.proofs.orders.in_order.Goals as goal

pub insert-put-requires-clause-over : goal.insert-put-requires-clause-over
insert-put-requires-clause-over c = new_over key_rules c.take-no.new.self c.new-order.result.root c.new-order.ensures

pub insert-put-requires-clause-differs : goal.insert-put-requires-clause-differs
insert-put-requires-clause-differs c = new_differs key_rules c.take-no.new.self c.new-order.result.root c.new-order.ensures c.take-no.result.0

pub remove-taken-requires-clause-listed : goal.remove-taken-requires-clause-listed
remove-taken-requires-clause-listed c = contains_it c.insert-put.ensures.put
