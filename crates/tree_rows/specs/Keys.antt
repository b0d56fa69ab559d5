-- Nodes that are ordered by a number.
use Rattle.std.specs.Prelude.{◌≡◌, nat_lt, true, false, refl}
use Rattle.std.proofs.Common.{arith}
use Rattle.std.proofs.lemmas.Bool.{ltb-true, lt-ltb}
use Rattle.std.proofs.lemmas.Bool.Decides.{nat_tests}
use Rattle.seg_order.specs.Rules.{Rules, IsLawful}
use Rattle.tree_rows.specs.declared.orders.KeyNode.{KeyNode}

abbrev pub key_rules : Rules KeyNode
key_rules = record {
  links = λ n. n.links;
  with_links = λ n l. record n { links = l };
  before = λ x y. nat_lt x.key y.key;
  span = λ n. 0;
  keeps = λ span. true;
}

pub key_lawful : IsLawful key_rules
key_lawful = record {
  irreflexive = λ x. grind (arith, nat_tests);
  transitive = λ x y z p q. lt-ltb _ _ (omega (arith, ltb-true _ _ p, ltb-true _ _ q));
  written = λ x l kept. refl;
  unchanged = λ x. refl;
  again = λ x l m. refl;
  same_span = λ x l. refl;
  same_first = λ x y l. refl;
  same_second = λ x y l. refl;
  keeps_none = refl;
  keeps_span = λ x. refl;
  keeps_kept = λ x. refl;
  keeps_either = λ a b p q. refl;
}
