-- What an order says of a node, and what writing a node's links leaves.
use Rattle.std.specs.Prelude.{◌≡◌, ℕ, Bool, true, false, max}
use Rattle.seg_order.specs.declared.links.Links.{Links}

-- a node's links, the node with other links, whether one node comes before another, a node's span, and whether the links
-- of a node have room for a number as the greatest span
pub record Rules (N : Type 0) : Type 0 where
  pub links : N → Links
  pub with_links : N → Links → N
  pub before : N → N → Bool
  pub span : N → ℕ
  pub keeps : ℕ → Bool

-- no node comes before itself, what comes before is passed on, a node with other links has these and is else the same, and
-- there is room for the greatest of the spans
pub record IsLawful {N : Type 0} (r : Rules N) : Type 0 where
  pub irreflexive : (x : N) → r.before x x ≡ false
  pub transitive : (x y z : N) → r.before x y ≡ true → r.before y z ≡ true → r.before x z ≡ true
  pub written : (x : N) (l : Links) → r.keeps l.greatest ≡ true → r.links (r.with_links x l) ≡ l
  pub unchanged : (x : N) → r.with_links x (r.links x) ≡ x
  pub again : (x : N) (l m : Links) → r.with_links (r.with_links x l) m ≡ r.with_links x m
  pub same_span : (x : N) (l : Links) → r.span (r.with_links x l) ≡ r.span x
  pub same_first : (x y : N) (l : Links) → r.before (r.with_links x l) y ≡ r.before x y
  pub same_second : (x y : N) (l : Links) → r.before x (r.with_links y l) ≡ r.before x y
  pub keeps_none : r.keeps 0 ≡ true
  pub keeps_span : (x : N) → r.keeps (r.span x) ≡ true
  pub keeps_kept : (x : N) → r.keeps (r.links x).greatest ≡ true
  pub keeps_either : (a b : ℕ) → r.keeps a ≡ true → r.keeps b ≡ true → r.keeps (max a b) ≡ true
