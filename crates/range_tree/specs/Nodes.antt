-- A run as a node, and the two orders of runs.
use Rattle.std.specs.Prelude.{◌≡◌, ◌==◌, ◌&&◌, ◌||◌, ℕ, zero, suc, max, nat_lt, Bool, true, false, Option, Some, None, refl}
use Rattle.std.proofs.Common.{sym, ap, arith}
use Rattle.std.proofs.lemmas.Bool.{ltb-true, lt-ltb}
use Rattle.std.proofs.lemmas.Bool.Decides.{nat_tests}
use Rattle.zms_units.specs.declared.segments.Seg.{Seg}
use Rattle.zms_units.specs.Segments.{end_of}
use Rattle.seg_pool.specs.declared.NodeNo.{NodeNo}
use Rattle.seg_order.specs.declared.links.Links.{Links}
use Rattle.seg_order.specs.Rules.{Rules, IsLawful}
use Rattle.range_tree.specs.declared.node.RunNode.{RunNode}

-- a run comes before another that ends behind it
abbrev pub ends_before : Seg → Seg → Bool
ends_before first second = nat_lt (end_of first) (end_of second)

-- a run comes before a longer one, and before one of its length that starts behind it
abbrev pub is_smaller : Seg → Seg → Bool
is_smaller first second = nat_lt first.count second.count || (first.count == second.count && nat_lt first.start second.start)

-- a place or none as a number: 0 is none
abbrev pub packed : Option NodeNo → ℕ
packed None = 0
packed (Some at) = suc at.0

-- what was packed
abbrev pub unpacked : ℕ → Option NodeNo
unpacked zero = None
unpacked (suc at) = Some (record { 0 = at })

unpack_packed : (place : Option NodeNo) → unpacked (packed place) ≡ place
unpack_packed None = refl
unpack_packed (Some at) = refl

pack_unpacked : (link : ℕ) → packed (unpacked link) ≡ link
pack_unpacked zero = refl
pack_unpacked (suc at) = refl

abbrev pub place_links : RunNode → Links
place_links node = record { left = unpacked node.place_left; right = unpacked node.place_right; height = node.place_height; greatest = node.longest }

abbrev pub with_place_links : RunNode → Links → RunNode
with_place_links node links = record node { place_left = packed links.left; place_right = packed links.right; longest = links.greatest; place_height = links.height }

-- no greatest span is kept, since each span is 0
abbrev pub size_links : RunNode → Links
size_links node = record { left = unpacked node.size_left; right = unpacked node.size_right; height = node.size_height; greatest = 0 }

abbrev pub with_size_links : RunNode → Links → RunNode
with_size_links node links = record node { size_left = packed links.left; size_right = packed links.right; size_height = links.height }

abbrev pub place_rules : Rules RunNode
place_rules = record {
  links = place_links;
  with_links = with_place_links;
  before = λ x y. ends_before x.seg y.seg;
  span = λ n. n.seg.count;
  keeps = λ span. true;
}

abbrev pub size_rules : Rules RunNode
size_rules = record {
  links = size_links;
  with_links = with_size_links;
  before = λ x y. is_smaller x.seg y.seg;
  span = λ n. 0;
  keeps = λ span. span == 0;
}

ends_irreflexive : (s : Seg) → ends_before s s ≡ false
ends_irreflexive s = grind (arith, nat_tests)

ends_transitive : (s t u : Seg) → ends_before s t ≡ true → ends_before t u ≡ true → ends_before s u ≡ true
ends_transitive s t u p q = lt-ltb _ _ (omega (arith, ltb-true _ _ p, ltb-true _ _ q))

smaller_irreflexive : (s : Seg) → is_smaller s s ≡ false
smaller_irreflexive s = grind (arith, nat_tests)

smaller_transitive : (s t u : Seg) → is_smaller s t ≡ true → is_smaller t u ≡ true → is_smaller s u ≡ true
smaller_transitive s t u p q = grind (arith, nat_tests)

place_written : (x : RunNode) (l : Links) → place_links (with_place_links x l) ≡ l
place_written x l = rw (unpack_packed l.left, unpack_packed l.right) refl

place_unchanged : (x : RunNode) → with_place_links x (place_links x) ≡ x
place_unchanged x = rw (pack_unpacked x.place_left, pack_unpacked x.place_right) refl

is_zero : (n : ℕ) → (n == 0) ≡ true → n ≡ 0
is_zero n e = grind (arith, nat_tests)

size_written : (x : RunNode) (l : Links) → (l.greatest == 0) ≡ true → size_links (with_size_links x l) ≡ l
size_written x l kept = rw (unpack_packed l.left, unpack_packed l.right) (ap (λ n. record l { greatest = n }) (sym (is_zero l.greatest kept)))

size_unchanged : (x : RunNode) → with_size_links x (size_links x) ≡ x
size_unchanged x = rw (pack_unpacked x.size_left, pack_unpacked x.size_right) refl

size_either : (a b : ℕ) → (a == 0) ≡ true → (b == 0) ≡ true → (max a b == 0) ≡ true
size_either a b p q = rw (is_zero a p, is_zero b q) refl

pub place_lawful : IsLawful place_rules
place_lawful = record {
  irreflexive = λ x. ends_irreflexive x.seg;
  transitive = λ x y z. ends_transitive x.seg y.seg z.seg;
  written = λ x l kept. place_written x l;
  unchanged = place_unchanged;
  again = λ x l m. refl;
  same_span = λ x l. refl;
  same_first = λ x y l. refl;
  same_second = λ x y l. refl;
  keeps_none = refl;
  keeps_span = λ x. refl;
  keeps_kept = λ x. refl;
  keeps_either = λ a b p q. refl;
}

pub size_lawful : IsLawful size_rules
size_lawful = record {
  irreflexive = λ x. smaller_irreflexive x.seg;
  transitive = λ x y z. smaller_transitive x.seg y.seg z.seg;
  written = size_written;
  unchanged = size_unchanged;
  again = λ x l m. refl;
  same_span = λ x l. refl;
  same_first = λ x y l. refl;
  same_second = λ x y l. refl;
  keeps_none = refl;
  keeps_span = λ x. refl;
  keeps_kept = λ x. refl;
  keeps_either = size_either;
}
