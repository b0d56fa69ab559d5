-- The rotations.
use Rattle.std.proofs.Common.{◌≡◌, ◌+◌, ◌<◌, ◌≤◌, Option, Some, refl, sym, ap, subst, ◌∙◌, arith}
use Rattle.seg_pool.specs.declared.NodeNo.{NodeNo}
use Rattle.seg_pool.specs.Pool.{Pool}
use Rattle.seg_order.specs.declared.links.Side.{Side}
use Rattle.seg_order.specs.Rules.{Rules, IsLawful}
use Rattle.seg_order.specs.Lists.{IsApart, Parts}
use Rattle.seg_order.specs.Sides.{between}
use Rattle.seg_order.specs.Trees.{stored_height, nodes_from}
use Rattle.seg_order.specs.Changes.{OnlyLinks, IsUnder, Joins}
use Rattle.seg_order.proofs.Apart.{from_between, parts_from, regroup, regroup_back, between_turn}
use Rattle.seg_order.proofs.Standing.{Has, has, Opened}
use Rattle.seg_order.proofs.Changing.{still_used, beside_has, both_links, under, joined_list, joined_has, joined_links}

module _ {N : Type 0} (rules : Rules N) (lawful : IsLawful rules) {side : Side} {pool : Pool N} {no top : NodeNo} {outer inner far : Option NodeNo} (u : IsUnder rules pool (Some top) far no.0) (o : Opened rules pool side top outer inner) where
  parts : Parts (between side (nodes_from rules pool outer) top.0 (nodes_from rules pool inner)) no.0 (nodes_from rules pool far)
  parts = subst (λ q. Parts q no.0 (nodes_from rules pool far)) o.list u.parts

  groups : Parts (nodes_from rules pool inner) no.0 (nodes_from rules pool far) × Parts (nodes_from rules pool outer) top.0 (between side (nodes_from rules pool inner) no.0 (nodes_from rules pool far))
  groups = regroup side _ top.0 _ no.0 _ parts

  -- the single rotation
  pub turn_first : IsUnder rules pool inner far no.0
  turn_first = under rules u.in_use (has rules pool inner o.far_stands) (has rules pool far u.far_stands) groups.0

  module _ {mid_pool : Pool N} (j : Joins rules side pool mid_pool inner far no.0 (Some no)) where
    outer_then : Has rules mid_pool outer (nodes_from rules pool outer) (stored_height rules pool outer)
    outer_then = beside_has rules lawful j.links (has rules pool outer o.near_stands) groups.1.across

    no_then : Has rules mid_pool (Some no) (between side (nodes_from rules pool inner) no.0 (nodes_from rules pool far)) (stored_height rules mid_pool (Some no))
    no_then = record { stands = j.stands; list = j.list; height = refl }

    pub turn_second : IsUnder rules mid_pool outer (Some no) top.0
    turn_second = under rules (still_used rules lawful j.links top.0 o.in_use) outer_then no_then groups.1

    pub turn_outer : stored_height rules mid_pool outer ≡ stored_height rules pool outer
    turn_outer = outer_then.height

    whole : between side (nodes_from rules pool (Some top)) no.0 (nodes_from rules pool far) ≡ between side (nodes_from rules pool outer) top.0 (between side (nodes_from rules pool inner) no.0 (nodes_from rules pool far))
    whole = ap (λ q. between side q no.0 (nodes_from rules pool far)) o.list ∙ between_turn side _ top.0 _ no.0 _

    pub turned : {new : Pool N} → Joins rules side mid_pool new outer (Some no) top.0 (Some top) → stored_height rules pool (Some top) ≡ stored_height rules pool far + 2 → stored_height rules pool inner ≤ stored_height rules pool outer → Joins rules side pool new (Some top) far no.0 (Some top)
    turned k leans out =
        let balanced = o.balanced in
        let level = j.level (omega (arith, o.height, balanced)) in
        let then = outer_then.height in
        let level_2 = k.level (omega (arith, o.height, balanced)) in
        record {
          stands = k.stands;
          list = k.list ∙ joined_list rules k outer_then no_then ∙ sym whole;
          links = subst (OnlyLinks rules pool _) (sym whole) (both_links rules lawful _ j.links (joined_links rules k outer_then no_then)
              (λ q apart. (from_between (λ i. i ≡ q → ⊥) side _ top.0 _ apart).far) (λ q apart. apart));
          no_lower = omega (arith, o.height, balanced);
          no_higher = omega (arith, o.height, balanced);
          level = λ d. absurd (omega (arith, d));
        }

-- the double rotation
module _ {N : Type 0} (rules : Rules N) (lawful : IsLawful rules) {side : Side} {pool : Pool N} {no top mid : NodeNo} {outer low high far : Option NodeNo} (u : IsUnder rules pool (Some top) far no.0) (o : Opened rules pool side top outer (Some mid)) (m : Opened rules pool side mid low high) where
  four : Parts (between side (nodes_from rules pool outer) top.0 (between side (nodes_from rules pool low) mid.0 (nodes_from rules pool high))) no.0 (nodes_from rules pool far)
  four = subst (λ q. Parts (between side (nodes_from rules pool outer) top.0 q) no.0 (nodes_from rules pool far)) m.list (subst (λ q. Parts q no.0 (nodes_from rules pool far)) o.list u.parts)

  inner_groups : Parts (nodes_from rules pool outer) top.0 (nodes_from rules pool low) × Parts (between side (nodes_from rules pool outer) top.0 (nodes_from rules pool low)) mid.0 (nodes_from rules pool high)
  inner_groups = regroup_back side _ top.0 _ mid.0 _ (parts_from side _ top.0 _ four.near_distinct)

  outer_groups : Parts (nodes_from rules pool high) no.0 (nodes_from rules pool far) × Parts (between side (nodes_from rules pool outer) top.0 (nodes_from rules pool low)) mid.0 (between side (nodes_from rules pool high) no.0 (nodes_from rules pool far))
  outer_groups = regroup side _ mid.0 _ no.0 _ (subst (λ q. Parts q no.0 (nodes_from rules pool far)) (sym (between_turn side _ top.0 _ mid.0 _)) four)

  pub twice_first : IsUnder rules pool outer low top.0
  twice_first = under rules o.in_use (has rules pool outer o.near_stands) (has rules pool low m.near_stands) inner_groups.0

  module _ {second : Pool N} (j : Joins rules side pool second outer low top.0 (Some top)) where
    high_then : Has rules second high (nodes_from rules pool high) (stored_height rules pool high)
    high_then = beside_has rules lawful j.links (has rules pool high m.far_stands) inner_groups.1.back

    far_then : Has rules second far (nodes_from rules pool far) (stored_height rules pool far)
    far_then =
        beside_has rules lawful j.links (has rules pool far u.far_stands)
        (from_between (λ i. IsApart i (between side (nodes_from rules pool outer) top.0 (nodes_from rules pool low))) side _ no.0 _ outer_groups.1.back).far

    top_then : Has rules second (Some top) (between side (nodes_from rules pool outer) top.0 (nodes_from rules pool low)) (stored_height rules second (Some top))
    top_then = record { stands = j.stands; list = j.list; height = refl }

    pub twice_second : IsUnder rules second high far no.0
    twice_second = under rules (still_used rules lawful j.links no.0 u.in_use) high_then far_then outer_groups.0

    pub twice_high : stored_height rules second high ≡ stored_height rules pool high
    twice_high = high_then.height

    pub twice_far : stored_height rules second far ≡ stored_height rules pool far
    twice_far = far_then.height

    module _ {third : Pool N} (k : Joins rules side second third high far no.0 (Some no)) where
      links_then : OnlyLinks rules second third (between side (nodes_from rules pool high) no.0 (nodes_from rules pool far))
      links_then = joined_links rules k high_then far_then

      top_last : Has rules third (Some top) (between side (nodes_from rules pool outer) top.0 (nodes_from rules pool low)) (stored_height rules second (Some top))
      top_last = beside_has rules lawful links_then top_then outer_groups.1.across

      no_last : Has rules third (Some no) (between side (nodes_from rules pool high) no.0 (nodes_from rules pool far)) (stored_height rules third (Some no))
      no_last = joined_has rules k high_then far_then

      pub twice_third : IsUnder rules third (Some top) (Some no) mid.0
      twice_third = under rules (still_used rules lawful k.links mid.0 (still_used rules lawful j.links mid.0 m.in_use)) top_last no_last outer_groups.1

      pub twice_top : stored_height rules third (Some top) ≡ stored_height rules second (Some top)
      twice_top = top_last.height

      turned_list : between side (nodes_from rules pool (Some top)) no.0 (nodes_from rules pool far) ≡ between side (between side (nodes_from rules pool outer) top.0 (nodes_from rules pool low)) mid.0 (between side (nodes_from rules pool high) no.0 (nodes_from rules pool far))
      turned_list =
          ap (λ q. between side q no.0 (nodes_from rules pool far)) o.list
          ∙ ap (λ q. between side (between side (nodes_from rules pool outer) top.0 q) no.0 (nodes_from rules pool far)) m.list
          ∙ ap (λ q. between side q no.0 (nodes_from rules pool far)) (sym (between_turn side _ top.0 _ mid.0 _))
          ∙ between_turn side _ mid.0 _ no.0 _

      pub turned_twice : {new : Pool N} → Joins rules side third new (Some top) (Some no) mid.0 (Some mid) → stored_height rules pool (Some top) ≡ stored_height rules pool far + 2 → stored_height rules pool outer < stored_height rules pool (Some mid) → Joins rules side pool new (Some top) far no.0 (Some mid)
      turned_twice l leans inward =
          let b = o.balanced in
          let d = m.balanced in
          let h = high_then.height in
          let f = far_then.height in
          let t = top_last.height in
          let one = j.level (omega (arith, o.height, m.height, b, d)) in
          let two = k.level (omega (arith, o.height, m.height, b, d, h, f)) in
          let three = l.level (omega (arith, o.height, m.height, b, d, h, f, t, one, two)) in
          record {
            stands = l.stands;
            list = l.list ∙ joined_list rules l top_last no_last ∙ sym turned_list;
            links = subst (OnlyLinks rules pool _) (sym turned_list) (both_links rules lawful _ (both_links rules lawful _ j.links links_then
                (λ q apart. (from_between (λ i. i ≡ q → ⊥) side _ mid.0 _ apart).near)
                (λ q apart. (from_between (λ i. i ≡ q → ⊥) side _ mid.0 _ apart).far)) (joined_links rules l top_last no_last) (λ q apart. apart) (λ q apart. apart));
            no_lower = omega (arith, o.height, m.height, b, d, h, f, t, one, two, three);
            no_higher = omega (arith, o.height, m.height, b, d, h, f, t, one, two, three);
            level = λ e. absurd (omega (arith, e));
          }
