-- A node that comes into a subtree, or leaves it.
use Rattle.std.proofs.Common.{◌≡◌, ℕ, Option, Some, None, IsSome, [], ◌∷◌, ◌++◌, refl, sym, ap, subst, ◌∙◌, arith, append-nil}
use Rattle.seg_pool.specs.declared.NodeNo.{NodeNo}
use Rattle.seg_pool.specs.Pool.{Pool, node_at}
use Rattle.seg_order.specs.declared.links.Side.{Side}
use Rattle.seg_order.specs.declared.links.Told.{Told}
use Rattle.seg_order.specs.declared.links.Side.TheVariants.{Left}
use Rattle.seg_order.specs.Rules.{Rules, IsLawful}
use Rattle.seg_order.specs.Lists.{IsApart, PutIn, Parts}
use Rattle.seg_order.specs.Sides.{between, other, toward}
use Rattle.seg_order.specs.Trees.{DifferByAtMost, links_at, stored_height, stored_greatest, nodes_from, IsSorted, IsOver}
use Rattle.seg_order.specs.Changes.{OnlyLinks, IsUnder, IsOverBoth, Joins, Inserts, Removes, RemovesFirst}
use Rattle.seg_order.proofs.Apart.{from_between, to_between, EachOf, AreApart-sym}
use Rattle.seg_order.proofs.Standing.{Has, has, Opened, none_empty, none_stands}
use Rattle.seg_order.proofs.Changing.{still_used, beside_has, both_links, no_links, under, joined_list, joined_links}
use Rattle.seg_order.proofs.Telling.{over_both, greatest_stays}
use Rattle.seg_order.proofs.Sorting.{each_put, each_rest, each_taken, parts_less, put_near, Sorted, comes, sorted_parts, sorted_between, sorted_apart}
use Rattle.seg_order.proofs.Heights.{Rise, rise, flip_rise, grown, shrunk, all_used}

module _ {N : Type 0} (rules : Rules N) (lawful : IsLawful rules) where
  -- the sides of a subtree share no place
  pub opened_parts : {pool : Pool N} {side : Side} {at : NodeNo} {near far : Option NodeNo} → IsOver rules pool (Some at) → Opened rules pool side at near far → Parts (nodes_from rules pool near) at.0 (nodes_from rules pool far)
  opened_parts {pool} {side} v o = sorted_apart rules lawful pool side _ _ _ (subst (IsSorted rules pool) o.list v.sorted)

  pub opened_sorted : {pool : Pool N} {side : Side} {at : NodeNo} {near far : Option NodeNo} → IsOver rules pool (Some at) → Opened rules pool side at near far → Sorted rules lawful pool side (nodes_from rules pool near) at.0 (nodes_from rules pool far)
  opened_sorted {pool} {side} v o = sorted_parts rules lawful pool side _ _ _ (subst (IsSorted rules pool) o.list v.sorted)

  pub near_over : {pool : Pool N} {side : Side} {at : NodeNo} {near far : Option NodeNo} → IsOver rules pool (Some at) → Opened rules pool side at near far → IsOver rules pool near
  near_over v o = record { stands = o.near_stands; sorted = (opened_sorted v o).near_sorted }

  pub far_over : {pool : Pool N} {side : Side} {at : NodeNo} {near far : Option NodeNo} → IsOver rules pool (Some at) → Opened rules pool side at near far → IsOver rules pool far
  far_over v o = record { stands = o.far_stands; sorted = (opened_sorted v o).far_sorted }

  -- a node alone
  pub none_under : (pool : Pool N) (at : ℕ) → IsSome (node_at pool at) → IsUnder rules pool None None at
  none_under pool at used_at =
      let empty : Has rules pool None [] 0 = record { stands = none_stands rules pool; list = none_empty rules pool; height = refl } in
      under rules used_at empty empty (record { near_distinct = tt; far_distinct = tt; at_near = tt; at_far = tt; across = tt; back = tt })

  pub inserted_alone : {old new : Pool N} {at : ℕ} {top : Option NodeNo} → Joins rules Left old new None None at top → Inserts rules old None at new top
  inserted_alone {old} {new} {at} {top} j =
      let empty : Has rules old None [] 0 = record { stands = none_stands rules old; list = none_empty rules old; height = refl } in
      let list : nodes_from rules new top ≡ at ∷ [] = j.list ∙ joined_list rules j empty empty in
      record {
        stands = j.stands;
        put = record { front = []; back = []; without = none_empty rules old; with_it = list };
        sorted = subst (IsSorted rules old) (sym list) (tt, tt);
        links = subst (OnlyLinks rules old new) (sym list) (joined_links rules j empty empty);
        no_lower = omega arith;
        no_higher = omega (arith, j.no_higher);
      }

  module _ {side : Side} {old mid : Pool N} {no at : NodeNo} {near far near_now : Option NodeNo} (v : IsOver rules old (Some at)) (o : Opened rules old side at near far) (turn : comes rules lawful old side no.0 at.0) (i : Inserts rules old near no.0 mid near_now) where
    sorted_now : IsSorted rules old (between side (nodes_from rules mid near_now) at.0 (nodes_from rules old far))
    sorted_now =
        let s = opened_sorted v o in
        sorted_between rules lawful old side _ _ _ (record {
          near_sorted = i.sorted;
          far_sorted = s.far_sorted;
          near_comes = each_put (λ j. comes rules lawful old side j at.0) i.put s.near_comes turn;
          far_comes = s.far_comes;
        })

    parts_now : Parts (nodes_from rules mid near_now) at.0 (nodes_from rules old far)
    parts_now = sorted_apart rules lawful old side _ _ _ sorted_now

    near_has : Has rules mid near_now (nodes_from rules mid near_now) (stored_height rules mid near_now)
    near_has = has rules mid near_now i.stands

    far_has : Has rules mid far (nodes_from rules old far) (stored_height rules old far)
    far_has = beside_has rules lawful i.links (has rules old far o.far_stands) parts_now.back

    pub insert_far : stored_height rules mid far ≡ stored_height rules old far
    insert_far = far_has.height

    pub insert_over : {before : Told} → near ≡ toward side (links_at rules old at.0) → far ≡ toward (other side) (links_at rules old at.0) → before.root ≡ near → before.height ≡ stored_height rules old near → before.greatest ≡ stored_greatest rules old near → IsOverBoth rules side mid at.0 before far
    insert_over one two same h g =
        over_both rules lawful o (i.links.others at.0 parts_now.at_near) insert_far (greatest_stays rules lawful i.links far o.far_stands far_has.stands far_has.list) one two same h g

    pub insert_under : IsUnder rules mid near_now far at.0
    insert_under = under rules (still_used rules lawful i.links at.0 o.in_use) near_has far_has parts_now

    pub inserted : {new : Pool N} {top : Option NodeNo} → Joins rules side mid new near_now far at.0 top → Inserts rules old (Some at) no.0 new top
    inserted {new} {top} j =
        let list : nodes_from rules new top ≡ between side (nodes_from rules mid near_now) at.0 (nodes_from rules old far) = j.list ∙ joined_list rules j near_has far_has in
        let high = grown (stored_height rules old near) (stored_height rules old far) (stored_height rules old (Some at)) (stored_height rules mid near_now) (stored_height rules new top)
        (subst (λ q. Rise (stored_height rules mid near_now) q (stored_height rules new top)) far_has.height (rise j)) o.height o.balanced i.no_lower i.no_higher in
        record {
          stands = j.stands;
          put = subst (λ q. PutIn q no.0 (nodes_from rules new top)) (sym o.list) (subst (PutIn _ no.0) (sym list) (put_near side at.0 _ i.put));
          sorted = subst (IsSorted rules old) (sym list) sorted_now;
          links = subst (OnlyLinks rules old new) (sym list) (both_links rules lawful _ i.links (joined_links rules j near_has far_has)
              (λ q apart. (from_between (λ k. k ≡ q → ⊥) side _ at.0 _ apart).near) (λ q apart. apart));
          no_lower = high.0;
          no_higher = high.1;
        }

  module _ {side : Side} {old mid : Pool N} {no at : NodeNo} {near far near_now : Option NodeNo} (v : IsOver rules old (Some at)) (o : Opened rules old side at near far) (r : Removes rules old near no.0 mid near_now) where
    parts_then : Parts (nodes_from rules old near) at.0 (nodes_from rules old far)
    parts_then = opened_parts v o

    near_left : Has rules mid near_now (nodes_from rules mid near_now) (stored_height rules mid near_now)
    near_left = has rules mid near_now r.stands

    far_left : Has rules mid far (nodes_from rules old far) (stored_height rules old far)
    far_left = beside_has rules lawful r.links (has rules old far o.far_stands) parts_then.back

    pub remove_far : stored_height rules mid far ≡ stored_height rules old far
    remove_far = far_left.height

    pub remove_over : {before : Told} → near ≡ toward side (links_at rules old at.0) → far ≡ toward (other side) (links_at rules old at.0) → before.root ≡ near → before.height ≡ stored_height rules old near → before.greatest ≡ stored_greatest rules old near → IsOverBoth rules side mid at.0 before far
    remove_over one two same h g =
        over_both rules lawful o (r.links.others at.0 parts_then.at_near) remove_far (greatest_stays rules lawful r.links far o.far_stands far_left.stands far_left.list) one two same h g

    pub remove_under : IsUnder rules mid near_now far at.0
    remove_under = under rules (still_used rules lawful r.links at.0 o.in_use) near_left far_left (parts_less r.put parts_then)

    module _ {new : Pool N} {top : Option NodeNo} (j : Joins rules side mid new near_now far at.0 top) where
      pub removed_list : nodes_from rules new top ≡ between side (nodes_from rules mid near_now) at.0 (nodes_from rules old far)
      removed_list = j.list ∙ joined_list rules j near_left far_left

      pub removed : Removes rules old (Some at) no.0 new top
      removed =
          let high = shrunk (stored_height rules old near) (stored_height rules old far) (stored_height rules old (Some at)) (stored_height rules mid near_now) (stored_height rules new top)
          (subst (λ q. Rise (stored_height rules mid near_now) q (stored_height rules new top)) far_left.height (rise j)) o.height o.balanced r.no_higher r.no_lower in
          let links = joined_links rules j near_left far_left in
          record {
            stands = j.stands;
            put = subst (λ q. PutIn q no.0 (nodes_from rules old (Some at))) (sym removed_list) (subst (PutIn _ no.0) (sym o.list) (put_near side at.0 _ r.put));
            links = subst (OnlyLinks rules old new) (sym o.list) (both_links rules lawful _ r.links links
                (λ q apart. (from_between (λ k. k ≡ q → ⊥) side _ at.0 _ apart).near)
                (λ q apart. fewer q (from_between (λ k. k ≡ q → ⊥) side _ at.0 _ apart)));
            no_higher = high.0;
            no_lower = high.1;
          }
        where
          fewer : (q : ℕ) → EachOf (λ k. k ≡ q → ⊥) (nodes_from rules old near) at.0 (nodes_from rules old far) → IsApart q (between side (nodes_from rules mid near_now) at.0 (nodes_from rules old far))
          fewer q three = to_between (λ k. k ≡ q → ⊥) side _ at.0 _ (each_rest (λ k. k ≡ q → ⊥) r.put three.near) three.at three.far

  -- the top leaves, and one side stays
  pub removed_top_left : {pool : Pool N} {at : NodeNo} {near far : Option NodeNo} → Opened rules pool Left at near far → far ≡ None → Removes rules pool (Some at) at.0 pool near
  removed_top_left {pool} {at} {near} {far} o none =
      let empty : nodes_from rules pool far ≡ [] = ap (nodes_from rules pool) none ∙ none_empty rules pool in
      let low : stored_height rules pool far ≡ 0 = ap (stored_height rules pool) none in
      let b = o.balanced in
      record {
        stands = o.near_stands;
        put = record { front = nodes_from rules pool near; back = []; without = sym (append-nil _); with_it = o.list ∙ ap (λ q. nodes_from rules pool near ++ at.0 ∷ q) empty };
        links = no_links rules lawful pool _;
        no_higher = omega (arith, o.height);
        no_lower = omega (arith, o.height, low, b);
      }

  pub removed_top_right : {pool : Pool N} {at : NodeNo} {near far : Option NodeNo} → Opened rules pool Left at near far → near ≡ None → RemovesFirst rules pool (Some at) at.0 pool far
  removed_top_right {pool} {at} {near} {far} o none =
      let empty : nodes_from rules pool near ≡ [] = ap (nodes_from rules pool) none ∙ none_empty rules pool in
      let low : stored_height rules pool near ≡ 0 = ap (stored_height rules pool) none in
      let b = o.balanced in
      let list : nodes_from rules pool (Some at) ≡ at.0 ∷ nodes_from rules pool far = o.list ∙ ap (λ q. q ++ at.0 ∷ nodes_from rules pool far) empty in
      record {
        removes = record {
          stands = o.far_stands;
          put = record { front = []; back = nodes_from rules pool far; without = refl; with_it = list };
          links = no_links rules lawful pool _;
          no_higher = omega (arith, o.height);
          no_lower = omega (arith, o.height, low, b);
        };
        first = list;
      }

  -- the first leaves the left side
  pub removed_first : {old mid new : Pool N} {first at : NodeNo} {near far near_now top : Option NodeNo} → IsOver rules old (Some at) → Opened rules old Left at near far → RemovesFirst rules old near first.0 mid near_now → Joins rules Left mid new near_now far at.0 top → RemovesFirst rules old (Some at) first.0 new top
  removed_first {old} {mid} {new} {first} {at} {near} {far} {near_now} {top} v o r j =
      record {
        removes = removed v o r.removes j;
        first = o.list ∙ ap (λ q. q ++ at.0 ∷ nodes_from rules old far) r.first ∙ ap (λ q. first.0 ∷ q) (sym (removed_list v o r.removes j));
      }

  -- the first of the right side takes the place of the top
  module _ {old mid : Pool N} {first at : NodeNo} {near far far_now : Option NodeNo} (v : IsOver rules old (Some at)) (o : Opened rules old Left at near far) (r : RemovesFirst rules old far first.0 mid far_now) where
    all_apart : Parts (nodes_from rules old near) at.0 (first.0 ∷ nodes_from rules mid far_now)
    all_apart = subst (Parts (nodes_from rules old near) at.0) r.first (opened_parts v o)

    left_stays : Has rules mid near (nodes_from rules old near) (stored_height rules old near)
    left_stays = beside_has rules lawful r.removes.links (has rules old near o.near_stands) (opened_parts v o).across

    rest_has : Has rules mid far_now (nodes_from rules mid far_now) (stored_height rules mid far_now)
    rest_has = has rules mid far_now r.removes.stands

    first_parts : Parts (nodes_from rules old near) first.0 (nodes_from rules mid far_now)
    first_parts =
        let p = all_apart in
        record {
          near_distinct = p.near_distinct;
          far_distinct = p.far_distinct.1;
          at_near = p.back.0;
          at_far = p.far_distinct.0;
          across = AreApart-sym _ _ p.back.1;
          back = p.back.1;
        }

    pub top_height : stored_height rules mid near ≡ stored_height rules old near
    top_height = left_stays.height

    pub top_under : IsUnder rules mid near far_now first.0
    top_under =
        let in_use = each_taken (λ k. IsSome (node_at old k)) r.removes.put (all_used rules old far o.far_stands) in
        under rules (still_used rules lawful r.removes.links first.0 in_use) left_stays rest_has first_parts

    pub removed_top : {new : Pool N} {top : Option NodeNo} → Joins rules Left mid new near far_now first.0 top → Removes rules old (Some at) at.0 new top
    removed_top {new} {top} j =
        let list : nodes_from rules new top ≡ nodes_from rules old near ++ first.0 ∷ nodes_from rules mid far_now = j.list ∙ joined_list rules j left_stays rest_has in
        let links = joined_links rules j left_stays rest_has in
        let b = o.balanced in
        let flipped : DifferByAtMost 1 (stored_height rules old far) (stored_height rules old near) = (b.1, b.0) in
        let r2 = rise j in
        let turned : Rise (stored_height rules mid far_now) (stored_height rules old near) (stored_height rules new top) =
        subst (λ q. Rise (stored_height rules mid far_now) q (stored_height rules new top)) left_stays.height (flip_rise r2) in
        let high = shrunk (stored_height rules old far) (stored_height rules old near) (stored_height rules old (Some at)) (stored_height rules mid far_now) (stored_height rules new top) turned (omega (arith, o.height)) flipped r.removes.no_higher r.removes.no_lower in
        let far_list : nodes_from rules old (Some at) ≡ nodes_from rules old near ++ at.0 ∷ first.0 ∷ nodes_from rules mid far_now = o.list ∙ ap (λ q. nodes_from rules old near ++ at.0 ∷ q) r.first in
        record {
          stands = j.stands;
          put = record { front = nodes_from rules old near; back = first.0 ∷ nodes_from rules mid far_now; without = list; with_it = far_list };
          links = subst (OnlyLinks rules old new) (sym o.list) (both_links rules lawful _ r.removes.links links
              (λ q apart. (from_between (λ k. k ≡ q → ⊥) Left _ at.0 _ apart).far)
              (λ q apart. fewer q (from_between (λ k. k ≡ q → ⊥) Left _ at.0 _ apart)));
          no_higher = high.0;
          no_lower = high.1;
        }
      where
        fewer : (q : ℕ) → EachOf (λ k. k ≡ q → ⊥) (nodes_from rules old near) at.0 (nodes_from rules old far) → IsApart q (nodes_from rules old near ++ first.0 ∷ nodes_from rules mid far_now)
        fewer q three =
            let rest = subst (IsApart q) r.first three.far in
            to_between (λ k. k ≡ q → ⊥) Left _ first.0 _ three.near rest.0 rest.1
