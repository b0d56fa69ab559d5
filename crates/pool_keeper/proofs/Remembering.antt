-- What an image remembers, as journals grow, and over a commit.
use Rattle.std.proofs.Common.{◌≡◌, ℕ, ◌+◌, ◌<◌, ◌≤◌, List, ◌⊎◌, inl, inr, refl, sym, ◌∙◌, ap, subst, arith}
use Rattle.zms_units.specs.Limits.{GROUPS_END}
use Rattle.zms_units.specs.declared.places.MsId.{MsId}
use Rattle.zms_units.specs.declared.places.VdevRow.{VdevRow}
use Rattle.zms_units.specs.declared.segments.Group.{Group}
use Rattle.zms_units.proofs.Bools.{le_or}
use Rattle.ms_model.specs.declared.notes.Noted.{Noted}
use Rattle.vdev_map.specs.Numbers.{IsIn, number_of, metaslabs_in, row_at}
use Rattle.vdev_map.proofs.InOrder.{before_within}
use Rattle.vdev_map.specs.declared.layout.Batch.{Batch}
use Rattle.vdev_map.specs.declared.layout.Head.{Head}
use Rattle.vdev_map.specs.declared.layout.Layout.{Layout}
use Rattle.vdev_map.specs.declared.table.Table.{Table}
use Rattle.uber_ring.specs.Slots.{IsValid}
use Rattle.uber_ring.specs.declared.slot.Uber.{Uber}
use Rattle.space_map.specs.Replay.{Replays}
use Rattle.space_map.specs.declared.places.MapKind.TheVariants.{Side}
use Rattle.meta_store.specs.Batches.{after, AreBacked}
use Rattle.meta_store.specs.Commits.{IsBefore, IsAfter}
use Rattle.meta_store.specs.Groups.{Contents, Finds, HasGroup, HasNewest}
use Rattle.meta_store.specs.Heads.{head_of}
use Rattle.meta_store.specs.Stores.{RestsAt}
use Rattle.meta_store.specs.Words.{units_of, words_in}
use Rattle.meta_store.proofs.FoundOnce.{one_newest}
use Rattle.meta_store.proofs.KeptPlaces.{group_of_table}
use Rattle.meta_store.proofs.Layouts.{head_again}
use Rattle.pool_keeper.specs.History.{History, contents_of, AllCollected, GrowsTo}
use Rattle.pool_keeper.specs.Images.{IsOpenable, OpensAt, Remembers}

-- each metaslab's number is below how many there are
pub number_within : (vdevs : List VdevRow) (id : MsId) → IsIn vdevs id → number_of vdevs id < metaslabs_in vdevs
number_within vdevs id inside = omega (arith, before_within (λ _. 1) vdevs id inside)

-- contents by another name
pub finds_same : (image : List ℕ) (group : ℕ) (a b : Contents) → a.layout ≡ b.layout
    → ((id : MsId) (u : ℕ) → IsIn a.layout.vdevs id → u < (row_at a.layout.vdevs id.vdev).units → a.held id u ≡ b.held id u) → Finds image group a → Finds image group b
finds_same image group a b layout same found = record {
  uber = found.uber;
  head = found.head;
  table = found.table;
  named = found.named;
  has = found.has;
  layout = sym layout ∙ found.layout;
  found = λ id u inside lt.
      let here : IsIn a.layout.vdevs id = subst (λ (l : Layout). IsIn l.vdevs id) (sym found.layout) inside in
      let within : u < (row_at a.layout.vdevs id.vdev).units = subst (λ (l : Layout). u < (row_at l.vdevs id.vdev).units) (sym found.layout) lt in
      subst (Replays (Side (units_of found.table id)) (words_in image found.table id) u) (same id u here within) (found.found id u inside lt);
}

-- a group that is found can be opened
pub opens_at : (image : List ℕ) (group newest : ℕ) (contents : Contents) → Finds image group contents → HasNewest image newest → newest ≤ group + 2 → group < GROUPS_END → OpensAt image group contents.layout
opens_at image group newest contents found is_newest recent early =
    let named : found.uber.group ≡ record { 0 = group } = ap (λ (n : ℕ). let g : Group = record { 0 = n } in g) found.named in
    let head : found.head ≡ head_of contents.layout = head_again found.head found.table found.has.rows.has_head.whole ∙ ap head_of (sym found.layout) in
    record {
      table = found.table;
      named = ap (λ (g : Group). g.0) (sym (group_of_table image found.uber found.head found.table found.has.rows.has_table)) ∙ found.named;
      opens = record {
        uber = found.uber;
        asked = record {
          newest = is_newest.uber;
          is_newest = is_newest.newest;
          group = named;
          recent = omega (arith, is_newest.named, found.named, recent);
          valid = found.has.valid;
        };
        opened = record {
          early = omega (arith, found.named, early);
          has = subst (λ (h : Head). HasGroup image found.uber h found.table) head found.has;
        };
      };
    }

-- an image that finds each group that can be opened remembers
pub remembers : (h : History) (low newest : ℕ) (image : List ℕ) → HasNewest image newest → low ≤ newest → AllCollected h newest
    → ((uber : Uber) → IsValid image uber → newest ≤ uber.group.0 + 2 → h.opened ≤ uber.group.0)
    → ((group : ℕ) → IsOpenable h.opened newest group → Finds image group (contents_of h group)) → Remembers h low image
remembers h low newest image is_newest least most only finds = record {
  newest = newest;
  is_newest = is_newest;
  least = least;
  most = most;
  only = only;
  finds = finds;
  opens = λ group openable early. opens_at image group newest (contents_of h group) (finds group openable) is_newest openable.recent early;
}

pub remembers_lower : (h : History) (low lower : ℕ) (image : List ℕ) → lower ≤ low → Remembers h low image → Remembers h lower image
remembers_lower h low lower image le was = record {
  newest = was.newest;
  is_newest = was.is_newest;
  least = omega (arith, le, was.least);
  most = was.most;
  only = was.only;
  finds = was.finds;
  opens = was.opens;
}

-- it still does as the journals grow
pub remembers_grown : (h : History) (journal : ℕ → List Noted) (low : ℕ) (image : List ℕ) → GrowsTo h journal → Remembers h low image → Remembers (record h { journal = journal }) low image
remembers_grown h journal low image grows was = record {
  newest = was.newest;
  is_newest = was.is_newest;
  least = was.least;
  most = λ k lt. omega (arith, was.most k lt, (grows.each k lt).collected);
  only = was.only;
  finds = λ group openable.
      finds_same image group (contents_of h group) (contents_of (record h { journal = journal }) group) refl
      (λ id u inside lt.
      let k = number_of h.layout.vdevs id in
      let within = number_within h.layout.vdevs id inside in
      sym ((grows.each k within).holds group u (omega (arith, openable.to, was.most k within))))
      (was.finds group openable);
  opens = was.opens;
}

-- images over a commit of the group after g

module _ (h : History) (g : ℕ) (table : Table) (d c : List ℕ) (rests : RestsAt h.layout table d) (of_table : table.group.0 ≡ g) (was : Remembers h g d) where
  pub newest_is : was.newest ≡ g
  newest_is =
      let same : was.is_newest.uber ≡ rests.uber = one_newest d was.is_newest.uber rests.uber was.is_newest.newest rests.newest in
      omega (arith, was.is_newest.named, ap (λ (u : Uber). u.group.0) same, ap (λ (x : Group). x.0) (group_of_table d rests.uber (head_of h.layout) table rests.has.rows.has_table), of_table)

  older : (group newest : ℕ) → IsOpenable h.opened newest group → group ≤ g → g ≤ newest → IsOpenable h.opened was.newest group
  older group newest openable le later = record { from = openable.from; to = omega (arith, le, newest_is); recent = omega (arith, openable.recent, later, newest_is) }

  pub before_remembers : IsBefore g d c → Remembers h g c
  before_remembers before =
      remembers h g g c before.newest (omega arith) (λ k lt. omega (arith, was.most k lt, newest_is))
      (λ uber valid recent. was.only uber (before.only uber valid) (omega (arith, recent, newest_is)))
      (λ group openable. before.keeps group (contents_of h group) openable.recent (was.finds group (older group g openable openable.to (omega arith))))

  pub after_remembers : (batches : List Batch) → h.opened ≤ g → AllCollected h (g + 1) → AreBacked (contents_of h g) batches
      → ((image : List ℕ) (group : ℕ) → Finds image group (after (contents_of h g) batches) → Finds image group (contents_of h (g + 1)))
      → IsAfter g batches d c → Remembers h (g + 1) c
  after_remembers batches from collected backed next now =
      remembers h (g + 1) (g + 1) c now.newest (omega arith) collected only finds where
        only_by : (uber : Uber) → g + 1 ≤ uber.group.0 + 2 → (uber.group.0 ≡ g + 1) ⊎ IsValid d uber → h.opened ≤ uber.group.0
        only_by uber recent (inl new) = omega (arith, new, from)
        only_by uber recent (inr old) = was.only uber old (omega (arith, recent, newest_is))

        only : (uber : Uber) → IsValid c uber → g + 1 ≤ uber.group.0 + 2 → h.opened ≤ uber.group.0
        only uber valid recent = only_by uber recent (now.only uber valid)

        here : Finds d g (contents_of h g)
        here = was.finds g (record { from = from; to = omega (arith, newest_is); recent = omega (arith, newest_is) })

        finds_by : (group : ℕ) → IsOpenable h.opened (g + 1) group → (group ≤ g) ⊎ (g < group) → Finds c group (contents_of h group)
        finds_by group openable (inl le) = now.keeps group (contents_of h group) openable.recent (was.finds group (older group (g + 1) openable le (omega arith)))
        finds_by group openable (inr lt) =
            let e : g + 1 ≡ group = omega (arith, lt, openable.to) in
            subst (λ (n : ℕ). Finds c n (contents_of h n)) e (next c (g + 1) (now.finds (contents_of h g) here backed))

        finds : (group : ℕ) → IsOpenable h.opened (g + 1) group → Finds c group (contents_of h group)
        finds group openable = finds_by group openable (le_or group g)
