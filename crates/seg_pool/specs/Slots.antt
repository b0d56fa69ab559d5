-- How a pool keeps its vacant places. No public clause cites this module.
use Rattle.std.specs.Prelude.{◌≡◌, ℕ, zero, suc, ◌+◌, ◌^◌, ◌≤◌, List, map, length, Option, Some, None, is_some, count_by, slice_get, slice_index_or}
use Rattle.seg_pool.specs.declared.slot.Slot.{Slot}
use Rattle.seg_pool.specs.declared.slot.Slot.TheVariants.{Vacant, Used}

module _ {N : Type 0} where
  -- the node of a place, if it has one
  abbrev pub node_of : Slot N → Option N
  node_of (Vacant _) = None
  node_of (Used node) = Some node

  -- from this place on, so many vacant places each name the next, and the last names none
  abbrev pub IsVacantList : List (Slot N) → ℕ → ℕ → Type 0
  IsVacantList slots zero place = 2 ^ 24 ≤ place
  IsVacantList slots (suc count) place = (next : ℕ) × (slice_get slots place ≡ Some (Vacant next))
      × IsVacantList slots count next

  -- the list from `head` holds every vacant place
  pub record IsSound (slots : List (Slot N)) (spare head : ℕ) : Type 0 where
    pub total : count_by is_some (map node_of slots) + spare ≡ length slots
    pub linked : IsVacantList slots spare head
    pub fits : length slots ≤ 2 ^ 24

  -- each place has the node that it had, and as many have one
  pub record SameSlots (old new : List (Slot N)) : Type 0 where
    pub at : (place : ℕ) → slice_index_or (map node_of new) place None
        ≡ slice_index_or (map node_of old) place None
    pub count : count_by is_some (map node_of new) ≡ count_by is_some (map node_of old)
