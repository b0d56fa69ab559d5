-- The classes of a pool as it is opened.
use Rattle.std.specs.Prelude.{◌≡◌, ℕ, Some, List, length, slice_get}
use Rattle.zms_units.specs.declared.places.VdevRow.{VdevRow}
use Rattle.turn_cell.specs.Known.{TableId}
use Rattle.turn_passes.specs.Parts.{IsRest}
use Rattle.turn_passes.specs.Pairs.{Each}
use Rattle.class_group.specs.Passes.{ClassKnown, KnowsAt}

-- the turns of the first few classes, and passes that have all their rights
pub record AreFirst (vdevs : List VdevRow) (weights : List ℕ) (count : ℕ) (turns : List TableId) (passes : List ClassKnown) : Type 0 where
  pub all_turns : length turns ≡ count
  pub all_passes : length passes ≡ count
  pub rests : Each (λ k turn c. IsRest 0 turn c) turns passes
  pub know : (k : ℕ) (c : ClassKnown) → slice_get passes k ≡ Some c → KnowsAt vdevs weights k c
