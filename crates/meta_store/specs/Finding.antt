-- What the units of a metaslab are found by, and why they are not.
use Rattle.std.specs.Prelude.{◌≡◌, ℕ, ◌+◌, ◌≤◌, List}
use Rattle.std.specs.List.{All}
use Rattle.zms_units.specs.declared.places.MsId.{MsId}
use Rattle.vdev_map.specs.declared.table.Table.{Table}
use Rattle.space_map.specs.declared.places.Found.{Found}
use Rattle.meta_store.specs.Causes.{ShowsDamage}
use Rattle.meta_store.specs.Words.{row_of, units_of, words_in}
use Rattle.meta_store.specs.declared.causes.FoundFault.{FoundFault}
use Rattle.meta_store.specs.declared.causes.FoundFault.TheVariants.{Failed, Memory, Damaged}

-- why the words of a metaslab of so many units, of which so many should be held, give no runs: damage that they show; a
-- device is not asked, and want of memory is free
abbrev pub IsWordsFault : MsId → List ℕ → ℕ → ℕ → FoundFault → Type 0
IsWordsFault id words units held Failed = ⊥
IsWordsFault id words units held Memory = Unit {0}
IsWordsFault id words units held (Damaged other damage) = (other ≡ id) × ShowsDamage words units held damage

-- the same of the words in an image; of a device that failed its count of faults tells
abbrev pub IsFoundFault : List ℕ → Table → MsId → FoundFault → Type 0
IsFoundFault image table id Failed = Unit {0}
IsFoundFault image table id Memory = Unit {0}
IsFoundFault image table id (Damaged other damage) = IsWordsFault id (words_in image table id) (units_of table id) (row_of table id).held (Damaged other damage)

-- each run lies within so many units
abbrev pub AreWithin : ℕ → List Found → Type 0
AreWithin units found = All (λ (f : Found). f.run.offset + f.run.run ≤ units) found
