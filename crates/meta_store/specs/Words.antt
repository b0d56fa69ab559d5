-- The words of a metaslab: where they lie, and how many units they hold.
use Rattle.std.specs.Prelude.{◌≡◌, ℕ, ◌+◌, ◌*◌, ◌%◌, List, map}
use Rattle.std.specs.List.{range_with_len}
use Rattle.zms_units.specs.Runs.{units_in, AreMaximalRuns}
use Rattle.zms_units.specs.declared.places.MsId.{MsId}
use Rattle.zms_units.specs.declared.segments.Seg.{Seg}
use Rattle.vdev_map.specs.Numbers.{row_at, number_of}
use Rattle.vdev_map.specs.Places.{words_len}
use Rattle.vdev_map.specs.Tables.{ms_row_at}
use Rattle.vdev_map.specs.declared.layout.Form.TheVariants.{Whole}
use Rattle.vdev_map.specs.declared.table.MsRow.{MsRow}
use Rattle.vdev_map.specs.declared.table.Table.{Table}
use Rattle.uber_ring.specs.Numbers.{number_at}
use Rattle.space_map.specs.Reading.{Decodes}
use Rattle.space_map.specs.Replay.{is_held}
use Rattle.space_map.specs.declared.places.Found.{Found}
use Rattle.space_map.specs.declared.places.MapKind.TheVariants.{Side}

-- the n words of 64 bits from a place on
unfoldable pub words_at : List ℕ → ℕ → ℕ → List ℕ
words_at image at n = map (λ k. number_at image (at + 8 * k) 8) (range_with_len 0 n)

-- the row of a metaslab in a table, and how many units it has
abbrev pub row_of : Table → MsId → MsRow
row_of table id = ms_row_at table (number_of table.vdevs id)

abbrev pub units_of : Table → MsId → ℕ
units_of table id = (row_at table.vdevs id.vdev).units

-- where the words of a metaslab lie that a group has: in one of its eight slots
abbrev pub words_place : Table → MsId → ℕ
words_place table id = (row_of table id).place + words_len Whole (units_of table id) * (table.group.0 % 8)

-- the words that the row of a metaslab names in an image
abbrev pub words_in : List ℕ → Table → MsId → List ℕ
words_in image table id = words_at image (words_place table id) (row_of table id).words

-- the words of a side of so many units can be read, and hold so many of them
pub record HoldUnits (words : List ℕ) (units count : ℕ) : Type 0 where
  pub found : List Found
  pub decodes : Decodes (Side units) words found
  pub held : units_in (is_held found) units ≡ count

-- the runs are what the words hold, each as long as it can be
pub record AreHeldRuns (words : List ℕ) (units : ℕ) (runs : List Seg) : Type 0 where
  pub found : List Found
  pub decodes : Decodes (Side units) words found
  pub maximal : AreMaximalRuns (is_held found) units runs
