-- What a group keeps of an image: the places that opening it reads. The bytes there decide what it finds, and why it is
-- not opened.
use Rattle.std.specs.Prelude.{ℕ, ◌*◌, ◌<◌, List, length}
use Rattle.zms_units.specs.declared.places.MsId.{MsId}
use Rattle.vdev_map.specs.Numbers.{IsIn}
use Rattle.vdev_map.specs.Places.{slot_place, table_place}
use Rattle.vdev_map.specs.declared.layout.Head.{Head}
use Rattle.vdev_map.specs.declared.table.Table.{Table}
use Rattle.uber_ring.specs.Writes.{Within}
use Rattle.uber_ring.specs.declared.slot.Uber.{Uber}
use Rattle.meta_store.specs.Groups.{HasRows}
use Rattle.meta_store.specs.Words.{row_of, words_place}

-- a kept place: of the head, of the slot with its gate, of the table that the slot names, or of the words that a row of
-- this table names
pub data IsKept (image : List ℕ) (uber : Uber) (p : ℕ) : Type 0 where
  head : p < 64 → IsKept image uber p
  slot : Within (slot_place uber.group.0) 1024 p → IsKept image uber p
  table : Within (table_place uber.group.0) uber.table_len p → IsKept image uber p
  words : (head : Head) (table : Table) (id : MsId) → HasRows image uber head table → IsIn table.vdevs id
      → Within (words_place table id) (8 * (row_of table id).words) p → IsKept image uber p

-- all that a group keeps lies before the image's end
abbrev pub LiesIn : List ℕ → Uber → Type 0
LiesIn image uber = (p : ℕ) → IsKept image uber p → p < length image
