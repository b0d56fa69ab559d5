-- Metaslabs in order of vdev and index.
use Rattle.std.specs.Prelude.{ℕ, ◌+◌, ◌*◌, ◌<◌, List, length, take, slice_index_or}
use Rattle.std.specs.List.{sum_by}
use Rattle.zms_units.specs.declared.places.Class.TheVariants.{Normal}
use Rattle.zms_units.specs.declared.places.MsId.{MsId}
use Rattle.zms_units.specs.declared.places.VdevRow.{VdevRow}

-- the row of a vdev; past the last vdev it has no metaslabs
abbrev pub row_at : List VdevRow → ℕ → VdevRow
row_at vdevs v = slice_index_or vdevs v (record { class = Normal; ashift = 0; units = 0; metaslabs = 0 })

-- the vdevs have this metaslab
pub record IsIn (vdevs : List VdevRow) (id : MsId) : Type 0 where
  pub vdev : id.vdev < length vdevs
  pub index : id.index < (row_at vdevs id.vdev).metaslabs

-- how much of something stands before a metaslab, where each metaslab has an amount of it that its vdev's row gives
abbrev pub before : (VdevRow → ℕ) → List VdevRow → MsId → ℕ
before amount vdevs id = sum_by (λ row. row.metaslabs * amount row) (take id.vdev vdevs) + id.index * amount (row_at vdevs id.vdev)

-- how much of it there is in all
abbrev pub in_all : (VdevRow → ℕ) → List VdevRow → ℕ
in_all amount vdevs = sum_by (λ row. row.metaslabs * amount row) vdevs

-- the number of a metaslab in the pool, from 0
abbrev pub number_of : List VdevRow → MsId → ℕ
number_of vdevs id = before (λ _. 1) vdevs id

-- how many metaslabs there are
abbrev pub metaslabs_in : List VdevRow → ℕ
metaslabs_in vdevs = in_all (λ _. 1) vdevs

-- how many units they have
abbrev pub units_in : List VdevRow → ℕ
units_in vdevs = in_all (λ row. row.units) vdevs
