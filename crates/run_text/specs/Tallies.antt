-- What was counted on the metaslabs of a pool, summed up in bytes by class.
use Rattle.std.specs.Prelude.{◌≡◌, ℕ, ◌+◌, ◌*◌, ◌^◌, Bool, true, false, if◌then◌else◌, List, [], ◌∷◌, get_or, take, drop}
use Rattle.std.specs.List.{sum_by, list_any}
use Rattle.zms_units.specs.declared.places.Class.{Class}
use Rattle.zms_units.specs.declared.places.Class.TheVariants.{Normal, Log, Special, Dedup}
use Rattle.zms_units.specs.declared.places.MsId.{MsId}
use Rattle.zms_units.specs.declared.places.VdevRow.{VdevRow}
use Rattle.vdev_map.specs.Numbers.{IsIn, number_of}
use Rattle.ms_core.specs.declared.faults.Counts.{Counts}
use Rattle.run_text.specs.declared.tallies.Share.{Share}
use Rattle.run_text.specs.declared.tallies.Share.TheVariants.{Live, Deferred, Vacant}
use Rattle.run_text.specs.declared.tallies.Tally.{Tally}

-- a vdev with what was counted on each of its metaslabs
pub record VdevCounts : Type 0 where
  pub row : VdevRow
  pub counts : List Counts

-- the vdevs with their counts, where those of all metaslabs stand by vdev and index
abbrev pub by_vdev : List VdevRow → List Counts → List VdevCounts
by_vdev [] counts = []
by_vdev (row ∷ rows) counts = record { row = row; counts = take row.metaslabs counts } ∷ by_vdev rows (drop row.metaslabs counts)

-- what was counted on each metaslab stands at its number
abbrev pub StandByNumber : List VdevRow → List Counts → Type 0
StandByNumber vdevs counts =
    (id : MsId) (none : VdevCounts) (no_counts : Counts) → IsIn vdevs id
    → get_or (get_or (by_vdev vdevs counts) id.vdev none).counts id.index no_counts ≡ get_or counts (number_of vdevs id) no_counts

-- are two classes one?
abbrev pub same_class : Class → Class → Bool
same_class Normal Normal = true
same_class Log Log = true
same_class Special Special = true
same_class Dedup Dedup = true
same_class _ _ = false

-- how many units of a metaslab are of a share
abbrev pub units_in : Share → Counts → ℕ
units_in Live counts = counts.live
units_in Deferred counts = counts.deferred
units_in Vacant counts = counts.vacant

-- a share of a vdev in bytes: the sum over its metaslabs
abbrev pub vdev_bytes : Share → VdevCounts → ℕ
vdev_bytes share vdev = sum_by (λ counts. units_in share counts * 2 ^ vdev.row.ashift) vdev.counts

-- the same of a vdev of this class, and nothing of another
abbrev pub bytes_if : Class → Share → VdevCounts → ℕ
bytes_if class share vdev = if same_class class vdev.row.class then vdev_bytes share vdev else 0

-- a share of a class: the sum over its vdevs
abbrev pub class_bytes : Class → Share → List VdevCounts → ℕ
class_bytes class share pool = sum_by (bytes_if class share) pool

-- a share of the pool: the sum over its classes
abbrev pub pool_bytes : Share → List VdevCounts → ℕ
pool_bytes share pool = class_bytes Normal share pool + class_bytes Log share pool + class_bytes Special share pool + class_bytes Dedup share pool

-- all three shares
abbrev pub tally_of : (Share → ℕ) → Tally
tally_of bytes = record { live = bytes Live; deferred = bytes Deferred; vacant = bytes Vacant }

abbrev pub class_tally : Class → List VdevCounts → Tally
class_tally class pool = tally_of (λ share. class_bytes class share pool)

abbrev pub pool_tally : List VdevCounts → Tally
pool_tally pool = tally_of (λ share. pool_bytes share pool)

-- is some vdev of the class?
abbrev pub has_class : Class → List VdevCounts → Bool
has_class class pool = list_any (λ vdev. same_class class vdev.row.class) pool
