-- The text of a report, as a function of a layout, a group, and what is told of each metaslab.
use Rattle.std.specs.Prelude.{ℕ, ◌*◌, ◌^◌, ◌==◌, Bool, true, false, not, if◌then◌else◌, Option, Some, None, List, [], ◌∷◌, ◌++◌, codes, decimal}
use Rattle.std.specs.List.{flat_map, sum_by, list_any}
use Rattle.zms_units.specs.Classes.{class_word}
use Rattle.zms_units.specs.declared.histograms.Histogram.{Histogram}
use Rattle.zms_units.specs.declared.places.Class.{Class}
use Rattle.zms_units.specs.declared.places.Class.TheVariants.{Normal, Log, Special, Dedup}
use Rattle.zms_units.specs.declared.places.MsId.{MsId}
use Rattle.zms_units.specs.declared.places.VdevRow.{VdevRow}
use Rattle.vdev_map.specs.declared.layout.Layout.{Layout}
use Rattle.trace_text.specs.Numbers.{numbered, weight_text}
use Rattle.zdb_report.specs.Fragmentation.{fragmentation_of}
use Rattle.zdb_report.specs.declared.stats.MetaslabStats.{MetaslabStats}

-- `pool group G version 0 flush F log Q`
abbrev pub pool_line : Layout → ℕ → List ℕ
pool_line layout group =
    codes "pool group " ++ (decimal group ++ (codes " version 0 flush " ++ (decimal layout.flush ++ (codes " log " ++ (decimal layout.log ++ (10 ∷ []))))))

-- `vdev V CLASS ashift A units N metaslabs M`
abbrev pub vdev_line : ℕ → VdevRow → List ℕ
vdev_line v row =
    codes "vdev " ++ (decimal v ++ (32 ∷ (class_word row.class ++ (codes " ashift " ++ (decimal row.ashift ++ (codes " units " ++ (decimal row.units
    ++ (codes " metaslabs " ++ (decimal row.metaslabs ++ (10 ∷ []))))))))))

-- the lines of the pool and of its vdevs
abbrev pub opening_text : Layout → ℕ → List ℕ
opening_text layout group = pool_line layout group ++ numbered vdev_line 0 layout.vdevs

-- `metaslab V I live L vacant A`
abbrev pub units_text : MetaslabStats → List ℕ
units_text s =
    codes "metaslab " ++ (decimal s.id.vdev ++ (32 ∷ (decimal s.id.index ++ (codes " live " ++ (decimal s.live ++ (codes " vacant " ++ decimal s.vacant))))))

-- ` side S words W unflushed U`
abbrev pub row_text : MetaslabStats → List ℕ
row_text s = codes " side " ++ (decimal s.row.side ++ (codes " words " ++ (decimal s.row.words ++ (codes " unflushed " ++ decimal s.row.unflushed.0))))

-- ` weight X frag P` and a line feed
abbrev pub runs_text : MetaslabStats → List ℕ
runs_text s = codes " weight " ++ (weight_text s.weight ++ (codes " frag " ++ (decimal (fragmentation_of s.hist) ++ (10 ∷ []))))

-- ` B:C`, where the bucket has any run
abbrev pub bucket_text : ℕ → ℕ → List ℕ
bucket_text bucket count = if count == 0 then [] else 32 ∷ (decimal bucket ++ (58 ∷ decimal count))

-- `hist V I B:C B:C`, where there is any run
abbrev pub hist_line : MsId → Histogram → List ℕ
hist_line id hist =
    if list_any (λ count. not (count == 0)) hist.runs
    then codes "hist " ++ (decimal id.vdev ++ (32 ∷ (decimal id.index ++ (numbered bucket_text 0 hist.runs ++ (10 ∷ [])))))
    else []

-- the line of a metaslab, and that of its histogram
abbrev pub metaslab_text : MetaslabStats → List ℕ
metaslab_text s = units_text s ++ (row_text s ++ (runs_text s ++ hist_line s.id s.hist))

-- ` live L vacant A` and a line feed
abbrev pub counts_text : ℕ → ℕ → List ℕ
counts_text live vacant = codes " live " ++ (decimal live ++ (codes " vacant " ++ (decimal vacant ++ (10 ∷ []))))

abbrev pub same_class : Class → Class → Bool
same_class Normal Normal = true
same_class Log Log = true
same_class Special Special = true
same_class Dedup Dedup = true
same_class _ _ = false

-- is a class the one that is asked for? All are, where none is
abbrev pub is_asked : Option Class → Class → Bool
is_asked None class = true
is_asked (Some asked) class = same_class asked class

-- the bytes of a metaslab that are live, and that are vacant
abbrev pub live_bytes : MetaslabStats → ℕ
live_bytes s = s.live * 2 ^ s.ashift

abbrev pub vacant_bytes : MetaslabStats → ℕ
vacant_bytes s = s.vacant * 2 ^ s.ashift

-- the bytes of a metaslab of the class that is asked for, and none of another
abbrev pub if_asked : Option Class → (MetaslabStats → ℕ) → MetaslabStats → ℕ
if_asked asked bytes s = if is_asked asked s.class then bytes s else 0

-- ` live LB vacant AB`, summed up in bytes over the metaslabs of the class that is asked for
abbrev pub sums_text : Option Class → List MetaslabStats → List ℕ
sums_text asked stats = counts_text (sum_by (if_asked asked live_bytes) stats) (sum_by (if_asked asked vacant_bytes) stats)

-- a class's line, where some vdev is of the class
abbrev pub class_line : List VdevRow → List MetaslabStats → Class → List ℕ
class_line vdevs stats class =
    if list_any (λ (row : VdevRow). same_class class row.class) vdevs
    then codes "class " ++ (class_word class ++ sums_text (Some class) stats)
    else []

-- the sums of each class, and of the pool
abbrev pub closing_text : List VdevRow → List MetaslabStats → List ℕ
closing_text vdevs stats =
    class_line vdevs stats Normal ++ (class_line vdevs stats Log ++ (class_line vdevs stats Special ++ (class_line vdevs stats Dedup
    ++ (codes "pool" ++ sums_text None stats))))

-- the whole report
abbrev pub report_text : Layout → ℕ → List MetaslabStats → List ℕ
report_text layout group stats = opening_text layout group ++ (flat_map metaslab_text stats ++ closing_text layout.vdevs stats)
