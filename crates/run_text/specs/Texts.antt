-- The text of a whole run, as a function of the commands with their answers, of what was counted, and of the last group.
use Rattle.std.specs.Prelude.{ℕ, if◌then◌else◌, List, [], ◌∷◌, ◌++◌, codes, decimal}
use Rattle.std.specs.List.{flat_map}
use Rattle.zms_units.specs.Classes.{class_word}
use Rattle.zms_units.specs.declared.places.Class.{Class}
use Rattle.zms_units.specs.declared.places.Class.TheVariants.{Normal, Log, Special, Dedup}
use Rattle.zms_units.specs.declared.segments.Group.{Group}
use Rattle.ms_core.specs.declared.faults.Counts.{Counts}
use Rattle.trace_text.specs.Numbers.{numbered}
use Rattle.lane_run.specs.Answers.{Replied}
use Rattle.run_text.specs.Replies.{reply_line}
use Rattle.run_text.specs.Tallies.{VdevCounts, class_tally, pool_tally, has_class}
use Rattle.run_text.specs.declared.tallies.Tally.{Tally}

-- ` live L deferred D vacant A` and a line feed
abbrev pub shares_text : ℕ → ℕ → ℕ → List ℕ
shares_text live deferred vacant = codes " live " ++ (decimal live ++ (codes " deferred " ++ (decimal deferred ++ (codes " vacant " ++ (decimal vacant ++ (10 ∷ []))))))

-- `metaslab V I live L deferred D vacant A`, in units
abbrev pub metaslab_line : ℕ → ℕ → Counts → List ℕ
metaslab_line vdev index counts = codes "metaslab " ++ (decimal vdev ++ (32 ∷ (decimal index ++ shares_text counts.live counts.deferred counts.vacant)))

-- the lines of the metaslabs of a vdev, by index
abbrev pub vdev_lines : ℕ → VdevCounts → List ℕ
vdev_lines number vdev = numbered (metaslab_line number) 0 vdev.counts

-- the lines of all metaslabs, by vdev and index
abbrev pub metaslab_lines : List VdevCounts → List ℕ
metaslab_lines pool = numbered vdev_lines 0 pool

-- ` live LB deferred DB vacant AB`, in bytes
abbrev pub tally_text : Tally → List ℕ
tally_text tally = shares_text tally.live tally.deferred tally.vacant

-- `class CLASS live LB deferred DB vacant AB`, where some vdev is of the class
abbrev pub class_line : Class → List VdevCounts → List ℕ
class_line class pool = if has_class class pool then codes "class " ++ (class_word class ++ tally_text (class_tally class pool)) else []

abbrev pub class_lines : List VdevCounts → List ℕ
class_lines pool = class_line Normal pool ++ (class_line Log pool ++ (class_line Special pool ++ class_line Dedup pool))

-- `pool live LB deferred DB vacant AB`
abbrev pub pool_line : List VdevCounts → List ℕ
pool_line pool = codes "pool" ++ tally_text (pool_tally pool)

-- `group G`
abbrev pub group_line : Group → List ℕ
group_line group = codes "group " ++ (decimal group.0 ++ (10 ∷ []))

-- the sums, and the last group
abbrev pub sums_text : List VdevCounts → Group → List ℕ
sums_text pool group = class_lines pool ++ (pool_line pool ++ group_line group)

-- the totals: a line for each metaslab, for each class that has a vdev, for the pool, and for the last group
abbrev pub totals_text : List VdevCounts → Group → List ℕ
totals_text pool group = metaslab_lines pool ++ sums_text pool group

-- all that a run prints: a line for each command, and then the totals
abbrev pub text_of : List Replied → List VdevCounts → Group → List ℕ
text_of done pool group = flat_map reply_line done ++ totals_text pool group
