-- The text of replies and totals, as functions of commands, replies and counts.
use Rattle.std.specs.Prelude.{ℕ, ◌*◌, ◌^◌, ◌<◌, Bool, true, false, if◌then◌else◌, Option, Some, None, List, [], ◌∷◌, ◌++◌, codes, decimal}
use Rattle.std.specs.List.{flat_map, sum_by, list_any}
use Rattle.zms_units.specs.declared.faults.First.{First}
use Rattle.zms_units.specs.declared.faults.First.TheVariants.{Device as FirstDevice, Damaged as FirstDamaged}
use Rattle.zms_units.specs.declared.places.MsId.{MsId}
use Rattle.zms_units.specs.declared.places.Class.{Class}
use Rattle.zms_units.specs.declared.places.Class.TheVariants.{Normal, Log, Special, Dedup}
use Rattle.zms_units.specs.Classes.{class_word}
use Rattle.trace_text.specs.Places.{copy_text}
use Rattle.zms_top.specs.Answers.{Replied}
use Rattle.cmd_text.specs.declared.script.What.{What}
use Rattle.cmd_text.specs.declared.script.What.TheVariants.{Alloc, Free, FreeSeg, Sync, Load, Unload, Init, Trim, AutoTrim}
use Rattle.zms_top.specs.declared.tally.Tally.{Tally}
use Rattle.zms_top.specs.declared.replies.Answer.{Answer}
use Rattle.zms_top.specs.declared.replies.Answer.TheVariants.{Granted, NoSpace, BadSize, Done, NoName, NotLive, Device, Damaged, Suspended}

-- `V I`
abbrev pub id_text : MsId → List ℕ
id_text id = decimal id.vdev ++ (32 ∷ decimal id.index)

abbrev pub first_text : First → List ℕ
first_text (FirstDevice before after) = decimal before ++ (32 ∷ decimal after)
first_text (FirstDamaged id _) = id_text id

abbrev pub answer_text : Answer → List ℕ
answer_text (Granted group copies) = codes "granted " ++ (decimal group.0 ++ flat_map copy_text copies)
answer_text (NoSpace looked) = codes "nospace " ++ decimal looked
answer_text BadSize = codes "badsize"
answer_text (Done group) = codes "done " ++ decimal group.0
answer_text NoName = codes "noname"
answer_text (NotLive vdev offset) = codes "notlive " ++ (decimal vdev ++ (58 ∷ decimal offset))
answer_text (Device before after) = codes "device " ++ (decimal before ++ (32 ∷ decimal after))
answer_text (Damaged id _) = codes "damaged " ++ id_text id
answer_text (Suspended first) = codes "suspended " ++ first_text first

-- the command word and its first argument
abbrev pub head_text : What → List ℕ
head_text (Alloc name _ _ _) = codes "alloc " ++ name
head_text (Free name) = codes "free " ++ name
head_text (FreeSeg vdev offset size) = codes "freeseg " ++ (decimal vdev ++ (32 ∷ (decimal offset ++ (32 ∷ decimal size))))
head_text Sync = codes "sync"
head_text (Load vdev index) = codes "load " ++ (decimal vdev ++ (32 ∷ decimal index))
head_text (Unload vdev index) = codes "unload " ++ (decimal vdev ++ (32 ∷ decimal index))
head_text (Init vdev) = codes "init " ++ decimal vdev
head_text (Trim vdev) = codes "trim " ++ decimal vdev
head_text (AutoTrim vdev) = codes "autotrim " ++ decimal vdev

-- a line of out
abbrev pub reply_text : Replied → List ℕ
reply_text r = decimal r.reply.lane ++ (32 ∷ (head_text r.command.what ++ (32 ∷ (answer_text r.reply.answer ++ (10 ∷ [])))))

-- ` live L deferred D vacant A` and a line feed
abbrev pub counts_text : ℕ → ℕ → ℕ → List ℕ
counts_text live deferred vacant = codes " live " ++ (decimal live ++ (codes " deferred " ++ (decimal deferred ++ (codes " vacant " ++ (decimal vacant ++ (10 ∷ []))))))

abbrev pub metaslab_text : Tally → List ℕ
metaslab_text t = codes "metaslab " ++ (decimal t.id.vdev ++ (32 ∷ (decimal t.id.index ++ counts_text t.live t.deferred t.vacant)))

abbrev pub same_class : Class → Class → Bool
same_class Normal Normal = true
same_class Log Log = true
same_class Special Special = true
same_class Dedup Dedup = true
same_class _ _ = false

-- is a class the one that is asked for? All are, where none is
abbrev pub is_asked : Option Class → Class → Bool
is_asked None class = true
is_asked (Some asked) class = same_class asked class

-- bytes of so many units of a metaslab
abbrev pub live_bytes : Tally → ℕ
live_bytes t = t.live * 2 ^ t.ashift

abbrev pub deferred_bytes : Tally → ℕ
deferred_bytes t = t.deferred * 2 ^ t.ashift

abbrev pub vacant_bytes : Tally → ℕ
vacant_bytes t = t.vacant * 2 ^ t.ashift

-- the bytes of a metaslab of the class that is asked for, and none of another
abbrev pub if_asked : Option Class → (Tally → ℕ) → Tally → ℕ
if_asked asked bytes t = if is_asked asked t.class then bytes t else 0

-- ` live LB deferred DB vacant AB`, summed up in bytes over the metaslabs of the class that is asked for
abbrev pub sums_text : Option Class → List Tally → List ℕ
sums_text asked ts = counts_text (sum_by (if_asked asked live_bytes) ts) (sum_by (if_asked asked deferred_bytes) ts) (sum_by (if_asked asked vacant_bytes) ts)

-- a class's line, where some metaslab is of the class
abbrev pub class_line : List Tally → Class → List ℕ
class_line ts class =
    if list_any (λ t. same_class class t.class) ts
    then codes "class " ++ (class_word class ++ sums_text (Some class) ts)
    else []

abbrev pub metaslab_lines : List Tally → List ℕ
metaslab_lines ts = flat_map metaslab_text ts

abbrev pub class_lines : List Tally → List ℕ
class_lines ts = class_line ts Normal ++ (class_line ts Log ++ (class_line ts Special ++ class_line ts Dedup))

abbrev pub pool_line : List Tally → List ℕ
pool_line ts = codes "pool" ++ sums_text None ts

abbrev pub group_line : ℕ → List ℕ
group_line group = codes "group " ++ (decimal group ++ (10 ∷ []))

-- a line for each metaslab, one for each class that has one, one for the pool, and the last group
abbrev pub totals_text : List Tally → ℕ → List ℕ
totals_text ts group = metaslab_lines ts ++ (class_lines ts ++ (pool_line ts ++ group_line group))

-- all that a run prints
abbrev pub run_text : List Replied → List Tally → ℕ → List ℕ
run_text done ts group = flat_map reply_text done ++ totals_text ts group

-- all that `create` prints
abbrev pub created_text : List ℕ
created_text = codes "created group 4\n"

-- the sums in bytes are below 2^64
pub record FitInBytes (ts : List Tally) : Type 0 where
  pub live : sum_by live_bytes ts < 2 ^ 64
  pub deferred : sum_by deferred_bytes ts < 2 ^ 64
  pub vacant : sum_by vacant_bytes ts < 2 ^ 64
