-- The line of a command, as a function of the command and its answer.
use Rattle.std.specs.Prelude.{ℕ, List, [], ◌∷◌, ◌++◌, codes, decimal}
use Rattle.std.specs.List.{flat_map}
use Rattle.zms_units.specs.declared.faults.First.{First}
use Rattle.zms_units.specs.declared.faults.First.TheVariants as first
use Rattle.trace_text.specs.Places.{copy_text}
use Rattle.trace_text.specs.Traces.{id_text}
use Rattle.cmd_text.specs.declared.script.What.{What}
use Rattle.cmd_text.specs.declared.script.What.TheVariants.{Alloc, Free, FreeSeg, Sync, Load, Unload, Init, Trim, AutoTrim}
use Rattle.lane_run.specs.Answers.{Replied}
use Rattle.lane_run.specs.declared.replies.Answer.{Answer}
use Rattle.lane_run.specs.declared.replies.Answer.TheVariants.{Granted, NoSpace, BadSize, BadCopies, Done, NoName, NotLive, NoSuch, BadSeg, Busy, Loaded, Device, Suspended, Damaged, Late}

-- `A B`
abbrev pub pair_text : ℕ → ℕ → List ℕ
pair_text one other = decimal one ++ (32 ∷ decimal other)

-- `notlive V:OFFSET`
abbrev pub not_live_text : ℕ → ℕ → List ℕ
not_live_text vdev offset = codes "notlive " ++ (decimal vdev ++ (58 ∷ decimal offset))

-- `suspended BEFORE AFTER` where the pool met a fault of its device, and `suspended V I` where it met damage
abbrev pub suspended_text : First → List ℕ
suspended_text (first.Device before after) = codes "suspended " ++ pair_text before after
suspended_text (first.Damaged id damage) = codes "suspended " ++ id_text id

-- what was answered; a load that was done names no group
abbrev pub answer_text : Answer → List ℕ
answer_text (Granted group copies) = codes "granted " ++ (decimal group.0 ++ flat_map copy_text copies)
answer_text (NoSpace looked) = codes "nospace " ++ decimal looked
answer_text BadSize = codes "badsize"
answer_text BadCopies = codes "badcopies"
answer_text (Done group) = codes "done " ++ decimal group.0
answer_text NoName = codes "noname"
answer_text (NotLive vdev offset) = not_live_text vdev offset
answer_text NoSuch = codes "nosuch"
answer_text BadSeg = codes "badseg"
answer_text (Busy open_group synced) = codes "busy " ++ pair_text open_group.0 synced.0
answer_text Loaded = codes "done"
answer_text (Device before after) = codes "device " ++ pair_text before after
answer_text (Suspended first) = suspended_text first
answer_text (Damaged id damage) = codes "damaged " ++ id_text id
answer_text (Late group collected) = codes "late " ++ pair_text group.0 collected.0

-- `freeseg V OFFSET SIZE`
abbrev pub seg_text : ℕ → ℕ → ℕ → List ℕ
seg_text vdev offset size = codes "freeseg " ++ (decimal vdev ++ (32 ∷ (decimal offset ++ (32 ∷ decimal size))))

-- the word of a command, and its first argument
abbrev pub command_text : What → List ℕ
command_text (Alloc name size class copies) = codes "alloc " ++ name
command_text (Free name) = codes "free " ++ name
command_text (FreeSeg vdev offset size) = seg_text vdev offset size
command_text Sync = codes "sync"
command_text (Load vdev index) = codes "load " ++ pair_text vdev index
command_text (Unload vdev index) = codes "unload " ++ pair_text vdev index
command_text (Init vdev) = codes "init " ++ decimal vdev
command_text (Trim vdev) = codes "trim " ++ decimal vdev
command_text (AutoTrim vdev) = codes "autotrim " ++ decimal vdev

-- `LANE COMMAND ANSWER` and a line feed
abbrev pub reply_line : Replied → List ℕ
reply_line r = decimal r.command.lane ++ (32 ∷ (command_text r.command.what ++ (32 ∷ (answer_text r.reply.answer ++ (10 ∷ [])))))
