-- A command with its reply, and what each call of the pool makes of it.
use Rattle.std.specs.Prelude.{◌≡◌, ℕ, Bool, true, false, if◌then◌else◌, Option, Some, None, List, [], ◌∷◌, Result, Ok, Err}
use Rattle.std.specs.List.{fold}
use Rattle.std.specs.Str.{bytes_eq}
use Rattle.zms_units.specs.declared.blocks.Dva.{Dva}
use Rattle.zms_units.specs.declared.blocks.Block.{Block}
use Rattle.zms_units.specs.declared.segments.Group.{Group}
use Rattle.ms_cell.specs.declared.loader.LoadFault.{LoadFault}
use Rattle.ms_cell.specs.declared.loader.LoadFault.TheVariants as load
use Rattle.pool_alloc.specs.declared.answers.AllocFault.{AllocFault}
use Rattle.pool_alloc.specs.declared.answers.AllocFault.TheVariants as alloc
use Rattle.pool_alloc.specs.declared.answers.FreeFault.{FreeFault}
use Rattle.pool_alloc.specs.declared.answers.FreeFault.TheVariants as free
use Rattle.pool_keeper.specs.declared.faults.SyncFault.{SyncFault}
use Rattle.pool_keeper.specs.declared.faults.SyncFault.TheVariants as sync
use Rattle.cmd_text.specs.declared.script.Command.{Command}
use Rattle.cmd_text.specs.declared.script.What.{What}
use Rattle.cmd_text.specs.declared.script.What.TheVariants.{Alloc}
use Rattle.lane_run.specs.declared.replies.Answer.{Answer}
use Rattle.lane_run.specs.declared.replies.Answer.TheVariants.{Granted, NoSpace, BadSize, BadCopies, Done, NotLive, NoSuch, BadSeg, Busy, Loaded, Device, Suspended, Damaged, Late}
use Rattle.lane_run.specs.declared.replies.Reply.{Reply}

pub record Replied : Type 0 where
  pub command : Command
  pub reply : Reply

-- commands with their replies, in order
abbrev pub paired : List Command → List Reply → List Replied
paired (c ∷ cs) (r ∷ rs) = record { command = c; reply = r } ∷ paired cs rs
paired _ _ = []

-- the copies of the block of a name, once one more command has its answer: an alloc of this name that was granted gives
-- them, and every other command leaves them
abbrev pub copies_after : List ℕ → Option (List Dva) → What → Answer → Option (List Dva)
copies_after name so_far (Alloc given _ _ _) (Granted _ copies) = if bytes_eq given name then Some copies else so_far
copies_after name so_far _ _ = so_far

-- the copies that the lane was granted last under a name, if there was such an alloc among its commands so far
abbrev pub copies_named : List ℕ → List Replied → Option (List Dva)
copies_named name done = fold (λ so_far r. copies_after name so_far r.command.what r.reply.answer) None done

-- what the lane answers for what a call of the pool gave; want of memory has no answer

abbrev pub alloc_answer : Result Block AllocFault → Option Answer
alloc_answer (Ok block) = Some (Granted block.group block.copies)
alloc_answer (Err alloc.BadSize) = Some BadSize
alloc_answer (Err alloc.BadCopies) = Some BadCopies
alloc_answer (Err (alloc.NoSpace looked)) = Some (NoSpace looked)
alloc_answer (Err (alloc.Late group collected)) = Some (Late group collected)
alloc_answer (Err (alloc.Device before after)) = Some (Device before after)
alloc_answer (Err (alloc.Damaged id damage)) = Some (Damaged id damage)
alloc_answer (Err (alloc.Suspended first)) = Some (Suspended first)
alloc_answer (Err (alloc.Memory kept)) = None

abbrev pub free_answer : Result Group FreeFault → Option Answer
free_answer (Ok group) = Some (Done group)
free_answer (Err free.NoSuch) = Some NoSuch
free_answer (Err free.BadSeg) = Some BadSeg
free_answer (Err (free.NotLive freed vdev offset)) = Some (NotLive vdev offset)
free_answer (Err (free.Late group collected)) = Some (Late group collected)
free_answer (Err (free.Device before after)) = Some (Device before after)
free_answer (Err (free.Damaged id damage)) = Some (Damaged id damage)
free_answer (Err (free.Suspended first)) = Some (Suspended first)
free_answer (Err (free.Memory freed)) = None

abbrev pub sync_answer : Result Group SyncFault → Option Answer
sync_answer (Ok group) = Some (Done group)
sync_answer (Err (sync.Suspended first)) = Some (Suspended first)
sync_answer (Err (sync.Busy open_group synced)) = Some (Busy open_group synced)
sync_answer (Err (sync.Device before after)) = Some (Device before after)
sync_answer (Err (sync.Damaged id damage)) = Some (Damaged id damage)
sync_answer (Err sync.Memory) = None

abbrev pub load_answer : Result (Unit {0}) LoadFault → Option Answer
load_answer (Ok _) = Some Loaded
load_answer (Err (load.Suspended first)) = Some (Suspended first)
load_answer (Err (load.Device before after)) = Some (Device before after)
load_answer (Err (load.Damaged id damage)) = Some (Damaged id damage)
load_answer (Err load.Memory) = None

-- the lane goes on with the answer just where there is one
abbrev pub Tells : {E : Type 0} → Option Answer → Result Answer E → Type 0
Tells (Some answer) (Ok told) = told ≡ answer
Tells None (Err _) = Unit {0}
Tells (Some answer) (Err _) = ⊥
Tells None (Ok told) = ⊥

-- the load refusal that it tells of
abbrev pub load_of : LoadFault → Option LoadFault
load_of load.Memory = None
load_of fault = Some fault

abbrev pub is_done : {A E : Type 0} → Result A E → Bool
is_done (Ok _) = true
is_done (Err _) = false
