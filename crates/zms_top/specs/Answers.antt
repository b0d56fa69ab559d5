-- A command with its reply.
use Rattle.std.specs.Prelude.{ℕ, Bool, true, false, if◌then◌else◌, Option, Some, None, List, [], ◌∷◌}
use Rattle.std.specs.List.{fold}
use Rattle.std.specs.Str.{bytes_eq}
use Rattle.zms_units.specs.declared.blocks.Dva.{Dva}
use Rattle.zms_units.specs.declared.faults.First.{First}
use Rattle.zms_units.specs.declared.faults.First.TheVariants.{Device as FirstDevice, Damaged as FirstDamaged}
use Rattle.cmd_text.specs.declared.script.Command.{Command}
use Rattle.cmd_text.specs.declared.script.What.{What}
use Rattle.cmd_text.specs.declared.script.What.TheVariants.{Alloc, Sync}
use Rattle.zms_top.specs.declared.replies.Answer.{Answer}
use Rattle.zms_top.specs.declared.replies.Answer.TheVariants.{Granted, NoSpace, BadSize, Done, NoName, NotLive, Device, Damaged}
use Rattle.zms_top.specs.declared.replies.Reply.{Reply}

pub record Replied : Type 0 where
  pub command : Command
  pub reply : Reply

-- commands with their replies, in order
abbrev pub paired : List Command → List Reply → List Replied
paired (c ∷ cs) (r ∷ rs) = record { command = c; reply = r } ∷ paired cs rs
paired _ _ = []

-- the first fault that is kept, once one more answer is there: a failed call of the device, or damage
abbrev pub first_with : Option First → Answer → Option First
first_with (Some first) _ = Some first
first_with None (Device before after) = Some (FirstDevice before after)
first_with None (Damaged id damage) = Some (FirstDamaged id damage)
first_with None _ = None

-- the first fault that earlier replies name
abbrev pub first_fault : List Replied → Option First
first_fault done = fold (λ so_far r. first_with so_far r.reply.answer) None done

-- is what is kept a failed call of the device?
abbrev pub is_failure : Option First → Bool
is_failure (Some (FirstDevice before after)) = true
is_failure _ = false

-- the last group that a sync made lasting, once one more command has its answer
abbrev pub synced_after : ℕ → What → Answer → ℕ
synced_after so_far Sync (Done group) = group.0
synced_after so_far _ _ = so_far

-- the group of the last sync that was done, or the opened one
abbrev pub last_synced : ℕ → List Replied → ℕ
last_synced opened done = fold (λ so_far r. synced_after so_far r.command.what r.reply.answer) opened done

-- the copies of the block of a name, once one more command has its answer: an alloc of this name that was granted gives
-- them, and every other command leaves them
abbrev pub copies_after : List ℕ → Option (List Dva) → What → Answer → Option (List Dva)
copies_after name so_far (Alloc given _ _ _) (Granted _ copies) = if bytes_eq given name then Some copies else so_far
copies_after name so_far _ _ = so_far

-- the copies that the lane was granted under a name, if there was such an alloc among its commands so far
abbrev pub copies_named : List ℕ → List Replied → Option (List Dva)
copies_named name done = fold (λ so_far r. copies_after name so_far r.command.what r.reply.answer) None done

-- an answer that an alloc gives
abbrev pub IsOfAlloc : Answer → Type 0
IsOfAlloc (Granted _ _) = Unit {0}
IsOfAlloc (NoSpace _) = Unit {0}
IsOfAlloc BadSize = Unit {0}
IsOfAlloc _ = ⊥

-- an answer that a free gives
abbrev pub IsOfFree : Answer → Type 0
IsOfFree (Done _) = Unit {0}
IsOfFree NoName = Unit {0}
IsOfFree (NotLive _ _) = Unit {0}
IsOfFree _ = ⊥
