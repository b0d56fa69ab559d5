-- What a pool device in memory is seen as.
use Rattle.std.specs.Prelude.{ℕ, Bool, true, false, List, [], ◌∷◌, ◌++◌, map, take, drop, nat_lt, if◌then◌else◌}
use Rattle.zms_dev.specs.History.{Step, wrote, lost, flushed, looked, Stage, start, after}
use Rattle.zms_dev.specs.Script.{ScriptState, after_call}
use Rattle.zms_dev.specs.declared.memory.calls.Call.{Call}
use Rattle.zms_dev.specs.declared.memory.calls.Call.TheVariants.{Size, Read, Write, Flush}
use Rattle.zms_dev.specs.declared.memory.calls.CallRecord.{CallRecord}

-- its bytes at first, all bytes that its writes brought, its calls, and the room in bytes: the greatest end, and all
-- that writes may bring
pub record DiskForm : Type 0 where
  pub first : List ℕ
  pub written : List ℕ
  pub calls : List CallRecord
  pub end : ℕ
  pub room : ℕ
  pub script : ScriptState

-- what a call did, by whether it went well; the bytes of a write stand among all that were written
abbrev pub step_by : List ℕ → Call → Bool → Step
step_by written (Write at len from) true = wrote at (take len (drop from written))
step_by written (Write at len from) false = lost at len
step_by written Flush true = flushed
step_by written Flush false = looked
step_by written Size ok = looked
step_by written (Read at len) ok = looked

abbrev pub step_of : List ℕ → CallRecord → Step
step_of written c = step_by written c.call c.went_well

-- what its calls did
abbrev pub steps_of : DiskForm → List Step
steps_of d = map (step_of d.written) d.calls

-- what it reads as, and what was flushed
abbrev pub stage_of : DiskForm → Stage
stage_of d = after (start d.first) (steps_of d)

-- one call on; a call past the room is not recorded
abbrev pub met : DiskForm → List ℕ → Call → Bool → DiskForm
met d written call went_well = record {
  first = d.first;
  written = written;
  calls = if nat_lt d.script.made d.script.room then d.calls ++ (record { call = call; went_well = went_well }) ∷ [] else d.calls;
  end = d.end;
  room = d.room;
  script = after_call d.script went_well;
}

-- what its calls did, with one more if there is room for it
abbrev pub one_step_more : DiskForm → Step → List Step
one_step_more d step = if nat_lt d.script.made d.script.room then steps_of d ++ step ∷ [] else steps_of d
