-- The replies of all lanes in one list, in the order of the commands.
use Rattle.std.specs.Prelude.{◌≡◌, ℕ, ◌+◌, ◌≤◌, ◌==◌, Some, List, length, map, slice_get}
use Rattle.std.specs.List.{All, filter}
use Rattle.cmd_text.specs.declared.script.Command.{Command}
use Rattle.lane_run.specs.Runs.{commands_of}
use Rattle.lane_run.specs.declared.replies.Reply.{Reply}

-- those of one lane, in order
abbrev pub replies_of : ℕ → List Reply → List Reply
replies_of lane replies = filter (λ (r : Reply). r.lane == lane) replies

-- a list for each lane, from 1 on: as many replies of that lane as it has commands
pub record AreLists (commands : List Command) (lists : List (List Reply)) : Type 0 where
  pub lanes : All (λ (c : Command). (1 ≤ c.lane) × (c.lane ≤ length lists)) commands
  pub counts : (k : ℕ) (list : List Reply) → slice_get lists k ≡ Some list → length list ≡ length (commands_of (k + 1) commands)
  pub theirs : (k : ℕ) (list : List Reply) → slice_get lists k ≡ Some list → All (λ (r : Reply). r.lane ≡ k + 1) list

-- one reply a command, of its lane, and of each lane its list
pub record AreMerged (commands : List Command) (lists : List (List Reply)) (replies : List Reply) : Type 0 where
  pub lanes : map (λ (r : Reply). r.lane) replies ≡ map (λ (c : Command). c.lane) commands
  pub each : (k : ℕ) (list : List Reply) → slice_get lists k ≡ Some list → replies_of (k + 1) replies ≡ list
