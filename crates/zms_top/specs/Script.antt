-- The command files that are run today: each line is in the grammar, and of a kind that is built.
use Rattle.std.specs.Prelude.{◌≡◌, ℕ, ◌<◌, ◌≤◌, Some, None, List, [], length, slice_get}
use Rattle.std.specs.List.{All}
use Rattle.zms_units.specs.Limits.{MAX_COMMANDS}
use Rattle.zms_units.specs.declared.places.Class.TheVariants.{Normal}
use Rattle.cmd_text.specs.Grammar.{Reading, commands_of, makes_of}
use Rattle.cmd_text.specs.Files.{AreGood, IsFirstBreaking, IsFile as IsText}
use Rattle.cmd_text.specs.declared.script.What.{What}
use Rattle.cmd_text.specs.declared.script.What.TheVariants.{Alloc, Free, FreeSeg, Sync, Load, Unload, Init, Trim, AutoTrim}
use Rattle.cmd_text.specs.declared.script.Command.{Command}
use Rattle.cmd_text.specs.declared.script.Make.{Make}
use Rattle.cmd_text.specs.declared.script.Script.{Script}

-- what is built: allocs of one copy in the normal class, frees, and syncs
abbrev pub IsBuilt : What → Type 0
IsBuilt (Alloc _ _ class copies) = (class ≡ Normal) × (copies ≡ 1)
IsBuilt (Free _) = Unit {0}
IsBuilt (FreeSeg _ _ _) = ⊥
IsBuilt Sync = Unit {0}
IsBuilt (Load _ _) = ⊥
IsBuilt (Unload _ _) = ⊥
IsBuilt (Init _) = ⊥
IsBuilt (Trim _) = ⊥
IsBuilt (AutoTrim _) = ⊥

-- of the first lane
pub record IsCommand (c : Command) : Type 0 where
  pub lane : c.lane ≡ 1
  pub what : IsBuilt c.what

-- the commands below a place
abbrev pub AreBuiltBelow : List Command → ℕ → Type 0
AreBuiltBelow commands n = (k : ℕ) (c : Command) → k < n → slice_get commands k ≡ Some c → IsCommand c

-- what lines say can be run
pub record AreBuilt (commands : List Command) (makes : List Make) : Type 0 where
  pub each : AreBuiltBelow commands (length commands)
  pub no_make : makes ≡ []

-- commands that can be run
pub record AreCommands (commands : List Command) : Type 0 where
  pub each : All IsCommand commands
  pub few : length commands ≤ MAX_COMMANDS

-- a text is a file of these commands, which can be run
pub record IsFile (text : List ℕ) (commands : List Command) : Type 0 where
  pub script : Script
  pub text_is : IsText text script
  pub same : script.commands ≡ commands
  pub no_make : script.make ≡ None
  pub are : AreCommands commands

-- lines are good, and what they say can be run
pub record AreRunnable (text : List ℕ) (lines : List (List ℕ)) (readings : List Reading) : Type 0 where
  pub good : AreGood text lines readings
  pub built : AreBuilt (commands_of readings) (makes_of readings)

-- the first line of a text, from 1, that is outside the grammar, passes a limit, or is of a kind that is not built
abbrev pub IsFirstBad : List ℕ → ℕ → Type 0
IsFirstBad text number = IsFirstBreaking (AreRunnable text) text number

-- the line of the first command that can't be run
pub record IsFirstUnbuilt (commands : List Command) (line : ℕ) : Type 0 where
  pub place : ℕ
  pub command : Command
  pub stands : slice_get commands place ≡ Some command
  pub before : AreBuiltBelow commands place
  pub unbuilt : IsCommand command → ⊥
  pub line_is : line ≡ command.line
