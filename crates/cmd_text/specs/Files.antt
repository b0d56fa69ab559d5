-- The whole file: its lines, its limits, its script, and its first bad line.
use Rattle.std.specs.Prelude.{◌≡◌, ℕ, ◌+◌, ◌-◌, ◌<◌, ◌≤◌, ◌⊎◌, ◌==◌, Bool, true, false, if◌then◌else◌, Option, Some, None, List, [], ◌∷◌, ◌++◌, length, slice_get, replicate, min, max}
use Rattle.std.specs.List.{count_by, flat_map, onto_first}
use Rattle.zms_units.specs.Limits.{MAX_COMMANDS, MAX_TEXT_BYTES}
use Rattle.cmd_text.specs.Grammar.{Reading, AreLines, commands_of, makes_of}
use Rattle.cmd_text.specs.declared.script.What.{What}
use Rattle.cmd_text.specs.declared.script.What.TheVariants.{Alloc, Free, FreeSeg, Sync, Load, Unload, Init, Trim, AutoTrim}
use Rattle.cmd_text.specs.declared.script.Command.{Command}
use Rattle.cmd_text.specs.declared.script.Make.{Make}
use Rattle.cmd_text.specs.declared.script.Script.{Script}

-- the lines of a text, without their line feeds. A line feed ends a line, and the text's end does too
abbrev pub lines_of : List ℕ → List (List ℕ)
lines_of [] = []
lines_of (b ∷ bs) = if b == 10 then [] ∷ lines_of bs else onto_first b (lines_of bs)

-- how many bytes lines have, each with its line feed
abbrev pub bytes_of : List (List ℕ) → ℕ
bytes_of lines = length (flat_map (λ l. l ++ (10 ∷ [])) lines)

-- the name that an alloc gives its block
abbrev pub IsNamed : What → List ℕ → Type 0
IsNamed (Alloc own _ _ _) name = own ≡ name
IsNamed (Free _) name = ⊥
IsNamed (FreeSeg _ _ _) name = ⊥
IsNamed Sync name = ⊥
IsNamed (Load _ _) name = ⊥
IsNamed (Unload _ _) name = ⊥
IsNamed (Init _) name = ⊥
IsNamed (Trim _) name = ⊥
IsNamed (AutoTrim _) name = ⊥

-- two allocs of one lane have two names
abbrev pub AreNamedApart : Command → Command → Type 0
AreNamedApart c d = (name : List ℕ) → c.lane ≡ d.lane → IsNamed c.what name → IsNamed d.what name → ⊥

-- does this begin a worker?
abbrev pub begins_worker : What → Bool
begins_worker (Alloc _ _ _ _) = false
begins_worker (Free _) = false
begins_worker (FreeSeg _ _ _) = false
begins_worker Sync = false
begins_worker (Load _ _) = false
begins_worker (Unload _ _) = false
begins_worker (Init _) = true
begins_worker (Trim _) = true
begins_worker (AutoTrim _) = true

abbrev pub is_worker : Command → Bool
is_worker c = begins_worker c.what

-- no make line; or one, and nothing else
abbrev pub StandsAlone : List Command → List Make → Type 0
StandsAlone commands makes = (makes ≡ []) ⊎ ((commands ≡ []) × (length makes ≡ 1))

-- what the lines of a file say keeps the limits on all of them together
pub record AreWithin (commands : List Command) (makes : List Make) : Type 0 where
  pub alone : StandsAlone commands makes
  pub few : length commands ≤ MAX_COMMANDS
  pub workers : count_by is_worker commands ≤ 16
  pub apart : (j k : ℕ) (c d : Command) → j < k → slice_get commands j ≡ Some c → slice_get commands k ≡ Some d → AreNamedApart c d

-- the first lines of a text are in the grammar and within the limits, and say these things
pub record AreGood (text : List ℕ) (lines : List (List ℕ)) (readings : List Reading) : Type 0 where
  pub read : AreLines 1 lines readings
  -- the text's last line may lack its line feed
  pub near : min (bytes_of lines) (length text) ≤ MAX_TEXT_BYTES
  pub within : AreWithin (commands_of readings) (makes_of readings)

-- a make line as a list
abbrev pub make_list : Option Make → List Make
make_list None = []
make_list (Some m) = m ∷ []

-- the greatest lane that is named, and at least 1
abbrev pub greatest_lane : List Command → ℕ
greatest_lane [] = 1
greatest_lane (c ∷ cs) = max c.lane (greatest_lane cs)

-- how many lanes a file has; a make line has four
abbrev pub lanes_of : List Command → Option Make → ℕ
lanes_of commands None = greatest_lane commands
lanes_of commands (Some m) = 4

-- a text is a file of this script
pub record IsFile (text : List ℕ) (script : Script) : Type 0 where
  pub readings : List Reading
  pub good : AreGood text (lines_of text) readings
  pub commands : script.commands ≡ commands_of readings
  pub make : make_list script.make ≡ makes_of readings
  pub lanes : script.lanes ≡ lanes_of script.commands script.make

-- the first line of a text, from 1, that breaks something: the lines before it, and what they say, have it, and with it they do not
pub record IsFirstBreaking (Has : List (List ℕ) → List Reading → Type 0) (text : List ℕ) (number : ℕ) : Type 0 where
  pub front : List (List ℕ)
  pub line : List ℕ
  pub back : List (List ℕ)
  pub split : front ++ (line ∷ back) ≡ lines_of text
  pub numbered : number ≡ length front + 1
  pub readings : List Reading
  pub good : Has front readings
  pub bad : (more : List Reading) → Has (front ++ (line ∷ [])) more → ⊥

-- the first line that is outside the grammar or passes a limit
abbrev pub IsFirstBad : List ℕ → ℕ → Type 0
IsFirstBad text number = IsFirstBreaking (AreGood text) text number

-- the script of the lines before the first bad one
pub record Stops (text : List ℕ) (script : Script) (number : ℕ) : Type 0 where
  pub bad : IsFirstBad text number
  pub commands : script.commands ≡ commands_of bad.readings
  pub make : make_list script.make ≡ makes_of bad.readings
  pub lanes : script.lanes ≡ lanes_of script.commands script.make

-- each text in its line, from so many line feeds on: in front of it stand as many line feeds as bring it there
abbrev pub laid_out : ℕ → List (ℕ × List ℕ) → List ℕ
laid_out at [] = []
laid_out at (t ∷ ts) = replicate (t.0 - at) 10 ++ (t.1 ++ laid_out t.0 ts)
