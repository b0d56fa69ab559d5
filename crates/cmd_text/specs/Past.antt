-- The limit of commands times metaslabs, which is asked once the pool is open.
use Rattle.std.specs.Prelude.{◌≡◌, ℕ, ◌*◌, ◌<◌, ◌≤◌, List, [], ◌∷◌, ◌++◌, length, map, replicate}
use Rattle.std.specs.List.{flat_map}
use Rattle.zms_units.specs.Limits.{MAX_COMMANDS_TIMES_METASLABS}
use Rattle.cmd_text.specs.Files.{make_list}
use Rattle.cmd_text.specs.declared.script.Script.{Script}

-- the line of each command, in order. A make line counts as its commands, which all stand in it
abbrev pub command_lines : Script → List ℕ
command_lines s = map (λ c. c.line) s.commands ++ flat_map (λ m. replicate m.count m.line) (make_list s.make)

-- this many commands are within the limit, over so many metaslabs
abbrev pub AreFew : ℕ → ℕ → Type 0
AreFew commands metaslabs = commands * metaslabs ≤ MAX_COMMANDS_TIMES_METASLABS

-- the first command past the limit stands in this line: those before it are within, and with it they are not
pub record IsFirstPast (s : Script) (metaslabs line : ℕ) : Type 0 where
  pub front : List ℕ
  pub back : List ℕ
  pub split : front ++ (line ∷ back) ≡ command_lines s
  pub few : AreFew (length front) metaslabs
  pub past : MAX_COMMANDS_TIMES_METASLABS < length (front ++ (line ∷ [])) * metaslabs
