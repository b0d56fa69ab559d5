-- The grammar of a line. A line is its fields with one space between each two; reading is the inverse.
use Rattle.std.specs.Prelude.{◌≡◌, ℕ, ◌+◌, ◌^◌, ◌<◌, ◌≤◌, ◌⊎◌, List, [], ◌∷◌, length, codes, decimal}
use Rattle.std.specs.List.{join_with_byte, flat_map}
use Rattle.cmd_text.specs.Words.{IsName}
use Rattle.zms_units.specs.Classes.{class_word}
use Rattle.zms_units.specs.Limits.{MAX_COMMANDS}
use Rattle.cmd_text.specs.declared.script.What.{What}
use Rattle.cmd_text.specs.declared.script.What.TheVariants.{Alloc, Free, FreeSeg, Sync, Load, Unload, Init, Trim, AutoTrim}
use Rattle.cmd_text.specs.declared.script.Command.{Command}
use Rattle.cmd_text.specs.declared.script.Make.{Make}

-- fields with one space between each two
abbrev pub spaced : List (List ℕ) → List ℕ
spaced fields = join_with_byte 32 fields

-- the fields of a command behind its lane
abbrev pub what_fields : What → List (List ℕ)
what_fields (Alloc name size class copies) = codes "alloc" ∷ (name ∷ (decimal size ∷ (class_word class ∷ (decimal copies ∷ []))))
what_fields (Free name) = codes "free" ∷ (name ∷ [])
what_fields (FreeSeg vdev offset size) = codes "freeseg" ∷ (decimal vdev ∷ (decimal offset ∷ (decimal size ∷ [])))
what_fields Sync = codes "sync" ∷ []
what_fields (Load vdev index) = codes "load" ∷ (decimal vdev ∷ (decimal index ∷ []))
what_fields (Unload vdev index) = codes "unload" ∷ (decimal vdev ∷ (decimal index ∷ []))
what_fields (Init vdev) = codes "init" ∷ (decimal vdev ∷ [])
what_fields (Trim vdev) = codes "trim" ∷ (decimal vdev ∷ [])
what_fields (AutoTrim vdev) = codes "autotrim" ∷ (decimal vdev ∷ [])

-- its fields are within their limits
abbrev pub IsWhat : What → Type 0
IsWhat (Alloc name size class copies) = IsName name × ((size < 2 ^ 63) × (copies ≤ 255))
IsWhat (Free name) = IsName name
IsWhat (FreeSeg vdev offset size) = (vdev ≤ 255) × ((offset < 2 ^ 63) × (size < 2 ^ 63))
IsWhat Sync = Unit {0}
IsWhat (Load vdev index) = (vdev ≤ 255) × (index ≤ 65535)
IsWhat (Unload vdev index) = (vdev ≤ 255) × (index ≤ 65535)
IsWhat (Init vdev) = vdev ≤ 255
IsWhat (Trim vdev) = vdev ≤ 255
IsWhat (AutoTrim vdev) = vdev ≤ 255

-- a command's line, without its line feed
abbrev pub line_text : Command → List ℕ
line_text c = spaced (decimal c.lane ∷ what_fields c.what)

pub record IsCommand (c : Command) : Type 0 where
  pub first : 1 ≤ c.lane
  pub last : c.lane ≤ 16
  pub what : IsWhat c.what

-- a make line, without its line feed
abbrev pub make_text : Make → List ℕ
make_text m = spaced (codes "make" ∷ (decimal m.number ∷ (decimal m.count ∷ [])))

pub record IsMake (m : Make) : Type 0 where
  pub number : m.number ≤ 4294967295
  pub some : 1 ≤ m.count
  pub few : m.count ≤ MAX_COMMANDS

-- a line that is passed over: it is empty, or begins with `#`
abbrev pub IsPassedOver : List ℕ → Type 0
IsPassedOver line = (line ≡ []) ⊎ ((rest : List ℕ) × (line ≡ 35 ∷ rest))

-- what a line says: nothing, a command, or that commands are made
pub data Reading : Type 0 where
  Passed : Reading
  Asked : Command → Reading
  Made : Make → Reading

-- the n-th line says this
abbrev pub Says : ℕ → List ℕ → Reading → Type 0
Says n line Passed = IsPassedOver line
Says n line (Asked c) = IsCommand c × ((line_text c ≡ line) × (c.line ≡ n))
Says n line (Made m) = IsMake m × ((make_text m ≡ line) × (m.line ≡ n))

-- and is no longer than a line may be
pub record IsLine (n : ℕ) (line : List ℕ) (r : Reading) : Type 0 where
  pub short : length line ≤ 200
  pub says : Says n line r

-- lines that are numbered from n on say these things
abbrev pub AreLines : ℕ → List (List ℕ) → List Reading → Type 0
AreLines n [] [] = Unit {0}
AreLines n [] (r ∷ rs) = ⊥
AreLines n (l ∷ ls) [] = ⊥
AreLines n (l ∷ ls) (r ∷ rs) = IsLine n l r × AreLines (n + 1) ls rs

abbrev pub asked : Reading → List Command
asked Passed = []
asked (Asked c) = c ∷ []
asked (Made m) = []

abbrev pub made : Reading → List Make
made Passed = []
made (Asked c) = []
made (Made m) = m ∷ []

abbrev pub commands_of : List Reading → List Command
commands_of readings = flat_map asked readings

abbrev pub makes_of : List Reading → List Make
makes_of readings = flat_map made readings
