-- What the readers of texts say: of bytes, of a line as it was read, and of what was read so far.
use Rattle.std.specs.Prelude.{◌≡◌, ℕ, ◌≤◌, Bool, true, false, ◌||◌, ◌&&◌, ◌==◌, ◌⊎◌, ◌++◌, List, [], ◌∷◌, codes, decimal}
use Rattle.std.specs.List.{list_any, count_by}
use Rattle.std.specs.Str.{bytes_eq}
use Rattle.std.specs.HashSet.{HashSet}
use Rattle.std.specs.Borrow.{Bor}
use Rattle.cmd_text.specs.Grammar.{Reading, what_fields, spaced, IsWhat, IsLine, asked, made}
use Rattle.cmd_text.specs.Grammar.Reading.{Passed, Asked, Made}
use Rattle.cmd_text.specs.Files.{IsNamed, AreWithin, make_list, greatest_lane, is_worker}
use Rattle.cmd_text.specs.declared.script.Command.{Command}
use Rattle.cmd_text.specs.declared.script.What.{What}
use Rattle.cmd_text.specs.declared.script.What.TheVariants.{Alloc, Free, FreeSeg, Sync, Load, Unload, Init, Trim, AutoTrim}
use Rattle.cmd_text.specs.declared.lines.Word.{Word}
use Rattle.cmd_text.specs.declared.lines.Word.TheVariants as word
use Rattle.cmd_text.specs.declared.lines.Asks.{Asks}
use Rattle.cmd_text.specs.declared.lines.Asks.TheVariants.{AllocAs, FreeAs, Nameless}
use Rattle.cmd_text.specs.declared.lines.Line.{Line}
use Rattle.cmd_text.specs.declared.lines.Line.TheVariants.{PassedLine, LaneLine, MakeLine}
use Rattle.cmd_text.specs.declared.reader.Reader.{Reader}

-- no byte is this one
abbrev pub Lacks : ℕ → List ℕ → Type 0
Lacks byte bytes = list_any (λ b. b == byte) bytes ≡ false

-- a line without its line feed, and what stands behind: behind its line feed, or nothing at the text's end
pub record IsFirstLine (text line next : List ℕ) : Type 0 where
  pub whole : Lacks 10 line
  pub cut : (line ++ (10 ∷ next) ≡ text) ⊎ ((line ≡ text) × (next ≡ []))

-- two numbers as they are printed, within these limits
pub record AreNumbers (text : List ℕ) (first_max second_max first second : ℕ) : Type 0 where
  pub fits : first ≤ first_max
  pub also_fits : second ≤ second_max
  pub text_is : decimal first ++ (32 ∷ decimal second) ≡ text

-- the word of a command that has fields behind it
abbrev pub word_text : Word → List ℕ
word_text word.AllocWord = codes "alloc"
word_text word.FreeWord = codes "free"
word_text word.FreeSegWord = codes "freeseg"
word_text word.LoadWord = codes "load"
word_text word.UnloadWord = codes "unload"
word_text word.InitWord = codes "init"
word_text word.TrimWord = codes "trim"
word_text word.AutoTrimWord = codes "autotrim"

-- a command without its lane
abbrev pub what_text : What → List ℕ
what_text w = spaced (what_fields w)

-- a command has these fields behind this word
pub record IsBehind (word text : List ℕ) (w : What) : Type 0 where
  pub what : IsWhat w
  pub text_is : what_text w ≡ word ++ (32 ∷ text)

-- what a line asks for that was read
abbrev pub what_of : Asks → What
what_of (AllocAs name size class copies) = Alloc name.now size class copies
what_of (FreeAs name) = Free name.now
what_of (Nameless w) = w

-- it gives no block a name
abbrev pub IsNameless : What → Type 0
IsNameless (Alloc _ _ _ _) = ⊥
IsNameless (Free _) = Unit {0}
IsNameless (FreeSeg _ _ _) = Unit {0}
IsNameless Sync = Unit {0}
IsNameless (Load _ _) = Unit {0}
IsNameless (Unload _ _) = Unit {0}
IsNameless (Init _) = Unit {0}
IsNameless (Trim _) = Unit {0}
IsNameless (AutoTrim _) = Unit {0}

-- the name of an alloc lies in the text
abbrev pub HasNameInText : Asks → Type 0
HasNameInText (AllocAs name size class copies) = Unit {0}
HasNameInText (FreeAs name) = Unit {0}
HasNameInText (Nameless w) = IsNameless w

abbrev pub HasNamesInText : Line → Type 0
HasNamesInText PassedLine = Unit {0}
HasNamesInText (LaneLine lane asks) = HasNameInText asks
HasNamesInText (MakeLine number count) = Unit {0}

-- the command of a lane, in a line
abbrev pub command_of : ℕ → ℕ → What → Command
command_of lane line what = record { lane = lane; line = line; what = what }

-- what the n-th line says that was read
abbrev pub reading_of : ℕ → Line → Reading
reading_of n PassedLine = Passed
reading_of n (LaneLine lane asks) = Asked (command_of lane n (what_of asks))
reading_of n (MakeLine number count) = Made (record { number = number; count = count; line = n })

-- is this one of a lane's names?
abbrev pub has_name : {S : Type 0} → HashSet (ℕ × Bor (List ℕ)) S → ℕ → List ℕ → Bool
has_name names lane name = list_any (λ known. (lane == known.0) && bytes_eq name known.1.now) names.keys

-- does this give its block this name?
abbrev pub gives_block : List ℕ → What → Bool
gives_block name (Alloc own _ _ _) = bytes_eq name own
gives_block name (Free _) = false
gives_block name (FreeSeg _ _ _) = false
gives_block name Sync = false
gives_block name (Load _ _) = false
gives_block name (Unload _ _) = false
gives_block name (Init _) = false
gives_block name (Trim _) = false
gives_block name (AutoTrim _) = false

-- does a command of this lane?
abbrev pub gives_name : ℕ → List ℕ → Command → Bool
gives_name lane name c = (lane == c.lane) && gives_block name c.what

-- its name is new to the lane, and known from then on
pub record Learns {S : Type 0} (old new : HashSet (ℕ × Bor (List ℕ)) S) (lane : ℕ) (w : What) : Type 0 where
  pub fresh : (name : List ℕ) → IsNamed w name → has_name old lane name ≡ false
  pub known : (l : ℕ) (other : List ℕ) → has_name new l other ≡ (((l == lane) && gives_block other w) || has_name old l other)

-- its name is known to the lane
pub record IsTwice {S : Type 0} (names : HashSet (ℕ × Bor (List ℕ)) S) (lane : ℕ) (w : What) : Type 0 where
  pub name : List ℕ
  pub named : IsNamed w name
  pub known : has_name names lane name ≡ true

-- what is kept says what the lines said so far
pub record IsReader (r : Reader) : Type 0 where
  pub within : AreWithin r.commands.items (make_list r.make)
  pub lanes : r.lanes ≡ greatest_lane r.commands.items
  pub workers : r.workers ≡ count_by is_worker r.commands.items
  pub known : (lane : ℕ) (name : List ℕ) → has_name r.names lane name ≡ list_any (gives_name lane name) r.commands.items

-- one thing more was said
pub record Adds (old new : Reader) (r : Reading) : Type 0 where
  pub is : IsReader new
  pub commands : new.commands.items ≡ old.commands.items ++ asked r
  pub makes : make_list new.make ≡ make_list old.make ++ made r

-- the n-th line says something that may be said next
pub record Takes (old new : Reader) (n : ℕ) (line : List ℕ) : Type 0 where
  pub reading : Reading
  pub is_line : IsLine n line reading
  pub adds : Adds old new reading

-- nothing more was said
pub record Keeps (old new : Reader) : Type 0 where
  pub commands : new.commands.items ≡ old.commands.items
  pub make : new.make ≡ old.make
  pub lanes : new.lanes ≡ old.lanes

-- what may not be said next
abbrev pub Bars : Reader → Reading → Type 0
Bars old r = AreWithin (old.commands.items ++ asked r) (make_list old.make ++ made r) → ⊥

-- the n-th line says nothing that may be said next
abbrev pub Refuses : Reader → ℕ → List ℕ → Type 0
Refuses old n line = (r : Reading) → IsLine n line r → Bars old r
