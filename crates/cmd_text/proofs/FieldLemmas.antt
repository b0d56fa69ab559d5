-- The one way in which a line is made of its fields.
use Rattle.std.proofs.Common.{◌≡◌, ℕ, ◌^◌, ◌≤◌, ◌<◌, true, List, ◌∷◌, ◌++◌, get_or, refl, sym, ◌∙◌, ap, subst, arith}
use Rattle.std.specs.Prelude.{codes, decimal}
use Rattle.std.specs.List.{list_all}
use Rattle.std.proofs.lemmas.List.{append_cancel_left}
use Rattle.std.proofs.lemmas.Fmt.{decimal_injective}
use Rattle.zms_units.specs.declared.places.Class.{Class}
use Rattle.zms_units.specs.declared.places.Class.TheVariants.{Normal, Log, Special, Dedup}
use Rattle.cmd_text.specs.Words.{is_digit, IsName}
use Rattle.zms_units.specs.Classes.{class_word}
use Rattle.cmd_text.specs.Grammar.{what_fields, spaced, IsWhat, IsCommand, IsMake, line_text, Reading, Says, IsPassedOver}
use Rattle.cmd_text.specs.Grammar.Reading.{Passed, Asked, Made}
use Rattle.cmd_text.specs.Reading.{Lacks, AreNumbers, word_text, what_text, IsBehind}
use Rattle.cmd_text.specs.declared.script.Command.{Command}
use Rattle.cmd_text.specs.declared.script.Make.{Make}
use Rattle.cmd_text.specs.declared.script.What.{What}
use Rattle.cmd_text.specs.declared.script.What.TheVariants.{Alloc, Free, FreeSeg, Sync, Load, Unload, Init, Trim, AutoTrim}
use Rattle.cmd_text.specs.declared.lines.Word.{Word}
use Rattle.cmd_text.specs.declared.lines.Word.TheVariants.{AllocWord, FreeWord, FreeSegWord, LoadWord, UnloadWord, InitWord, TrimWord, AutoTrimWord}
use Rattle.cmd_text.proofs.Bytes.{cut_once, lacks_no_cut, decimal_lacks, name_lacks, decimal_plain}

pub class_lacks : (c : Class) → Lacks 32 (class_word c)
class_lacks Normal = refl
class_lacks Log = refl
class_lacks Special = refl
class_lacks Dedup = refl

-- two numbers are told by their text

pub same_numbers : (text : List ℕ) (f s first second : ℕ) (a b : List ℕ) → f < 2 ^ 63 → AreNumbers text f s first second
    → a ++ (32 ∷ b) ≡ text → Lacks 32 a → (decimal first ≡ a) × (decimal second ≡ b)
same_numbers text f s first second a b low are cut lacks =
    cut_once 32 (decimal first) (decimal second) a b (decimal_lacks 32 first (omega arith) (omega (arith, are.fits))) lacks (are.text_is ∙ sym cut)

pub no_numbers : (text : List ℕ) (f s first second : ℕ) → AreNumbers text f s first second → Lacks 32 text → ⊥
no_numbers text f s first second are none = lacks_no_cut 32 (decimal first) (decimal second) text none are.text_is

pub numbers_once : (text : List ℕ) (f s a b c d : ℕ) → f < 2 ^ 63 → s < 2 ^ 63 → AreNumbers text f s a b → AreNumbers text f s c d → (a ≡ c) × (b ≡ d)
numbers_once text f s a b c d low low' are are' =
    let both : (decimal a ≡ decimal c) × (decimal b ≡ decimal d) =
    same_numbers text f s a b (decimal c) (decimal d) low are are'.text_is (decimal_lacks 32 c (omega arith) (omega (arith, are'.fits))) in (
      decimal_injective a c (omega (arith, are.fits)) (omega (arith, are'.fits)) both.0,
      decimal_injective b d (omega (arith, are.also_fits)) (omega (arith, are'.also_fits)) both.1,
    )

-- the fields of a command by its word

pub word_lacks : (w : Word) → Lacks 32 (word_text w)
word_lacks AllocWord = refl
word_lacks FreeWord = refl
word_lacks FreeSegWord = refl
word_lacks LoadWord = refl
word_lacks UnloadWord = refl
word_lacks InitWord = refl
word_lacks TrimWord = refl
word_lacks AutoTrimWord = refl

-- a command is `sync`, or has a word and fields behind it
pub data Formed (w : What) : Type 0 where
  plain : w ≡ Sync → Formed w
  worded : (k : Word) (text : List ℕ) → what_text w ≡ word_text k ++ (32 ∷ text) → Formed w

pub formed : (w : What) → Formed w
formed (Alloc name size class copies) = worded AllocWord (name ++ (32 ∷ (decimal size ++ (32 ∷ (class_word class ++ (32 ∷ decimal copies)))))) refl
formed (Free name) = worded FreeWord name refl
formed (FreeSeg vdev offset size) = worded FreeSegWord (decimal vdev ++ (32 ∷ (decimal offset ++ (32 ∷ decimal size)))) refl
formed Sync = plain refl
formed (Load vdev index) = worded LoadWord (decimal vdev ++ (32 ∷ decimal index)) refl
formed (Unload vdev index) = worded UnloadWord (decimal vdev ++ (32 ∷ decimal index)) refl
formed (Init vdev) = worded InitWord (decimal vdev) refl
formed (Trim vdev) = worded TrimWord (decimal vdev) refl
formed (AutoTrim vdev) = worded AutoTrimWord (decimal vdev) refl

-- it has just this word and these fields where its text is so
pub behind_of : (w : What) (word rest text : List ℕ) → IsWhat w → what_text w ≡ text → (codes "sync" ≡ text → ⊥) → word ++ (32 ∷ rest) ≡ text → Lacks 32 word
    → (k : Word) × ((word_text k ≡ word) × IsBehind (word_text k) rest w)
behind_of w word rest text is same not_sync cut lacks = at (formed w) where
  at : Formed w → (k : Word) × ((word_text k ≡ word) × IsBehind (word_text k) rest w)
  at (plain e) = absurd (not_sync (ap what_text (sym e) ∙ same))
  at (worded k behind e) =
      let both : (word_text k ≡ word) × (behind ≡ rest) = cut_once 32 (word_text k) behind word rest (word_lacks k) lacks (sym e ∙ same ∙ sym cut) in
      (k, (both.0, record { what = is; text_is = e ∙ ap (λ l. word_text k ++ (32 ∷ l)) both.1 }))

pub no_space : (w : What) (text : List ℕ) → what_text w ≡ text → (codes "sync" ≡ text → ⊥) → Lacks 32 text → ⊥
no_space w text same not_sync none = at (formed w) where
  at : Formed w → ⊥
  at (plain e) = not_sync (ap what_text (sym e) ∙ same)
  at (worded k behind e) = lacks_no_cut 32 (word_text k) behind text none (sym e ∙ same)

-- and its fields are those of the word

pub record AllocParts (text : List ℕ) (w : What) : Type 0 where
  pub name : List ℕ
  pub size : ℕ
  pub class : Class
  pub copies : ℕ
  pub same : w ≡ Alloc name size class copies
  pub is_name : IsName name
  pub fits : size < 2 ^ 63
  pub few : copies ≤ 255
  pub text_is : name ++ (32 ∷ (decimal size ++ (32 ∷ (class_word class ++ (32 ∷ decimal copies))))) ≡ text

pub alloc_parts : (text : List ℕ) (w : What) → IsBehind (codes "alloc") text w → AllocParts text w
alloc_parts text (Alloc name size class copies) b =
    record {
      name = name;
      size = size;
      class = class;
      copies = copies;
      same = refl;
      is_name = b.what.0;
      fits = b.what.1.0;
      few = b.what.1.1;
      text_is = append_cancel_left (codes "alloc ") _ _ b.text_is;
    }
alloc_parts text w b = absurd (omega (arith, ap (λ l. get_or l 0 0) b.text_is, ap (λ l. get_or l 1 0) b.text_is, ap (λ l. get_or l 4 0) b.text_is))

pub free_name : (text : List ℕ) (w : What) → IsBehind (codes "free") text w → (w ≡ Free text) × IsName text
free_name text (Free name) b = let e : name ≡ text = append_cancel_left (codes "free ") name text b.text_is in (ap Free e, subst IsName e b.what)
free_name text w b = absurd (omega (arith, ap (λ l. get_or l 0 0) b.text_is, ap (λ l. get_or l 1 0) b.text_is, ap (λ l. get_or l 4 0) b.text_is))

pub record SegParts (text : List ℕ) (w : What) : Type 0 where
  pub vdev : ℕ
  pub offset : ℕ
  pub size : ℕ
  pub same : w ≡ FreeSeg vdev offset size
  pub low : vdev ≤ 255
  pub fits : offset < 2 ^ 63
  pub also_fits : size < 2 ^ 63
  pub text_is : decimal vdev ++ (32 ∷ (decimal offset ++ (32 ∷ decimal size))) ≡ text

pub seg_parts : (text : List ℕ) (w : What) → IsBehind (codes "freeseg") text w → SegParts text w
seg_parts text (FreeSeg vdev offset size) b =
    record {
      vdev = vdev;
      offset = offset;
      size = size;
      same = refl;
      low = b.what.0;
      fits = b.what.1.0;
      also_fits = b.what.1.1;
      text_is = append_cancel_left (codes "freeseg ") _ _ b.text_is;
    }
seg_parts text w b = absurd (omega (arith, ap (λ l. get_or l 0 0) b.text_is, ap (λ l. get_or l 1 0) b.text_is, ap (λ l. get_or l 4 0) b.text_is))

-- a metaslab's place
pub record PlaceParts (make : ℕ → ℕ → What) (text : List ℕ) (w : What) : Type 0 where
  pub vdev : ℕ
  pub index : ℕ
  pub same : w ≡ make vdev index
  pub numbers : AreNumbers text 255 65535 vdev index

pub load_parts : (text : List ℕ) (w : What) → IsBehind (codes "load") text w → PlaceParts Load text w
load_parts text (Load vdev index) b =
    record {
      vdev = vdev;
      index = index;
      same = refl;
      numbers = record { fits = b.what.0; also_fits = b.what.1; text_is = append_cancel_left (codes "load ") _ _ b.text_is };
    }
load_parts text w b = absurd (omega (arith, ap (λ l. get_or l 0 0) b.text_is, ap (λ l. get_or l 1 0) b.text_is, ap (λ l. get_or l 4 0) b.text_is))

pub unload_parts : (text : List ℕ) (w : What) → IsBehind (codes "unload") text w → PlaceParts Unload text w
unload_parts text (Unload vdev index) b =
    record {
      vdev = vdev;
      index = index;
      same = refl;
      numbers = record { fits = b.what.0; also_fits = b.what.1; text_is = append_cancel_left (codes "unload ") _ _ b.text_is };
    }
unload_parts text w b = absurd (omega (arith, ap (λ l. get_or l 0 0) b.text_is, ap (λ l. get_or l 1 0) b.text_is, ap (λ l. get_or l 4 0) b.text_is))

-- a vdev's number
pub record VdevParts (make : ℕ → What) (text : List ℕ) (w : What) : Type 0 where
  pub vdev : ℕ
  pub same : w ≡ make vdev
  pub low : vdev ≤ 255
  pub text_is : decimal vdev ≡ text

pub init_parts : (text : List ℕ) (w : What) → IsBehind (codes "init") text w → VdevParts Init text w
init_parts text (Init vdev) b = record { vdev = vdev; same = refl; low = b.what; text_is = append_cancel_left (codes "init ") _ _ b.text_is }
init_parts text w b = absurd (omega (arith, ap (λ l. get_or l 0 0) b.text_is, ap (λ l. get_or l 1 0) b.text_is, ap (λ l. get_or l 4 0) b.text_is))

pub trim_parts : (text : List ℕ) (w : What) → IsBehind (codes "trim") text w → VdevParts Trim text w
trim_parts text (Trim vdev) b = record { vdev = vdev; same = refl; low = b.what; text_is = append_cancel_left (codes "trim ") _ _ b.text_is }
trim_parts text w b = absurd (omega (arith, ap (λ l. get_or l 0 0) b.text_is, ap (λ l. get_or l 1 0) b.text_is, ap (λ l. get_or l 4 0) b.text_is))

pub autotrim_parts : (text : List ℕ) (w : What) → IsBehind (codes "autotrim") text w → VdevParts AutoTrim text w
autotrim_parts text (AutoTrim vdev) b = record { vdev = vdev; same = refl; low = b.what; text_is = append_cancel_left (codes "autotrim ") _ _ b.text_is }
autotrim_parts text w b = absurd (omega (arith, ap (λ l. get_or l 0 0) b.text_is, ap (λ l. get_or l 1 0) b.text_is, ap (λ l. get_or l 4 0) b.text_is))

-- an alloc's fields, one after another

pub alloc_second : (text name rest : List ℕ) (w : What) → (p : AllocParts text w) → name ++ (32 ∷ rest) ≡ text → Lacks 32 name
    → (p.name ≡ name) × ((decimal p.size ++ (32 ∷ (class_word p.class ++ (32 ∷ decimal p.copies)))) ≡ rest)
alloc_second text name rest w p cut lacks = cut_once 32 p.name _ name rest (name_lacks 32 refl p.name p.is_name) lacks (p.text_is ∙ sym cut)

pub alloc_third : (text name rest size last : List ℕ) (w : What) → (p : AllocParts text w) → name ++ (32 ∷ rest) ≡ text → Lacks 32 name
    → size ++ (32 ∷ last) ≡ rest → Lacks 32 size → (decimal p.size ≡ size) × ((class_word p.class ++ (32 ∷ decimal p.copies)) ≡ last)
alloc_third text name rest size last w p cut lacks cut' lacks' =
    cut_once 32 (decimal p.size) _ size last (decimal_lacks 32 p.size (omega arith) (omega (arith, p.fits))) lacks' ((alloc_second text name rest w p cut lacks).1 ∙ sym cut')

pub no_second : (text name rest : List ℕ) (w : What) → IsBehind (codes "alloc") text w → name ++ (32 ∷ rest) ≡ text → Lacks 32 name → Lacks 32 rest → ⊥
no_second text name rest w b cut lacks none =
    let p : AllocParts text w = alloc_parts text w b in
    lacks_no_cut 32 (decimal p.size) _ rest none (alloc_second text name rest w p cut lacks).1

pub no_third : (text name rest size last : List ℕ) (w : What) → IsBehind (codes "alloc") text w → name ++ (32 ∷ rest) ≡ text → Lacks 32 name
    → size ++ (32 ∷ last) ≡ rest → Lacks 32 size → Lacks 32 last → ⊥
no_third text name rest size last w b cut lacks cut' lacks' none =
    let p : AllocParts text w = alloc_parts text w b in
    lacks_no_cut 32 (class_word p.class) (decimal p.copies) last none (alloc_third text name rest size last w p cut lacks cut' lacks').1

-- each of the four fields as it was cut
pub record AllocFields (name size class copies : List ℕ) : Type 0 where
  pub number : ℕ
  pub kind : Class
  pub count : ℕ
  pub is_name : IsName name
  pub fits : number < 2 ^ 63
  pub few : count ≤ 255
  pub size_is : decimal number ≡ size
  pub class_is : class_word kind ≡ class
  pub copies_is : decimal count ≡ copies

pub alloc_fields : (text name rest size last class copies : List ℕ) (w : What) → IsBehind (codes "alloc") text w → name ++ (32 ∷ rest) ≡ text → Lacks 32 name
    → size ++ (32 ∷ last) ≡ rest → Lacks 32 size → class ++ (32 ∷ copies) ≡ last → Lacks 32 class → AllocFields name size class copies
alloc_fields text name rest size last class copies w b cut lacks cut' lacks' cut'' lacks'' =
    let p : AllocParts text w = alloc_parts text w b in
    let third : (decimal p.size ≡ size) × ((class_word p.class ++ (32 ∷ decimal p.copies)) ≡ last) = alloc_third text name rest size last w p cut lacks cut' lacks' in
    let fourth : (class_word p.class ≡ class) × (decimal p.copies ≡ copies) =
    cut_once 32 (class_word p.class) (decimal p.copies) class copies (class_lacks p.class) lacks'' (third.1 ∙ sym cut'') in
    record {
      number = p.size;
      kind = p.class;
      count = p.copies;
      is_name = subst IsName (alloc_second text name rest w p cut lacks).0 p.is_name;
      fits = p.fits;
      few = p.few;
      size_is = third.0;
      class_is = fourth.0;
      copies_is = fourth.1;
    }

-- those of a freeseg
pub seg_second : (text vdev rest : List ℕ) (w : What) → (p : SegParts text w) → vdev ++ (32 ∷ rest) ≡ text → Lacks 32 vdev
    → (decimal p.vdev ≡ vdev) × AreNumbers rest 9223372036854775807 9223372036854775807 p.offset p.size
seg_second text vdev rest w p cut lacks =
    let both : (decimal p.vdev ≡ vdev) × ((decimal p.offset ++ (32 ∷ decimal p.size)) ≡ rest) =
    cut_once 32 (decimal p.vdev) _ vdev rest (decimal_lacks 32 p.vdev (omega arith) (omega (arith, p.low))) lacks (p.text_is ∙ sym cut) in
    (both.0, record { fits = omega (arith, p.fits); also_fits = omega (arith, p.also_fits); text_is = both.1 })

-- a line by its first field

pub lane_lacks : (c : Command) → IsCommand c → Lacks 32 (decimal c.lane)
lane_lacks c is = decimal_lacks 32 c.lane (omega arith) (omega (arith, is.last))

pub line_cut : (c : Command) → line_text c ≡ decimal c.lane ++ (32 ∷ what_text c.what)
line_cut c = at c.what where
  at : (w : What) → spaced (decimal c.lane ∷ what_fields w) ≡ decimal c.lane ++ (32 ∷ what_text w)
  at (Alloc name size class copies) = refl
  at (Free name) = refl
  at (FreeSeg vdev offset size) = refl
  at Sync = refl
  at (Load vdev index) = refl
  at (Unload vdev index) = refl
  at (Init vdev) = refl
  at (Trim vdev) = refl
  at (AutoTrim vdev) = refl

-- what a line that is not passed over has in front of its first space, and behind it
pub data Headed (n : ℕ) (first rest : List ℕ) (r : Reading) : Type 0 where
  by_lane : (c : Command) → r ≡ Asked c → IsCommand c → decimal c.lane ≡ first → what_text c.what ≡ rest → c.line ≡ n → Headed n first rest r
  by_make : (m : Make) → r ≡ Made m → IsMake m → codes "make" ≡ first → AreNumbers rest 4294967295 200000 m.number m.count → m.line ≡ n → Headed n first rest r

pub headed : (n : ℕ) (line first rest : List ℕ) (r : Reading) → Says n line r → (IsPassedOver line → ⊥) → first ++ (32 ∷ rest) ≡ line → Lacks 32 first → Headed n first rest r
headed n line first rest Passed says not_passed cut lacks = absurd (not_passed says)
headed n line first rest (Asked c) says not_passed cut lacks =
    let both : (decimal c.lane ≡ first) × (what_text c.what ≡ rest) =
    cut_once 32 (decimal c.lane) (what_text c.what) first rest (lane_lacks c says.0) lacks (sym (line_cut c) ∙ says.1.0 ∙ sym cut) in
    by_lane c refl says.0 both.0 both.1 says.1.1
headed n line first rest (Made m) says not_passed cut lacks =
    let both : (codes "make" ≡ first) × ((decimal m.number ++ (32 ∷ decimal m.count)) ≡ rest) =
    cut_once 32 (codes "make") _ first rest refl lacks (says.1.0 ∙ sym cut) in
    by_make m refl says.0 both.0 (record { fits = says.0.number; also_fits = says.0.few; text_is = both.1 }) says.1.1

pub headless : (n : ℕ) (line : List ℕ) (r : Reading) → Says n line r → (IsPassedOver line → ⊥) → Lacks 32 line → ⊥
headless n line Passed says not_passed none = not_passed says
headless n line (Asked c) says not_passed none = lacks_no_cut 32 (decimal c.lane) (what_text c.what) line none (sym (line_cut c) ∙ says.1.0)
headless n line (Made m) says not_passed none = lacks_no_cut 32 (codes "make") (decimal m.number ++ (32 ∷ decimal m.count)) line none says.1.0

pub lane_no_make : (c : Command) (first : List ℕ) → IsCommand c → decimal c.lane ≡ first → codes "make" ≡ first → ⊥
lane_no_make c first is one two = lacks_no_letter (decimal_lacks_letter c.lane (omega (arith, is.last))) where
  decimal_lacks_letter : (n : ℕ) → n < 2 ^ 64 → list_all is_digit (decimal n) ≡ true
  decimal_lacks_letter n fits = (decimal_plain n fits).digits_only

  lacks_no_letter : list_all is_digit (decimal c.lane) ≡ true → ⊥
  lacks_no_letter all = let other : list_all is_digit (codes "make") ≡ true = subst (λ ds. list_all is_digit ds ≡ true) (one ∙ sym two) all in cc

-- no make line, or no command, that begins so

pub no_make : (n : ℕ) (first rest : List ℕ) (r : Reading) → Headed n first rest r → first ≡ codes "make"
    → ((number count : ℕ) → 1 ≤ count → AreNumbers rest 4294967295 200000 number count → ⊥) → ⊥
no_make n first rest r (by_lane c e is one two line) word none = lane_no_make c first is one (sym word)
no_make n first rest r (by_make m e is one two line) word none = none m.number m.count is.some two

pub no_lane : (n : ℕ) (first rest : List ℕ) (r : Reading) → Headed n first rest r → (codes "make" ≡ first → ⊥)
    → ((lane : ℕ) (w : What) → 1 ≤ lane → lane ≤ 16 → IsWhat w → decimal lane ≡ first → what_text w ≡ rest → ⊥) → ⊥
no_lane n first rest r (by_lane c e is one two line) word none = none c.lane c.what is.first is.last is.what one two
no_lane n first rest r (by_make m e is one two line) word none = word one
