-- A text is the file of at most one script, or has one first bad line, and never both; and what holds while it is read.
use Rattle.std.proofs.Common.{Option, Some, None, ◌≡◌, ℕ, ◌+◌, ◌≤◌, ◌<◌, List, [], ◌∷◌, ◌++◌, length, refl, sym, ◌∙◌, ap, subst, append_assoc, length-append, arith, ◌⊎◌, inl, inr}
use Rattle.std.specs.Prelude.{min, Result, Err, if◌then◌else◌}
use Rattle.std.specs.List.{count_by}
use Rattle.std.proofs.lemmas.Grind.{flat_map-append}
use Rattle.std.proofs.lemmas.List.{append-nil, nil_from_length}
use Rattle.std.proofs.lemmas.List.Sums.{sum_by-append}
use Rattle.cmd_text.specs.Grammar.{Reading, IsLine, AreLines, asked, made, commands_of, makes_of}
use Rattle.cmd_text.specs.Files.{lines_of, bytes_of, is_worker, StandsAlone, AreWithin, AreGood, make_list, lanes_of, IsFile, IsFirstBad, Stops}
use Rattle.cmd_text.specs.Reading.{IsFirstLine, IsReader, Takes, Keeps, Refuses}
use Rattle.cmd_text.specs.declared.reader.Reader.{Reader}
use Rattle.cmd_text.specs.declared.script.Command.{Command}
use Rattle.cmd_text.specs.declared.script.Make.{Make}
use Rattle.cmd_text.specs.declared.script.Script.{Script}
use Rattle.cmd_text.specs.declared.script.TextFault.{TextFault}
use Rattle.cmd_text.specs.declared.script.TextFault.TheVariants.{Bad, Memory}
use Rattle.cmd_text.proofs.Lists.{slice_get_left}
use Rattle.cmd_text.proofs.Once.{lines_once}
use Rattle.cmd_text.proofs.TextLines.{first_of_lines, first_line_bytes, bytes_append, bytes_one, commands_push, makes_push, lines_push, Parted, parted}

-- what stands before something good is good

alone_before : (xs ys : List Command) (ms ns : List Make) → StandsAlone (xs ++ ys) (ms ++ ns) → StandsAlone xs ms
alone_before xs ys [] ns alone = inl refl
alone_before xs ys (m ∷ ms) ns (inl none) = cc
alone_before [] ys (m ∷ ms) ns (inr both) = inr (refl, omega (arith, both.1, length-append (m ∷ ms) ns))
alone_before (x ∷ xs) ys (m ∷ ms) ns (inr both) = let none : x ∷ (xs ++ ys) ≡ [] = both.0 in cc

workers_before : (xs ys : List Command) → count_by is_worker xs ≤ count_by is_worker (xs ++ ys)
workers_before xs ys = omega (arith, sum_by-append (λ x. if is_worker x then 1 else 0) xs ys)

pub within_before : (xs ys : List Command) (ms ns : List Make) → AreWithin (xs ++ ys) (ms ++ ns) → AreWithin xs ms
within_before xs ys ms ns are =
    record {
      alone = alone_before xs ys ms ns are.alone;
      few = omega (arith, are.few, length-append xs ys);
      workers = omega (arith, are.workers, workers_before xs ys);
      apart = λ j k c d lt e f. are.apart j k c d lt (slice_get_left xs ys j c e) (slice_get_left xs ys k d f);
    }

pub good_before : (text : List ℕ) (ls ms : List (List ℕ)) (rs : List Reading) → AreGood text (ls ++ ms) rs → (front : List Reading) × AreGood text ls front
good_before text ls ms rs good =
    let p : Parted 1 ls ms rs = parted 1 ls ms rs good.read in
    let cs : commands_of rs ≡ commands_of p.front ++ commands_of p.back = ap commands_of p.whole ∙ flat_map-append asked p.front p.back in
    let ns : makes_of rs ≡ makes_of p.front ++ makes_of p.back = ap makes_of p.whole ∙ flat_map-append made p.front p.back in (
      p.front,
      record {
        read = p.first;
        near = omega (arith, good.near, bytes_append ls ms);
        within = within_before (commands_of p.front) (commands_of p.back) (makes_of p.front) (makes_of p.back)
            (subst (λ l. AreWithin l (makes_of p.front ++ makes_of p.back)) cs (subst (AreWithin (commands_of rs)) ns good.within));
      },
    )

-- a file has no first bad line

one_more : (front back : List (List ℕ)) (line : List ℕ) → (front ++ (line ∷ [])) ++ back ≡ front ++ (line ∷ back)
one_more front back line = append_assoc front (line ∷ []) back

pub file_not_bad : (text : List ℕ) (script : Script) (n : ℕ) → IsFile text script → IsFirstBad text n → ⊥
file_not_bad text script n file bad =
    let good : AreGood text ((bad.front ++ (bad.line ∷ [])) ++ bad.back) file.readings =
    subst (λ ls. AreGood text ls file.readings) (sym (one_more bad.front bad.back bad.line ∙ bad.split)) file.good in
    let before : (rs : List Reading) × AreGood text (bad.front ++ (bad.line ∷ [])) rs = good_before text (bad.front ++ (bad.line ∷ [])) bad.back file.readings good in
    bad.bad before.0 before.1

-- the first bad line is one number

-- of two fronts of one list they are one, or one goes past the line behind the other
data Fronts (f : List (List ℕ)) (x : List ℕ) (g : List (List ℕ)) (y : List ℕ) : Type 0 where
  same : length f ≡ length g → Fronts f x g y
  longer : (more : List (List ℕ)) → g ≡ (f ++ (x ∷ [])) ++ more → Fronts f x g y
  shorter : (more : List (List ℕ)) → f ≡ (g ++ (y ∷ [])) ++ more → Fronts f x g y

fronts_next : (l m : List ℕ) (f : List (List ℕ)) (x : List ℕ) (g : List (List ℕ)) (y : List ℕ) → l ≡ m → Fronts f x g y → Fronts (l ∷ f) x (m ∷ g) y
fronts_next l m f x g y e (same n) = same (omega (arith, n))
fronts_next l m f x g y e (longer more h) = longer more (cc)
fronts_next l m f x g y e (shorter more h) = shorter more (cc)

fronts : (f : List (List ℕ)) (x : List ℕ) (b : List (List ℕ)) (g : List (List ℕ)) (y : List ℕ) (c : List (List ℕ)) → f ++ (x ∷ b) ≡ g ++ (y ∷ c) → Fronts f x g y
fronts [] x b [] y c e = same refl
fronts [] x b (m ∷ g) y c e = longer g (cc)
fronts (l ∷ f) x b [] y c e = shorter f (cc)
fronts (l ∷ f) x b (m ∷ g) y c e = fronts_next l m f x g y (cc) (fronts f x b g y c (cc))

goes_past : (text : List ℕ) (m n : ℕ) (one : IsFirstBad text m) (two : IsFirstBad text n) (more : List (List ℕ)) → two.front ≡ (one.front ++ (one.line ∷ [])) ++ more → ⊥
goes_past text m n one two more e =
    let good : AreGood text ((one.front ++ (one.line ∷ [])) ++ more) two.readings = subst (λ ls. AreGood text ls two.readings) e two.good in
    let before : (rs : List Reading) × AreGood text (one.front ++ (one.line ∷ [])) rs = good_before text (one.front ++ (one.line ∷ [])) more two.readings good in
    one.bad before.0 before.1

pub bad_once : (text : List ℕ) (m n : ℕ) → IsFirstBad text m → IsFirstBad text n → m ≡ n
bad_once text m n one two = at (fronts one.front one.line one.back two.front two.line two.back (one.split ∙ sym two.split)) where
  at : Fronts one.front one.line two.front two.line → m ≡ n
  at (same e) = omega (arith, one.numbered, two.numbered, e)
  at (longer more e) = absurd (goes_past text m n one two more e)
  at (shorter more e) = absurd (goes_past text n m two one more e)

-- a file has one script

same_list : (a b : Option Make) → make_list a ≡ make_list b → a ≡ b
same_list None None e = refl
same_list None (Some m) e = cc
same_list (Some m) None e = cc
same_list (Some m) (Some n) e = cc

same_script : (a b : ℕ) (c d : List Command) (m n : Option Make) → a ≡ b → c ≡ d → m ≡ n
    → (let s : Script = record { lanes = a; commands = c; make = m } in s) ≡ (let t : Script = record { lanes = b; commands = d; make = n } in t)
same_script a b c d m n e f g = cc

pub script_once : (text : List ℕ) (s t : Script) → IsFile text s → IsFile text t → s ≡ t
script_once text s t one two =
    let rs : one.readings ≡ two.readings = lines_once 1 (lines_of text) one.readings two.readings one.good.read two.good.read in
    let cs : s.commands ≡ t.commands = one.commands ∙ ap commands_of rs ∙ sym two.commands in
    let ms : s.make ≡ t.make = same_list s.make t.make (one.make ∙ ap makes_of rs ∙ sym two.make) in
    same_script s.lanes t.lanes s.commands t.commands s.make t.make (one.lanes ∙ ap (λ c. lanes_of c s.make) cs ∙ ap (lanes_of t.commands) ms ∙ sym two.lanes) cs ms

-- what was read so far

pub record SoFar (text rest : List ℕ) (number : ℕ) (reader : Reader) : Type 0 where
  pub front : List (List ℕ)
  pub readings : List Reading
  pub split : front ++ lines_of rest ≡ lines_of text
  pub numbered : number ≡ length front
  pub bytes : min (bytes_of front) (length text) + length rest ≡ length text
  pub near : length text ≤ 16777216 + length rest
  pub room : number + length rest ≤ length text
  pub read : AreLines 1 front readings
  pub commands : reader.commands.items ≡ commands_of readings
  pub makes : make_list reader.make ≡ makes_of readings
  pub is : IsReader reader

pub so_far_none : (text : List ℕ) (reader : Reader) → IsReader reader → reader.commands.items ≡ [] → reader.make ≡ None → SoFar text text 0 reader
so_far_none text reader is empty none =
    record {
      front = [];
      readings = [];
      split = refl;
      numbered = refl;
      bytes = omega arith;
      near = omega arith;
      room = omega arith;
      read = tt;
      commands = empty;
      makes = ap make_list none;
      is = is;
    }

so_far_within : (text rest : List ℕ) (number : ℕ) (reader : Reader) (so : SoFar text rest number reader) → AreWithin (commands_of so.readings) (makes_of so.readings)
so_far_within text rest number reader so =
    subst (AreWithin (commands_of so.readings)) so.makes (subst (λ l. AreWithin l (make_list reader.make)) so.commands so.is.within)

so_far_good : (text rest : List ℕ) (number : ℕ) (reader : Reader) (so : SoFar text rest number reader) → AreGood text so.front so.readings
so_far_good text rest number reader so =
    record { read = so.read; near = omega (arith, so.bytes, so.near); within = so_far_within text rest number reader so }

-- the bytes of a line more
bytes_push : (text rest line next : List ℕ) (number : ℕ) (reader : Reader) (so : SoFar text rest number reader) → 0 < length rest → IsFirstLine rest line next
    → min (bytes_of (so.front ++ (line ∷ []))) (length text) + length next ≡ length text
bytes_push text rest line next number reader so some first = at (first_line_bytes rest line next first) where
  at : (length line + 1 + length next ≡ length rest) ⊎ ((length line ≡ length rest) × (length next ≡ 0)) → min (bytes_of (so.front ++ (line ∷ []))) (length text) + length next ≡ length text
  at (inl e) = omega (arith, e, so.bytes, bytes_append so.front (line ∷ []), bytes_one line)
  at (inr both) = omega (arith, both.0, both.1, so.bytes, bytes_append so.front (line ∷ []), bytes_one line)

split_push : (text rest line next : List ℕ) (number : ℕ) (reader : Reader) (so : SoFar text rest number reader) → 0 < length rest → IsFirstLine rest line next
    → so.front ++ (line ∷ lines_of next) ≡ lines_of text
split_push text rest line next number reader so some first =
    ap (λ l. so.front ++ l) (sym (first_of_lines rest line next some first)) ∙ so.split

room_push : (rest line next : List ℕ) → 0 < length rest → IsFirstLine rest line next → 1 + length next ≤ length rest
room_push rest line next some first = at (first_line_bytes rest line next first) where
  at : (length line + 1 + length next ≡ length rest) ⊎ ((length line ≡ length rest) × (length next ≡ 0)) → 1 + length next ≤ length rest
  at (inl e) = omega (arith, e)
  at (inr both) = omega (arith, both.1)

pub so_far_push : (text rest line next : List ℕ) (number : ℕ) (old new : Reader) → SoFar text rest number old → 0 < length rest → IsFirstLine rest line next
    → length text ≤ 16777216 + length next → Takes old new (number + 1) line → SoFar text next (number + 1) new
so_far_push text rest line next number old new so some first near takes =
    let at : number + 1 ≡ 1 + length so.front = omega (arith, so.numbered) in
    record {
      front = so.front ++ (line ∷ []);
      readings = so.readings ++ (takes.reading ∷ []);
      split = one_more so.front (lines_of next) line ∙ split_push text rest line next number old so some first;
      numbered = omega (arith, so.numbered, length-append so.front (line ∷ []));
      bytes = bytes_push text rest line next number old so some first;
      near = near;
      room = omega (arith, so.room, room_push rest line next some first);
      read = lines_push 1 so.front so.readings line takes.reading so.read (subst (λ k. IsLine k line takes.reading) at takes.is_line);
      commands = takes.adds.commands ∙ ap (λ l. l ++ asked takes.reading) so.commands ∙ sym (commands_push so.readings takes.reading);
      makes = takes.adds.makes ∙ ap (λ l. l ++ made takes.reading) so.makes ∙ sym (makes_push so.readings takes.reading);
      is = takes.adds.is;
    }

-- a bad line, and the script of those before it

pub stops_at : (text rest line next : List ℕ) (number : ℕ) (old new : Reader) (script : Script) (so : SoFar text rest number old) → 0 < length rest → IsFirstLine rest line next
    → ((more : List Reading) → AreGood text (so.front ++ (line ∷ [])) more → ⊥) → Keeps old new
    → script.commands ≡ new.commands.items → script.make ≡ new.make → script.lanes ≡ lanes_of new.commands.items new.make → Stops text script (number + 1)
stops_at text rest line next number old new script so some first refused keeps commands make lanes =
    record {
      bad = record {
        front = so.front;
        line = line;
        back = lines_of next;
        split = split_push text rest line next number old so some first;
        numbered = ap (λ n. n + 1) so.numbered;
        readings = so.readings;
        good = so_far_good text rest number old so;
        bad = refused;
      };
      commands = commands ∙ keeps.commands ∙ so.commands;
      make = ap make_list (make ∙ keeps.make) ∙ so.makes;
      lanes = lanes ∙ ap (λ c. lanes_of c new.make) (sym commands) ∙ ap (lanes_of script.commands) (sym make);
    }

-- it passes the limit of bytes
pub past_limit : (text rest line next : List ℕ) (number : ℕ) (reader : Reader) (so : SoFar text rest number reader) → 0 < length rest → IsFirstLine rest line next
    → 16777216 + length next < length text → (more : List Reading) → AreGood text (so.front ++ (line ∷ [])) more → ⊥
past_limit text rest line next number reader so some first long more good =
    omega (arith, good.near, bytes_push text rest line next number reader so some first)

-- or says nothing that may be said next
pub past_saying : (text rest line : List ℕ) (number : ℕ) (reader : Reader) (so : SoFar text rest number reader)
    → Refuses reader (number + 1) line → (more : List Reading) → AreGood text (so.front ++ (line ∷ [])) more → ⊥
past_saying text rest line number reader so refuses more good = none (parted 1 so.front (line ∷ []) more good.read)
  where
    at_end : (front back : List Reading) → AreLines (1 + length so.front) (line ∷ []) back → AreLines 1 so.front front → AreWithin (commands_of (front ++ back)) (makes_of (front ++ back)) → ⊥
    at_end front [] last read within = absurd last
    at_end front (r ∷ (s ∷ back)) last read within = absurd last.1
    at_end front (r ∷ []) last read within =
        let same : front ≡ so.readings = lines_once 1 so.front front so.readings read so.read in
        let at : 1 + length so.front ≡ number + 1 = omega (arith, so.numbered) in
        let cs : commands_of (front ++ (r ∷ [])) ≡ reader.commands.items ++ asked r = ap (λ l. commands_of (l ++ (r ∷ []))) same ∙ commands_push so.readings r ∙ ap (λ l. l ++ asked r) (sym so.commands) in
        let ms : makes_of (front ++ (r ∷ [])) ≡ make_list reader.make ++ made r = ap (λ l. makes_of (l ++ (r ∷ []))) same ∙ makes_push so.readings r ∙ ap (λ l. l ++ made r) (sym so.makes) in
        refuses r (subst (λ k. IsLine k line r) at last.0)
        (subst (AreWithin (reader.commands.items ++ asked r)) ms (subst (λ l. AreWithin l (makes_of (front ++ (r ∷ [])))) cs within))

    none : Parted 1 so.front (line ∷ []) more → ⊥
    none p =
        at_end p.front p.back p.last p.first (subst (λ l. AreWithin (commands_of l) (makes_of l)) p.whole good.within)

-- the end

pub file_read : (text rest : List ℕ) (number : ℕ) (reader : Reader) (script : Script) → SoFar text rest number reader → length rest ≡ 0
    → script.commands ≡ reader.commands.items → script.make ≡ reader.make → script.lanes ≡ lanes_of reader.commands.items reader.make → IsFile text script
file_read text rest number reader script so empty commands make lanes =
    let none : rest ≡ [] = nil_from_length rest empty in
    let whole : so.front ≡ lines_of text = sym (append-nil so.front) ∙ ap (λ l. so.front ++ lines_of l) (sym none) ∙ so.split in
    record {
      readings = so.readings;
      good = subst (λ ls. AreGood text ls so.readings) whole (so_far_good text rest number reader so);
      commands = commands ∙ so.commands;
      make = ap make_list make ∙ so.makes;
      lanes = lanes ∙ ap (λ c. lanes_of c reader.make) (sym commands) ∙ ap (lanes_of script.commands) (sym make);
    }

-- what a first bad line answers

abbrev pub is_bad : ℕ → Result Script TextFault
is_bad n = Err (Bad n)

abbrev pub is_memory : Result Script TextFault
is_memory = Err Memory

pub bad_only : (text : List ℕ) (n line : ℕ) → IsFirstBad text n → IsFirstBad text line → (is_bad n ≡ is_bad line) ⊎ (is_bad n ≡ is_memory)
bad_only text n line bad other = inl (ap is_bad (bad_once text n line bad other))
