-- The lines before one that can't be run, and that a text is not both a file that can be run and one with a first bad line.
use Rattle.std.proofs.Common.{Option, Some, None, ◌≡◌, ℕ, zero, suc, ◌+◌, ◌≤◌, ◌<◌, List, [], ◌∷◌, ◌++◌, length, get_or, refl, sym, ◌∙◌, ap, subst, append_assoc, length-append, arith, inl, inr}
use Rattle.std.specs.Prelude.{slice_get, IfNone, IfSome, Result, Err}
use Rattle.std.specs.List.{All}
use Rattle.std.proofs.lemmas.Grind.{flat_map-append}
use Rattle.std.proofs.lemmas.List.{append-nil}
use Rattle.std.proofs.lemmas.Option.{slice_get_within}
use Rattle.cmd_text.specs.Grammar.{Reading, IsLine, AreLines, asked, made, commands_of, makes_of}
use Rattle.cmd_text.specs.Grammar.Reading.{Passed, Asked, Made}
use Rattle.cmd_text.specs.Files.{lines_of, StandsAlone, AreGood, make_list, IsFile as IsText, Stops}
use Rattle.cmd_text.specs.declared.script.Command.{Command}
use Rattle.cmd_text.specs.declared.script.Make.{Make}
use Rattle.cmd_text.specs.declared.script.Script.{Script}
use Rattle.cmd_text.specs.declared.script.TextFault.{TextFault}
use Rattle.cmd_text.specs.declared.script.TextFault.TheVariants.{Bad}
use Rattle.cmd_text.proofs.Lists.{slice_get_left, slice_get_end}
use Rattle.cmd_text.proofs.Once.{lines_once}
use Rattle.cmd_text.proofs.TextLines.{commands_push, makes_push, lines_push, Parted, parted}
use Rattle.cmd_text.proofs.FileLemmas.{good_before}
use Rattle.zms_top.specs.Script.{IsCommand, AreBuiltBelow, AreBuilt, IsFile, IsFirstBad, IsFirstUnbuilt}

-- what stands at places, and what holds of all

get_all : (commands : List Command) → AreBuiltBelow commands (length commands) → All IsCommand commands
get_all commands each = λ k d lt. from commands k d lt (λ c e. each k c lt e) where
  from : (xs : List Command) (k : ℕ) (d : Command) → k < length xs → ((c : Command) → slice_get xs k ≡ Some c → IsCommand c) → IsCommand (get_or xs k d)
  from [] k d lt is = absurd (omega arith)
  from (x ∷ xs) zero d lt is = is x refl
  from (x ∷ xs) (suc k) d lt is = from xs k d (omega arith) is

all_get : (xs : List Command) → All IsCommand xs → AreBuiltBelow xs (length xs)
all_get xs all = λ k c lt e. from xs k c e (all k c lt) where
  from : (ys : List Command) (k : ℕ) (c : Command) → slice_get ys k ≡ Some c → IsCommand (get_or ys k c) → IsCommand c
  from [] k c e is = cc
  from (y ∷ ys) zero c e is = let same : y ≡ c = cc in subst IsCommand same is
  from (y ∷ ys) (suc k) c e is = from ys k c e is

-- what can be run before something that can

built_before : (xs ys : List Command) (ms ns : List Make) → AreBuilt (xs ++ ys) (ms ++ ns) → AreBuilt xs ms
built_before xs ys ms ns are =
    record {
      each = λ k c lt e. are.each k c (omega (arith, length-append xs ys)) (slice_get_left xs ys k c e);
      no_make = first ms are.no_make;
    }
  where
    first : (ks : List Make) → ks ++ ns ≡ [] → ks ≡ []
    first [] e = refl
    first (k ∷ ks) e = cc

-- a reading in its place

-- the line of a reading, and those before it
record Placed (n : ℕ) (ls : List (List ℕ)) (front : List Reading) (r : Reading) : Type 0 where
  pub before : List (List ℕ)
  pub line : List ℕ
  pub after : List (List ℕ)
  pub whole : ls ≡ before ++ (line ∷ after)
  pub read : AreLines n before front
  pub is_line : IsLine (n + length before) line r

placed_next : (n : ℕ) (l : List ℕ) (ls : List (List ℕ)) (s : Reading) (front : List Reading) (r : Reading) → IsLine n l s → Placed (n + 1) ls front r → Placed n (l ∷ ls) (s ∷ front) r
placed_next n l ls s front r is p =
    let at : n + 1 + length p.before ≡ n + length (l ∷ p.before) = omega arith in
    record {
      before = l ∷ p.before;
      line = p.line;
      after = p.after;
      whole = ap (λ t. l ∷ t) p.whole;
      read = (is, p.read);
      is_line = subst (λ k. IsLine k p.line r) at p.is_line;
    }

placed : (n : ℕ) (ls : List (List ℕ)) (front : List Reading) (r : Reading) (back : List Reading) → AreLines n ls (front ++ (r ∷ back)) → Placed n ls front r
placed n [] [] r back are = absurd are
placed n [] (s ∷ front) r back are = absurd are
placed n (l ∷ ls) [] r back are =
    let at : n ≡ n + length {A = List ℕ} [] = omega arith in
    record { before = []; line = l; after = ls; whole = refl; read = tt; is_line = subst (λ k. IsLine k l r) at are.0 }
placed n (l ∷ ls) (s ∷ front) r back are = placed_next n l ls s front r are.0 (placed (n + 1) ls front r back are.1)

-- lines before a reading that can't be run end in a first bad line
pub stops : (text : List ℕ) (ls rest : List (List ℕ)) (front : List Reading) (r : Reading) (back : List Reading) (line : ℕ) → ls ++ rest ≡ lines_of text → AreGood text ls (front ++ (r ∷ back))
    → AreBuilt (commands_of front) (makes_of front) → (AreBuilt (commands_of (front ++ (r ∷ []))) (makes_of (front ++ (r ∷ []))) → ⊥)
    → ((n : ℕ) (l : List ℕ) → IsLine n l r → line ≡ n) → IsFirstBad text line
stops text ls rest front r back line split good built unbuilt at =
    let p : Placed 1 ls front r = placed 1 ls front r back good.read in
    let before : (rs : List Reading) × AreGood text p.before rs = good_before text p.before (p.line ∷ p.after) (front ++ (r ∷ back)) (subst (λ l. AreGood text l (front ++ (r ∷ back))) p.whole good) in
    let same : before.0 ≡ front = lines_once 1 p.before before.0 front before.1.read p.read in
    let all : AreLines 1 (p.before ++ (p.line ∷ [])) (front ++ (r ∷ [])) = lines_push 1 p.before front p.line r p.read p.is_line in
    record {
      front = p.before;
      line = p.line;
      back = p.after ++ rest;
      split = sym (append_assoc p.before (p.line ∷ p.after) rest) ∙ ap (λ l. l ++ rest) (sym p.whole) ∙ split;
      numbered = at (1 + length p.before) p.line p.is_line ∙ omega arith;
      readings = front;
      good = record { good = subst (AreGood text p.before) same before.1; built = built };
      bad = λ more with_it.
          let one : more ≡ front ++ (r ∷ []) = lines_once 1 (p.before ++ (p.line ∷ [])) more (front ++ (r ∷ [])) with_it.good.read all in
          unbuilt (subst (λ rs. AreBuilt (commands_of rs) (makes_of rs)) one with_it.built);
    }

-- a command in its reading
record FoundCommand (rs : List Reading) (place : ℕ) (c : Command) : Type 0 where
  pub front : List Reading
  pub back : List Reading
  pub whole : rs ≡ front ++ (Asked c ∷ back)
  pub place_is : length (commands_of front) ≡ place

found_next : (r : Reading) (rs : List Reading) (k : ℕ) (c : Command) → FoundCommand rs k c → FoundCommand (r ∷ rs) (length (asked r) + k) c
found_next r rs k c f =
    record {
      front = r ∷ f.front;
      back = f.back;
      whole = ap (λ t. r ∷ t) f.whole;
      place_is = length-append (asked r) (commands_of f.front) ∙ ap (λ n. length (asked r) + n) f.place_is;
    }

find_command : (rs : List Reading) (k : ℕ) (c : Command) → slice_get (commands_of rs) k ≡ Some c → FoundCommand rs k c
find_command [] k c e = cc
find_command (Passed ∷ rs) k c e = let same : 0 + k ≡ k = omega arith in subst (λ n. FoundCommand (Passed ∷ rs) n c) same (found_next Passed rs k c (find_command rs k c e))
find_command (Made m ∷ rs) k c e = let same : 0 + k ≡ k = omega arith in subst (λ n. FoundCommand (Made m ∷ rs) n c) same (found_next (Made m) rs k c (find_command rs k c e))
find_command (Asked d ∷ rs) zero c e =
    let same : d ≡ c = cc in
    record { front = []; back = rs; whole = ap (λ x. Asked x ∷ rs) same; place_is = refl }
find_command (Asked d ∷ rs) (suc k) c e = let same : 1 + k ≡ suc k = omega arith in subst (λ n. FoundCommand (Asked d ∷ rs) n c) same (found_next (Asked d) rs k c (find_command rs k c e))

-- a make line in its reading
record FoundMake (rs : List Reading) (m : Make) : Type 0 where
  pub front : List Reading
  pub back : List Reading
  pub whole : rs ≡ front ++ (Made m ∷ back)
  pub none : makes_of front ≡ []

find_make : (rs : List Reading) (m : Make) → makes_of rs ≡ m ∷ [] → FoundMake rs m
find_make [] m e = cc
find_make (Passed ∷ rs) m e =
    let f : FoundMake rs m = find_make rs m e in
    record { front = Passed ∷ f.front; back = f.back; whole = ap (λ t. Passed ∷ t) f.whole; none = f.none }
find_make (Asked c ∷ rs) m e =
    let f : FoundMake rs m = find_make rs m e in
    record { front = Asked c ∷ f.front; back = f.back; whole = ap (λ t. Asked c ∷ t) f.whole; none = f.none }
find_make (Made k ∷ rs) m e =
    let same : k ≡ m = cc in
    record { front = []; back = rs; whole = ap (λ x. Made x ∷ rs) same; none = refl }

makes_before : (ms ns : List Make) → ms ++ ns ≡ [] → ms ≡ []
makes_before [] ns e = refl
makes_before (m ∷ ms) ns e = cc

no_makes : (cs : List Command) (ms : List Make) → StandsAlone cs ms → 0 < length cs → ms ≡ []
no_makes cs ms (inl none) some = none
no_makes cs ms (inr both) some = absurd (let none : cs ≡ [] = both.0 in omega (arith, ap length none))

pub unbuilt_stops : (text : List ℕ) (ls rest : List (List ℕ)) (rs : List Reading) (commands : List Command) (line : ℕ) → ls ++ rest ≡ lines_of text → AreGood text ls rs
    → commands ≡ commands_of rs → IsFirstUnbuilt commands line → IsFirstBad text line
unbuilt_stops text ls rest rs commands line split good same un =
    let stands : slice_get (commands_of rs) un.place ≡ Some un.command = subst (λ cs. slice_get cs un.place ≡ Some un.command) same un.stands in
    let f : FoundCommand rs un.place un.command = find_command rs un.place un.command stands in
    let cs : commands_of rs ≡ commands_of f.front ++ commands_of (Asked un.command ∷ f.back) = ap commands_of f.whole ∙ flat_map-append asked f.front (Asked un.command ∷ f.back) in
    let ms : makes_of f.front ++ makes_of (Asked un.command ∷ f.back) ≡ [] =
    sym (ap makes_of f.whole ∙ flat_map-append made f.front (Asked un.command ∷ f.back))
    ∙ no_makes (commands_of rs) (makes_of rs) good.within.alone (omega (arith, slice_get_within (commands_of rs) un.place un.command stands)) in
    stops text ls rest f.front (Asked un.command) f.back line split (subst (AreGood text ls) f.whole good)
    (record {
      each = λ k c lt e.
          un.before k c (omega (arith, f.place_is))
          (subst (λ l. slice_get l k ≡ Some c) (sym (same ∙ cs)) (slice_get_left (commands_of f.front) (commands_of (Asked un.command ∷ f.back)) k c e));
      no_make = makes_before (makes_of f.front) _ ms;
    })
    (λ built.
    let last : slice_get (commands_of (f.front ++ (Asked un.command ∷ []))) (length (commands_of f.front)) ≡ Some un.command =
    ap (λ l. slice_get l (length (commands_of f.front))) (commands_push f.front (Asked un.command)) ∙ slice_get_end (commands_of f.front) un.command [] in
    un.unbuilt (built.each (length (commands_of f.front)) un.command (slice_get_within _ _ un.command last) last))
    (λ n l is. un.line_is ∙ is.says.1.1)

pub make_stops : (text : List ℕ) (ls rest : List (List ℕ)) (rs : List Reading) (m : Make) → ls ++ rest ≡ lines_of text → AreGood text ls rs
    → makes_of rs ≡ m ∷ [] → IsFirstBad text m.line
make_stops text ls rest rs m split good is =
    let f : FoundMake rs m = find_make rs m is in
    let cs : commands_of rs ≡ commands_of f.front ++ commands_of (Made m ∷ f.back) = ap commands_of f.whole ∙ flat_map-append asked f.front (Made m ∷ f.back) in
    let none : commands_of rs ≡ [] = alone good.within.alone in
    stops text ls rest f.front (Made m) f.back m.line split (subst (AreGood text ls) f.whole good)
    (record {
      each = λ k c lt e. absurd (omega (arith, ap length (sym cs ∙ none), length-append (commands_of f.front) (commands_of (Made m ∷ f.back))));
      no_make = f.none;
    })
    (λ built.
    omega (arith, ap length (sym (makes_push f.front (Made m)) ∙ built.no_make), length-append (makes_of f.front) (m ∷ [])))
    (λ n l line. line.says.1.1)
  where
    alone : StandsAlone (commands_of rs) (makes_of rs) → commands_of rs ≡ []
    alone (inl lacks) = absurd (let both : m ∷ [] ≡ [] = sym is ∙ lacks in cc)
    alone (inr both) = both.0

-- and so does a line outside the grammar, or past a limit, behind lines that can be run
pub bad_stops : (text : List ℕ) (script : Script) (line : ℕ) → Stops text script line → AreBuiltBelow script.commands (length script.commands) → script.make ≡ None → IsFirstBad text line
bad_stops text script line s each none =
    record {
      front = s.bad.front;
      line = s.bad.line;
      back = s.bad.back;
      split = s.bad.split;
      numbered = s.bad.numbered;
      readings = s.bad.readings;
      good = record {
        good = s.bad.good;
        built = record {
          each = subst (λ cs. AreBuiltBelow cs (length cs)) s.commands each;
          no_make = sym s.make ∙ ap make_list none;
        };
      };
      bad = λ more with_it. s.bad.bad more with_it.good;
    }

-- a file that can be run

pub runs : (text : List ℕ) (script : Script) → IsText text script → AreBuiltBelow script.commands (length script.commands) → script.make ≡ None → IsFile text script.commands
runs text script file each none =
    record {
      script = script;
      text_is = file;
      same = refl;
      no_make = none;
      are = record { each = get_all script.commands each; few = subst (λ cs. length cs ≤ 200000) (sym file.commands) file.good.within.few };
    }

pub file_not_bad : (text : List ℕ) (commands : List Command) (line : ℕ) → IsFile text commands → IsFirstBad text line → ⊥
file_not_bad text commands line file bad =
    let rs : List Reading = file.text_is.readings in
    let good : AreGood text ((bad.front ++ (bad.line ∷ [])) ++ bad.back) file.text_is.readings =
    subst (λ ls. AreGood text ls file.text_is.readings) (sym (append_assoc bad.front (bad.line ∷ []) bad.back ∙ bad.split)) file.text_is.good in
    let before : (ss : List Reading) × AreGood text (bad.front ++ (bad.line ∷ [])) ss = good_before text (bad.front ++ (bad.line ∷ [])) bad.back file.text_is.readings good in
    let p : Parted 1 (bad.front ++ (bad.line ∷ [])) bad.back file.text_is.readings = parted 1 (bad.front ++ (bad.line ∷ [])) bad.back file.text_is.readings good.read in
    let same : p.front ≡ before.0 = lines_once 1 (bad.front ++ (bad.line ∷ [])) p.front before.0 p.first before.1.read in
    let all : AreBuilt (commands_of file.text_is.readings) (makes_of file.text_is.readings) =
    record {
      each = subst (λ cs. AreBuiltBelow cs (length cs)) (sym file.same ∙ file.text_is.commands) (all_get commands file.are.each);
      no_make = sym file.text_is.make ∙ ap make_list file.no_make;
    } in
    let cs : commands_of file.text_is.readings ≡ commands_of p.front ++ commands_of p.back = ap commands_of p.whole ∙ flat_map-append asked p.front p.back in
    let ms : makes_of file.text_is.readings ≡ makes_of p.front ++ makes_of p.back = ap makes_of p.whole ∙ flat_map-append made p.front p.back in
    let front : AreBuilt (commands_of p.front) (makes_of p.front) =
    built_before (commands_of p.front) (commands_of p.back) (makes_of p.front) (makes_of p.back)
    (subst (λ l. AreBuilt l (makes_of p.front ++ makes_of p.back)) cs (subst (AreBuilt (commands_of file.text_is.readings)) ms all)) in
    bad.bad before.0 (record { good = before.1; built = subst (λ ss. AreBuilt (commands_of ss) (makes_of ss)) same front })

-- what was read up to a first bad line, or to the end

pub unbuilt_front : (text : List ℕ) (script : Script) (bad : Option ℕ) (line : ℕ) → IfNone bad (IsText text script) → IfSome bad (Stops text script)
    → IsFirstUnbuilt script.commands line → IsFirstBad text line
unbuilt_front text script None line file stop un = unbuilt_stops text (lines_of text) [] file.readings script.commands line (append-nil (lines_of text)) file.good file.commands un
unbuilt_front text script (Some n) line file stop un =
    unbuilt_stops text stop.bad.front (stop.bad.line ∷ stop.bad.back) stop.bad.readings script.commands line stop.bad.split stop.bad.good stop.commands un

pub make_front : (text : List ℕ) (script : Script) (bad : Option ℕ) (m : Make) → IfNone bad (IsText text script) → IfSome bad (Stops text script)
    → script.make ≡ Some m → IsFirstBad text m.line
make_front text script None m file stop is = make_stops text (lines_of text) [] file.readings m (append-nil (lines_of text)) file.good (sym file.make ∙ ap make_list is)
make_front text script (Some n) m file stop is =
    make_stops text stop.bad.front (stop.bad.line ∷ stop.bad.back) stop.bad.readings m stop.bad.split stop.bad.good (sym stop.make ∙ ap make_list is)

abbrev pub is_bad : ℕ → Result (List Command) TextFault
is_bad n = Err (Bad n)

pub bad_answer : (text : List ℕ) (n line : ℕ) → IsFirstBad text n → is_bad n ≡ is_bad line → IsFirstBad text line
bad_answer text n line bad is = let same : n ≡ line = cc in subst (IsFirstBad text) same bad

pub no_some : (o : Option Make) → ((m : Make) → o ≡ Some m → ⊥) → o ≡ None
no_some None none = refl
no_some (Some m) none = absurd (none m refl)
