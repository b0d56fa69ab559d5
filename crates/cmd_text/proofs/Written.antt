-- A script that was read, written out again, is read as this script.
use Rattle.std.proofs.Common.{◌≡◌, ℕ, zero, suc, ◌+◌, ◌-◌, ◌≤◌, ◌<◌, Bool, true, false, List, [], ◌∷◌, ◌++◌, length, refl, sym, ◌∙◌, ap, subst, length-append, arith, ◌⊎◌, inl, inr}
use Rattle.std.proofs.lemmas.Bool.{eqb-true}
use Rattle.std.specs.Prelude.{map, min, replicate, ◌==◌, ◌||◌, if◌then◌else◌}
use Rattle.std.specs.List.{flat_map, onto_first, list_any}
use Rattle.std.proofs.lemmas.List.{append-nil, length-replicate}
use Rattle.cmd_text.specs.Grammar.{Reading, line_text, make_text, IsPassedOver, Says, IsLine, AreLines, asked, made, commands_of, makes_of}
use Rattle.cmd_text.specs.Grammar.Reading.{Passed, Asked, Made}
use Rattle.cmd_text.specs.Files.{lines_of, bytes_of, StandsAlone, AreWithin, make_list, IsFile, laid_out}
use Rattle.cmd_text.specs.Laws.{script_text}
use Rattle.cmd_text.specs.Reading.{Lacks}
use Rattle.cmd_text.specs.declared.script.Command.{Command}
use Rattle.cmd_text.specs.declared.script.Script.{Script}
use Rattle.cmd_text.proofs.TextLines.{lines_cut, lines_last}
use Rattle.cmd_text.proofs.Once.{asked_not_passed}

-- what is written of a line
abbrev text_of : Reading → List ℕ
text_of Passed = []
text_of (Asked c) = line_text c
text_of (Made m) = make_text m

-- with its place
abbrev placed : Reading → List (ℕ × List ℕ)
placed Passed = []
placed (Asked c) = (c.line, line_text c) ∷ []
placed (Made m) = (m.line, make_text m) ∷ []

abbrev places : List Reading → List (ℕ × List ℕ)
places rs = flat_map placed rs

-- without what is passed over at the end
abbrev kept : Reading → List Reading → List Reading
kept Passed [] = []
kept Passed (s ∷ ss) = Passed ∷ (s ∷ ss)
kept (Asked c) ss = Asked c ∷ ss
kept (Made m) ss = Made m ∷ ss

abbrev trimmed : List Reading → List Reading
trimmed [] = []
trimmed (r ∷ rs) = kept r (trimmed rs)

-- it says the same

kept_commands : (r : Reading) (ss : List Reading) → commands_of (kept r ss) ≡ asked r ++ commands_of ss
kept_commands Passed [] = refl
kept_commands Passed (s ∷ ss) = refl
kept_commands (Asked c) ss = refl
kept_commands (Made m) ss = refl

kept_makes : (r : Reading) (ss : List Reading) → makes_of (kept r ss) ≡ made r ++ makes_of ss
kept_makes Passed [] = refl
kept_makes Passed (s ∷ ss) = refl
kept_makes (Asked c) ss = refl
kept_makes (Made m) ss = refl

same_commands : (rs : List Reading) → commands_of (trimmed rs) ≡ commands_of rs
same_commands [] = refl
same_commands (r ∷ rs) = kept_commands r (trimmed rs) ∙ ap (λ l. asked r ++ l) (same_commands rs)

same_makes : (rs : List Reading) → makes_of (trimmed rs) ≡ makes_of rs
same_makes [] = refl
same_makes (r ∷ rs) = kept_makes r (trimmed rs) ∙ ap (λ l. made r ++ l) (same_makes rs)

line_again : (n : ℕ) (l : List ℕ) (r : Reading) → IsLine n l r → IsLine n (text_of r) r
line_again n l Passed is = record { short = omega arith; says = inl refl }
line_again n l (Asked c) is =
    record { short = subst (λ t. length t ≤ 200) (sym is.says.1.0) is.short; says = (is.says.0, (refl, is.says.1.1)) }
line_again n l (Made m) is =
    record { short = subst (λ t. length t ≤ 200) (sym is.says.1.0) is.short; says = (is.says.0, (refl, is.says.1.1)) }

kept_lines : (n : ℕ) (r : Reading) (ss : List Reading) → IsLine n (text_of r) r → AreLines (n + 1) (map text_of ss) ss → AreLines n (map text_of (kept r ss)) (kept r ss)
kept_lines n Passed [] is are = tt
kept_lines n Passed (s ∷ ss) is are = (is, are)
kept_lines n (Asked c) ss is are = (is, are)
kept_lines n (Made m) ss is are = (is, are)

lines_again : (n : ℕ) (ls : List (List ℕ)) (rs : List Reading) → AreLines n ls rs → AreLines n (map text_of (trimmed rs)) (trimmed rs)
lines_again n [] [] are = tt
lines_again n [] (r ∷ rs) are = absurd are
lines_again n (l ∷ ls) [] are = absurd are
lines_again n (l ∷ ls) (r ∷ rs) are = kept_lines n r (trimmed rs) (line_again n l r are.0) (lines_again (n + 1) ls rs are.1)

-- the lines of what is written

lines_blank : (k : ℕ) (ys : List ℕ) → lines_of (replicate k 10 ++ ys) ≡ replicate k [] ++ lines_of ys
lines_blank zero ys = refl
lines_blank (suc k) ys = ap (λ l. [] ∷ l) (lines_blank k ys)

blank_more : (k : ℕ) (ys : List (List ℕ)) → replicate (suc k) [] ++ ys ≡ replicate k [] ++ ([] ∷ ys)
blank_more zero ys = refl
blank_more (suc k) ys = ap (λ l. [] ∷ l) (blank_more k ys)

onto_not_blank : (b : ℕ) (ls : List (List ℕ)) (more : List (List ℕ)) → onto_first b ls ≡ [] ∷ more → ⊥
onto_not_blank b [] more e = cc
onto_not_blank b (l ∷ ls) more e = cc

-- a text whose first line is empty begins with a line feed
blank_first : (ys : List ℕ) (more : List (List ℕ)) → lines_of ys ≡ [] ∷ more → (zs : List ℕ) × ((ys ≡ 10 ∷ zs) × (lines_of zs ≡ more))
blank_first [] more e = cc
blank_first (b ∷ bs) more e = at (b == 10) refl e where
  at : (t : Bool) → (b == 10) ≡ t → (if t then [] ∷ lines_of bs else onto_first b (lines_of bs)) ≡ [] ∷ more → (zs : List ℕ) × ((b ∷ bs ≡ 10 ∷ zs) × (lines_of zs ≡ more))
  at true f g = (bs, (ap (λ x. x ∷ bs) (eqb-true b 10 f), cc))
  at false f g = absurd (onto_not_blank b (lines_of bs) more g)

kept_passed : (ss : List Reading) → 0 < length ss → kept Passed ss ≡ Passed ∷ ss
kept_passed [] some = absurd (omega arith)
kept_passed (s ∷ ss) some = refl

-- from line n on; in front stand the line feeds from a line before it
data Laid (at n : ℕ) (rs : List Reading) : Type 0 where
  nothing : places rs ≡ [] → trimmed rs ≡ [] → Laid at n rs
  something : 0 < length (trimmed rs) → lines_of (laid_out at (places rs)) ≡ replicate (n - at) [] ++ map text_of (trimmed rs) → Laid at n rs

laid_passed : (at n : ℕ) (rs : List Reading) → at ≤ n → Laid at (n + 1) rs → Laid at n (Passed ∷ rs)
laid_passed at n rs low (nothing e f) = nothing e (ap (kept Passed) f)
laid_passed at n rs low (something more e) =
    let keeps : kept Passed (trimmed rs) ≡ Passed ∷ trimmed rs = kept_passed (trimmed rs) more in
    let one : n + 1 - at ≡ suc (n - at) = omega arith in
    something (subst (λ l. 0 < length l) (sym keeps) (omega arith))
    (e ∙ ap (λ k. replicate k [] ++ map text_of (trimmed rs)) one ∙ blank_more (n - at) (map text_of (trimmed rs)) ∙ ap (λ l. replicate (n - at) [] ++ map text_of l) (sym keeps))

-- a line and what follows it
line_then : (n : ℕ) (text : List ℕ) (rs : List Reading) → Lacks 10 text → 0 < length text → Laid n (n + 1) rs
    → lines_of (text ++ laid_out n (places rs)) ≡ text ∷ map text_of (trimmed rs)
line_then n text rs lacks long (nothing e f) =
    ap (λ l. lines_of (text ++ laid_out n l)) e ∙ ap lines_of (append-nil text) ∙ lines_last text lacks long ∙ ap (λ l. text ∷ map text_of l) (sym f)
line_then n text rs lacks long (something more e) =
    let one : n + 1 - n ≡ 1 = omega arith in
    let first : (zs : List ℕ) × ((laid_out n (places rs) ≡ 10 ∷ zs) × (lines_of zs ≡ map text_of (trimmed rs))) =
    blank_first (laid_out n (places rs)) (map text_of (trimmed rs)) (e ∙ ap (λ k. replicate k [] ++ map text_of (trimmed rs)) one) in
    ap (λ l. lines_of (text ++ l)) first.1.0 ∙ lines_cut text first.0 lacks ∙ ap (λ l. text ∷ l) first.1.1

line_laid : (at n m : ℕ) (text : List ℕ) (rs : List Reading) → m ≡ n → Lacks 10 text → 0 < length text → Laid n (n + 1) rs
    → lines_of (replicate (m - at) 10 ++ (text ++ laid_out m (places rs))) ≡ replicate (n - at) [] ++ (text ∷ map text_of (trimmed rs))
line_laid at n m text rs same lacks long rest =
    ap (λ k. lines_of (replicate (k - at) 10 ++ (text ++ laid_out k (places rs)))) same
    ∙ lines_blank (n - at) (text ++ laid_out n (places rs))
    ∙ ap (λ l. replicate (n - at) [] ++ l) (line_then n text rs lacks long rest)

-- the lines of a text lack line feeds, and what says something is no empty line
abbrev AllLack : List (List ℕ) → Type 0
AllLack [] = Unit {0}
AllLack (l ∷ ls) = Lacks 10 l × AllLack ls

or_false : (a b : Bool) → a ≡ false → b ≡ false → (a || b) ≡ false
or_false a b e f = rw e f

onto_lacks : (b : ℕ) (ls : List (List ℕ)) → (b == 10) ≡ false → AllLack ls → AllLack (onto_first b ls)
onto_lacks b [] e all = (or_false (b == 10) false e refl, tt)
onto_lacks b (l ∷ ls) e all = (or_false (b == 10) (list_any (λ x. x == 10) l) e all.0, all.1)

lines_lack : (text : List ℕ) → AllLack (lines_of text)
lines_lack [] = tt
lines_lack (b ∷ bs) = at (b == 10) refl (lines_lack bs) where
  at : (t : Bool) → (b == 10) ≡ t → AllLack (lines_of bs) → AllLack (if t then [] ∷ lines_of bs else onto_first b (lines_of bs))
  at true e rest = (refl, rest)
  at false e rest = onto_lacks b (lines_of bs) e rest

not_empty : (line : List ℕ) → (IsPassedOver line → ⊥) → 0 < length line
not_empty [] not_passed = absurd (not_passed (inl refl))
not_empty (b ∷ bs) not_passed = omega arith

asked_long : (n : ℕ) (l : List ℕ) (c : Command) → Says n l (Asked c) → 0 < length (line_text c)
asked_long n l c says = not_empty (line_text c) (asked_not_passed (line_text c) c says.0 refl)

laid : (at n : ℕ) (ls : List (List ℕ)) (rs : List Reading) → at ≤ n → AllLack ls → AreLines n ls rs → Laid at n rs
laid at n [] [] low all are = nothing refl refl
laid at n [] (r ∷ rs) low all are = absurd are
laid at n (l ∷ ls) [] low all are = absurd are
laid at n (l ∷ ls) (Passed ∷ rs) low all are = laid_passed at n rs low (laid at (n + 1) ls rs (omega arith) all.1 are.1)
laid at n (l ∷ ls) (Asked c ∷ rs) low all are =
    let says : Says n l (Asked c) = are.0.says in
    something (omega arith)
    (line_laid at n c.line (line_text c) rs says.1.1 (subst (Lacks 10) (sym says.1.0) all.0) (asked_long n l c says) (laid n (n + 1) ls rs (omega arith) all.1 are.1))
laid at n (l ∷ ls) (Made m ∷ rs) low all are =
    let says : Says n l (Made m) = are.0.says in
    something (omega arith)
    (line_laid at n m.line (make_text m) rs says.1.1 (subst (Lacks 10) (sym says.1.0) all.0) (omega arith) (laid n (n + 1) ls rs (omega arith) all.1 are.1))

-- it is no longer than what was read

bytes_cons : (l : List ℕ) (ls : List (List ℕ)) → bytes_of (l ∷ ls) ≡ length l + 1 + bytes_of ls
bytes_cons l ls = omega (arith, length-append (l ++ (10 ∷ [])) (flat_map (λ k. k ++ (10 ∷ [])) ls), length-append l (10 ∷ []))

bytes_onto : (b : ℕ) (ls : List (List ℕ)) → bytes_of (onto_first b ls) ≤ bytes_of ls + 2
bytes_onto b [] = omega arith
bytes_onto b (l ∷ ls) = omega (arith, bytes_cons l ls, bytes_cons (b ∷ l) ls)

bytes_onto_some : (b : ℕ) (ls : List (List ℕ)) → 0 < length ls → bytes_of (onto_first b ls) ≡ bytes_of ls + 1
bytes_onto_some b [] some = absurd (omega arith)
bytes_onto_some b (l ∷ ls) some = omega (arith, bytes_cons l ls, bytes_cons (b ∷ l) ls)

-- lines with all their line feeds are at most one byte longer than the text
bytes_near : (text : List ℕ) → bytes_of (lines_of text) ≤ length text + 1
bytes_near [] = omega arith
bytes_near (b ∷ bs) = at (b == 10) (bytes_near bs) where
  onto : (ls : List (List ℕ)) → bytes_of ls ≤ length bs + 1 → bytes_of (onto_first b ls) ≤ length (b ∷ bs) + 1
  onto [] near = omega arith
  onto (l ∷ ls) near = omega (arith, near, bytes_onto_some b (l ∷ ls) (omega arith))

  at : (t : Bool) → bytes_of (lines_of bs) ≤ length bs + 1 → bytes_of (if t then [] ∷ lines_of bs else onto_first b (lines_of bs)) ≤ length (b ∷ bs) + 1
  at true near = omega (arith, near, bytes_cons [] (lines_of bs))
  at false near = onto (lines_of bs) near

line_short : (at n m : ℕ) (text : List ℕ) (rs : List Reading) (ls : List (List ℕ)) (l : List ℕ) → at ≤ n → m ≡ n → text ≡ l
    → (places rs ≡ []) ⊎ (length (laid_out n (places rs)) + 1 + n ≤ n + 1 + bytes_of ls)
    → length (replicate (m - at) 10 ++ (text ++ laid_out m (places rs))) + 1 + at ≤ n + bytes_of (l ∷ ls)
line_short at n m text rs ls l low same is rest = rw same (rw is (go rest)) where
  whole : length (replicate (n - at) 10 ++ (l ++ laid_out n (places rs))) ≡ (n - at) + (length l + length (laid_out n (places rs)))
  whole =
      length-append (replicate (n - at) 10) (l ++ laid_out n (places rs))
      ∙ ap (λ k. k + length (l ++ laid_out n (places rs))) (length-replicate (n - at) 10)
      ∙ ap (λ k. (n - at) + k) (length-append l (laid_out n (places rs)))

  go : (places rs ≡ []) ⊎ (length (laid_out n (places rs)) + 1 + n ≤ n + 1 + bytes_of ls) → length (replicate (n - at) 10 ++ (l ++ laid_out n (places rs))) + 1 + at ≤ n + bytes_of (l ∷ ls)
  go (inl none) = omega (arith, whole, ap (λ p. length (laid_out n p)) none, bytes_cons l ls)
  go (inr short) = omega (arith, whole, short, bytes_cons l ls)

laid_short : (at n : ℕ) (ls : List (List ℕ)) (rs : List Reading) → at ≤ n → AreLines n ls rs
    → (places rs ≡ []) ⊎ (length (laid_out at (places rs)) + 1 + at ≤ n + bytes_of ls)
laid_short at n [] [] low are = inl refl
laid_short at n [] (r ∷ rs) low are = absurd are
laid_short at n (l ∷ ls) [] low are = absurd are
laid_short at n (l ∷ ls) (Passed ∷ rs) low are = go (laid_short at (n + 1) ls rs (omega arith) are.1) where
  go : (places rs ≡ []) ⊎ (length (laid_out at (places rs)) + 1 + at ≤ n + 1 + bytes_of ls) → (places rs ≡ []) ⊎ (length (laid_out at (places rs)) + 1 + at ≤ n + bytes_of (l ∷ ls))
  go (inl none) = inl none
  go (inr short) = inr (omega (arith, short, bytes_cons l ls))
laid_short at n (l ∷ ls) (Asked c ∷ rs) low are =
    inr (line_short at n c.line (line_text c) rs ls l low are.0.says.1.1 are.0.says.1.0 (laid_short n (n + 1) ls rs (omega arith) are.1))
laid_short at n (l ∷ ls) (Made m ∷ rs) low are =
    inr (line_short at n m.line (make_text m) rs ls l low are.0.says.1.1 are.0.says.1.0 (laid_short n (n + 1) ls rs (omega arith) are.1))

-- the script's own places

only_commands : (rs : List Reading) → makes_of rs ≡ [] → map (λ c. (c.line, line_text c)) (commands_of rs) ≡ places rs
only_commands [] none = refl
only_commands (Passed ∷ rs) none = only_commands rs none
only_commands (Asked c ∷ rs) none = ap (λ l. (c.line, line_text c) ∷ l) (only_commands rs none)
only_commands (Made m ∷ rs) none = cc

only_makes : (rs : List Reading) → commands_of rs ≡ [] → map (λ m. (m.line, make_text m)) (makes_of rs) ≡ places rs
only_makes [] none = refl
only_makes (Passed ∷ rs) none = only_makes rs none
only_makes (Asked c ∷ rs) none = cc
only_makes (Made m ∷ rs) none = ap (λ l. (m.line, make_text m) ∷ l) (only_makes rs none)

all_places : (rs : List Reading) → StandsAlone (commands_of rs) (makes_of rs)
    → map (λ c. (c.line, line_text c)) (commands_of rs) ++ map (λ m. (m.line, make_text m)) (makes_of rs) ≡ places rs
all_places rs (inl none) =
    ap (λ ms. map (λ c. (c.line, line_text c)) (commands_of rs) ++ map (λ m. (m.line, make_text m)) ms) none
    ∙ append-nil (map (λ c. (c.line, line_text c)) (commands_of rs))
    ∙ only_commands rs none
all_places rs (inr both) =
    ap (λ cs. map (λ c. (c.line, line_text c)) cs ++ map (λ m. (m.line, make_text m)) (makes_of rs)) both.0 ∙ only_makes rs both.0

script_places : (text : List ℕ) (s : Script) (file : IsFile text s) → script_text s ≡ laid_out 1 (places file.readings)
script_places text s file =
    ap (λ cs. laid_out 1 (map (λ c. (c.line, line_text c)) cs ++ map (λ m. (m.line, make_text m)) (make_list s.make))) file.commands
    ∙ ap (λ ms. laid_out 1 (map (λ c. (c.line, line_text c)) (commands_of file.readings) ++ map (λ m. (m.line, make_text m)) ms)) file.make
    ∙ ap (laid_out 1) (all_places file.readings file.good.within.alone)

laid_lines : (rs : List Reading) → Laid 1 1 rs → lines_of (laid_out 1 (places rs)) ≡ map text_of (trimmed rs)
laid_lines rs (nothing e f) = ap (λ p. lines_of (laid_out 1 p)) e ∙ ap (map text_of) (sym f)
laid_lines rs (something more e) = e

written_near : (text : List ℕ) (rs : List Reading) → min (bytes_of (lines_of text)) (length text) ≤ 16777216
    → (places rs ≡ []) ⊎ (length (laid_out 1 (places rs)) + 1 + 1 ≤ 1 + bytes_of (lines_of text)) → length (laid_out 1 (places rs)) ≤ 16777216
written_near text rs near (inl none) = omega (arith, ap (λ p. length (laid_out 1 p)) none)
written_near text rs near (inr short) = omega (arith, near, short, bytes_near text)

pub read_again : (text : List ℕ) (s : Script) → IsFile text s → IsFile (script_text s) s
read_again text s file = subst (λ t. IsFile t s) (sym (script_places text s file)) own where
  lines : lines_of (laid_out 1 (places file.readings)) ≡ map text_of (trimmed file.readings)
  lines = laid_lines file.readings (laid 1 1 (lines_of text) file.readings (omega arith) (lines_lack text) file.good.read)

  near : length (laid_out 1 (places file.readings)) ≤ 16777216
  near = written_near text file.readings file.good.near (laid_short 1 1 (lines_of text) file.readings (omega arith) file.good.read)

  within : AreWithin (commands_of (trimmed file.readings)) (makes_of (trimmed file.readings))
  within = subst (AreWithin (commands_of (trimmed file.readings))) (sym (same_makes file.readings)) (subst (λ cs. AreWithin cs (makes_of file.readings)) (sym (same_commands file.readings)) file.good.within)

  own : IsFile (laid_out 1 (places file.readings)) s
  own = record {
    readings = trimmed file.readings;
    good = record {
      read = subst (λ ls. AreLines 1 ls (trimmed file.readings)) (sym lines) (lines_again 1 (lines_of text) file.readings file.good.read);
      near = omega (arith, near);
      within = within;
    };
    commands = file.commands ∙ sym (same_commands file.readings);
    make = file.make ∙ sym (same_makes file.readings);
    lanes = file.lanes;
  }
