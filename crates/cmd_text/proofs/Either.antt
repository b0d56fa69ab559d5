-- A text that is no file has a first bad line.
use Rattle.std.proofs.Common.{None, Some, ◌≡◌, ℕ, ◌+◌, List, [], ◌∷◌, ◌++◌, length, refl, sym, ◌∙◌, subst, append_assoc, arith, inl, inr}
use Rattle.std.proofs.lemmas.List.{append-nil}
use Rattle.cmd_text.specs.Grammar.{Reading, commands_of, makes_of}
use Rattle.cmd_text.specs.Files.{lines_of, AreGood, StandsAlone, lanes_of, IsFile, IsFirstBad}
use Rattle.cmd_text.specs.declared.script.Make.{Make}
use Rattle.cmd_text.specs.declared.script.Script.{Script}

good_none : (text : List ℕ) → AreGood text [] []
good_none text =
    record {
      read = tt;
      near = omega arith;
      within = record { alone = inl refl; few = omega arith; workers = omega arith; apart = λ j k c d lt e f. cc };
    }

-- lines that are good up to the end are a file
good_file : (text : List ℕ) (rs : List Reading) → AreGood text (lines_of text) rs → (s : Script) × IsFile text s
good_file text rs good = at good.within.alone where
  at : StandsAlone (commands_of rs) (makes_of rs) → (s : Script) × IsFile text s
  at (inl none) = (
    record { lanes = lanes_of (commands_of rs) None; commands = commands_of rs; make = None },
    record { readings = rs; good = good; commands = refl; make = sym none; lanes = refl },
  )
  at (inr both) = one (makes_of rs) refl both.1 where
    one : (ms : List Make) → makes_of rs ≡ ms → length ms ≡ 1 → (s : Script) × IsFile text s
    one [] e n = absurd (omega arith)
    one (m ∷ []) e n = (
      record { lanes = 4; commands = commands_of rs; make = Some m },
      record { readings = rs; good = good; commands = refl; make = sym e; lanes = refl },
    )
    one (m ∷ (k ∷ ms)) e n = absurd (omega arith)

-- from good lines on, one line after another
goes_on : (text : List ℕ) (front back : List (List ℕ)) (rs : List Reading) → front ++ back ≡ lines_of text → AreGood text front rs
    → ((s : Script) → IsFile text s → ⊥) → ((n : ℕ) → IsFirstBad text n → ⊥) → ⊥
goes_on text front [] rs split good no_file no_bad =
    let file : (s : Script) × IsFile text s = good_file text rs (subst (λ ls. AreGood text ls rs) (sym (append-nil front) ∙ split) good) in
    no_file file.0 file.1
goes_on text front (l ∷ back) rs split good no_file no_bad =
    no_bad (length front + 1)
    (record {
      front = front;
      line = l;
      back = back;
      split = split;
      numbered = refl;
      readings = rs;
      good = good;
      bad = λ more next. goes_on text (front ++ (l ∷ [])) back more (append_assoc front (l ∷ []) back ∙ split) next no_file no_bad;
    })

pub one_of_both : (text : List ℕ) → ((s : Script) → IsFile text s → ⊥) → ((n : ℕ) → IsFirstBad text n → ⊥) → ⊥
one_of_both text no_file no_bad = goes_on text [] (lines_of text) [] refl (good_none text) no_file no_bad
