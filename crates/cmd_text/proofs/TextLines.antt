-- The lines of a text, and what lists of lines say.
use Rattle.std.proofs.Common.{◌≡◌, ℕ, ◌+◌, ◌<◌, false, List, [], ◌∷◌, ◌++◌, length, refl, sym, ◌∙◌, ap, subst, arith, length-append, ◌⊎◌, inl, inr}
use Rattle.std.specs.Prelude.{◌==◌}
use Rattle.std.specs.List.{list_any, onto_first, flat_map}
use Rattle.std.proofs.lemmas.Grind.{flat_map-append}
use Rattle.std.proofs.lemmas.List.{append-nil}
use Rattle.cmd_text.specs.Grammar.{Reading, IsLine, AreLines, asked, made, commands_of, makes_of}
use Rattle.cmd_text.specs.Files.{lines_of, bytes_of}
use Rattle.cmd_text.specs.Reading.{Lacks, IsFirstLine}
use Rattle.cmd_text.proofs.Bytes.{or_split}

pub lines_cut : (line next : List ℕ) → Lacks 10 line → lines_of (line ++ (10 ∷ next)) ≡ line ∷ lines_of next
lines_cut [] next e = refl
lines_cut (b ∷ bs) next e =
    let parts : ((b == 10) ≡ false) × (list_any (λ x. x == 10) bs ≡ false) = or_split (b == 10) (list_any (λ x. x == 10) bs) e in
    rw parts.0 (ap (onto_first b) (lines_cut bs next parts.1))

pub lines_last : (line : List ℕ) → Lacks 10 line → 0 < length line → lines_of line ≡ line ∷ []
lines_last [] e some = absurd (omega arith)
lines_last (b ∷ []) e some =
    let parts : ((b == 10) ≡ false) × (list_any (λ x. x == 10) [] ≡ false) = or_split (b == 10) false e in
    rw parts.0 refl
lines_last (b ∷ (c ∷ bs)) e some =
    let parts : ((b == 10) ≡ false) × (list_any (λ x. x == 10) (c ∷ bs) ≡ false) = or_split (b == 10) (list_any (λ x. x == 10) (c ∷ bs)) e in
    rw parts.0 (ap (onto_first b) (lines_last (c ∷ bs) parts.1 (omega arith)))

pub first_of_lines : (text line next : List ℕ) → 0 < length text → IsFirstLine text line next → lines_of text ≡ line ∷ lines_of next
first_of_lines text line next some first = at first.cut where
  at : (line ++ (10 ∷ next) ≡ text) ⊎ ((line ≡ text) × (next ≡ [])) → lines_of text ≡ line ∷ lines_of next
  at (inl cut) = ap lines_of (sym cut) ∙ lines_cut line next first.whole
  at (inr both) =
      let short : 0 < length line = subst (λ l. 0 < length l) (sym both.0) some in
      ap lines_of (sym both.0) ∙ lines_last line first.whole short ∙ ap (λ l. line ∷ lines_of l) (sym both.1)

pub first_line_shorter : (text line next : List ℕ) → 0 < length text → IsFirstLine text line next → length next < length text
first_line_shorter text line next some first = at first.cut where
  at : (line ++ (10 ∷ next) ≡ text) ⊎ ((line ≡ text) × (next ≡ [])) → length next < length text
  at (inl cut) = omega (arith, ap length cut, length-append line (10 ∷ next))
  at (inr both) = let none : next ≡ [] = both.1 in omega (arith, ap length none)

-- a line with its line feed is no shorter than what is taken of the text, and longer only at the text's end
pub first_line_bytes : (text line next : List ℕ) → IsFirstLine text line next
    → (length line + 1 + length next ≡ length text) ⊎ ((length line ≡ length text) × (length next ≡ 0))
first_line_bytes text line next first = at first.cut where
  at : (line ++ (10 ∷ next) ≡ text) ⊎ ((line ≡ text) × (next ≡ [])) → (length line + 1 + length next ≡ length text) ⊎ ((length line ≡ length text) × (length next ≡ 0))
  at (inl cut) = inl (omega (arith, ap length cut, length-append line (10 ∷ next)))
  at (inr both) = inr (ap length both.0, ap length both.1)

pub bytes_append : (xs ys : List (List ℕ)) → bytes_of (xs ++ ys) ≡ bytes_of xs + bytes_of ys
bytes_append xs ys =
    ap length (flat_map-append (λ l. l ++ (10 ∷ [])) xs ys) ∙ length-append (flat_map (λ l. l ++ (10 ∷ [])) xs) (flat_map (λ l. l ++ (10 ∷ [])) ys)

pub bytes_one : (line : List ℕ) → bytes_of (line ∷ []) ≡ length line + 1
bytes_one line = omega (arith, length-append (line ++ (10 ∷ [])) [], length-append line (10 ∷ []))

-- what lines say

pub commands_push : (rs : List Reading) (r : Reading) → commands_of (rs ++ (r ∷ [])) ≡ commands_of rs ++ asked r
commands_push rs r = flat_map-append asked rs (r ∷ []) ∙ ap (λ l. commands_of rs ++ l) (append-nil (asked r))

pub makes_push : (rs : List Reading) (r : Reading) → makes_of (rs ++ (r ∷ [])) ≡ makes_of rs ++ made r
makes_push rs r = flat_map-append made rs (r ∷ []) ∙ ap (λ l. makes_of rs ++ l) (append-nil (made r))

pub lines_push : (n : ℕ) (ls : List (List ℕ)) (rs : List Reading) (l : List ℕ) (r : Reading) → AreLines n ls rs → IsLine (n + length ls) l r → AreLines n (ls ++ (l ∷ [])) (rs ++ (r ∷ []))
lines_push n [] [] l r are is = (let same : n + 0 ≡ n = omega arith in subst (λ k. IsLine k l r) same is, tt)
lines_push n [] (s ∷ rs) l r are is = absurd are
lines_push n (k ∷ ls) [] l r are is = absurd are
lines_push n (k ∷ ls) (s ∷ rs) l r are is =
    let same : n + length (k ∷ ls) ≡ n + 1 + length ls = omega arith in
    (are.0, lines_push (n + 1) ls rs l r are.1 (subst (λ m. IsLine m l r) same is))

-- lines in two parts say things in two parts
pub record Parted (n : ℕ) (ls ms : List (List ℕ)) (rs : List Reading) : Type 0 where
  pub front : List Reading
  pub back : List Reading
  pub whole : rs ≡ front ++ back
  pub first : AreLines n ls front
  pub last : AreLines (n + length ls) ms back

parted_next : (n : ℕ) (l : List ℕ) (ls ms : List (List ℕ)) (r : Reading) (rs : List Reading) → IsLine n l r → Parted (n + 1) ls ms rs → Parted n (l ∷ ls) ms (r ∷ rs)
parted_next n l ls ms r rs is p =
    let same : n + 1 + length ls ≡ n + length (l ∷ ls) = omega arith in
    record {
      front = r ∷ p.front;
      back = p.back;
      whole = ap (λ t. r ∷ t) p.whole;
      first = (is, p.first);
      last = subst (λ k. AreLines k ms p.back) same p.last;
    }

pub parted : (n : ℕ) (ls ms : List (List ℕ)) (rs : List Reading) → AreLines n (ls ++ ms) rs → Parted n ls ms rs
parted n [] ms rs are =
    let same : n ≡ n + 0 = omega arith in
    record { front = []; back = rs; whole = refl; first = tt; last = subst (λ k. AreLines k ms rs) same are }
parted n (l ∷ ls) ms [] are = absurd are
parted n (l ∷ ls) ms (r ∷ rs) are = parted_next n l ls ms r rs are.0 (parted (n + 1) ls ms rs are.1)
