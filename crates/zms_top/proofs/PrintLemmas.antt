-- Pieces side by side are a text.
use Rattle.std.proofs.Common.{◌≡◌, ℕ, List, [], ◌∷◌, ◌++◌, sym, ◌∙◌, ap, append_assoc}
use Rattle.std.proofs.lemmas.List.{append-nil}

pub one_piece : (a b : List ℕ) → a ++ b ≡ (a ++ []) ++ b
one_piece a b = ap (λ l. l ++ b) (sym (append-nil a))

pub two_pieces : (a b c : List ℕ) → a ++ (b ++ c) ≡ (a ++ (b ++ [])) ++ c
two_pieces a b c = sym (append_assoc a b c) ∙ ap (λ l. (a ++ l) ++ c) (sym (append-nil b))

-- a line of out, as far as each of its pieces

pub line_as_far_as_lane : (l h a : List ℕ) → l ++ (32 ∷ (h ++ (32 ∷ (a ++ (10 ∷ []))))) ≡ (l ++ (32 ∷ [])) ++ (h ++ (32 ∷ (a ++ (10 ∷ []))))
line_as_far_as_lane l h a = simp append_assoc

pub line_as_far_as_head : (l h a : List ℕ) → l ++ (32 ∷ (h ++ (32 ∷ (a ++ (10 ∷ []))))) ≡ ((l ++ (32 ∷ [])) ++ h) ++ ((32 ∷ []) ++ (a ++ (10 ∷ [])))
line_as_far_as_head l h a = simp append_assoc

pub line_as_far_as_answer : (l h a : List ℕ) → l ++ (32 ∷ (h ++ (32 ∷ (a ++ (10 ∷ []))))) ≡ (((l ++ (32 ∷ [])) ++ h) ++ (32 ∷ [])) ++ (a ++ (10 ∷ []))
line_as_far_as_answer l h a = simp append_assoc

pub line_all : (l h a : List ℕ) → l ++ (32 ∷ (h ++ (32 ∷ (a ++ (10 ∷ []))))) ≡ ((((l ++ (32 ∷ [])) ++ h) ++ (32 ∷ [])) ++ a) ++ (10 ∷ [])
line_all l h a = simp append_assoc

-- the pieces of a metaslab's line, before its counts
pub metaslab_pieces : (w v s i c : List ℕ) → w ++ (v ++ (s ++ (i ++ c))) ≡ (w ++ (v ++ (s ++ (i ++ [])))) ++ c
metaslab_pieces w v s i c = simp (append_assoc, append-nil)
