-- Sums over metaslabs, as a loop has come.
use Rattle.std.proofs.Common.{◌≡◌, ℕ, ◌+◌, ◌^◌, ◌<◌, ◌≤◌, Bool, true, false, List, [], ◌++◌, length, take, get_or, ap, arith}
use Rattle.std.specs.Prelude.{Option, Some, codes, if◌then◌else◌}
use Rattle.std.specs.List.{sum_by, list_any}
use Rattle.std.proofs.lemmas.List.Sums.{sum_by_more_le_part}
use Rattle.zms_units.specs.declared.places.Class.{Class}
use Rattle.zms_top.specs.declared.tally.Tally.{Tally}
use Rattle.zms_units.specs.Classes.{class_word}
use Rattle.zms_top.specs.Texts.{is_asked, if_asked, same_class, class_line, sums_text}
use Rattle.zms_top.proofs.PrintLemmas.{two_pieces}

at_most : (b : Bool) (n : ℕ) → (if b then n else 0) ≤ n
at_most true n = omega arith
at_most false n = omega arith

-- what a class's sum has so far, and the next metaslab's bytes, are within the sum of all
pub sum_fits : (asked : Option Class) (f : Tally → ℕ) (ts : List Tally) (i : ℕ) (t : Tally) → i < length ts → t ≡ get_or ts i t
    → sum_by f ts < 2 ^ 64 → sum_by (if_asked asked f) (take i ts) + f t < 2 ^ 64
sum_fits asked f ts i t lt at all =
    let le : sum_by (if_asked asked f) (take i ts) + f (get_or ts i t) ≤ sum_by f ts = sum_by_more_le_part (if_asked asked f) f ts i t lt (λ x. at_most (is_asked asked x.class) (f x)) in
    omega (arith, le, ap f at)

pub class_line_is : (ts : List Tally) (class : Class) (name : List ℕ) → list_any (λ t. same_class class t.class) ts ≡ true → name ≡ class_word class
    → class_line ts class ≡ (codes "class " ++ (name ++ [])) ++ sums_text (Some class) ts
class_line_is ts class name has is = rw (has, is) (two_pieces (codes "class ") (class_word class) (sums_text (Some class) ts))
