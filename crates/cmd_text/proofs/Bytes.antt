-- Bytes that a text lacks, names and numbers.
use Rattle.std.proofs.Common.{Option, Some, None, ◌≡◌, ℕ, ◌^◌, ◌≤◌, ◌<◌, Bool, true, false, List, [], ◌∷◌, ◌++◌, length, get_or, zero, suc, refl, sym, ◌∙◌, ap, subst, arith, eq-eqb}
use Rattle.std.specs.Prelude.{◌==◌, ◌||◌, ◌&&◌, nat_le, Result, Ok, Err, IfNone, decimal}
use Rattle.std.specs.List.{list_any, list_all}
use Rattle.std.specs.Str.Parse.{AllDigits, digits_value, ParsesUnsigned}
use Rattle.std.specs.Int.{IsInRange}
use Rattle.std.specs.Str.{IsUtf8}
use Rattle.std.proofs.lemmas.List.Folds.{list_any-append}
use Rattle.std.specs.Result.{OkIff}
use Rattle.std.proofs.lemmas.Str.{IsUtf8-from_ascii}
use Rattle.std.proofs.lemmas.Bool.Decides.{nat_tests}
use Rattle.std.proofs.lemmas.Bool.{eqb-true, leb-true, le-leb}
use Rattle.std.proofs.lemmas.Fmt.{decimal_is_IsNumeral, decimal_digit, decimal_nonempty, first_decimal, digits_decimal, decimal-digits_value, parse-decimal, IsAscii-decimal}
use Rattle.std.proofs.lemmas.Str.Parse.{digit_from_value, IsDigitsTest, IsNumeralModel, numerals_by_value, parse_digits}
use Rattle.cmd_text.specs.Reading.{Lacks}
use Rattle.cmd_text.specs.Words.{is_digit, is_name_byte, IsName, IsPlain}

-- bytes that a text lacks

pub or_split : (a b : Bool) → (a || b) ≡ false → (a ≡ false) × (b ≡ false)
or_split true b e = cc
or_split false b e = (refl, e)

or_join : (a b : Bool) → a ≡ false → b ≡ false → (a || b) ≡ false
or_join a b e f = rw e f

pub and_split : (a b : Bool) → (a && b) ≡ true → (a ≡ true) × (b ≡ true)
and_split true b e = (refl, e)
and_split false b e = cc

pub lacks_append : (b : ℕ) (xs ys : List ℕ) → Lacks b xs → Lacks b ys → Lacks b (xs ++ ys)
lacks_append b xs ys e f = list_any-append (λ x. x == b) xs ys ∙ or_join _ _ e f

pub lacks_parts : (b : ℕ) (xs ys : List ℕ) → Lacks b (xs ++ ys) → Lacks b xs × Lacks b ys
lacks_parts b xs ys e = or_split _ _ (sym (list_any-append (λ x. x == b) xs ys) ∙ e)

pub lacks_no_head : (b x : ℕ) (xs : List ℕ) → Lacks b (x ∷ xs) → x ≡ b → ⊥
lacks_no_head b x xs e same =
    let test : (x == b) ≡ true = eq-eqb x b same in
    let other : (x == b) ≡ false = (or_split (x == b) (list_any (λ y. y == b) xs) e).0 in
    cc

pub lacks_tail : (b x : ℕ) (xs : List ℕ) → Lacks b (x ∷ xs) → Lacks b xs
lacks_tail b x xs e = (or_split (x == b) (list_any (λ y. y == b) xs) e).1

-- a text that lacks a byte isn't made of two parts with it between
pub lacks_no_cut : (b : ℕ) (xs ys text : List ℕ) → Lacks b text → xs ++ (b ∷ ys) ≡ text → ⊥
lacks_no_cut b xs ys text e is =
    let parts : Lacks b xs × Lacks b (b ∷ ys) = lacks_parts b xs (b ∷ ys) (subst (Lacks b) (sym is) e) in
    lacks_no_head b b ys parts.1 refl

-- it is cut at the first such byte in one way
pub cut_once : (b : ℕ) (xs ys us vs : List ℕ) → Lacks b xs → Lacks b us → xs ++ (b ∷ ys) ≡ us ++ (b ∷ vs) → (xs ≡ us) × (ys ≡ vs)
cut_once b [] ys [] vs e f is = (refl, cc)
cut_once b [] ys (u ∷ us) vs e f is = absurd (lacks_no_head b u us f (cc))
cut_once b (x ∷ xs) ys [] vs e f is = absurd (lacks_no_head b x xs e (cc))
cut_once b (x ∷ xs) ys (u ∷ us) vs e f is =
    let rest : (xs ≡ us) × (ys ≡ vs) = cut_once b xs ys us vs (lacks_tail b x xs e) (lacks_tail b u us f) (cc) in
    let same : xs ≡ us = rest.0 in
    (cc, rest.1)

-- bytes that pass a test lack a byte that doesn't

lacks_one : (t : Bool) (p : ℕ → Bool) (b x : ℕ) → (x == b) ≡ t → p x ≡ true → p b ≡ false → t ≡ false
lacks_one true p b x e f g = let same : x ≡ b = eqb-true x b e in absurd (let h : p b ≡ true = subst (λ y. p y ≡ true) same f in cc)
lacks_one false p b x e f g = refl

pub lacks_by : (p : ℕ → Bool) (b : ℕ) → p b ≡ false → (xs : List ℕ) → list_all p xs ≡ true → Lacks b xs
lacks_by p b no_pass [] all = refl
lacks_by p b no_pass (x ∷ xs) all =
    let both : (p x ≡ true) × (list_all p xs ≡ true) = and_split (p x) (list_all p xs) all in
    or_join _ _ (lacks_one (x == b) p b x refl both.0 no_pass) (lacks_by p b no_pass xs both.1)

lacks_digit : (t : Bool) (b x : ℕ) → (x == b) ≡ t → b < 48 → 48 ≤ x → t ≡ false
lacks_digit true b x e low high = absurd (let same : x ≡ b = eqb-true x b e in omega arith)
lacks_digit false b x e low high = refl

digits_lack : (b : ℕ) → b < 48 → (ds : List ℕ) → AllDigits 10 ds → Lacks b ds
digits_lack b low [] all = refl
digits_lack b low (d ∷ ds) all =
    or_join _ _ (lacks_digit (d == b) b d refl low (digit_from_value d all.0).0) (digits_lack b low ds all.1)

pub decimal_lacks : (b n : ℕ) → b < 48 → n < 2 ^ 64 → Lacks b (decimal n)
decimal_lacks b n low fits = digits_lack b low (decimal n) (decimal_is_IsNumeral n fits).0.1

pub name_lacks : (b : ℕ) → is_name_byte b ≡ false → (name : List ℕ) → IsName name → Lacks b name
name_lacks b no_pass name is = lacks_by is_name_byte b no_pass name is.bytes

-- names are text

name_ascii : (name : List ℕ) → list_all is_name_byte name ≡ true → (i : ℕ) → get_or name i 0 < 128
name_ascii [] all i = omega arith
name_ascii (b ∷ name) all zero = let both : (is_name_byte b ≡ true) × (list_all is_name_byte name ≡ true) = and_split _ _ all in grind (arith, nat_tests)
name_ascii (b ∷ name) all (suc i) = let both : (is_name_byte b ≡ true) × (list_all is_name_byte name ≡ true) = and_split _ _ all in name_ascii name both.1 i

pub name_utf8 : (name : List ℕ) → IsName name → IsUtf8 name
name_utf8 name is = IsUtf8-from_ascii name (name_ascii name is.bytes)

-- numbers

digit_in : (b : ℕ) → is_digit b ≡ true → IsInRange 48 57 b
digit_in b e = let both : (nat_le 48 b ≡ true) × (nat_le b 57 ≡ true) = and_split _ _ e in (leb-true 48 b both.0, leb-true b 57 both.1)

digit_is : (b : ℕ) → IsInRange 48 57 b → is_digit b ≡ true
digit_is b in_range =
    let low : nat_le 48 b ≡ true = le-leb 48 b in_range.0 in
    let high : nat_le b 57 ≡ true = le-leb b 57 in_range.1 in
    rw low high

and_join : (a b : Bool) → a ≡ true → b ≡ true → (a && b) ≡ true
and_join a b e f = rw e f

tells_digits : IsDigitsTest (λ ds. list_all is_digit ds ≡ true)
tells_digits =
    record {
      empty = refl;
      parts = λ c cs e. let both : (is_digit c ≡ true) × (list_all is_digit cs ≡ true) = and_split _ _ e in (digit_in c both.0, both.1);
      more = λ c cs in_range rest. and_join (is_digit c) (list_all is_digit cs) (digit_is c in_range) rest;
    }

pub own_digits : IsNumeralModel (λ ds. list_all is_digit ds ≡ true) (digits_value 10)
own_digits = numerals_by_value (λ ds. list_all is_digit ds ≡ true) tells_digits

-- a number is printed plainly
pub decimal_plain : (n : ℕ) → n < 2 ^ 64 → IsPlain (decimal n)
decimal_plain n fits =
    record {
      some = decimal_nonempty n fits;
      digits_only = digits_decimal own_digits n fits;
      unpadded = unpadded_at n fits;
    }
  where
    unpadded_at : (n : ℕ) → n < 2 ^ 64 → get_or (decimal n) 0 0 ≡ 48 → length (decimal n) ≡ 1
    unpadded_at zero fits e = ap length (decimal_digit 0 (omega arith))
    unpadded_at (suc n) fits e = absurd (omega (arith, first_decimal (suc n) (omega arith) fits))

pub plain_of : (digits : List ℕ) (n : ℕ) → n < 2 ^ 64 → decimal n ≡ digits → IsPlain digits
plain_of digits n fits is = subst IsPlain is (decimal_plain n (omega arith))

pub plain_utf8 : (digits : List ℕ) (n : ℕ) → n < 2 ^ 64 → decimal n ≡ digits → IsUtf8 digits
plain_utf8 digits n fits is = subst IsUtf8 is (IsUtf8-from_ascii (decimal n) (IsAscii-decimal n (omega arith)))

-- what is plain, and was read as a number, is what that number prints
parsed_is : {E : Type 0} (digits : List ℕ) (r : Result ℕ E) (n : ℕ) → IsPlain digits → OkIff r ((0 < length digits) × (digits_value 10 digits < 2 ^ 64)) (digits_value 10 digits) → r ≡ Ok n → decimal n ≡ digits
parsed_is digits (Ok m) n plain parsed is =
    let same : m ≡ n = cc in
    let value : digits_value 10 digits ≡ n = sym parsed.1 ∙ same in
    ap decimal (sym value) ∙ decimal-digits_value own_digits digits plain.digits_only plain.some plain.unpadded parsed.0.1
parsed_is digits (Err e) n plain parsed is = cc

pub plain_number : {E : Type 0} (digits : List ℕ) (r : Result ℕ E) (n : ℕ) → IsPlain digits → ParsesUnsigned 64 10 digits r → r ≡ Ok n → decimal n ≡ digits
plain_number digits r n plain parses is = parsed_is digits r n plain (parse_digits own_digits 64 digits r parses plain.digits_only) is

pub number_read : {E : Type 0} (digits : List ℕ) (r : Result ℕ E) (n : ℕ) → ParsesUnsigned 64 10 digits r → n < 2 ^ 64 → decimal n ≡ digits → r ≡ Ok n
number_read digits r n parses fits is = parse-decimal 64 n digits r (omega arith) (omega arith) (sym is) parses

pub if_none : {A : Type 0} (r : Option A) (P : Type 0) → P → IfNone r P
if_none None P p = p
if_none (Some x) P p = tt
