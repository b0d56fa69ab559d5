-- The one way in which a text is that of a vdev.
use Rattle.std.proofs.Common.{◌≡◌, ℕ, ◌^◌, ◌<◌, false, List, [], ◌∷◌, ◌++◌, get_or, refl, sym, ◌∙◌, ap, arith}
use Rattle.std.specs.Prelude.{decimal}
use Rattle.std.proofs.lemmas.Fmt.{decimal_injective}
use Rattle.zms_units.specs.Classes.{class_word}
use Rattle.zms_units.specs.declared.places.Class.{Class}
use Rattle.zms_units.specs.declared.places.Class.TheVariants.{Normal, Log, Special, Dedup}
use Rattle.zms_units.specs.declared.places.VdevRow.{VdevRow}
use Rattle.cmd_text.specs.Reading.{Lacks}
use Rattle.cmd_text.specs.Words.{is_digit}
use Rattle.cmd_text.proofs.Bytes.{lacks_append, lacks_by, lacks_no_cut, cut_once, decimal_plain}
use Rattle.vdev_text.specs.Specs.{IsVdev, vdev_text}

-- a number has digits alone
pub number_lacks : (b n : ℕ) → is_digit b ≡ false → n < 2 ^ 64 → Lacks b (decimal n)
number_lacks b n other fits = lacks_by is_digit b other (decimal n) (decimal_plain n fits).digits_only

class_lacks_colon : (c : Class) → Lacks 58 (class_word c)
class_lacks_colon Normal = refl
class_lacks_colon Log = refl
class_lacks_colon Special = refl
class_lacks_colon Dedup = refl

class_lacks_comma : (c : Class) → Lacks 44 (class_word c)
class_lacks_comma Normal = refl
class_lacks_comma Log = refl
class_lacks_comma Special = refl
class_lacks_comma Dedup = refl

class_once : (a b : Class) → class_word a ≡ class_word b → a ≡ b
class_once Normal Normal e = refl
class_once Log Log e = refl
class_once Special Special e = refl
class_once Dedup Dedup e = refl
class_once a b e = absurd (omega (arith, ap (λ l. get_or l 0 0) e))

-- what stands behind the class, and behind the shift
abbrev pub behind_shift : VdevRow → List ℕ
behind_shift row = decimal row.units ++ (58 ∷ decimal row.metaslabs)

abbrev pub behind_class : VdevRow → List ℕ
behind_class row = decimal row.ashift ++ (58 ∷ behind_shift row)

module _ (row : VdevRow) (is : IsVdev row) where
  fits_shift : row.ashift < 2 ^ 64
  fits_shift = omega (arith, is.shift.most)

  fits_units : row.units < 2 ^ 64
  fits_units = omega (arith, is.units.most)

  fits_metaslabs : row.metaslabs < 2 ^ 64
  fits_metaslabs = omega (arith, is.metaslabs.high)

  -- its text has no comma
  pub vdev_lacks : Lacks 44 (vdev_text row)
  vdev_lacks =
      lacks_append 44 (class_word row.class) (58 ∷ behind_class row) (class_lacks_comma row.class)
      (lacks_append 44 (decimal row.ashift) (58 ∷ behind_shift row) (number_lacks 44 row.ashift refl fits_shift)
      (lacks_append 44 (decimal row.units) (58 ∷ decimal row.metaslabs) (number_lacks 44 row.units refl fits_units) (number_lacks 44 row.metaslabs refl fits_metaslabs)))

  -- its fields, one after another, as a text is cut at the first colon
  pub class_cut : (text class rest : List ℕ) → vdev_text row ≡ text → class ++ (58 ∷ rest) ≡ text → Lacks 58 class → (class_word row.class ≡ class) × (behind_class row ≡ rest)
  class_cut text class rest same cut lacks =
      cut_once 58 (class_word row.class) (behind_class row) class rest (class_lacks_colon row.class) lacks (same ∙ sym cut)

  pub shift_cut : (rest shift last : List ℕ) → behind_class row ≡ rest → shift ++ (58 ∷ last) ≡ rest → Lacks 58 shift → (decimal row.ashift ≡ shift) × (behind_shift row ≡ last)
  shift_cut rest shift last same cut lacks =
      cut_once 58 (decimal row.ashift) (behind_shift row) shift last (number_lacks 58 row.ashift refl fits_shift) lacks (same ∙ sym cut)

  pub units_cut : (rest units last : List ℕ) → behind_shift row ≡ rest → units ++ (58 ∷ last) ≡ rest → Lacks 58 units → (decimal row.units ≡ units) × (decimal row.metaslabs ≡ last)
  units_cut rest units last same cut lacks =
      cut_once 58 (decimal row.units) (decimal row.metaslabs) units last (number_lacks 58 row.units refl fits_units) lacks (same ∙ sym cut)

  -- a text without a colon, where one has to stand
  pub no_class : (text : List ℕ) → vdev_text row ≡ text → Lacks 58 text → ⊥
  no_class text same lacks = lacks_no_cut 58 (class_word row.class) (behind_class row) text lacks same

  pub no_shift : (rest : List ℕ) → behind_class row ≡ rest → Lacks 58 rest → ⊥
  no_shift rest same lacks = lacks_no_cut 58 (decimal row.ashift) (behind_shift row) rest lacks same

  pub no_units : (rest : List ℕ) → behind_shift row ≡ rest → Lacks 58 rest → ⊥
  no_units rest same lacks = lacks_no_cut 58 (decimal row.units) (decimal row.metaslabs) rest lacks same

abbrev row_of : Class → ℕ → ℕ → ℕ → VdevRow
row_of class ashift units metaslabs = record { class = class; ashift = ashift; units = units; metaslabs = metaslabs }

same_row : (a b : Class) (c d e f g h : ℕ) → a ≡ b → c ≡ d → e ≡ f → g ≡ h
    → row_of a c e g ≡ row_of b d f h
same_row a b c d e f g h i j k l = cc

-- the four fields, as they were cut from a text
pub record AreFields (row : VdevRow) (class shift units metaslabs : List ℕ) : Type 0 where
  pub class_is : class_word row.class ≡ class
  pub shift_is : decimal row.ashift ≡ shift
  pub units_is : decimal row.units ≡ units
  pub metaslabs_is : decimal row.metaslabs ≡ metaslabs

pub fields_of : (row : VdevRow) → IsVdev row → (text class rest shift last units metaslabs : List ℕ) → vdev_text row ≡ text
    → class ++ (58 ∷ rest) ≡ text → Lacks 58 class → shift ++ (58 ∷ last) ≡ rest → Lacks 58 shift → units ++ (58 ∷ metaslabs) ≡ last → Lacks 58 units
    → AreFields row class shift units metaslabs
fields_of row is text class rest shift last units metaslabs same one lacks two lacks' three lacks'' =
    let first = class_cut row is text class rest same one lacks in
    let second = shift_cut row is rest shift last first.1 two lacks' in
    let third = units_cut row is last units metaslabs second.1 three lacks'' in
    record { class_is = first.0; shift_is = second.0; units_is = third.0; metaslabs_is = third.1 }

-- two vdevs of one text are one
pub vdev_once : (one two : VdevRow) → IsVdev one → IsVdev two → vdev_text one ≡ vdev_text two → one ≡ two
vdev_once one two is is' same =
    let f : AreFields one (class_word two.class) (decimal two.ashift) (decimal two.units) (decimal two.metaslabs) =
    fields_of one is (vdev_text two) (class_word two.class) (behind_class two) (decimal two.ashift) (behind_shift two) (decimal two.units) (decimal two.metaslabs)
    same refl (class_lacks_colon two.class) refl (number_lacks 58 two.ashift refl (fits_shift two is')) refl (number_lacks 58 two.units refl (fits_units two is')) in
    same_row one.class two.class one.ashift two.ashift one.units two.units one.metaslabs two.metaslabs
    (class_once one.class two.class f.class_is)
    (decimal_injective one.ashift two.ashift (fits_shift one is) (fits_shift two is') f.shift_is)
    (decimal_injective one.units two.units (fits_units one is) (fits_units two is') f.units_is)
    (decimal_injective one.metaslabs two.metaslabs (fits_metaslabs one is) (fits_metaslabs two is') f.metaslabs_is)
