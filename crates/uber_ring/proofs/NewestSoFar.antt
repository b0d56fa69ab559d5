-- The newest of the slots that were read so far.
use Rattle.std.proofs.Common.{◌≡◌, ◌⊎◌, inl, inr, ℕ, ◌+◌, ◌*◌, ◌%◌, ◌<◌, ◌≤◌, List, Option, Some, None, refl, sym, ◌∙◌, ap, subst, arith}
use Rattle.std.specs.Prelude.{MatchOption, IsSomeAnd, IfSome}
use Rattle.std.proofs.lemmas.Bool.{cases_lt}
use Rattle.vdev_map.specs.Places.{slot_place}
use Rattle.uber_ring.specs.Numbers.{bytes_at}
use Rattle.uber_ring.specs.Slots.{HasFields, IsValidSlot, IsValid, NewestOf, TheValid}
use Rattle.uber_ring.specs.declared.slot.Uber.{Uber}
use Rattle.uber_ring.proofs.SlotBytes.{one_body}

-- the valid uberblock of the greatest group among those of the first n slots
pub record IsNewestBelow (image : List ℕ) (n : ℕ) (uber : Uber) : Type 0 where
  pub valid : IsValid image uber
  pub greatest : (other : Uber) → other.group.0 % 128 < n → IsValid image other → other.group.0 ≤ uber.group.0

abbrev pub NewestBelow : List ℕ → ℕ → Option Uber → Type 0
NewestBelow image n found = MatchOption found ((uber : Uber) → uber.group.0 % 128 < n → IsValid image uber → ⊥) (IsNewestBelow image n)

pub newest_none : (image : List ℕ) → NewestBelow image 0 None
newest_none image uber lt valid = absurd (omega arith)

valid_either : (image : List ℕ) (n : ℕ) (best found result : Option Uber) → NewestBelow image n best → TheValid image (λ uber. uber.group.0 % 128 ≡ n) found → (result ≡ best) ⊎ (result ≡ found) → IfSome result (IsValid image)
valid_either image n best found result was here (inl same) = subst (λ (o : Option Uber). IfSome o (IsValid image)) (sym same) (of_best best was)
  where
    of_best : (o : Option Uber) → NewestBelow image n o → IfSome o (IsValid image)
    of_best None was = tt
    of_best (Some uber) was = was.valid
valid_either image n best found result was here (inr same) = subst (λ (o : Option Uber). IfSome o (IsValid image)) (sym same) (of_found found here)
  where
    of_found : (o : Option Uber) → TheValid image (λ uber. uber.group.0 % 128 ≡ n) o → IfSome o (IsValid image)
    of_found None here = tt
    of_found (Some uber) here = here.1

-- a slot is valid with one uberblock
pub one_in_slot : (image : List ℕ) (one other : Uber) → one.group.0 % 128 ≡ other.group.0 % 128 → IsValid image one → IsValid image other → one ≡ other
one_in_slot image one other same first second =
    let place : slot_place one.group.0 ≡ slot_place other.group.0 = ap (λ (n : ℕ). 4096 + 1024 * n) same in
    one_body (bytes_at image (slot_place other.group.0) 1024) one other (subst (λ (p : ℕ). HasFields (bytes_at image p 1024) one) place first.body.fields) second.body.fields

of_one : (image : List ℕ) (one other : Uber) → one.group.0 % 128 ≡ other.group.0 % 128 → IsValid image one → IsValid image other → other.group.0 ≤ one.group.0
of_one image one other same first second = let e : one ≡ other = one_in_slot image one other same first second in omega (arith, ap (λ (u : Uber). u.group.0) e)

-- what is valid in the first n slots, or in the next, is not above the newer of both
module _ (image : List ℕ) (n : ℕ) (best found result : Option Uber)
    (newer_best : (uber : Uber) → best ≡ Some uber → IsSomeAnd result (λ newer. uber.group.0 ≤ newer.group.0))
    (newer_found : (uber : Uber) → found ≡ Some uber → IsSomeAnd result (λ newer. uber.group.0 ≤ newer.group.0)) where
  above : (o : Option Uber) (low high : ℕ) → low ≤ high → IsSomeAnd o (λ newer. high ≤ newer.group.0) → IsSomeAnd o (λ newer. low ≤ newer.group.0)
  above None low high le some = some
  above (Some newer) low high le some = omega arith

  of_earlier : (o : Option Uber) → best ≡ o → NewestBelow image n o → (other : Uber) → other.group.0 % 128 < n → IsValid image other → IsSomeAnd result (λ newer. other.group.0 ≤ newer.group.0)
  of_earlier None is was other lt valid = absurd (was other lt valid)
  of_earlier (Some uber) is was other lt valid = above result other.group.0 uber.group.0 (was.greatest other lt valid) (newer_best uber is)

  of_this : (o : Option Uber) → found ≡ o → TheValid image (λ uber. uber.group.0 % 128 ≡ n) o → (other : Uber) → other.group.0 % 128 ≡ n → IsValid image other → IsSomeAnd result (λ newer. other.group.0 ≤ newer.group.0)
  of_this None is here other same valid = absurd (here other same valid)
  of_this (Some uber) is here other same valid = above result other.group.0 uber.group.0 (of_one image uber other (here.0 ∙ sym same) here.1 valid) (newer_found uber is)

  pub newest_more : NewestBelow image n best → TheValid image (λ uber. uber.group.0 % 128 ≡ n) found → (result ≡ best) ⊎ (result ≡ found) → NewestBelow image (n + 1) result
  newest_more was here either =
      by_result result refl (valid_either image n best found result was here either)
      (λ other lt valid. elim (cases_lt (other.group.0 % 128) n) [
        | inl below ↦ of_earlier best refl was other below valid
        | inr this ↦ of_this found refl here other (omega arith) valid
      ])
    where
      by_result : (o : Option Uber) → result ≡ o → IfSome o (IsValid image) → ((other : Uber) → other.group.0 % 128 < n + 1 → IsValid image other → IsSomeAnd o (λ newer. other.group.0 ≤ newer.group.0)) → NewestBelow image (n + 1) o
      by_result None is valid all = λ other lt here. all other lt here
      by_result (Some uber) is valid all = record { valid = valid; greatest = all }

-- after all slots
pub newest_all : (image : List ℕ) (found : Option Uber) → NewestBelow image 128 found → NewestOf image found
newest_all image None none = λ uber valid. none uber (omega arith) valid
newest_all image (Some uber) is = record { valid = is.valid; greatest = λ other valid. is.greatest other (omega arith) valid }

slot_of : (uber : Uber) (slot : ℕ) → slot < 128 → uber.group.0 % 128 ≡ slot → slot_place uber.group.0 ≡ slot_place slot
slot_of uber slot lt same = ap (λ (n : ℕ). 4096 + 1024 * n) (let e : uber.group.0 % 128 ≡ slot % 128 = omega arith in e)

-- what the bytes of a slot show is what the image shows
pub read_valid : (image buf : List ℕ) (slot : ℕ) (found : Option Uber) → slot < 128 → buf ≡ bytes_at image (slot_place slot) 1024
    → MatchOption found ((uber : Uber) → uber.group.0 % 128 ≡ slot → IsValidSlot buf uber → ⊥) (λ uber. (uber.group.0 % 128 ≡ slot) × IsValidSlot buf uber)
    → TheValid image (λ uber. uber.group.0 % 128 ≡ slot) found
read_valid image buf slot None lt is none = λ uber same valid.
    none uber same (subst (λ (bytes : List ℕ). IsValidSlot bytes uber) (ap (λ (p : ℕ). bytes_at image p 1024) (slot_of uber slot lt same) ∙ sym is) valid)
read_valid image buf slot (Some uber) lt is some =
    (some.0, subst (λ (bytes : List ℕ). IsValidSlot bytes uber) (is ∙ sym (ap (λ (p : ℕ). bytes_at image p 1024) (slot_of uber slot lt some.0))) some.1)

-- what holds of both uberblocks holds of the newer
pub newer_has : (P : Uber → Type 0) (best found result : Option Uber) → IfSome best P → IfSome found P → (result ≡ best) ⊎ (result ≡ found) → IfSome result P
newer_has P best found result was here (inl same) = subst (λ (o : Option Uber). IfSome o P) (sym same) was
newer_has P best found result was here (inr same) = subst (λ (o : Option Uber). IfSome o P) (sym same) here
