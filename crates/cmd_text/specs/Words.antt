-- The bytes of names and numbers.
use Rattle.std.specs.Prelude.{◌≡◌, ℕ, ◌<◌, ◌≤◌, Bool, ◌||◌, ◌&&◌, nat_le, List, length, slice_index, IsTrue}
use Rattle.std.specs.List.{list_all}
use Rattle.std.specs.Prelude.{true}

abbrev pub is_lowercase : ℕ → Bool
is_lowercase b = nat_le 97 b && nat_le b 122

abbrev pub is_digit : ℕ → Bool
is_digit b = nat_le 48 b && nat_le b 57

-- a byte of a block's name: a to z, 0 to 9
abbrev pub is_name_byte : ℕ → Bool
is_name_byte b = is_lowercase b || is_digit b

-- the name of a block: 1 to 16 such bytes
pub record IsName (name : List ℕ) : Type 0 where
  pub some : 0 < length name
  pub short : length name ≤ 16
  pub bytes : IsTrue (list_all is_name_byte name)

-- digits alone, and no zero before another
pub record IsPlain (digits : List ℕ) : Type 0 where
  pub some : 0 < length digits
  pub digits_only : list_all is_digit digits ≡ true
  pub unpadded : slice_index digits 0 ≡ 48 → length digits ≡ 1
