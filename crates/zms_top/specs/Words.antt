-- The words of the command line. Each form is what its words are; reading them is the inverse.
use Rattle.std.specs.Prelude.{◌≡◌, ℕ, ◌<◌, ◌≤◌, Bool, ◌==◌, ◌||◌, ◌⊎◌, ◌^◌, List, [], ◌∷◌, ◌++◌, length, IsTrue, codes, decimal}
use Rattle.std.specs.List.{list_all}
use Rattle.cmd_text.specs.Words.{is_lowercase, is_digit}
use Rattle.vdev_map.specs.Limits.{AreVdevs}
use Rattle.vdev_text.specs.Specs.{spec_text}
use Rattle.meta_store.specs.declared.causes.At.{At}
use Rattle.meta_store.specs.declared.causes.At.TheVariants.{Newest, Group as AtGroup}
use Rattle.zms_top.specs.declared.words.Asked.{Asked}
use Rattle.zms_top.specs.declared.words.Asked.TheVariants.{Create, Run, Report}

-- a to z, 0 to 9, `_`, `.` and `/`
abbrev pub is_pool_byte : ℕ → Bool
is_pool_byte b = is_lowercase b || is_digit b || (b == 95) || (b == 46) || (b == 47)

-- the name of a pool: 1 to 64 such bytes
pub record IsPoolName (name : List ℕ) : Type 0 where
  pub some : 0 < length name
  pub short : length name ≤ 64
  pub bytes : IsTrue (list_all is_pool_byte name)

-- the option that names a group
abbrev pub group_word : ℕ → List ℕ
group_word group = codes "--group=" ++ decimal group

-- of two words one is this name, and the other names this group, in a number of at most 19 digits
pub record ArePoolAndGroup (one two name : List ℕ) (group : ℕ) : Type 0 where
  pub short : group < 10 ^ 19
  pub either : ((one ≡ name) × (two ≡ group_word group)) ⊎ ((one ≡ group_word group) × (two ≡ name))

-- a command over this name at this group: the option stands anywhere behind the command
pub record AsksGroup (command name : List ℕ) (words : List (List ℕ)) (group : ℕ) : Type 0 where
  pub one : List ℕ
  pub two : List ℕ
  pub words_are : words ≡ command ∷ one ∷ two ∷ []
  pub are : ArePoolAndGroup one two name group

-- a command over this name at what is asked for: alone, or with the option
abbrev pub AsksAt : List ℕ → List ℕ → List (List ℕ) → At → Type 0
AsksAt command pool words Newest = words ≡ command ∷ pool ∷ []
AsksAt command pool words (AtGroup group) = AsksGroup command pool words group.0

-- what the words ask for of the pool of a name
abbrev pub AsksOf : List ℕ → List (List ℕ) → Asked → Type 0
AsksOf pool words (Create vdevs) = (words ≡ codes "create" ∷ pool ∷ spec_text vdevs ∷ []) × AreVdevs vdevs
AsksOf pool words (Run at) = AsksAt (codes "run") pool words at
AsksOf pool words (Report at) = AsksAt (codes "report") pool words at

-- the words ask for this
pub record Asks (words : List (List ℕ)) (asked : Asked) : Type 0 where
  pub pool : List ℕ
  pub name : IsPoolName pool
  pub are : AsksOf pool words asked

-- the words are outside the grammar
abbrev pub AsksNothing : List (List ℕ) → Type 0
AsksNothing words = (asked : Asked) → Asks words asked → ⊥

-- the words are of the pool of this name
abbrev pub AreOfPool : List (List ℕ) → List ℕ → Type 0
AreOfPool words name = (asked : Asked) × AsksOf name words asked
