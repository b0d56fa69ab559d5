-- Numbered sets of units, the runs that they have, and what a call may leave of them.
use Rattle.std.specs.Prelude.{◌≡◌, ℕ, ◌+◌, ◌<◌, ◌≤◌, Bool, true, false}
use Rattle.std.specs.List.{sum_by, range_with_len}
use Rattle.zms_units.specs.declared.segments.Seg.{Seg}
use Rattle.zms_units.specs.Segments.{end_of, Covers}
use Rattle.zms_units.specs.Limits.{MAX_UNITS}
use Rattle.zms_units.specs.Runs.{units_in, run_count}

-- for the number of a tree and a unit: is the unit in that tree?
abbrev pub Sets : Type 0
Sets = ℕ → ℕ → Bool

-- all sets lie below this unit. The name is opaque, so that no count is worked out unit by unit
unfoldable pub range : ℕ
range = MAX_UNITS

-- how many units a set has
abbrev pub size_of : (ℕ → Bool) → ℕ
size_of set = units_in set range

-- how many maximal runs a set has: a tree has one node for each
abbrev pub nodes_of : (ℕ → Bool) → ℕ
nodes_of set = run_count set range

-- how many nodes the thirteen trees have together
unfoldable pub all_nodes : Sets → ℕ
all_nodes sets = sum_by (λ tree. nodes_of (sets tree)) (range_with_len 0 13)

-- a set of units holds all units of a segment, or none of them
abbrev pub HoldsAll : (ℕ → Bool) → Seg → Type 0
HoldsAll set seg = (u : ℕ) → Covers seg u → set u ≡ true

abbrev pub HoldsNone : (ℕ → Bool) → Seg → Type 0
HoldsNone set seg = (u : ℕ) → Covers seg u → set u ≡ false

-- a unit is the lowest of a segment that is in a set
pub record IsLowest (set : ℕ → Bool) (seg : Seg) (unit : ℕ) : Type 0 where
  pub inside : Covers seg unit
  pub held : set unit ≡ true
  pub lowest : (u : ℕ) → Covers seg u → u < unit → set u ≡ false

-- a segment that a call may name: not empty, and within the range
pub record IsSegment (seg : Seg) : Type 0 where
  pub some : 0 < seg.count
  pub within : end_of seg ≤ MAX_UNITS

-- no two sets share a unit
abbrev pub AreDisjoint : (ℕ → Bool) → (ℕ → Bool) → Type 0
AreDisjoint set other = (u : ℕ) → set u ≡ true → other u ≡ false

-- all trees are as before, or all but one, or all but two
abbrev pub AllStay : Sets → Sets → Type 0
AllStay old new = (tree u : ℕ) → new tree u ≡ old tree u

abbrev pub OthersStay : Sets → Sets → ℕ → Type 0
OthersStay old new but = (tree u : ℕ) → (tree ≡ but → ⊥) → new tree u ≡ old tree u

abbrev pub OthersStayBut : Sets → Sets → ℕ → ℕ → Type 0
OthersStayBut old new first second = (tree u : ℕ) → (tree ≡ first → ⊥) → (tree ≡ second → ⊥) → new tree u ≡ old tree u

-- a count of steps rose by so many at most
abbrev pub RisesAtMost : ℕ → ℕ → ℕ → Type 0
RisesAtMost old new most = (old ≤ new) × (new ≤ old + most)

-- a call took no memory and gave none away: what is spare and the nodes of all trees add up as before
abbrev pub TakesNone : ℕ → Sets → ℕ → Sets → Type 0
TakesNone spare old left new = left + all_nodes new ≡ spare + all_nodes old
