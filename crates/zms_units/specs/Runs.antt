-- Sets of units: their maximal runs, what is asked of these, and the fit, by which a metaslab answers a request.
use Rattle.std.specs.Prelude.{◌≡◌, ℕ, zero, suc, ◌+◌, ◌*◌, ◌^◌, ◌<◌, ◌≤◌, ◌⊎◌, ◌&&◌, not, Bool, true, false, List}
use Rattle.std.specs.List.{All, count_by, range_with_len}
use Rattle.zms_units.specs.declared.segments.Seg.{Seg}
use Rattle.zms_units.specs.Limits.{AMPLE_BYTES, AMPLE_SHARE}
use Rattle.zms_units.specs.Segments.{end_of, Covers, covered, AreSegs}

-- a set of the units 0 to range-1
pub record UnitSet : Type 0 where
  pub range : ℕ
  pub has : ℕ → Bool

-- how many of the units 0 to units-1 are in a set
abbrev pub units_in : (ℕ → Bool) → ℕ → ℕ
units_in set units = count_by set (range_with_len 0 units)

-- is the unit before one in a set?
abbrev pub has_before : (ℕ → Bool) → ℕ → Bool
has_before set zero = false
has_before set (suc u) = set u

-- does a maximal run of a set begin at a unit?
abbrev pub begins_run : (ℕ → Bool) → ℕ → Bool
begins_run set u = set u && not (has_before set u)

-- how many maximal runs a set has among the units 0 to units-1
abbrev pub run_count : (ℕ → Bool) → ℕ → ℕ
run_count set units = units_in (begins_run set) units

-- a run of units of a set, as long as it can be, among the units 0 to units-1
pub record IsMaximalRun (set : ℕ → Bool) (units : ℕ) (run : Seg) : Type 0 where
  pub some : 0 < run.count
  pub within : end_of run ≤ units
  pub inside : (u : ℕ) → Covers run u → set u ≡ true
  pub before : (u : ℕ) → u + 1 ≡ run.start → set u ≡ false
  pub after : end_of run < units → set (end_of run) ≡ false

-- all maximal runs of a set, rising
pub record AreMaximalRuns (set : ℕ → Bool) (units : ℕ) (runs : List Seg) : Type 0 where
  pub rising : AreSegs units runs
  pub maximal : All (IsMaximalRun set units) runs
  pub whole : (u : ℕ) → u < units → covered runs u ≡ set u

-- no so many units of a set stand in a row
abbrev pub NoneInRow : (ℕ → Bool) → ℕ → ℕ → Type 0
NoneInRow set units count = (start : ℕ) → start + count ≤ units → ((u : ℕ) → start ≤ u → u < start + count → set u ≡ true) → ⊥

-- a maximal run of at least so many units that starts at or after a unit
pub record IsLongFrom (set : ℕ → Bool) (units count at : ℕ) (run : Seg) : Type 0 where
  pub maximal : IsMaximalRun set units run
  pub long : count ≤ run.count
  pub from : at ≤ run.start

-- the lowest of them
pub record IsFirstFrom (set : ℕ → Bool) (units count at : ℕ) (run : Seg) : Type 0 where
  pub is_long : IsLongFrom set units count at run
  pub lowest : (other : Seg) → IsLongFrom set units count at other → run.start ≤ other.start

-- there is none
abbrev pub NoneFrom : (ℕ → Bool) → ℕ → ℕ → ℕ → Type 0
NoneFrom set units count at = (run : Seg) → IsLongFrom set units count at run → ⊥

-- the shortest maximal run of at least so many units, and the lowest of these
pub record IsBest (set : ℕ → Bool) (units count : ℕ) (run : Seg) : Type 0 where
  pub is_long : IsLongFrom set units count 0 run
  pub shortest : (other : Seg) → IsLongFrom set units count 0 other → run.count ≤ other.count
  pub lowest : (other : Seg) → IsLongFrom set units count 0 other → other.count ≡ run.count → run.start ≤ other.start

-- the length of the longest maximal run, 0 where there is none
pub record IsLargest (set : ℕ → Bool) (units largest : ℕ) : Type 0 where
  pub bounds : (run : Seg) → IsMaximalRun set units run → run.count ≤ largest
  pub met : 0 < largest → (run : Seg) × (IsMaximalRun set units run × (run.count ≡ largest))

-- space is ample where some run has enough bytes, 131072, and at least one unit in 25 is in the set
pub record IsAmple (set : ℕ → Bool) (units ashift : ℕ) : Type 0 where
  pub run : Seg
  pub maximal : IsMaximalRun set units run
  pub long : AMPLE_BYTES ≤ run.count * 2 ^ ashift
  pub share : units ≤ AMPLE_SHARE * units_in set units

-- the first run that is long enough at or after the cursor, or else from the range's start
abbrev pub IsNext : (ℕ → Bool) → ℕ → ℕ → ℕ → Seg → Type 0
IsNext set units cursor count run = IsFirstFrom set units count cursor run ⊎ (NoneFrom set units count cursor × IsFirstFrom set units count 0 run)

-- the fit: the first units of the next run where space is ample, and else of the best
pub record IsFit (set : ℕ → Bool) (units ashift cursor count : ℕ) (seg : Seg) : Type 0 where
  pub run : Seg
  pub starts : seg.start ≡ run.start
  pub counts : seg.count ≡ count
  pub ample : IsAmple set units ashift → IsNext set units cursor count run
  pub scarce : (IsAmple set units ashift → ⊥) → IsBest set units count run
