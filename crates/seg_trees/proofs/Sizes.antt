-- How many units and how many runs a tree has.
use Rattle.std.proofs.Common.{◌≡◌, ℕ, ◌+◌, Bool, List, length, refl, sym, subst}
use Rattle.zms_units.specs.declared.segments.Seg.{Seg}
use Rattle.zms_units.specs.Limits.{MAX_UNITS}
use Rattle.zms_units.specs.Segments.{covered, total_of}
use Rattle.zms_units.specs.Apart.{AreApartFrom}
use Rattle.seg_trees.specs.Sets.{range, size_of, nodes_of}
use Rattle.zms_units.proofs.Maximal.{apart_rise}
use Rattle.zms_units.proofs.Counting.{run_count-length, run_count_same, rising_units}

pub range-is : range ≡ MAX_UNITS
unfolding range
range-is = refl

in_range : (runs : List Seg) → AreApartFrom 0 (MAX_UNITS + 1) runs → AreApartFrom 0 (range + 1) runs
in_range runs a = let P : ℕ → Type 0 = λ n. AreApartFrom 0 (n + 1) runs in subst P (sym range-is) a

pub nodes_of-covered : (runs : List Seg) → AreApartFrom 0 (MAX_UNITS + 1) runs → nodes_of (covered runs) ≡ length runs
nodes_of-covered runs a = run_count-length 0 range runs (in_range runs a)

pub size_of-covered : (runs : List Seg) → AreApartFrom 0 (MAX_UNITS + 1) runs → size_of (covered runs) ≡ total_of runs
size_of-covered runs a = rising_units 0 range runs (apart_rise range runs (in_range runs a))

pub nodes_of_same : (set other : ℕ → Bool) → ((u : ℕ) → set u ≡ other u) → nodes_of set ≡ nodes_of other
nodes_of_same set other same = run_count_same set other range same
