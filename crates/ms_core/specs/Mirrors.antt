-- How the trees of a metaslab say what its journal says.
use Rattle.std.specs.Prelude.{◌≡◌, ℕ, ◌+◌, ◌-◌, ◌%◌, ◌<◌, ◌≤◌, ◌≢◌, ◌||◌, ◌&&◌, not, Bool, true, false, nat_le, if◌then◌else◌, Option, Some, None, List}
use Rattle.zms_units.specs.declared.segments.Seg.{Seg}
use Rattle.zms_units.specs.Segments.{covers, covered}
use Rattle.seg_trees.specs.Sets.{Sets, HoldsAll, HoldsNone, IsSegment, OthersStay, OthersStayBut}
use Rattle.ms_model.specs.Origin.{Origin}
use Rattle.ms_model.specs.Units.{settled_group, collected_group, is_loaded}
use Rattle.ms_model.specs.Spaces.{is_vacant}
use Rattle.ms_model.specs.Gains.{is_gained, is_given}
use Rattle.ms_model.specs.declared.notes.Noted.{Noted}
use Rattle.zms_units.specs.declared.segments.Group.{Group}
use Rattle.ms_core.specs.declared.tree.Change.{Change}
use Rattle.ms_core.specs.declared.tree.Change.TheVariants.{Gained, Given}
use Rattle.ms_core.specs.declared.tree.Tree.{Tree}
use Rattle.ms_core.specs.declared.tree.Tree.TheVariants.{Allocatable, Allocating, Freeing, Deferred}

-- the trees of what a group gained, of what it gave back, and of what it gave back once it is settled
abbrev pub allocating_of : ℕ → ℕ
allocating_of group = 1 + group % 4

abbrev pub freeing_of : ℕ → ℕ
freeing_of group = 5 + group % 4

abbrev pub deferred_of : ℕ → ℕ
deferred_of group = 9 + group % 2

-- the number of a tree
abbrev pub number_of : Tree → ℕ
number_of Allocatable = 0
number_of (Allocating group) = allocating_of group.0
number_of (Freeing group) = freeing_of group.0
number_of (Deferred group) = deferred_of group.0

-- the units that a group gained, or gave back
abbrev pub is_changed : Change → ℕ → List Noted → ℕ → Bool
is_changed Gained t h u = is_gained t h u
is_changed Given t h u = is_given t h u

-- the tree of what the next group gained, or gave back, where it may have given something back
abbrev pub tree_of : Change → Group → ℕ → Option Tree
tree_of Gained group settled = Some (Allocating group)
tree_of Given group settled = if nat_le group.0 (settled + 3) then Some (Freeing group) else None

-- while the metaslab is loaded the first tree is what is vacant; four groups above the collected one have a tree of what they
-- gained, four above the settled one a tree of what they gave back, and the two that settle next a tree of what is vacant then
pub record Mirrors (o : Origin) (h : List Noted) (sets : Sets) : Type 0 where
  pub within : (tree u : ℕ) → o.units ≤ u → sets tree u ≡ false
  pub vacant : is_loaded h ≡ true → (u : ℕ) → u < o.units → sets 0 u ≡ is_vacant o h u
  pub unloaded : is_loaded h ≡ false → (u : ℕ) → sets 0 u ≡ false
  pub gained : (t u : ℕ) → collected_group o h < t → t ≤ collected_group o h + 4 → sets (allocating_of t) u ≡ is_gained t h u
  pub given : (t u : ℕ) → settled_group o h < t → t ≤ settled_group o h + 4 → sets (freeing_of t) u ≡ is_given t h u
  pub deferred : (t u : ℕ) → settled_group o h < t → t ≤ settled_group o h + 2 → sets (deferred_of t) u ≡ is_given (t - 2) h u

-- a segment goes into a tree, and no other tree changes
pub record Adds (sets new : Sets) (tree : ℕ) (seg : Seg) : Type 0 where
  pub added : (u : ℕ) → new tree u ≡ (covers seg u || sets tree u)
  pub others : OthersStay sets new tree

-- a segment goes from one tree into another, and no other tree changes
pub record Moves (sets new : Sets) (from into : ℕ) (seg : Seg) : Type 0 where
  pub left : (u : ℕ) → new from u ≡ (not (covers seg u) && sets from u)
  pub added : (u : ℕ) → new into u ≡ (covers seg u || sets into u)
  pub others : OthersStayBut sets new from into

-- a segment that may go from one tree into another: the one has all of it, and the other none
pub record CanMove (sets : Sets) (from into : ℕ) (seg : Seg) : Type 0 where
  pub differ : from ≢ into
  pub segment : IsSegment seg
  pub covered : HoldsAll (sets from) seg
  pub apart : HoldsNone (sets into) seg

-- a tree is empty, and no other tree changes
pub record Clears (sets new : Sets) (tree : ℕ) : Type 0 where
  pub empty : (u : ℕ) → new tree u ≡ false
  pub others : OthersStay sets new tree

-- the first tree has what segments leave of the units, and no other tree changes
pub record Fills (sets new : Sets) (units : ℕ) (held : List Seg) : Type 0 where
  pub gaps : (u : ℕ) → u < units → new 0 u ≡ not (covered held u)
  pub above : (u : ℕ) → units ≤ u → new 0 u ≡ false
  pub others : OthersStay sets new 0

-- the trees from before a group settles to after it: what is deferred until then is vacant, and what it gave back is deferred
pub record Settles (loaded : Bool) (sets new : Sets) (group : ℕ) : Type 0 where
  pub vacant : loaded ≡ true → (u : ℕ) → new 0 u ≡ (sets (deferred_of group) u || sets 0 u)
  pub unloaded : loaded ≡ false → (u : ℕ) → new 0 u ≡ sets 0 u
  pub deferred : (u : ℕ) → new (deferred_of group) u ≡ sets (freeing_of group) u
  pub given : (u : ℕ) → new (freeing_of group) u ≡ false
  pub others : (tree u : ℕ) → (tree ≡ 0 → ⊥) → (tree ≡ deferred_of group → ⊥) → (tree ≡ freeing_of group → ⊥) → new tree u ≡ sets tree u

-- a tree shows that no group up to this one may free a unit: it is vacant, given back, or a later group gained it
pub data IsBarred (o : Origin) (h : List Noted) (sets : Sets) (group u : ℕ) : Type 0 where
  by_vacant : sets 0 u ≡ true → IsBarred o h sets group u
  by_given : (tree : ℕ) → 5 ≤ tree → tree ≤ 10 → sets tree u ≡ true → IsBarred o h sets group u
  by_gained : (t : ℕ) → group < t → t ≤ collected_group o h + 4 → sets (allocating_of t) u ≡ true → IsBarred o h sets group u
