-- The fields of a metaslab group: what they stand for, and what is true of them.
use Rattle.std.specs.Prelude.{◌≡◌, ℕ, ◌<◌, ◌≤◌, true, Bool, Some, length}
use Rattle.ms_model.specs.declared.notes.Got.{Got}
use Rattle.class_core.specs.Groups.{GroupState, Stands, active_in}
use Rattle.class_core.specs.Rankings.{has}
use Rattle.class_core.specs.declared.group.MetaslabGroup.TheInside.{Inside}

abbrev pub group_state : Inside → GroupState
group_state g = record { vdev = g.vdev; weights = g.weights.items; active = g.active }

-- a set has just the inactive metaslabs with their weights, and a metaslab is active at one place at most
pub record Agrees (s : GroupState) (m : Got → Bool) : Type 0 where
  pub has : (g : Got) → m g ≡ true → Stands s g
  pub all : (g : Got) → Stands s g → m g ≡ true
  pub within : (place i : ℕ) → active_in s place ≡ Some i → i < length s.weights
  pub one : (j k i : ℕ) → active_in s j ≡ Some i → active_in s k ≡ Some i → j ≡ k

pub record IsGroup (g : Inside) : Type 0 where
  pub few : length g.weights.items ≤ 65536
  pub places : length g.active ≡ 8
  pub agrees : Agrees (group_state g) (has g.ranking)
