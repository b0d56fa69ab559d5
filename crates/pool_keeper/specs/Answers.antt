-- What the keeper's acts at a metaslab give.
use Rattle.std.specs.Prelude.{◌≡◌, ℕ, ◌+◌, ◌<◌, ◌≤◌, Option, Some, None, List, [], ◌∷◌, ◌++◌, length}
use Rattle.zms_units.specs.declared.faults.First.{First}
use Rattle.zms_units.specs.declared.segments.Group.{Group}
use Rattle.zms_units.specs.declared.segments.Seg.{Seg}
use Rattle.vdev_map.specs.Numbers.{IsIn, number_of}
use Rattle.vdev_map.specs.declared.layout.Batch.{Batch}
use Rattle.lane_steps.specs.Steps.{noting, notes_of}
use Rattle.ms_model.specs.Events.{Event, at_metaslab, gate_steps, metaslab_steps}
use Rattle.ms_model.specs.Gates.{synced_group}
use Rattle.ms_model.specs.Legal.{IsLegal}
use Rattle.ms_model.specs.declared.notes.Act.TheVariants.{Collect, Settle}
use Rattle.ms_model.specs.declared.notes.Noted.{Noted}
use Rattle.ms_model.specs.Units.{settled_group, collected_group}
use Rattle.ms_cell.specs.Turns.{Turns}
use Rattle.ms_cell.specs.Passes.{Passes, origin_in, seen_in}
use Rattle.ms_cell.specs.Journey.{Journey}
use Rattle.ms_cell.specs.Answers.{IsGathered}

-- the keeper collected a group at the metaslab of a number, whose journal is legal, and these are its runs
pub record Collected (lane number : ℕ) (group : Group) (allocs frees : List Seg) (p q : Passes) : Type 0 where
  pub before : List Noted
  pub journey : Journey 0 (at_metaslab number (noting before (record { lane = lane; act = Collect group })) ∷ []) p q
  pub runs : IsGathered group allocs frees (origin_in p number) before
  pub legal : IsLegal (origin_in p number) (before ++ record { lane = lane; act = Collect group } ∷ [])

-- the batch has them
pub record IsCollected (t : Turns) (lane number : ℕ) (group : Group) (batch : Batch) (p q : Passes) : Type 0 where
  pub inside : IsIn t.vdevs batch.id
  pub place : number_of t.vdevs batch.id ≡ number
  pub runs : Collected lane number group batch.allocs batch.frees p q

-- the last committed group, after a commit that kept this
abbrev pub group_after : Option First → ℕ → ℕ
group_after None group = group + 1
group_after (Some first) group = group

-- at the metaslab of a number a group is collected, and the one before it is settled
pub record IsDue (group : Group) (k : ℕ) (p : Passes) : Type 0 where
  pub next : group.0 ≡ settled_group (origin_in p k) (seen_in p k) + 1
  pub collected : group.0 ≤ collected_group (origin_in p k) (seen_in p k)

-- and so at each
abbrev pub AreDue : Turns → Group → Passes → Type 0
AreDue t group p = (k : ℕ) → k < length t.metaslabs → IsDue group k p

abbrev pub settle_of : ℕ → Group → Noted
settle_of lane group = record { lane = lane; act = Settle group }

-- the keeper settled it at the metaslab of a number
pub record IsSettledAt (lane number : ℕ) (group : Group) (p q : Passes) : Type 0 where
  pub before : List Noted
  pub journey : Journey 0 (at_metaslab number (noting before (settle_of lane group)) ∷ []) p q

-- the keeper settled it at the first few metaslabs, and did nothing else
pub record AreSettled (few lane : ℕ) (group : Group) (p q : Passes) : Type 0 where
  pub events : List Event
  pub journey : Journey 0 events p q
  pub gate : gate_steps events ≡ []
  pub each : (k : ℕ) → k < few → notes_of (metaslab_steps k events) ≡ settle_of lane group ∷ []
  pub others : (k : ℕ) → few ≤ k → notes_of (metaslab_steps k events) ≡ []

-- and at each, and then at the gate
pub record IsSettled (t : Turns) (lane : ℕ) (group : Group) (p q : Passes) : Type 0 where
  pub events : List Event
  pub journey : Journey 0 events p q
  pub each : (k : ℕ) → k < length t.metaslabs → notes_of (metaslab_steps k events) ≡ settle_of lane group ∷ []
  pub gate : synced_group t.opened q.gate.seen ≡ group.0
