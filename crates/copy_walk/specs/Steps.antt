-- What an allocation was told so far.
use Rattle.std.specs.Prelude.{ℕ, ◌==◌, ◌&&◌, Bool, true, false, if◌then◌else◌, Option, Some, None, List, [], ◌∷◌, ◌++◌}
use Rattle.std.specs.List.{fold, list_any}
use Rattle.zms_units.specs.declared.places.MsId.{MsId}
use Rattle.ms_model.specs.declared.notes.Got.{Got}
use Rattle.ms_model.specs.declared.notes.Start.{Start}
use Rattle.ms_model.specs.declared.notes.Start.TheVariants.{Active, Top, After}

-- a pick on a vdev, from where it began, and what it gave; did it find the active metaslab?
pub record Picking : Type 0 where
  pub vdev : ℕ
  pub start : Start
  pub got : Option Got
  pub was_active : Bool

-- a pick was made, or a look at a metaslab failed
pub data Step : Type 0 where
  pick_gave : Picking → Step
  look_failed : MsId → Step

-- the metaslab that a step gave
abbrev pub got_at : ℕ → Option Got → Option MsId
got_at v None = None
got_at v (Some got) = Some (record { vdev = v; index = got.index })

abbrev pub given_by : Step → Option MsId
given_by (pick_gave pick) = got_at pick.vdev pick.got
given_by (look_failed id) = None

-- the one that the last step gave, which was not looked at since
abbrev pub given : List Step → Option MsId
given steps = fold (λ _ step. given_by step) None steps

-- behind a pick that found the active metaslab the next one begins at the top, and behind any other after what that one gave
abbrev pub start_behind : Start → Bool → Got → Start
start_behind Active was_active got = if was_active then Top else After got.weight got.index
start_behind Top was_active got = After got.weight got.index
start_behind (After weight index) was_active got = After got.weight got.index

-- on the next vdev it begins at the active one
abbrev pub start_from : Start → Bool → Option Got → Start
start_from start was_active None = Active
start_from start was_active (Some got) = start_behind start was_active got

abbrev pub start_after : Start → Step → Start
start_after so_far (pick_gave pick) = start_from pick.start pick.was_active pick.got
start_after so_far (look_failed id) = so_far

-- where the next pick begins
abbrev pub next_start : List Step → Start
next_start steps = fold start_after Active steps

-- a pick on this vdev gave none
abbrev pub is_none : Option Got → Bool
is_none None = true
is_none (Some got) = false

abbrev pub is_end_of : ℕ → Step → Bool
is_end_of v (pick_gave pick) = (pick.vdev == v) && is_none pick.got
is_end_of v (look_failed id) = false

-- is a vdev done, since a pick on it gave none?
abbrev pub is_done : List Step → ℕ → Bool
is_done steps v = list_any (is_end_of v) steps

-- are two metaslabs one, and is one among some?
abbrev pub is_same : MsId → MsId → Bool
is_same a b = (a.vdev == b.vdev) && (a.index == b.index)

abbrev pub is_among : List MsId → MsId → Bool
is_among ids id = list_any (is_same id) ids

-- the metaslabs at which looks failed, each once
abbrev pub failed_after : List MsId → Step → List MsId
failed_after so_far (pick_gave pick) = so_far
failed_after so_far (look_failed id) = if is_among so_far id then so_far else so_far ++ id ∷ []

abbrev pub failed : List Step → List MsId
failed steps = fold failed_after [] steps

-- did a look at this one fail?
abbrev pub has_failed : List Step → MsId → Bool
has_failed steps id = is_among (failed steps) id
