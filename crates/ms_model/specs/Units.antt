-- What a journal says of one unit, and of the groups that were collected and settled.
use Rattle.std.specs.Prelude.{ℕ, Bool, true, false, nat_le, if◌then◌else◌, Option, Some, None, List, [], ◌∷◌, ◌++◌}
use Rattle.std.specs.List.{fold, filter}
use Rattle.zms_units.specs.Segments.{covers}
use Rattle.ms_model.specs.Origin.{Origin}
use Rattle.ms_model.specs.declared.notes.Act.{Act}
use Rattle.ms_model.specs.declared.notes.Act.TheVariants.{Grant, Free, Unalloc, Collect, Settle, Load, Unload, Disable, Enable}
use Rattle.ms_model.specs.declared.notes.Noted.{Noted}

-- a journal with one more act of a lane
abbrev pub noted : List Noted → ℕ → Act → List Noted
noted h lane act = h ++ record { lane = lane; act = act } ∷ []

-- the last act on a unit's space: a grant with its group, and its lane where it is one of this journal (the base counts
-- as grants of the opened group); a free with its group; a grant that was taken back; or nothing at all
pub data LastAct : Type 0 where
  granted : Option ℕ → ℕ → LastAct
  freed : ℕ → LastAct
  taken_back : LastAct
  untouched : LastAct

-- what a note leaves as the last act on a unit, which was so far another one
abbrev pub act_on : ℕ → LastAct → ℕ → Act → LastAct
act_on u so_far lane (Grant group seg) = if covers seg u then granted (Some lane) group.0 else so_far
act_on u so_far lane (Free group seg) = if covers seg u then freed group.0 else so_far
act_on u so_far lane (Unalloc group seg) = if covers seg u then taken_back else so_far
act_on u so_far lane _ = so_far

-- before the first note
abbrev pub first_act : Origin → ℕ → LastAct
first_act o u = if o.base u then granted None o.opened else untouched

-- the last grant, free or take-back in a journal that covers a unit
abbrev pub last_act : Origin → List Noted → ℕ → LastAct
last_act o h u = fold (λ so_far note. act_on u so_far note.lane note.act) (first_act o u) h

abbrev pub is_grant : LastAct → Bool
is_grant (granted _ _) = true
is_grant _ = false

-- the note is of no group above t
abbrev pub act_within : ℕ → Act → Bool
act_within t (Grant group _) = nat_le group.0 t
act_within t (Free group _) = nat_le group.0 t
act_within t (Unalloc group _) = nat_le group.0 t
act_within t (Collect group) = nat_le group.0 t
act_within t (Settle group) = nat_le group.0 t
act_within t _ = true

-- does group t hold a unit? The last act on it, over the notes of groups up to t, is a grant
abbrev pub held : Origin → List Noted → ℕ → ℕ → Bool
held o h t u = is_grant (last_act o (filter (λ note. act_within t note.act) h) u)

abbrev pub settled_by : ℕ → Act → ℕ
settled_by so_far (Settle group) = group.0
settled_by so_far _ = so_far

-- the group that was settled last, or the opened one
abbrev pub settled_group : Origin → List Noted → ℕ
settled_group o h = fold (λ so_far note. settled_by so_far note.act) o.opened h

abbrev pub collected_by : ℕ → Act → ℕ
collected_by so_far (Collect group) = group.0
collected_by so_far _ = so_far

-- the group that was collected last, or the opened one
abbrev pub collected_group : Origin → List Noted → ℕ
collected_group o h = fold (λ so_far note. collected_by so_far note.act) o.opened h

abbrev pub loaded_by : Bool → Act → Bool
loaded_by so_far Load = true
loaded_by so_far Unload = false
loaded_by so_far _ = so_far

-- is the metaslab's free space in memory? Not before the first load
abbrev pub is_loaded : List Noted → Bool
is_loaded h = fold (λ so_far note. loaded_by so_far note.act) false h

abbrev pub disabled_by : Option ℕ → Act → Option ℕ
disabled_by so_far (Disable worker) = Some worker
disabled_by so_far (Enable worker) = None
disabled_by so_far _ = so_far

-- the worker that keeps grants away, if there is one
abbrev pub worker_at : List Noted → Option ℕ
worker_at h = fold (λ so_far note. disabled_by so_far note.act) None h
