-- The four states of a unit's space. What was freed in a group stays busy until the second settle after the group's own.
use Rattle.std.specs.Prelude.{ℕ, ◌+◌, Bool, true, false, not, ◌&&◌, nat_lt, List}
use Rattle.ms_model.specs.Origin.{Origin}
use Rattle.ms_model.specs.Units.{LastAct, granted, freed, taken_back, untouched, last_act, is_grant, settled_group}
use Rattle.ms_model.specs.declared.notes.Noted.{Noted}

-- with s the settled group: a grant, or a free that is not two groups old
abbrev pub keeps_busy : ℕ → LastAct → Bool
keeps_busy s (granted _ _) = true
keeps_busy s (freed group) = nat_lt s (group + 2)
keeps_busy s taken_back = false
keeps_busy s untouched = false

-- may a unit not be handed out?
abbrev pub is_busy : Origin → List Noted → ℕ → Bool
is_busy o h u = keeps_busy (settled_group o h) (last_act o h u)

-- may it be handed out?
abbrev pub is_vacant : Origin → List Noted → ℕ → Bool
is_vacant o h u = not (is_busy o h u)

-- is it handed out?
abbrev pub is_live : Origin → List Noted → ℕ → Bool
is_live o h u = is_grant (last_act o h u)

-- is it freed, and not vacant yet?
abbrev pub is_deferred : Origin → List Noted → ℕ → Bool
is_deferred o h u = is_busy o h u && not (is_live o h u)
