-- What one group changes: the units that it gains, and those that it gives back.
use Rattle.std.specs.Prelude.{ℕ, ◌==◌, Bool, true, false, ◌&&◌, if◌then◌else◌, List}
use Rattle.std.specs.List.{fold, list_any}
use Rattle.zms_units.specs.Segments.{covers}
use Rattle.ms_model.specs.declared.notes.Act.{Act}
use Rattle.ms_model.specs.declared.notes.Act.TheVariants.{Grant, Free, Unalloc}
use Rattle.ms_model.specs.declared.notes.Noted.{Noted}

abbrev pub gained_by : ℕ → ℕ → Bool → Act → Bool
gained_by t u so_far (Grant group seg) = if (group.0 == t) && covers seg u then true else so_far
gained_by t u so_far (Unalloc group seg) = if (group.0 == t) && covers seg u then false else so_far
gained_by t u so_far _ = so_far

-- is the last grant or take-back of group t that covers a unit a grant?
abbrev pub is_gained : ℕ → List Noted → ℕ → Bool
is_gained t h u = fold (λ so_far note. gained_by t u so_far note.act) false h

abbrev pub gives : ℕ → ℕ → Act → Bool
gives t u (Free group seg) = (group.0 == t) && covers seg u
gives t u _ = false

-- is a unit freed in group t?
abbrev pub is_given : ℕ → List Noted → ℕ → Bool
is_given t h u = list_any (λ note. gives t u note.act) h
