-- Where the look for space goes on: one cursor for each place of the lowest set bit of a count.
use Rattle.std.specs.Prelude.{ℕ, ◌==◌, if◌then◌else◌, List}
use Rattle.std.specs.List.{fold}
use Rattle.zms_units.specs.Cursors.{cursor_of}
use Rattle.zms_units.specs.Segments.{end_of}
use Rattle.ms_model.specs.declared.notes.Act.{Act}
use Rattle.ms_model.specs.declared.notes.Act.TheVariants.{Grant, Load}
use Rattle.ms_model.specs.declared.notes.Noted.{Noted}

-- where a note leaves the cursor of a number: at the end of a grant of such a count, and at 0 by a load
abbrev pub cursor_by : ℕ → ℕ → Act → ℕ
cursor_by number so_far (Grant _ seg) = if cursor_of seg.count == number then end_of seg else so_far
cursor_by number so_far Load = 0
cursor_by number so_far _ = so_far

-- the end of the last grant since the last load whose count has this number, 0 if there is none
abbrev pub cursor_at : List Noted → ℕ → ℕ
cursor_at h number = fold (λ so_far note. cursor_by number so_far note.act) 0 h
