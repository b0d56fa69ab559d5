use Rattle.ms_cell.proofs.JournalLaws.{stays_seated}
use Rattle.alloc_rows.proofs.meanwhile.free_other.Goals as goal

pub free_at-requires-clause-seated : goal.free_at-requires-clause-seated
free_at-requires-clause-seated g c = stays_seated 2 c.args.cells.now _ c.args.other.now c.hold_at-hold.new.passes c.requires.seated (c.hold_at-hold.ensures 2 c.requires.seated).journey

pub release_at-requires : goal.release_at-requires
release_at-requires g c =
    let held = stays_seated 2 c.args.cells.now _ c.args.other.now c.hold_at-hold.new.passes c.requires.seated (c.hold_at-hold.ensures 2 c.requires.seated).journey in
    (2, stays_seated 2 c.args.cells.now _ c.hold_at-hold.new.passes c.free_at.new.passes held c.free_at.ensures.journey)

pub returns : goal.returns
returns g c = λ t seated.
    let first = (c.hold_at-hold.ensures 2 c.requires.seated).journey in
    let held = stays_seated 2 c.args.cells.now _ c.args.other.now c.hold_at-hold.new.passes c.requires.seated first in
    let freed = stays_seated 2 c.args.cells.now _ c.hold_at-hold.new.passes c.free_at.new.passes held c.free_at.ensures.journey in
    stays_seated 2 t _ c.free_at.new.passes c.release_at.new.passes (stays_seated 2 t _ c.hold_at-hold.new.passes c.free_at.new.passes (stays_seated 2 t _ c.args.other.now c.hold_at-hold.new.passes seated first) c.free_at.ensures.journey)
    (c.release_at.ensures 2 freed).journey
