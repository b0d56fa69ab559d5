use Rattle.std.proofs.Common.{arith}
use Rattle.cell_rows.proofs.Settling.{fresh_near}
use Rattle.ms_cell.proofs.Gathering.{fresh_seated}
use Rattle.cell_rows.proofs.forms.held_is_busy.Goals as goal

pub try_grant_at-grant-requires-clause-near : goal.try_grant_at-grant-requires-clause-near
try_grant_at-grant-requires-clause-near g c = fresh_near 2 c.args.cells.now c.args.others.two 0 _ _ c.id_at-first.ensures.number c.requires.two (omega (arith, c.requires.some)) c.requires.near

pub try_grant_at-grant-requires-clause-seated : goal.try_grant_at-grant-requires-clause-seated
try_grant_at-grant-requires-clause-seated g c = fresh_seated 2 c.args.cells.now c.args.others.two c.requires.two

pub try_free_at-free-requires-clause-near : goal.try_free_at-free-requires-clause-near
try_free_at-free-requires-clause-near g c = fresh_near 3 c.args.cells.now c.args.others.three 0 _ _ c.id_at-first.ensures.number c.requires.three (omega (arith, c.requires.some)) c.requires.near

pub try_free_at-free-requires-clause-seated : goal.try_free_at-free-requires-clause-seated
try_free_at-free-requires-clause-seated g c = fresh_seated 3 c.args.cells.now c.args.others.three c.requires.three

pub try_grant_at-other-requires-clause-near : goal.try_grant_at-other-requires-clause-near
try_grant_at-other-requires-clause-near g c = fresh_near 4 c.args.cells.now c.args.others.four 1 _ _ c.id_at-second.ensures.number c.requires.four (omega (arith, c.requires.some)) c.requires.near

pub try_grant_at-other-requires-clause-seated : goal.try_grant_at-other-requires-clause-seated
try_grant_at-other-requires-clause-seated g c = fresh_seated 4 c.args.cells.now c.args.others.four c.requires.four
