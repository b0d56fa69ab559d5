use Rattle.std.proofs.Common.{List, ap, sym, subst, length, arith}
use Rattle.zms_units.specs.declared.places.VdevRow.{VdevRow}
use Rattle.ms_cell.specs.Turns.{Turns}
use Rattle.keeper_rows.specs.Parts.{AreFound}
use Rattle.keeper_rows.proofs.Bases.{are_bases, know_units}
use Rattle.keeper_rows.proofs.opening.share.Goals as goal

pub make_cells-requires-clause-bases : goal.make_cells-requires-clause-bases
make_cells-requires-clause-bases c = are_bases c.args.layout.vdevs c.args.bases.items c.args.held.now c.requires.found

pub returns-clause-units : goal.returns-clause-units
returns-clause-units c =
    let t = c.in_ok-cells.cells in
    know_units t c.args.bases.items c.args.held.now c.in_ok-cells.rest (subst (λ (v : List VdevRow). AreFound v c.args.bases.items c.args.held.now) (sym c.in_ok-cells.ensures.vdevs) c.requires.found)
    (omega (arith, c.in_ok-cells.ensures.rests.know.count, ap (λ (x : Turns). length x.metaslabs) c.cells.view_is, c.len-2.ensures, c.if-len-held.false)) c.in_ok-cells.ensures.bases
