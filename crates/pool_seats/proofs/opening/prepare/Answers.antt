use Rattle.std.proofs.Common.{◌+◌, sym, ap, ◌∙◌, subst}
use Rattle.vdev_map.specs.declared.layout.Layout.{Layout}
use Rattle.pool_seats.specs.Bases.{AreFirstWeights}
use Rattle.pool_seats.proofs.Alike.{cells_then, cells_back, then, lane_of}
use Rattle.pool_seats.proofs.Bases.{bases_along, may_begin}
use Rattle.pool_seats.proofs.opening.prepare.Goals as goal

pub returns : goal.returns
returns g c =
    let store = c.args.store.now in
    let first = c.in_ok-cells.cell_rest in
    let mid = c.next_zero.new.rest in
    let last = c.next_lanes.new.rest in
    let layout = c.in_ok-layout.ensures ∙ c.layout.ensures.layout in
    let vdevs = c.in_ok-cells.ensures.vdevs ∙ ap (λ (l : Layout). l.vdevs) layout in
    let zero = c.in_ok-keeper.ensures in
    let same = then (record { cells = first; classes = c.in_ok-classes.class_rest }) mid last zero.same c.in_ok-lanes.ensures.same in
    record {
      begins = may_begin c.in_ok-cells.cells store c.args.bases.items c.in_ok-keeper.keeper zero.fresh (sym c.turns_of-counts.ensures.cells.0 ∙ c.turns_of-counts.ensures.cells.1) vdevs (c.in_ok-cells.ensures.opened ∙ ap (λ x. x.0) c.group.ensures.group) (bases_along c.args.bases.items first c.in_ok-keeper.keeper zero.alike c.in_ok-cells.ensures.bases) c.requires.bases;
      one = c.in_ok-classes.ensures.vdevs ∙ sym c.in_ok-cells.ensures.vdevs;
      four = sym c.turns_of-counts.ensures.classes.0 ∙ c.turns_of-counts.ensures.classes.1;
      rights = c.in_ok-lanes.ensures.rest;
      count = c.in_ok-lanes.ensures.count;
      new = λ k p e. lane_of (k + 1) (record { cells = c.in_ok-cells.cells; classes = c.in_ok-classes.classes }) mid last p c.in_ok-lanes.ensures.same (c.in_ok-lanes.ensures.new k p e);
      keeper_alike = cells_then last.cells first c.in_ok-keeper.keeper (cells_back first last.cells same.cells) zero.alike;
      bases_stand = bases_along c.args.bases.items first last.cells same.cells c.in_ok-cells.ensures.bases;
      weights = subst (AreFirstWeights store.layout.vdevs store.table) (sym c.in_ok-classes.ensures.weights) c.in_ok-weights.ensures;
    }
