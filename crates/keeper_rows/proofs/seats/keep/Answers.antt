use Rattle.std.proofs.Common.{refl, ◌∙◌}
use Rattle.keeper_rows.proofs.Bases.{may_begin}
use Rattle.keeper_rows.proofs.Seating.{keeper_begun}
use Rattle.keeper_rows.proofs.seats.keep.Goals as goal

pub new-requires : goal.new-requires
new-requires c = (c.args.shared.now.cells, may_begin c.args.shared.now.cells c.args.held.now c.args.store c.args.passes c.requires.fresh (c.if-not-is_same.ensures refl) c.requires.units)

pub returns-in-Ok : goal.returns-in-Ok
returns-in-Ok c =
    let may = may_begin c.args.shared.now.cells c.args.held.now c.args.store c.args.passes c.requires.fresh (c.if-not-is_same.ensures refl) c.requires.units in
    keeper_begun c.args.shared.now.cells c.in-Ok.turn c.args.first c.args.store c.args.passes c.new.result.start c.skip.new.rest may c.new.ensures.store c.new.ensures.passes c.skip.ensures.rest (c.skip.ensures.fixed ∙ c.in-Ok.ensures.fixed)
