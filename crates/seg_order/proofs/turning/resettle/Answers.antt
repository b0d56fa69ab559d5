use Rattle.std.proofs.Common.{sym, ◌∙◌}
use Rattle.seg_order.proofs.Standing.{in_use}
use Rattle.seg_order.proofs.Telling.{stays}
use Rattle.seg_order.proofs.turning.resettle.Goals as goal

pub tell-requires : goal.tell-requires
tell-requires g c = in_use g.O.Order.rules c.args.pool.now c.args.near c.requires.under.near_stands

pub returns-then-is_same : goal.returns-then-is_same
returns-then-is_same g c =
    stays g.O.Order.rules g.met.O.Order.lawful c.args.side c.requires.under c.requires.over
    (sym (c.is_same.ensures.root c.if-is_same.true) ∙ c.tell.ensures.root)
    (sym (c.is_same.ensures.height c.if-is_same.true) ∙ c.tell.ensures.height)
    (sym (c.is_same.ensures.greatest c.if-is_same.true) ∙ c.tell.ensures.greatest)
