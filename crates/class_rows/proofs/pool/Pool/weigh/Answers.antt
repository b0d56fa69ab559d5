use Rattle.std.proofs.Common.{sym, subst}
use Rattle.class_group.specs.Turns.{ClassTurns}
use Rattle.class_group.specs.Passes.{Seated}
use Rattle.class_group.proofs.JournalLaws.{stays_seated}
use Rattle.class_rows.proofs.pool.Pool.weigh.Goals as goal

pub weigh-requires-clause-seated : goal.weigh-requires-clause-seated
weigh-requires-clause-seated g c = subst (λ (t : ClassTurns). Seated c.args.lane t c.args.passes.now) (sym c.self.view_is) c.requires

pub returns : goal.returns
returns g c =
    subst (λ (t : ClassTurns). Seated c.args.lane t c.weigh.new.passes) c.self.view_is
    (stays_seated c.args.lane c.self.inside.classes _ c.args.passes.now c.weigh.new.passes (subst (λ (t : ClassTurns). Seated c.args.lane t c.args.passes.now) (sym c.self.view_is) c.requires) c.weigh.ensures.journey)
