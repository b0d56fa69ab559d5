use Rattle.std.proofs.Common.{sym, subst}
use Rattle.class_group.specs.Turns.{ClassTurns}
use Rattle.class_group.specs.Passes.{Seated}
use Rattle.class_group.proofs.JournalLaws.{stays_seated}
use Rattle.class_rows.proofs.pool.Pool.granted.Goals as goal

pub granted-requires-clause-seated : goal.granted-requires-clause-seated
granted-requires-clause-seated g c = subst (λ (t : ClassTurns). Seated c.args.lane t c.args.passes.now) (sym c.self.view_is) c.requires

pub returns : goal.returns
returns g c =
    subst (λ (t : ClassTurns). Seated c.args.lane t c.granted.new.passes) c.self.view_is
    (stays_seated c.args.lane c.self.inside.classes _ c.args.passes.now c.granted.new.passes (subst (λ (t : ClassTurns). Seated c.args.lane t c.args.passes.now) (sym c.self.view_is) c.requires) c.granted.ensures.journey)
