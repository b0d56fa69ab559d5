use Rattle.std.proofs.Common.{sym, subst}
use Rattle.class_group.specs.Turns.{ClassTurns}
use Rattle.class_group.specs.Passes.{Seated}
use Rattle.class_group.proofs.JournalLaws.{stays_seated}
use Rattle.class_rows.proofs.pool.Pool.missed.Goals as goal

pub missed-requires-clause-seated : goal.missed-requires-clause-seated
missed-requires-clause-seated g c = subst (λ (t : ClassTurns). Seated c.args.lane t c.args.passes.now) (sym c.self.view_is) c.requires

pub returns : goal.returns
returns g c =
    subst (λ (t : ClassTurns). Seated c.args.lane t c.missed.new.passes) c.self.view_is
    (stays_seated c.args.lane c.self.inside.classes _ c.args.passes.now c.missed.new.passes (subst (λ (t : ClassTurns). Seated c.args.lane t c.args.passes.now) (sym c.self.view_is) c.requires) c.missed.ensures.journey)
