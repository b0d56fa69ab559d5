use Rattle.std.proofs.Common.{sym, subst}
use Rattle.class_group.specs.Turns.{ClassTurns}
use Rattle.class_group.specs.Passes.{Seated}
use Rattle.class_group.proofs.JournalLaws.{stays_seated}
use Rattle.class_rows.proofs.pool.Pool.begin.Goals as goal

pub begin-requires : goal.begin-requires
begin-requires g c = record { seated = (c.args.lane, subst (λ (t : ClassTurns). Seated c.args.lane t c.args.passes.now) (sym c.self.view_is) c.requires) }

pub returns : goal.returns
returns g c =
    let seated = subst (λ (t : ClassTurns). Seated c.args.lane t c.args.passes.now) (sym c.self.view_is) c.requires in
    subst (λ (t : ClassTurns). Seated c.args.lane t c.begin.new.passes) c.self.view_is
    (stays_seated c.args.lane c.self.inside.classes _ c.args.passes.now c.begin.new.passes seated (c.begin.ensures.turned c.args.lane seated).journey)
