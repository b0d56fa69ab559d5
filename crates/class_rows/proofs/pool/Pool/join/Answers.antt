use Rattle.std.proofs.Common.{sym, subst}
use Rattle.class_group.specs.Turns.{ClassTurns}
use Rattle.class_group.specs.Passes.{Seated, AreIdle}
use Rattle.class_group.proofs.Gathering.{seated_idle}
use Rattle.class_rows.proofs.pool.Pool.join.Goals as goal

pub join_classes-requires-clause-first : goal.join_classes-requires-clause-first
join_classes-requires-clause-first c = subst (λ (t : ClassTurns). AreIdle t c.args.first.now) (sym c.self.view_is) c.requires.first

pub join_classes-requires-clause-second : goal.join_classes-requires-clause-second
join_classes-requires-clause-second c =
    seated_idle c.args.lane c.self.inside.classes c.args.passes (subst (λ (t : ClassTurns). Seated c.args.lane t c.args.passes) (sym c.self.view_is) c.requires.passes)

pub returns : goal.returns
returns c = subst (λ (t : ClassTurns). AreIdle t c.join_classes.new.first) c.self.view_is c.join_classes.ensures.idle
