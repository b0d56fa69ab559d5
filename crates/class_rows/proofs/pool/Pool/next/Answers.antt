use Rattle.std.proofs.Common.{◌+◌, sym, subst}
use Rattle.class_group.specs.Turns.{ClassTurns}
use Rattle.class_group.specs.Passes.{Seated, AreIdle, AreRests}
use Rattle.class_group.proofs.Gathering.{fresh_seated, rests_idle}
use Rattle.class_rows.proofs.pool.Pool.next.Goals as goal

pub next_classes-requires-clause-rest : goal.next_classes-requires-clause-rest
next_classes-requires-clause-rest c = subst (λ (t : ClassTurns). AreRests c.args.right t c.args.rest.now) (sym c.self.view_is) c.requires.rest

pub returns-in-Ok-clause-rest : goal.returns-in-Ok-clause-rest
returns-in-Ok-clause-rest c = subst (λ (t : ClassTurns). AreRests (c.args.right + 1) t c.next_classes.new.rest) c.self.view_is c.in-Ok.ensures.rest

pub returns-in-Ok-clause-seated : goal.returns-in-Ok-clause-seated
returns-in-Ok-clause-seated c =
    subst (λ (t : ClassTurns). Seated c.args.right t c.in-Ok.passes) c.self.view_is (fresh_seated c.args.right c.self.inside.classes c.in-Ok.passes c.in-Ok.ensures.fresh)

pub returns-in-Ok-clause-idle : goal.returns-in-Ok-clause-idle
returns-in-Ok-clause-idle c =
    subst (λ (t : ClassTurns). AreIdle t c.next_classes.new.rest) c.self.view_is (rests_idle (c.args.right + 1) c.self.inside.classes c.next_classes.new.rest c.in-Ok.ensures.rest)
