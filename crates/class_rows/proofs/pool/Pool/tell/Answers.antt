use Rattle.std.proofs.Common.{List, sym, subst}
use Rattle.class_group.specs.Turns.{ClassTurns}
use Rattle.class_group.specs.Passes.{ClassKnown, Seated}
use Rattle.class_group.proofs.JournalLaws.{stays_seated}
use Rattle.class_rows.proofs.pool.Pool.tell.Goals as goal

pub tell_class-requires-clause-from : goal.tell_class-requires-clause-from
tell_class-requires-clause-from c = (c.args.lane, subst (λ (t : ClassTurns). Seated c.args.lane t c.args.from.now) (sym c.self.view_is) c.requires.from)

pub tell_class-requires-clause-to : goal.tell_class-requires-clause-to
tell_class-requires-clause-to c = (c.args.other, subst (λ (t : ClassTurns). Seated c.args.other t c.args.to.now) (sym c.self.view_is) c.requires.to)

pub returns-clause-from : goal.returns-clause-from
returns-clause-from c = subst (λ (p : List ClassKnown). Seated c.args.lane c.args.self.now p) (sym c.tell_class.ensures.from) c.requires.from

pub returns-clause-to : goal.returns-clause-to
returns-clause-to c =
    let seated = subst (λ (t : ClassTurns). Seated c.args.other t c.args.to.now) (sym c.self.view_is) c.requires.to in
    subst (λ (t : ClassTurns). Seated c.args.other t c.tell_class.new.to) c.self.view_is
    (stays_seated c.args.other c.self.inside.classes _ c.args.to.now c.tell_class.new.to seated (c.tell_class.ensures.to c.args.other seated))
