use Rattle.std.proofs.Common.{◌≡◌, Option, ◌∙◌, ap, sym, subst}
use Rattle.std.specs.Prelude.{slice_get}
use Rattle.copy_walk.specs.Nexts.{IsNext}
use Rattle.copy_walk.specs.Walks.{asked_by, asked_in_round, asked}
use Rattle.copy_walk.specs.Walked.{walk_state}
use Rattle.copy_walk.specs.declared.next.Next.{Next}
use Rattle.copy_walk.specs.declared.route.Stop.{Stop}
use Rattle.copy_walk.proofs.Keeping.{next_from}
use Rattle.copy_walk.proofs.walk.Walk.next.Goals as goal

pub returns-clause-asked : goal.returns-clause-asked
returns-clause-asked c =
    let w = c.self.inside in
    (c.asked_by.ensures
    ∙ (ap (λ (o : Option Stop). asked_by o w.start w.look c.asked_in_round-in_round.result) c.get-2.ensures
    ∙ ap (λ (n : Next). asked_by (slice_get w.route w.place) w.start w.look n) (c.asked_in_round-in_round.ensures ∙ ap (λ (o : Option Stop). asked_in_round o w.index) c.get.ensures)))
    ∙ ap asked c.self.view_is

pub returns-clause-next : goal.returns-clause-next
returns-clause-next c = λ steps told.
    let w = c.self.inside in
    let is : c.asked_by.result ≡ asked c.args.self.now =
    (c.asked_by.ensures
    ∙ (ap (λ (o : Option Stop). asked_by o w.start w.look c.asked_in_round-in_round.result) c.get-2.ensures
    ∙ ap (λ (n : Next). asked_by (slice_get w.route w.place) w.start w.look n) (c.asked_in_round-in_round.ensures ∙ ap (λ (o : Option Stop). asked_in_round o w.index) c.get.ensures)))
    ∙ ap asked c.self.view_is in
    subst (IsNext c.args.self.now.plan steps) (sym is) (next_from (walk_state w) c.args.self.now c.self.view_is c.self.invariant steps told)
