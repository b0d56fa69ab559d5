use Rattle.std.proofs.Common.{◌≡◌, ℕ, ◌<◌, Bool, true, List, [], ◌∷◌, ◌++◌, Option, None, length, length-set, ◌∙◌, ap, sym, subst, arith}
use Rattle.std.specs.Prelude.{slice_get}
use Rattle.copy_walk.specs.Steps.{look_failed}
use Rattle.copy_walk.specs.Walks.{WalkState, asked_in_round, asked_by, IsLook, look_number, WasTold}
use Rattle.copy_walk.specs.Walked.{walk_state, ArePassed, IsFirstOpen, IsSound}
use Rattle.copy_walk.specs.declared.route.Stop.{Stop}
use Rattle.ms_model.specs.declared.notes.Start.TheVariants.{Active}
use Rattle.copy_walk.proofs.Keeping.{few_of, stops_below, number_asked, number_fits, look_from_top, passed_with, failed_sound, look_from, failed_from}
use Rattle.copy_walk.proofs.walk.Walk.failed.Goals as goal

pub look_number-requires : goal.look_number-requires
look_number-requires c =
    let i = c.self.inside in
    let w : WalkState = walk_state i in
    let is : IsLook (asked_by (slice_get w.stops w.place) Active w.look (asked_in_round (slice_get w.stops w.round) w.index)) =
    look_from_top (slice_get w.stops w.place) w.start w.look (asked_in_round (slice_get w.stops w.round) w.index) (look_from w c.args.self.now c.self.view_is c.self.invariant c.requires) in
    subst (λ (o : Option Stop). IsLook (asked_by o Active i.look (asked_in_round c.get-there.result i.index))) (sym c.get-here.ensures)
    (subst (λ (o : Option Stop). IsLook (asked_by (slice_get w.stops w.place) Active i.look (asked_in_round o i.index))) (sym c.get-there.ensures) is)

pub add-requires : goal.add-requires
add-requires c =
    let i = c.self.inside in
    let w : WalkState = walk_state i in
    let n : c.look_number.result ≡ number_asked w =
    c.look_number.ensures ∙ (ap (λ (o : Option Stop). look_number o i.look c.get-there.result i.index) c.get-here.ensures ∙ ap (λ (o : Option Stop). look_number (slice_get w.stops w.place) i.look o i.index) c.get-there.ensures) in
    let fits : number_asked w < length w.marks = number_fits w c.self.invariant (look_from w c.args.self.now c.self.view_is c.self.invariant c.requires) in
    (omega arith, subst (λ (k : ℕ). k < length w.marks) (sym n) fits)

pub first_open-round-requires-clause-few : goal.first_open-round-requires-clause-few
first_open-round-requires-clause-few c =
    let w : WalkState = walk_state c.self.inside in
    few_of w.plan c.self.invariant.plan w.stops c.self.invariant.route

pub first_open-round-requires-clause-numbers : goal.first_open-round-requires-clause-numbers
first_open-round-requires-clause-numbers c =
    let w : WalkState = walk_state c.self.inside in
    stops_below w.plan c.self.invariant.plan w.stops c.self.invariant.route (length c.add.new.self) (ap length c.add.ensures ∙ (length-set w.marks c.look_number.result true ∙ c.self.invariant.size))

pub first_open-round-requires-clause-passed : goal.first_open-round-requires-clause-passed
first_open-round-requires-clause-passed c =
    let i = c.self.inside in
    let w : WalkState = walk_state i in
    let n : c.look_number.result ≡ number_asked w =
    c.look_number.ensures ∙ (ap (λ (o : Option Stop). look_number o i.look c.get-there.result i.index) c.get-here.ensures ∙ ap (λ (o : Option Stop). look_number (slice_get w.stops w.place) i.look o i.index) c.get-there.ensures) in
    let fits : number_asked w < length w.marks = number_fits w c.self.invariant (look_from w c.args.self.now c.self.view_is c.self.invariant c.requires) in
    subst (λ (m : List Bool). ArePassed w.stops m w.round w.index) (sym c.add.ensures)
    (passed_with w c.self.invariant c.look_number.result (subst (λ (k : ℕ). k < length w.marks) (sym n) fits))

pub invariant_of-self : goal.invariant_of-self
invariant_of-self c =
    let w : WalkState = walk_state c.self.inside in
    let n = c.look_number.result in
    let r = c.first_open-round.result.0 in
    let j = c.first_open-round.result.1 in
    subst (λ (m : List Bool). IsSound (record w { look = None; round = r; index = j; marks = m })) (sym c.add.ensures)
    (failed_sound w c.self.invariant n r j (subst (λ (m : List Bool). IsFirstOpen w.stops m r j) c.add.ensures c.first_open-round.ensures))

pub returns-clause-told : goal.returns-clause-told
returns-clause-told c = λ steps id told asks.
    let i = c.self.inside in
    let w : WalkState = walk_state i in
    let r = c.first_open-round.result.0 in
    let j = c.first_open-round.result.1 in
    let n : c.look_number.result ≡ number_asked w =
    c.look_number.ensures ∙ (ap (λ (o : Option Stop). look_number o i.look c.get-there.result i.index) c.get-here.ensures ∙ ap (λ (o : Option Stop). look_number (slice_get w.stops w.place) i.look o i.index) c.get-there.ensures) in
    subst (λ (m : List Bool). WasTold (record w { look = None; round = r; index = j; marks = m }) (steps ++ look_failed id ∷ [])) (sym c.add.ensures)
    (failed_from w c.args.self.now c.self.view_is c.self.invariant c.look_number.result r j n steps id told asks)
