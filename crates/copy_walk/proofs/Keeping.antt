-- A walk that is told one step more, and one that was told none.
use Rattle.std.proofs.Common.{◌≡◌, ℕ, ◌+◌, ◌-◌, ◌<◌, ◌≤◌, Bool, true, false, cond, ltb, eqb, Option, Some, None, List, [], ◌∷◌, ◌++◌, length, set, length-set, refl, sym, ◌∙◌, ap, subst, arith, ◌⊎◌, inl, inr}
use Rattle.std.specs.Prelude.{◌||◌, ◌&&◌, slice_get, MatchOption, ⊤}
use Rattle.std.proofs.lemmas.Bool.{cases_lt, lt-ltb, le-ltb}
use Rattle.std.proofs.lemmas.List.{length_push}
use Rattle.std.proofs.lemmas.List.Sums.{count_by-le-length}
use Rattle.std.proofs.lemmas.Option.{slice_get_within}
use Rattle.zms_units.specs.declared.places.MsId.{MsId}
use Rattle.vdev_map.specs.Numbers.{IsIn, number_of}
use Rattle.vdev_map.proofs.InOrder.{before_within, one_number}
use Rattle.ms_model.specs.declared.notes.Got.{Got}
use Rattle.ms_model.specs.declared.notes.Start.{Start}
use Rattle.ms_model.specs.declared.notes.Start.TheVariants.{Active}
use Rattle.copy_walk.specs.Plans.{Plan, IsPlan, IsMetaslab}
use Rattle.copy_walk.specs.Steps.{Step, pick_gave, look_failed, got_at, start_from, is_none, is_done, is_same, is_among, failed_after, failed, has_failed}
use Rattle.copy_walk.specs.Nexts.{IsNext, AreSteps}
use Rattle.copy_walk.specs.Routes.{IsRoute}
use Rattle.copy_walk.specs.Walks.{WalkState, metaslab_of, asked_in_round, asked_by, asked, IsPickOf, IsLook, look_number, looked_at, is_marked, marked, place_after, look_of, after_pick, after_failure, WasTold}
use Rattle.copy_walk.specs.Walked.{IsLookOf, ArePassed, IsOpen, IsFirstOpen, AreNumbered, IsSound}
use Rattle.copy_walk.specs.declared.next.Next.{Next}
use Rattle.copy_walk.specs.declared.next.Next.TheVariants.{Pick, Look, Done}
use Rattle.copy_walk.specs.declared.route.Stop.{Stop}
use Rattle.copy_walk.proofs.Booleans.{clash, or_none, and_none, eqb_same, eqb_other, any_push, same_is, same_itself, or_true}
use Rattle.copy_walk.proofs.Routing.{same_place, one_place, few_stops}
use Rattle.copy_walk.proofs.Passing.{marks_there, marks_else, passed_stays, counts_same, counts_more}
use Rattle.copy_walk.proofs.Telling.{given_push, start_push, failed_push, done_push, steps_push, AsksPick, asks_pick, AsksLook, on_vdev, in_round, asks_look, looked_none, stop_number, stop_metaslab, stop_count, next_is}

-- numbers of metaslabs

pub number_below : (p : Plan) → IsPlan p → (id : MsId) → IsMetaslab p id → number_of p.vdevs id < 1024
number_below p is id in_ =
    let there : IsIn p.vdevs id = record { vdev = in_.vdev.0; index = in_.index } in
    omega (arith, before_within (λ _. 1) p.vdevs id there, is.vdevs.metaslabs_in_all)

numbers_differ : (p : Plan) (id other : MsId) → IsMetaslab p id → IsMetaslab p other → number_of p.vdevs other ≡ number_of p.vdevs id → other ≡ id
numbers_differ p id other is other_is same =
    one_number p.vdevs id other (record { vdev = is.vdev.0; index = is.index }) (record { vdev = other_is.vdev.0; index = other_is.index }) same

pub stops_below : (p : Plan) → IsPlan p → (stops : List Stop) → IsRoute p stops → (n : ℕ) → n ≡ 1024 → AreNumbered stops n
stops_below p is stops route n e k s at = by_count s.metaslabs refl where
  by_count : (c : ℕ) → s.metaslabs ≡ c → s.first + s.metaslabs ≤ n
  by_count c f = elim (cases_lt 0 c) [
    | inl some ↦
        let last : ℕ = c - 1 in
        let below : number_of p.vdevs (metaslab_of s last) < 1024 = number_below p is (metaslab_of s last) (stop_metaslab p stops route k s at last (omega (arith, some, f))) in
        omega (arith, below, stop_number p stops route k s at last, some, f, e)
    | inr none ↦ absurd (omega (arith, none, f, stop_count p stops route k s at, is.vdevs.metaslabs s.vdev ((route.each k s at).0.0)))
  ]

pub few_of : (p : Plan) → IsPlan p → (stops : List Stop) → IsRoute p stops → length stops ≤ 16
few_of p is stops route = omega (arith, few_stops p (λ _. ⊤) stops route, is.vdevs.count.most)

-- a pick

module _ (w : WalkState) (steps : List Step) (sound : IsSound w) (told : WasTold w steps) (got : Option Got) (was_active : Bool) (v : ℕ) (start : Start) (asks : asked w ≡ Pick v start) where
  abbrev step : Step
  step = pick_gave (record { vdev = v; start = start; got = got; was_active = was_active })

  what : AsksPick (slice_get w.stops w.place) w.start w.look v start
  what = asks_pick (slice_get w.stops w.place) w.start w.look (slice_get w.stops w.round) w.index v start asks

  pick_told : IsPickOf w.plan (asked w) got → AreSteps w.plan (steps ++ step ∷ [])
  pick_told may = steps_push w.plan steps step told.each (subst (IsNext w.plan steps) asks (next_is w steps sound told), subst (λ (n : Next). IsPickOf w.plan n got) asks may)

  -- the vdev at hand is done where the pick gave none
  ends : (k : ℕ) (s : Stop) → slice_get w.stops k ≡ Some s → (k < w.place) ⊎ (w.place ≤ k) → (w.place < k) ⊎ (k ≤ w.place) → (is_done steps s.vdev || (eqb v s.vdev && true)) ≡ ltb k (w.place + 1)
  ends k s at (inl lt) other = ap (λ (b : Bool). b || (eqb v s.vdev && true)) (told.done k s at ∙ lt-ltb k w.place lt) ∙ sym (lt-ltb k (w.place + 1) (omega (arith, lt)))
  ends k s at (inr le) (inl lt) =
      let not_yet : is_done steps s.vdev ≡ false = told.done k s at ∙ le-ltb k w.place le in
      let apart : eqb v s.vdev ≡ false = eqb_other v s.vdev (λ e. let one : k ≡ w.place = one_place w.plan (λ _. ⊤) w.stops sound.route k w.place s what.stop at what.at (sym e ∙ sym what.vdev) in omega (arith, one, lt)) in
      (ap (λ (b : Bool). b || (eqb v s.vdev && true)) not_yet ∙ ap (λ (b : Bool). b && true) apart) ∙ sym (le-ltb k (w.place + 1) (omega (arith, lt)))
  ends k s at (inr le) (inr ge) =
      let one : k ≡ w.place = omega (arith, le, ge) in
      let same : s ≡ what.stop = same_place w.stops k w.place s what.stop at what.at one in
      let not_yet : is_done steps s.vdev ≡ false = told.done k s at ∙ le-ltb k w.place le in
      let here : eqb v s.vdev ≡ true = eqb_same v s.vdev (sym what.vdev ∙ ap (λ (x : Stop). x.vdev) (sym same)) in
      (ap (λ (b : Bool). b || (eqb v s.vdev && true)) not_yet ∙ ap (λ (b : Bool). b && true) here) ∙ sym (lt-ltb k (w.place + 1) (omega (arith, one)))

  done_at : (g : Option Got) (k : ℕ) (s : Stop) → slice_get w.stops k ≡ Some s → (is_done steps s.vdev || (eqb v s.vdev && is_none g)) ≡ ltb k (place_after w.place g)
  done_at None k s at = ends k s at (cases_lt k w.place) (cases_lt w.place k)
  done_at (Some g) k s at = ap (λ (b : Bool). is_done steps s.vdev || b) (and_none (eqb v s.vdev)) ∙ (or_none (is_done steps s.vdev) ∙ told.done k s at)

  look_at : (g : Option Got) → got_at v g ≡ looked_at (slice_get w.stops (place_after w.place g)) (look_of g)
  look_at None = sym (looked_none (slice_get w.stops (w.place + 1)))
  look_at (Some g) = sym (ap (λ (o : Option Stop). looked_at o (Some g.index)) what.at ∙ ap (λ (u : ℕ). Some (record { vdev = u; index = g.index })) what.vdev)

  pub picked_told : IsPickOf w.plan (asked w) got → WasTold (after_pick w got was_active) (steps ++ step ∷ [])
  picked_told may = record {
    each = pick_told may;
    done = λ k s at. done_push steps step s.vdev ∙ done_at got k s at;
    start = ap (λ (from : Start). start_from from was_active got) what.begins ∙ sym (start_push steps step);
    look = given_push steps step ∙ look_at got;
    marks = λ id is. ap (λ (ids : List MsId). is_among ids id) (failed_push steps step) ∙ told.marks id is;
    count = ap length (failed_push steps step) ∙ told.count;
  }

-- the place of the vdev at hand, and what a pick leaves as it was

pub record AtHand (w : WalkState) (got : Option Got) : Type 0 where
  pub stop : Stop
  pub here : slice_get w.stops w.place ≡ Some stop
  pub fits : MatchOption got ⊤ (λ g. g.index < stop.metaslabs)

at_hand_of : (w : WalkState) → IsSound w → (got : Option Got) → (here : Option Stop) (look : Option ℕ) (there : Option Stop) → slice_get w.stops w.place ≡ here
    → IsPickOf w.plan (asked_by here w.start look (asked_in_round there w.index)) got → AtHand w got
at_hand_of w sound got None look None e may = absurd may
at_hand_of w sound got None look (Some t) e may = absurd may
at_hand_of w sound got (Some s) (Some i) there e may = absurd may
at_hand_of w sound got (Some s) None there e may = record {
  stop = s;
  here = e;
  fits = subst (λ (n : ℕ). MatchOption got ⊤ (λ g. g.index < n)) (sym (stop_count w.plan w.stops sound.route w.place s e)) may;
}

pub at_hand : (w : WalkState) → IsSound w → (got : Option Got) → IsPickOf w.plan (asked w) got → AtHand w got
at_hand w sound got may = at_hand_of w sound got (slice_get w.stops w.place) w.look (slice_get w.stops w.round) refl may

pub place_below : (w : WalkState) → IsSound w → (got : Option Got) → IsPickOf w.plan (asked w) got → w.place < 16
place_below w sound got may =
    let at : AtHand w got = at_hand w sound got may in
    omega (arith, slice_get_within w.stops w.place at.stop at.here, few_of w.plan sound.plan w.stops sound.route)

look_fits : (w : WalkState) (got : Option Got) → AtHand w got → IsLookOf (look_of got) (slice_get w.stops (place_after w.place got))
look_fits w None at = tt
look_fits w (Some g) at = subst (IsLookOf (Some g.index)) (sym at.here) at.fits

pub picked_sound : (w : WalkState) → IsSound w → (got : Option Got) (was_active : Bool) → IsPickOf w.plan (asked w) got → IsSound (after_pick w got was_active)
picked_sound w sound got was_active may = record {
  plan = sound.plan;
  route = sound.route;
  look = look_fits w got (at_hand w sound got may);
  size = sound.size;
  round = sound.round;
}

-- a look that failed

among_more : (ids : List MsId) (id other : MsId) (b : Bool) → is_among ids id ≡ b → is_among (cond b ids (ids ++ id ∷ [])) other ≡ (is_among ids other || is_same other id)
among_more ids id other false e = any_push (is_same other) ids id
among_more ids id other true e = at (is_same other id) refl where
  at : (c : Bool) → is_same other id ≡ c → is_among ids other ≡ (is_among ids other || is_same other id)
  at false f = sym (ap (λ (c : Bool). is_among ids other || c) f ∙ or_none (is_among ids other))
  at true f = (ap (is_among ids) (same_is other id f) ∙ e) ∙ sym (or_true (is_among ids other) (is_same other id) f)

pub among_after : (ids : List MsId) (id other : MsId) → is_among (failed_after ids (look_failed id)) other ≡ (is_among ids other || is_same other id)
among_after ids id other = among_more ids id other (is_among ids id) refl

module _ (w : WalkState) (sound : IsSound w) (id : MsId) (asks : asked w ≡ Look id) where
  looks : AsksLook (slice_get w.stops w.place) w.look (slice_get w.stops w.round) w.index id
  looks = asks_look (slice_get w.stops w.place) w.start w.look (slice_get w.stops w.round) w.index id asks

  in_class : AsksLook (slice_get w.stops w.place) w.look (slice_get w.stops w.round) w.index id → IsMetaslab w.plan id
  in_class (on_vdev s i here look is) =
      let fits : i < s.metaslabs = subst (λ (o : Option Stop). IsLookOf (Some i) o) here (subst (λ (l : Option ℕ). IsLookOf l (slice_get w.stops w.place)) look sound.look) in
      subst (IsMetaslab w.plan) is (stop_metaslab w.plan w.stops sound.route w.place s here i fits)
  in_class (in_round s here there is) =
      let fits : IsOpen w.marks w.index s = sound.round.here s there in
      subst (IsMetaslab w.plan) is (stop_metaslab w.plan w.stops sound.route w.round s there w.index fits.within)

  pub look_is : IsMetaslab w.plan id
  look_is = in_class looks

  pub look_below : number_of w.plan.vdevs id < length w.marks
  look_below = omega (arith, number_below w.plan sound.plan id look_is, sound.size)

  abbrev number : ℕ
  number = look_number (slice_get w.stops w.place) w.look (slice_get w.stops w.round) w.index

  number_at : AsksLook (slice_get w.stops w.place) w.look (slice_get w.stops w.round) w.index id → number ≡ number_of w.plan.vdevs id
  number_at (on_vdev s i here look is) =
      ap (λ (o : Option Stop). look_number o w.look (slice_get w.stops w.round) w.index) here ∙ (ap (λ (l : Option ℕ). look_number (Some s) l (slice_get w.stops w.round) w.index) look
      ∙ (sym (stop_number w.plan w.stops sound.route w.place s here i) ∙ ap (number_of w.plan.vdevs) is))
  number_at (in_round s here there is) =
      ap (λ (o : Option Stop). look_number o w.look (slice_get w.stops w.round) w.index) here ∙ (ap (λ (o : Option Stop). look_number None w.look o w.index) there
      ∙ (sym (stop_number w.plan w.stops sound.route w.round s there w.index) ∙ ap (number_of w.plan.vdevs) is))

  pub number_is : number ≡ number_of w.plan.vdevs id
  number_is = number_at looks

  module _ (steps : List Step) (told : WasTold w steps) (n round index : ℕ) (numbered : n ≡ number_of w.plan.vdevs id) where
    abbrev marks' : List Bool
    marks' = set w.marks n true

    lt : n < length w.marks
    lt = omega (arith, numbered, look_below)

    mark_at : (other : MsId) → IsMetaslab w.plan other → (b : Bool) → is_same other id ≡ b → (has_failed steps other || b) ≡ is_marked marks' (number_of w.plan.vdevs other)
    mark_at other is true e =
        let same : other ≡ id = same_is other id e in
        or_true (has_failed steps other) true refl ∙ sym (marks_there w.marks n (number_of w.plan.vdevs other) lt (ap (number_of w.plan.vdevs) same ∙ sym numbered))
    mark_at other is false e =
        or_none (has_failed steps other) ∙ (told.marks other is
        ∙ sym (marks_else w.marks n (number_of w.plan.vdevs other) (λ f. clash (is_same other id)
        (ap (is_same other) (sym (numbers_differ w.plan id other look_is is (f ∙ numbered))) ∙ same_itself other) e)))

    count_at : (b : Bool) → is_among (failed steps) id ≡ b → length (cond b (failed steps) (failed steps ++ id ∷ [])) ≡ marked marks'
    count_at true e =
        let is : is_marked w.marks n ≡ true = ap (is_marked w.marks) numbered ∙ (sym (told.marks id look_is) ∙ e) in
        told.count ∙ sym (counts_same w.marks n is)
    count_at false e =
        let is : is_marked w.marks n ≡ false = ap (is_marked w.marks) numbered ∙ (sym (told.marks id look_is) ∙ e) in
        omega (arith, length_push (failed steps) id, told.count, counts_more w.marks n lt is)

    pub failed_told : WasTold (after_failure w n round index) (steps ++ look_failed id ∷ [])
    failed_told = record {
      each = steps_push w.plan steps (look_failed id) told.each (subst (IsNext w.plan steps) asks (next_is w steps sound told));
      done = λ k s at. done_push steps (look_failed id) s.vdev ∙ (or_none (is_done steps s.vdev) ∙ told.done k s at);
      start = told.start ∙ sym (start_push steps (look_failed id));
      look = given_push steps (look_failed id) ∙ sym (looked_none (slice_get w.stops w.place));
      marks = λ other is. ap (λ (ids : List MsId). is_among ids other) (failed_push steps (look_failed id)) ∙ (among_after (failed steps) id other ∙ mark_at other is (is_same other id) refl);
      count = ap length (failed_push steps (look_failed id)) ∙ count_at (is_among (failed steps) id) refl;
    }

-- a look that is asked for, whatever the metaslab

abbrev pub number_asked : WalkState → ℕ
number_asked w = look_number (slice_get w.stops w.place) w.look (slice_get w.stops w.round) w.index

look_id : (n : Next) → IsLook n → (id : MsId) × (n ≡ Look id)
look_id (Pick v start) is = absurd is
look_id (Look id) is = (id, refl)
look_id Done is = absurd is

pub number_fits : (w : WalkState) → IsSound w → IsLook (asked w) → number_asked w < length w.marks
number_fits w sound is =
    let some : (id : MsId) × (asked w ≡ Look id) = look_id (asked w) is in
    omega (arith, number_is w sound some.0 some.1, look_below w sound some.0 some.1)

pub look_from_top : (here : Option Stop) (from : Start) (look : Option ℕ) (other : Next) → IsLook (asked_by here from look other) → IsLook (asked_by here Active look other)
look_from_top None from look other is = is
look_from_top (Some s) from None other is = absurd is
look_from_top (Some s) from (Some i) other is = tt

pub passed_with : (w : WalkState) → IsSound w → (n : ℕ) → n < length w.marks → ArePassed w.stops (set w.marks n true) w.round w.index
passed_with w sound n lt = passed_stays w.stops w.marks n w.round w.index lt sound.round.passed

pub failed_sound : (w : WalkState) → IsSound w → (n round index : ℕ) → IsFirstOpen w.stops (set w.marks n true) round index → IsSound (after_failure w n round index)
failed_sound w sound n round index first = record {
  plan = sound.plan;
  route = sound.route;
  look = tt;
  size = length-set w.marks n true ∙ sound.size;
  round = first;
}

-- a walk at its start

nothing_before : (before : List Step) (step : Step) (rest : List Step) → before ++ (step ∷ rest) ≡ [] → ⊥
nothing_before [] step rest e = cc
nothing_before (b ∷ before) step rest e = cc

abbrev pub fresh : Plan → List Stop → List Bool → WalkState
fresh p stops marks = record { plan = p; stops = stops; place = 0; start = Active; look = None; round = 0; index = 0; marks = marks }

module _ (p : Plan) (is : IsPlan p) (stops : List Stop) (route : IsRoute p stops) (marks : List Bool) (none : (n : ℕ) → is_marked marks n ≡ false) where
  has_some : (k : ℕ) (s : Stop) → slice_get stops k ≡ Some s → 0 < s.metaslabs
  has_some k s at = omega (arith, is.vdevs.metaslabs s.vdev (route.each k s at).0.0, stop_count p stops route k s at)

  nothing_passed : ArePassed stops marks 0 0
  nothing_passed k i s at lt (inl before) = absurd (omega (arith, before))
  nothing_passed k i s at lt (inr both) = absurd (omega (arith, both.1))

  pub fresh_sound : length marks ≡ 1024 → IsSound (fresh p stops marks)
  fresh_sound size = record {
    plan = is;
    route = route;
    look = tt;
    size = size;
    round = record { passed = nothing_passed; here = λ s at. record { within = has_some 0 s at; unmarked = none (s.first + 0) } };
  }

  pub fresh_told : marked marks ≡ 0 → WasTold (fresh p stops marks) []
  fresh_told count = record {
    each = λ before step rest e. absurd (nothing_before before step rest e);
    done = λ k s at. sym (le-ltb k 0 (omega arith));
    start = refl;
    look = sym (looked_none (slice_get stops 0));
    marks = λ id is_id. sym (none (number_of p.vdevs id));
    count = sym count;
  }

-- the same of a value that a walk's fields stand for

module _ (w old : WalkState) (same : w ≡ old) (sound : IsSound w) where
  pub next_from : (steps : List Step) → WasTold old steps → IsNext old.plan steps (asked old)
  next_from steps = subst (λ (o : WalkState). WasTold o steps → IsNext o.plan steps (asked o)) same (λ told. next_is w steps sound told)

  pub may_from : (got : Option Got) → IsPickOf old.plan (asked old) got → IsPickOf w.plan (asked w) got
  may_from got = subst (λ (o : WalkState). IsPickOf o.plan (asked o) got → IsPickOf w.plan (asked w) got) same (λ may. may)

  pub picked_from : (got : Option Got) (was_active : Bool) → IsPickOf old.plan (asked old) got → (steps : List Step) (v : ℕ) (start : Start) → WasTold old steps → asked old ≡ Pick v start
      → WasTold (after_pick w got was_active) (steps ++ pick_gave (record { vdev = v; start = start; got = got; was_active = was_active }) ∷ [])
  picked_from got was_active may steps v start =
      subst (λ (o : WalkState). WasTold o steps → asked o ≡ Pick v start → WasTold (after_pick w got was_active) (steps ++ pick_gave (record { vdev = v; start = start; got = got; was_active = was_active }) ∷ [])) same
      (λ told asks. picked_told w steps sound told got was_active v start asks (may_from got may))

  pub look_from : IsLook (asked old) → IsLook (asked w)
  look_from = subst (λ (o : WalkState). IsLook (asked o) → IsLook (asked w)) same (λ is. is)

  pub failed_from : (n round index : ℕ) → n ≡ number_asked w → (steps : List Step) (id : MsId) → WasTold old steps → asked old ≡ Look id → WasTold (after_failure w n round index) (steps ++ look_failed id ∷ [])
  failed_from n round index e steps id =
      subst (λ (o : WalkState). WasTold o steps → asked o ≡ Look id → WasTold (after_failure w n round index) (steps ++ look_failed id ∷ [])) same
      (λ told asks. failed_told w sound id asks steps told n round index (e ∙ number_is w sound id asks))

  pub looked_from : (steps : List Step) → WasTold old steps → marked w.marks ≡ length (failed steps)
  looked_from steps = subst (λ (o : WalkState). WasTold o steps → marked w.marks ≡ length (failed steps)) same (λ told. sym told.count)

-- a pool has at most 1024 metaslabs
pub few_marked : (w : WalkState) (n : ℕ) → IsSound w → n ≡ marked w.marks → n ≤ 1024
few_marked w n sound is = omega (arith, is, count_by-le-length (λ (mark : Bool). mark) w.marks, sound.size)
