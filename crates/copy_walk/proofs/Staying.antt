-- One thing comes next, and no step leaves the class.
use Rattle.std.proofs.Common.{◌≡◌, ℕ, ◌<◌, ◌≤◌, Bool, true, false, eqb, Option, Some, None, List, [], ◌∷◌, ◌++◌, append_assoc, refl, sym, ◌∙◌, ap, subst, arith, ◌⊎◌, inl, inr}
use Rattle.std.specs.Prelude.{◌||◌, ◌&&◌, MatchOption, ⊤}
use Rattle.std.proofs.lemmas.Bool.{cases_lt}
use Rattle.zms_units.specs.declared.places.MsId.{MsId}
use Rattle.vdev_map.specs.Numbers.{row_at}
use Rattle.ms_model.specs.declared.notes.Got.{Got}
use Rattle.ms_model.specs.declared.notes.Start.{Start}
use Rattle.ms_model.specs.declared.notes.Start.TheVariants.{Active}
use Rattle.ms_model.proofs.Lists.{by_snoc}
use Rattle.copy_walk.specs.Plans.{Plan, IsVdev, IsMetaslab, IsPlan}
use Rattle.copy_walk.specs.Steps.{Picking, Step, pick_gave, look_failed, got_at, given_by, given, start_from, next_start, is_none, is_end_of, is_done, has_failed}
use Rattle.copy_walk.specs.Nexts.{IsAtHand, IsPick, IsLastRound, IsLastLook, IsEnd, IsNext, MayTell, AreSteps}
use Rattle.copy_walk.specs.Laws.{IsOfClass, is_pick_on, was_picked}
use Rattle.copy_walk.specs.declared.next.Next.{Next}
use Rattle.copy_walk.specs.declared.next.Next.TheVariants.{Pick, Look, Done}
use Rattle.copy_walk.proofs.Booleans.{clash, or_none, and_none, or_true, any_push, eqb_same}
use Rattle.copy_walk.proofs.Order.{either_before, Either}
use Rattle.copy_walk.proofs.Telling.{given_push, start_push, done_push}

module _ (p : Plan) (is : IsPlan p) where
  one_at_hand : (steps : List Step) (v u : ℕ) → IsAtHand p steps v → IsAtHand p steps u → v ≡ u
  one_at_hand steps v u a b = at (either_before p v u is.rotor.0 a.is.0 b.is.0) where
    at : Either p v u → v ≡ u
    at (inl same) = same
    at (inr (inl before)) = absurd (clash (is_done steps v) (b.first v a.is before) a.not_done)
    at (inr (inr before)) = absurd (clash (is_done steps u) (a.first u b.is before) b.not_done)

  one_last_look : (steps : List Step) (a b : MsId) → IsLastLook p steps a → IsLastLook p steps b → a ≡ b
  one_last_look steps a b la lb = at (either_before p a.vdev b.vdev is.rotor.0 la.is.vdev.0 lb.is.vdev.0) where
    by_index : a.vdev ≡ b.vdev → (a.index < b.index) ⊎ (b.index ≤ a.index) → (b.index < a.index) ⊎ (a.index ≤ b.index) → a ≡ b
    by_index same (inl lt) other = absurd (clash (has_failed steps a) (lb.first a la.is (inr (same, lt))) la.not_failed)
    by_index same (inr le) (inl lt) = absurd (clash (has_failed steps b) (la.first b lb.is (inr (sym same, lt))) lb.not_failed)
    by_index same (inr le) (inr ge) = let index : a.index ≡ b.index = omega (arith, le, ge) in λ k. record { vdev = same k; index = index k }

    at : Either p a.vdev b.vdev → a ≡ b
    at (inl same) = by_index same (cases_lt a.index b.index) (cases_lt b.index a.index)
    at (inr (inl before)) = absurd (clash (has_failed steps a) (lb.first a la.is (inl before)) la.not_failed)
    at (inr (inr before)) = absurd (clash (has_failed steps b) (la.first b lb.is (inl before)) lb.not_failed)

  not_given : (steps : List Step) (id : MsId) → given steps ≡ None → given steps ≡ Some id → ⊥
  not_given steps id e f = cc

  pick_or_round : (steps : List Step) (v : ℕ) (start : Start) → IsPick p steps v start → IsLastRound p steps → ⊥
  pick_or_round steps v start pick round = clash (is_done steps v) (round.done v pick.at_hand.is) pick.at_hand.not_done

  pick_or_look : (steps : List Step) (v : ℕ) (start : Start) (id : MsId) → IsPick p steps v start → IsNext p steps (Look id) → ⊥
  pick_or_look steps v start id pick (inl e) = not_given steps id pick.looked_at_all e
  pick_or_look steps v start id pick (inr last) = pick_or_round steps v start pick last.round

  look_or_end : (steps : List Step) (id : MsId) → IsNext p steps (Look id) → IsEnd p steps → ⊥
  look_or_end steps id (inl e) end = not_given steps id end.round.looked_at_all e
  look_or_end steps id (inr last) end = clash (has_failed steps id) (end.all id last.is) last.not_failed

  one_look : (steps : List Step) (a b : MsId) → IsNext p steps (Look a) → IsNext p steps (Look b) → a ≡ b
  one_look steps a b (inl e) (inl f) = cc
  one_look steps a b (inl e) (inr last) = absurd (not_given steps a last.round.looked_at_all e)
  one_look steps a b (inr last) (inl e) = absurd (not_given steps b last.round.looked_at_all e)
  one_look steps a b (inr la) (inr lb) = one_last_look steps a b la lb

  pub one_next : (steps : List Step) (a b : Next) → IsNext p steps a → IsNext p steps b → a ≡ b
  one_next steps (Pick v s) (Pick u t) a b = ap (λ (w : ℕ). Pick w s) (one_at_hand steps v u a.at_hand b.at_hand) ∙ ap (Pick u) (a.begins ∙ sym b.begins)
  one_next steps (Pick v s) (Look id) a b = absurd (pick_or_look steps v s id a b)
  one_next steps (Pick v s) Done a b = absurd (pick_or_round steps v s a b.round)
  one_next steps (Look id) (Pick v s) a b = absurd (pick_or_look steps v s id b a)
  one_next steps (Look id) (Look other) a b = ap Look (one_look steps id other a b)
  one_next steps (Look id) Done a b = absurd (look_or_end steps id a b)
  one_next steps Done (Pick v s) a b = absurd (pick_or_round steps v s b a.round)
  one_next steps Done (Look id) a b = absurd (look_or_end steps id b a)
  one_next steps Done Done a b = refl

-- the step that gave a metaslab is the last one
record Gives (before : List Step) (id : MsId) : Type 0 where
  pub front : List Step
  pub pick : Picking
  pub is : before ≡ front ++ pick_gave pick ∷ []
  pub got : got_at pick.vdev pick.got ≡ Some id

gives_at : (front : List Step) (step : Step) (id : MsId) → given_by step ≡ Some id → Gives (front ++ step ∷ []) id
gives_at front (pick_gave pick) id e = record { front = front; pick = pick; is = refl; got = e }
gives_at front (look_failed other) id e = cc

gives : (before : List Step) (id : MsId) → given before ≡ Some id → Gives before id
gives before id = by_snoc (λ l. given l ≡ Some id → Gives l id) (λ e. cc) (λ front step earlier e. gives_at front step id (sym (given_push front step) ∙ e)) before

module _ (p : Plan) (steps : List Step) (are : AreSteps p steps) where
  given_is : (v : ℕ) (got : Option Got) (id : MsId) → IsVdev p v → MatchOption got ⊤ (λ g. g.index < (row_at p.vdevs v).metaslabs) → got_at v got ≡ Some id → IsMetaslab p id
  given_is v None id is lt e = cc
  given_is v (Some g) id is lt e =
      let vdev : v ≡ id.vdev = cc in
      let index : g.index ≡ id.index = cc in
      record { vdev = subst (IsVdev p) vdev is; index = subst (λ (w : ℕ). id.index < (row_at p.vdevs w).metaslabs) vdev (subst (λ (i : ℕ). i < (row_at p.vdevs v).metaslabs) index lt) }

  look_in : (before : List Step) (id : MsId) (rest : List Step) → before ++ (look_failed id ∷ rest) ≡ steps → IsNext p before (Look id) → IsMetaslab p id
  look_in before id rest e (inr last) = last.is
  look_in before id rest e (inl gave) =
      let from : Gives before id = gives before id gave in
      let there : from.front ++ (pick_gave from.pick ∷ (look_failed id ∷ rest)) ≡ steps =
      sym (append_assoc from.front (pick_gave from.pick ∷ []) (look_failed id ∷ rest)) ∙ (ap (λ (l : List Step). l ++ (look_failed id ∷ rest)) (sym from.is) ∙ e) in
      let may : MayTell p from.front (pick_gave from.pick) = are from.front (pick_gave from.pick) (look_failed id ∷ rest) there in
      given_is from.pick.vdev from.pick.got id may.0.at_hand.is may.1 from.got

  pub of_class : (before : List Step) (step : Step) (rest : List Step) → before ++ (step ∷ rest) ≡ steps → IsOfClass p step
  of_class before (pick_gave pick) rest e = (are before (pick_gave pick) rest e).0.at_hand.is
  of_class before (look_failed id) rest e = look_in before id rest e (are before (look_failed id) rest e)

-- a walk begins a vdev at the active metaslab, or goes on with the one that it picked on last
module _ (p : Plan) (is : IsPlan p) where
  record GoesOn (steps : List Step) (v : ℕ) : Type 0 where
    pub at_hand : IsAtHand p steps v
    pub picked : was_picked steps v ≡ true

  abbrev Begins : List Step → Type 0
  Begins steps = (next_start steps ≡ Active) ⊎ ((v : ℕ) × GoesOn steps v)

  -- a step that ends no vdev leaves the one at hand
  stays_at_hand : (steps : List Step) (step : Step) (v : ℕ) → ((u : ℕ) → is_end_of u step ≡ false) → IsAtHand p steps v → IsAtHand p (steps ++ step ∷ []) v
  stays_at_hand steps step v none at = record {
    is = at.is;
    not_done = done_push steps step v ∙ (ap (λ (b : Bool). is_done steps v || b) (none v) ∙ (or_none (is_done steps v) ∙ at.not_done));
    first = λ u vdev before. done_push steps step u ∙ ap (λ (b : Bool). b || is_end_of u step) (at.first u vdev before);
  }

  picked_stays : (steps : List Step) (step : Step) (v : ℕ) → was_picked steps v ≡ true → was_picked (steps ++ step ∷ []) v ≡ true
  picked_stays steps step v e = any_push (is_pick_on v) steps step ∙ ap (λ (b : Bool). b || is_pick_on v step) e

  begins_pick : (steps : List Step) (pick : Picking) (got : Option Got) → pick.got ≡ got → IsAtHand p steps pick.vdev → Begins (steps ++ pick_gave pick ∷ [])
  begins_pick steps pick None e at = inl (start_push steps (pick_gave pick) ∙ ap (start_from pick.start pick.was_active) e)
  begins_pick steps pick (Some g) e at = inr (
    pick.vdev,
    record {
      at_hand = stays_at_hand steps (pick_gave pick) pick.vdev (λ u. ap (λ (o : Option Got). eqb pick.vdev u && is_none o) e ∙ and_none (eqb pick.vdev u)) at;
      picked = any_push (is_pick_on pick.vdev) steps (pick_gave pick) ∙ or_true (was_picked steps pick.vdev) (eqb pick.vdev pick.vdev) (eqb_same pick.vdev pick.vdev refl);
    },
  )

  begins_more : (steps : List Step) (step : Step) → MayTell p steps step → Begins steps → Begins (steps ++ step ∷ [])
  begins_more steps (pick_gave pick) may begins = begins_pick steps pick pick.got refl may.0.at_hand
  begins_more steps (look_failed id) may (inl e) = inl (start_push steps (look_failed id) ∙ e)
  begins_more steps (look_failed id) may (inr on) = inr (
    on.0,
    record {
      at_hand = stays_at_hand steps (look_failed id) on.0 (λ u. refl) on.1.at_hand;
      picked = picked_stays steps (look_failed id) on.0 on.1.picked;
    },
  )

  begins : (steps : List Step) → AreSteps p steps → Begins steps
  begins steps are =
      by_snoc (λ l. AreSteps p l → Begins l) (λ _. inl refl)
      (λ l step earlier all. begins_more l step (all l step [] refl) (earlier (λ before s more e. all before s (more ++ step ∷ []) (sym (append_assoc before (s ∷ more) (step ∷ [])) ∙ ap (λ (x : List Step). x ++ step ∷ []) e))))
      steps are

  pub first_active : (steps before : List Step) (pick : Picking) (rest : List Step) → AreSteps p steps → before ++ (pick_gave pick ∷ rest) ≡ steps → was_picked before pick.vdev ≡ false → pick.start ≡ Active
  first_active steps before pick rest are e new = at (begins before earlier) where
    earlier : AreSteps p before
    earlier front s more f = are front s (more ++ (pick_gave pick ∷ rest)) (sym (append_assoc front (s ∷ more) (pick_gave pick ∷ rest)) ∙ (ap (λ (x : List Step). x ++ (pick_gave pick ∷ rest)) f ∙ e))

    may : IsPick p before pick.vdev pick.start
    may = (are before (pick_gave pick) rest e).0

    at : Begins before → pick.start ≡ Active
    at (inl active) = may.begins ∙ active
    at (inr on) =
        let same : on.0 ≡ pick.vdev = one_at_hand p is before on.0 pick.vdev on.1.at_hand may.at_hand in
        absurd (clash (was_picked before pick.vdev) (ap (was_picked before) (sym same) ∙ on.1.picked) new)

pub last_look_new : (p : Plan) (steps : List Step) (id : MsId) → IsNext p steps (Look id) → given steps ≡ None → has_failed steps id ≡ false
last_look_new p steps id (inl e) none = cc
last_look_new p steps id (inr last) none = last.not_failed
