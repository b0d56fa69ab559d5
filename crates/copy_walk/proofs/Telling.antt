-- What steps say, what one more says, and what comes next behind them.
use Rattle.std.proofs.Common.{◌≡◌, ℕ, ◌+◌, ◌<◌, true, Option, Some, None, List, [], ◌∷◌, ◌++◌, refl, sym, ◌∙◌, ap, subst, arith, inl, inr}
use Rattle.std.specs.Prelude.{◌||◌, slice_get, ⊤}
use Rattle.std.proofs.lemmas.Bool.{lt-ltb, le-ltb}
use Rattle.std.proofs.lemmas.List.Sums.{fold_push}
use Rattle.zms_units.specs.declared.places.MsId.{MsId}
use Rattle.zms_units.specs.declared.places.VdevRow.{VdevRow}
use Rattle.vdev_map.specs.Numbers.{row_at, number_of}
use Rattle.ms_model.specs.declared.notes.Start.{Start}
use Rattle.ms_model.proofs.Lists.{Standing, is_last, is_earlier, standing}
use Rattle.copy_walk.specs.Plans.{Plan, IsVdev, IsMetaslab, ComesBefore, StandsBefore}
use Rattle.copy_walk.specs.Steps.{Step, given_by, given, start_after, next_start, is_end_of, is_done, failed_after, failed, has_failed}
use Rattle.copy_walk.specs.Nexts.{IsLastRound, IsNext, MayTell, AreSteps}
use Rattle.copy_walk.specs.Routes.{stop_of, IsRoute}
use Rattle.copy_walk.specs.Walks.{WalkState, metaslab_of, asked_at, asked_in_round, asked_by, asked, looked_at, is_marked, WasTold}
use Rattle.copy_walk.specs.Walked.{IsPassed, IsOpen, IsSound}
use Rattle.copy_walk.specs.declared.next.Next.TheVariants.{Pick, Look}
use Rattle.copy_walk.specs.declared.route.Stop.{Stop}
use Rattle.copy_walk.proofs.Booleans.{any_push}
use Rattle.copy_walk.proofs.Routing.{past_none, stands_before}

pub given_push : (steps : List Step) (step : Step) → given (steps ++ step ∷ []) ≡ given_by step
given_push steps step = fold_push _ _ steps step

pub start_push : (steps : List Step) (step : Step) → next_start (steps ++ step ∷ []) ≡ start_after (next_start steps) step
start_push steps step = fold_push _ _ steps step

pub failed_push : (steps : List Step) (step : Step) → failed (steps ++ step ∷ []) ≡ failed_after (failed steps) step
failed_push steps step = fold_push _ _ steps step

pub done_push : (steps : List Step) (step : Step) (v : ℕ) → is_done (steps ++ step ∷ []) v ≡ (is_done steps v || is_end_of v step)
done_push steps step v = any_push (is_end_of v) steps step

may_at : (p : Plan) (steps : List Step) (step : Step) → AreSteps p steps → MayTell p steps step
    → (before : List Step) (s : Step) (rest : List Step) → Standing before s rest steps step → MayTell p before s
may_at p steps step are may before s rest (is_last e f) = subst (λ (b : List Step). MayTell p b s) (sym e) (subst (λ (x : Step). MayTell p steps x) (sym f) may)
may_at p steps step are may before s rest (is_earlier more e) = are before s more e

pub steps_push : (p : Plan) (steps : List Step) (step : Step) → AreSteps p steps → MayTell p steps step → AreSteps p (steps ++ step ∷ [])
steps_push p steps step are may before s rest e = may_at p steps step are may before s rest (standing before s rest steps step e)

-- what is asked for, by what the walk keeps

pub record AsksPick (here : Option Stop) (from : Start) (look : Option ℕ) (v : ℕ) (start : Start) : Type 0 where
  pub stop : Stop
  pub at : here ≡ Some stop
  pub no_look : look ≡ None
  pub vdev : stop.vdev ≡ v
  pub begins : from ≡ start

pub asks_pick : (here : Option Stop) (from : Start) (look : Option ℕ) (there : Option Stop) (index v : ℕ) (start : Start)
    → asked_by here from look (asked_in_round there index) ≡ Pick v start → AsksPick here from look v start
asks_pick None from look None index v start e = cc
asks_pick None from look (Some t) index v start e = cc
asks_pick (Some s) from (Some i) there index v start e = cc
asks_pick (Some s) from None there index v start e = record { stop = s; at = refl; no_look = refl; vdev = cc; begins = cc }

pub data AsksLook (here : Option Stop) (look : Option ℕ) (there : Option Stop) (index : ℕ) (id : MsId) : Type 0 where
  on_vdev : (s : Stop) (i : ℕ) → here ≡ Some s → look ≡ Some i → metaslab_of s i ≡ id → AsksLook here look there index id
  in_round : (s : Stop) → here ≡ None → there ≡ Some s → metaslab_of s index ≡ id → AsksLook here look there index id

pub asks_look : (here : Option Stop) (from : Start) (look : Option ℕ) (there : Option Stop) (index : ℕ) (id : MsId)
    → asked_by here from look (asked_in_round there index) ≡ Look id → AsksLook here look there index id
asks_look None from look None index id e = cc
asks_look None from look (Some t) index id e = in_round t refl refl (cc)
asks_look (Some s) from (Some i) there index id e = on_vdev s i refl refl (cc)
asks_look (Some s) from None there index id e = cc

pub looked_none : (here : Option Stop) → looked_at here None ≡ None
looked_none None = refl
looked_none (Some s) = refl

-- the number of a stop's metaslab
number_at : (vdevs : List VdevRow) (v i : ℕ) → number_of vdevs (record { vdev = v; index = i }) ≡ number_of vdevs (record { vdev = v; index = 0 }) + i
number_at vdevs v i = omega arith

module _ (p : Plan) (stops : List Stop) (route : IsRoute p stops) (k : ℕ) (s : Stop) (at : slice_get stops k ≡ Some s) where
  pub stop_is : s ≡ stop_of p.vdevs s.vdev
  stop_is = (route.each k s at).1.1

  pub stop_vdev : IsVdev p s.vdev
  stop_vdev = (route.each k s at).0

  pub stop_count : s.metaslabs ≡ (row_at p.vdevs s.vdev).metaslabs
  stop_count = ap (λ (x : Stop). x.metaslabs) stop_is

  pub stop_number : (i : ℕ) → number_of p.vdevs (metaslab_of s i) ≡ s.first + i
  stop_number i =
      let first : s.first ≡ number_of p.vdevs (record { vdev = s.vdev; index = 0 }) = ap (λ (x : Stop). x.first) stop_is in
      omega (arith, first, number_at p.vdevs s.vdev i)

  pub stop_metaslab : (i : ℕ) → i < s.metaslabs → IsMetaslab p (metaslab_of s i)
  stop_metaslab i lt = record { vdev = stop_vdev; index = omega (arith, lt, stop_count) }

module _ (w : WalkState) (steps : List Step) (sound : IsSound w) (told : WasTold w steps) where
  done_before : (v k : ℕ) → slice_get w.stops k ≡ Some (stop_of w.plan.vdevs v) → k < w.place → is_done steps v ≡ true
  done_before v k at lt = told.done k (stop_of w.plan.vdevs v) at ∙ lt-ltb k w.place lt

  before_done : (s : Stop) → slice_get w.stops w.place ≡ Some s → (u : ℕ) → IsVdev w.plan u → ComesBefore w.plan u s.vdev → is_done steps u ≡ true
  before_done s here u is comes =
      let found : (k : ℕ) × (slice_get w.stops k ≡ Some (stop_of w.plan.vdevs u)) = sound.route.all u is tt in
      done_before u found.0 found.1 (stands_before w.plan (λ _. ⊤) w.stops sound.route w.place s here found.0 (stop_of w.plan.vdevs u) found.1 comes)

  given_is : (here : Option Stop) (look : Option ℕ) → slice_get w.stops w.place ≡ here → w.look ≡ look → given steps ≡ looked_at here look
  given_is here look e f = told.look ∙ (ap (λ (o : Option Stop). looked_at o w.look) e ∙ ap (looked_at here) f)

  on_stop : (s : Stop) (look : Option ℕ) → slice_get w.stops w.place ≡ Some s → w.look ≡ look → IsNext w.plan steps (asked_at s w.start look)
  on_stop s None here e = record {
    at_hand = record { is = (sound.route.each w.place s here).0; not_done = told.done w.place s here ∙ le-ltb w.place w.place (omega arith); first = before_done s here };
    looked_at_all = given_is (Some s) None here e;
    begins = told.start;
  }
  on_stop s (Some i) here e = inl (given_is (Some s) (Some i) here e)

  all_done : slice_get w.stops w.place ≡ None → IsLastRound w.plan steps
  all_done none = record {
    done = λ v is. let found : (k : ℕ) × (slice_get w.stops k ≡ Some (stop_of w.plan.vdevs v)) = sound.route.all v is tt in
        done_before v found.0 found.1 (past_none w.stops w.place found.0 (stop_of w.plan.vdevs v) none found.1);
    looked_at_all = given_is None w.look none refl;
  }

  passed_failed : (id : MsId) → IsMetaslab w.plan id → (k : ℕ) → slice_get w.stops k ≡ Some (stop_of w.plan.vdevs id.vdev) → IsPassed w.round w.index k id.index → has_failed steps id ≡ true
  passed_failed id is k at passed =
      told.marks id is ∙ (ap (is_marked w.marks) (number_at w.plan.vdevs id.vdev id.index) ∙ sound.round.passed k id.index (stop_of w.plan.vdevs id.vdev) at is.index passed)

  earlier_failed : (s : Stop) → slice_get w.stops w.round ≡ Some s → (other : MsId) → IsMetaslab w.plan other → StandsBefore w.plan other (metaslab_of s w.index) → has_failed steps other ≡ true
  earlier_failed s here other is (inl comes) =
      let found : (k : ℕ) × (slice_get w.stops k ≡ Some (stop_of w.plan.vdevs other.vdev)) = sound.route.all other.vdev is.vdev tt in
      passed_failed other is found.0 found.1 (inl (stands_before w.plan (λ _. ⊤) w.stops sound.route w.round s here found.0 (stop_of w.plan.vdevs other.vdev) found.1 comes))
  earlier_failed s here other is (inr both) =
      passed_failed other is w.round (here ∙ ap Some (stop_is w.plan w.stops sound.route w.round s here ∙ ap (stop_of w.plan.vdevs) (sym both.0))) (inr (refl, both.1))

  in_last_round : (there : Option Stop) → slice_get w.stops w.place ≡ None → slice_get w.stops w.round ≡ there → IsNext w.plan steps (asked_in_round there w.index)
  in_last_round None none e = record {
    round = all_done none;
    all = λ id is. let found : (k : ℕ) × (slice_get w.stops k ≡ Some (stop_of w.plan.vdevs id.vdev)) = sound.route.all id.vdev is.vdev tt in
        passed_failed id is found.0 found.1 (inl (past_none w.stops w.round found.0 (stop_of w.plan.vdevs id.vdev) e found.1));
  }
  in_last_round (Some s) none e =
      let here : IsOpen w.marks w.index s = sound.round.here s e in
      let is : IsMetaslab w.plan (metaslab_of s w.index) = stop_metaslab w.plan w.stops sound.route w.round s e w.index here.within in
      inr (record {
        round = all_done none;
        is = is;
        not_failed = told.marks (metaslab_of s w.index) is ∙ (ap (is_marked w.marks) (stop_number w.plan w.stops sound.route w.round s e w.index) ∙ here.unmarked);
        first = earlier_failed s e;
      })

  asks_next : (here : Option Stop) → slice_get w.stops w.place ≡ here → IsNext w.plan steps (asked_by here w.start w.look (asked_in_round (slice_get w.stops w.round) w.index))
  asks_next None e = in_last_round (slice_get w.stops w.round) e refl
  asks_next (Some s) e = on_stop s w.look e refl

  -- what the walk asks for is what comes next
  pub next_is : IsNext w.plan steps (asked w)
  next_is = asks_next (slice_get w.stops w.place) refl
