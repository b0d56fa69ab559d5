-- The metaslabs at which looks failed are each counted once, and are of the class.
use Rattle.std.proofs.Common.{◌≡◌, Bool, true, false, cond, eqb, List, [], ◌∷◌, ◌++◌, append_assoc, length, refl, sym, ◌∙◌, ap, subst, ◌⊎◌, inl, inr}
use Rattle.std.specs.Prelude.{◌&&◌}
use Rattle.std.specs.List.{IsDistinct}
use Rattle.std.specs.Cmp.{IsEquivalence}
use Rattle.std.proofs.lemmas.Cmp.{nat_eq_equiv}
use Rattle.std.proofs.lemmas.Map.Keys.{IsDistinct-push}
use Rattle.std.proofs.lemmas.Map.Made.{length-from_same_keys}
use Rattle.zms_units.specs.declared.places.MsId.{MsId}
use Rattle.ms_model.proofs.Lists.{by_snoc}
use Rattle.copy_walk.specs.Plans.{Plan, IsMetaslab}
use Rattle.copy_walk.specs.Steps.{Step, pick_gave, look_failed, is_same, is_among, failed_after, failed, has_failed}
use Rattle.copy_walk.specs.Nexts.{IsNext, AreSteps}
use Rattle.copy_walk.specs.Laws.{IsOfClass, ListsClass}
use Rattle.copy_walk.specs.declared.next.Next.TheVariants.{Done}
use Rattle.copy_walk.proofs.Booleans.{or_either, same_is, same_itself}
use Rattle.copy_walk.proofs.Telling.{failed_push}
use Rattle.copy_walk.proofs.Keeping.{among_after}
use Rattle.copy_walk.proofs.Staying.{of_class}

same_both : (a b : MsId) → is_same a b ≡ is_same b a
same_both a b =
    ap (λ (c : Bool). c && eqb a.index b.index) (nat_eq_equiv.symm a.vdev b.vdev)
    ∙ ap (λ (c : Bool). eqb b.vdev a.vdev && c) (nat_eq_equiv.symm a.index b.index)

same_equiv : IsEquivalence is_same
same_equiv = record {
  refl = same_itself;
  symm = same_both;
  congr = λ a b c e. ap (λ (x : MsId). is_same x c) (same_is a b e);
}

distinct_more : (ids : List MsId) (id : MsId) (b : Bool) → is_among ids id ≡ b → IsDistinct is_same ids → IsDistinct is_same (cond b ids (ids ++ id ∷ []))
distinct_more ids id true e distinct = distinct
distinct_more ids id false e distinct = IsDistinct-push same_equiv ids id distinct e

distinct_after : (ids : List MsId) (step : Step) → IsDistinct is_same ids → IsDistinct is_same (failed_after ids step)
distinct_after ids (pick_gave pick) distinct = distinct
distinct_after ids (look_failed id) distinct = distinct_more ids id (is_among ids id) refl distinct

failed_distinct : (steps : List Step) → IsDistinct is_same (failed steps)
unfolding IsDistinct
failed_distinct steps =
    by_snoc (λ l. IsDistinct is_same (failed l)) tt
    (λ l step before. subst (IsDistinct is_same) (sym (failed_push l step)) (distinct_after (failed l) step before))
    steps

steps_front : (p : Plan) (steps : List Step) (step : Step) → AreSteps p (steps ++ step ∷ []) → AreSteps p steps
steps_front p steps step all before s more e =
    all before s (more ++ step ∷ []) (sym (append_assoc before (s ∷ more) (step ∷ [])) ∙ ap (λ (l : List Step). l ++ step ∷ []) e)

member_either : (p : Plan) (ids : List MsId) (id other : MsId) → IsMetaslab p other → (is_among ids id ≡ true → IsMetaslab p id) → (is_among ids id ≡ true) ⊎ (is_same id other ≡ true) → IsMetaslab p id
member_either p ids id other is earlier (inl e) = earlier e
member_either p ids id other is earlier (inr e) = subst (IsMetaslab p) (sym (same_is id other e)) is

member_after : (p : Plan) (ids : List MsId) (step : Step) → IsOfClass p step → (id : MsId) → (is_among ids id ≡ true → IsMetaslab p id) → is_among (failed_after ids step) id ≡ true → IsMetaslab p id
member_after p ids (pick_gave pick) is id earlier e = earlier e
member_after p ids (look_failed other) is id earlier e =
    member_either p ids id other is earlier (or_either (is_among ids id) (is_same id other) (sym (among_after ids other id) ∙ e))

failed_member : (p : Plan) (steps : List Step) → AreSteps p steps → (id : MsId) → has_failed steps id ≡ true → IsMetaslab p id
failed_member p steps =
    by_snoc (λ l. AreSteps p l → (id : MsId) → has_failed l id ≡ true → IsMetaslab p id) (λ _ id e. cc)
    (λ l step earlier all id e. member_after p (failed l) step (of_class p (l ++ step ∷ []) all l step [] refl) id (earlier (steps_front p l step all) id) (sym (ap (λ (ids : List MsId). is_among ids id) (failed_push l step)) ∙ e))
    steps

both_ways : (a b : Bool) → (a ≡ true → b ≡ true) → (b ≡ true → a ≡ true) → a ≡ b
both_ways true b to back = sym (to refl)
both_ways false true to back = back refl
both_ways false false to back = refl

pub counts_each : (p : Plan) (steps : List Step) (ids : List MsId) → AreSteps p steps → IsNext p steps Done → ListsClass p ids → length (failed steps) ≡ length ids
counts_each p steps ids are end lists =
    length-from_same_keys same_equiv (failed steps) ids (failed_distinct steps) lists.distinct
    (λ id. both_ways (is_among (failed steps) id) (is_among ids id) (λ e. (lists.all id).1 (failed_member p steps are id e)) (λ e. end.all id ((lists.all id).0 e)))
