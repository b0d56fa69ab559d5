-- What a class answers, by the vdevs of the pool.
use Rattle.std.proofs.Common.{ℕ, ◌<◌, List, length, sym, subst, arith, Option, Some, None, Result, Ok, Err, refl}
use Rattle.std.specs.Prelude.{IfOk, IfSome, IfNone}
use Rattle.std.proofs.lemmas.List.{length-map}
use Rattle.std.proofs.lemmas.Option.{slice_get_within}
use Rattle.zms_units.specs.declared.places.Class.{Class}
use Rattle.zms_units.specs.declared.places.MsId.{MsId}
use Rattle.zms_units.specs.declared.places.VdevRow.{VdevRow}
use Rattle.vdev_map.specs.Numbers.{row_at, IsIn}
use Rattle.ms_model.specs.declared.notes.Kind.{Kind}
use Rattle.ms_model.specs.declared.notes.Start.{Start}
use Rattle.class_model.specs.Replay.{IsVdevOf, IsIn as IsOf, vdevs_of}
use Rattle.class_model.specs.declared.origin.ClassOrigin.{ClassOrigin}
use Rattle.class_model.proofs.Rotors.{rotor_is}
use Rattle.class_core.specs.Classes.{IsOriginOf, HasClass}
use Rattle.class_core.specs.declared.picked.Picked.{Picked}
use Rattle.class_group.specs.Turns.{origin_from}
use Rattle.class_group.specs.Passes.{ClassKnown}
use Rattle.class_group.specs.Journey.{TurnedOne}
use Rattle.class_group.specs.Answers.{BeginAnswer, PickAnswer}

-- a vdev is one of its class, and a metaslab of it is
module _ (vdevs : List VdevRow) (weights : List ℕ) (o : ClassOrigin) where
  pub vdev_of : (v : ℕ) → v < length vdevs → IsOriginOf vdevs (row_at vdevs v).class weights o → IsVdevOf o v
  vdev_of v lt is = (is.vdevs v).1 (lt, refl)

  pub id_of : (id : MsId) → IsIn vdevs id → IsOriginOf vdevs (row_at vdevs id.vdev).class weights o → IsOf o id
  id_of id inside is =
      let v : IsVdevOf o id.vdev = vdev_of id.vdev inside.vdev is in
      record { vdev = v; index = subst (λ (n : ℕ). id.index < n) (sym (is.metaslabs id.vdev v)) inside.index }

module _ (vdevs : List VdevRow) (weights : List ℕ) (class : Class) (right : ℕ) (c d : ClassKnown) (is : IsOriginOf vdevs class weights (origin_from c.fixed)) where
  pub begins_some : (result : Option ℕ) → TurnedOne right (BeginAnswer result) c d → IfSome result (HasClass vdevs class)
  begins_some None one = tt
  begins_some (Some v) one =
      let o = origin_from c.fixed in
      let answer = one.answer.answer in
      (is.vdevs v).0 (subst (IsVdevOf o) (sym answer.1) (rotor_is o one.before answer.0))

  pub begins_none : (result : Option ℕ) → TurnedOne right (BeginAnswer result) c d → IfNone result ((v : ℕ) → HasClass vdevs class v → ⊥)
  begins_none (Some v) one = tt
  begins_none None one = λ v has.
      let o = origin_from c.fixed in
      let among : IsVdevOf o v = (is.vdevs v).1 has in
      omega (arith, one.answer.answer, length-map o.vdevs (λ x. x.vdev), slice_get_within (vdevs_of o) among.0 v among.1)

module _ (vdevs : List VdevRow) (weights : List ℕ) (right : ℕ) (c d : ClassKnown) (v : ℕ) (lt : v < length vdevs) (is : IsOriginOf vdevs (row_at vdevs v).class weights (origin_from c.fixed)) where
  pub picks_within : {E : Type 0} (lane : ℕ) (kind : Kind) (bytes : ℕ) (start : Start) (result : Result (Option Picked) E) → TurnedOne right (PickAnswer lane kind v bytes start result) c d
      → IfOk result (λ picked. IfSome picked (λ x. IsIn vdevs (record { vdev = v; index = x.index })))
  picks_within lane kind bytes start (Err e) one = tt
  picks_within lane kind bytes start (Ok None) one = tt
  picks_within lane kind bytes start (Ok (Some x)) one = record {
    vdev = lt;
    index = subst (λ (n : ℕ). x.index < n) (is.metaslabs v (vdev_of vdevs weights (origin_from c.fixed) v lt is)) one.answer.answer.within;
  }
