-- The turns of an allocation, as facts of what the lane did.
use Rattle.std.proofs.Common.{◌≡◌, ℕ, Bool, List, ◌++◌, refl, sym, subst, Option, Result, Ok, Err}
use Rattle.zms_units.specs.declared.places.MsId.{MsId}
use Rattle.zms_units.specs.declared.places.VdevRow.{VdevRow}
use Rattle.vdev_map.specs.Numbers.{number_of}
use Rattle.ms_model.specs.Origin.{Origin}
use Rattle.ms_model.specs.declared.notes.Noted.{Noted}
use Rattle.class_model.specs.Replay.{LaneNote}
use Rattle.class_core.specs.Classes.{ClassState}
use Rattle.class_group.specs.Turns.{ClassTurns, place_for}
use Rattle.class_group.specs.Passes.{ClassKnown}
use Rattle.class_group.specs.Answers.{PostAnswer}
use Rattle.class_group.specs.Journey.{Turned as ClassTurned}
use Rattle.ms_core.specs.declared.faults.Counts.{Counts}
use Rattle.ms_cell.specs.Turns.{Turns}
use Rattle.ms_cell.specs.Passes.{Passes}
use Rattle.ms_cell.specs.Journey.{Turned}
use Rattle.ms_cell.specs.Answers.{IsSight}
use Rattle.lane_passes.specs.Lanes.{LaneEvent, Ground, ground_of, IsSeated, Acted}
use Rattle.lane_passes.specs.Turns.{AtMetaslab, AtClass}
use Rattle.lane_passes.specs.declared.passes.LanePasses.{LanePasses}
use Rattle.lane_passes.proofs.Acting.{acted_as, acted_join, acted_seated, at_metaslab_acted, at_class_acted}
use Rattle.pool_alloc.specs.declared.turns.Post.{Post}
use Rattle.pool_alloc.specs.Posts.{note_of, IsPost}

module _ {R : Type 0} (t : Turns) (c : ClassTurns) (p : LanePasses R) (s : IsSeated t c p) where
  -- at the class of a vdev
  pub at_class_of : (vdev : ℕ) (Answer : ClassState → Option LaneNote → Type 0) (q : List ClassKnown) → ClassTurned p.lane (place_for c.vdevs vdev) Answer p.classes q
      → Acted t (λ g. AtClass (place_for g.vdevs vdev) Answer g) p (record p { classes = q })
  at_class_of vdev Answer q w =
      acted_as t (AtClass (place_for t.vdevs vdev) Answer) (λ g. AtClass (place_for g.vdevs vdev) Answer g) p (record p { classes = q }) (λ es x. x)
      (at_class_acted t c p s (place_for t.vdevs vdev) Answer q (subst (λ (rows : List VdevRow). ClassTurned p.lane (place_for rows vdev) Answer p.classes q) s.one w))

  -- and at the metaslab of an id
  pub at_metaslab_of : (id : MsId) (Answer : Origin → List Noted → Option Noted → Type 0) (q : Passes) → Turned p.lane (number_of t.vdevs id) Answer p.cells q → Acted t (λ g. AtMetaslab (number_of g.vdevs id) Answer g) p (record p { cells = q })
  at_metaslab_of id Answer q w =
      acted_as t (AtMetaslab (number_of t.vdevs id) Answer) (λ g. AtMetaslab (number_of g.vdevs id) Answer g) p (record p { cells = q }) (λ es x. x)
      (at_metaslab_acted t c p s (number_of t.vdevs id) Answer q w)

posted_so : {E : Type 0} (lane : ℕ) (id : MsId) (post : Post) (counts : Counts) (weight : ℕ) (loaded : Bool) (result : Result (Unit {0}) E) (g : Ground) (es fs : List LaneEvent)
    → AtMetaslab (number_of g.vdevs id) (IsSight counts weight loaded) g es → AtClass (place_for g.vdevs id.vdev) (PostAnswer lane (note_of id post weight) result) g fs → IsPost lane id post result g (es ++ fs)
posted_so lane id post counts weight loaded (Ok _) g es fs sight turn = record { counts = counts; weight = weight; loaded = loaded; turns = record { one = es; two = fs; whole = refl; first = sight; second = turn } }
posted_so lane id post counts weight loaded (Err _) g es fs sight turn = record { counts = counts; weight = weight; loaded = loaded; turns = record { one = es; two = fs; whole = refl; first = sight; second = turn } }

module _ {R : Type 0} (t : Turns) (c : ClassTurns) (p : LanePasses R) (s : IsSeated t c p) where
  pub posted : {E : Type 0} (id : MsId) (post of : Post) (counts : Counts) (weight : ℕ) (loaded : Bool) (result : Result (Unit {0}) E) (q : Passes) (r : List ClassKnown) → post ≡ of
      → Turned p.lane (number_of t.vdevs id) (IsSight counts weight loaded) p.cells q → ClassTurned p.lane (place_for c.vdevs id.vdev) (PostAnswer p.lane (note_of id of weight) result) p.classes r
      → Acted t (IsPost p.lane id post result) p (record p { cells = q; classes = r })
  posted id post of counts weight loaded result q r is sight turn =
      let mid : LanePasses R = record p { cells = q } in
      let first = at_metaslab_of t c p s id (IsSight counts weight loaded) q sight in
      let seated : IsSeated t c mid = acted_seated t c _ p mid s first in
      subst (λ (x : Post). Acted t (IsPost p.lane id x result) p (record p { cells = q; classes = r })) (sym is)
      (acted_join t _ _ (IsPost p.lane id of result) p mid (record p { cells = q; classes = r })
      (λ es fs x y. posted_so p.lane id of counts weight loaded result (ground_of t p) es fs x y)
      first
      (at_class_of t c mid seated id.vdev (PostAnswer p.lane (note_of id of weight) result) r turn))
