-- The weights behind a commit, one metaslab after the other.
use Rattle.std.proofs.Common.{◌≡◌, ℕ, ◌+◌, Bool, true, false, List, ◌++◌, refl, sym, subst, Result, Ok, Err}
use Rattle.zms_units.specs.declared.places.MsId.{MsId}
use Rattle.zms_units.specs.declared.places.VdevRow.{VdevRow}
use Rattle.vdev_map.specs.Numbers.{IsIn, number_of, metaslabs_in}
use Rattle.ms_model.specs.declared.notes.ClassNote.TheVariants.{Weigh}
use Rattle.ms_core.specs.declared.faults.Counts.{Counts}
use Rattle.ms_cell.specs.Turns.{Turns}
use Rattle.ms_cell.specs.Passes.{Passes}
use Rattle.ms_cell.specs.Journey.{Turned}
use Rattle.ms_cell.specs.Answers.{IsSight}
use Rattle.class_group.specs.Turns.{ClassTurns, place_for}
use Rattle.class_group.specs.Passes.{ClassKnown}
use Rattle.class_group.specs.Answers.{PostAnswer}
use Rattle.class_group.specs.Journey.{Turned as ClassTurned}
use Rattle.lane_passes.specs.Lanes.{LaneEvent, Ground, ground_of, IsSeated, Acted}
use Rattle.lane_passes.specs.Turns.{AtMetaslab, AtClass, Nothing}
use Rattle.lane_passes.specs.declared.passes.LanePasses.{LanePasses}
use Rattle.lane_passes.proofs.Acting.{acted_none, acted_as, acted_join, acted_seated, at_metaslab_acted, at_class_acted}
use Rattle.pool_keeper.specs.Syncs.{IsWeighedOnce, AreWeighed, not_loaded, loaded, none, more}
use Rattle.pool_keeper.specs.SyncParts.{WeighedAs, AllWeighedAs}

weighed_so : {E : Type 0} (lane : ℕ) (id : MsId) (counts : Counts) (weight : ℕ) (result : Result (Unit {0}) E) (g : Ground) (es fs : List LaneEvent)
    → AtMetaslab (number_of g.vdevs id) (IsSight counts weight true) g es → AtClass (place_for g.vdevs id.vdev) (PostAnswer lane (Weigh id weight) result) g fs → WeighedAs lane id result g (es ++ fs)
weighed_so lane id counts weight (Ok _) g es fs sight turn = loaded counts weight (record { one = es; two = fs; whole = refl; first = sight; second = turn })
weighed_so lane id counts weight (Err _) g es fs sight turn = (counts, (weight, record { one = es; two = fs; whole = refl; first = sight; second = turn }))

-- one metaslab
module _ {R : Type 0} (t : Turns) (c : ClassTurns) (p : LanePasses R) (s : IsSeated t c p) (id : MsId) (counts : Counts) (weight : ℕ) (in_memory : Bool) (q : Passes)
    (sight : Turned p.lane (number_of t.vdevs id) (IsSight counts weight in_memory) p.cells q) where
  seen_as : (b : Bool) → in_memory ≡ b → Acted t (AtMetaslab (number_of t.vdevs id) (IsSight counts weight b)) p (record p { cells = q })
  seen_as b is = at_metaslab_acted t c p s (number_of t.vdevs id) (IsSight counts weight b) q (subst (λ (x : Bool). Turned p.lane (number_of t.vdevs id) (IsSight counts weight x) p.cells q) is sight)

  pub seen_alone : in_memory ≡ false → Acted t (λ g es. IsWeighedOnce p.lane id g es) p (record p { cells = q })
  seen_alone is = acted_as t (AtMetaslab (number_of t.vdevs id) (IsSight counts weight false)) (λ g es. IsWeighedOnce p.lane id g es) p (record p { cells = q }) (λ es x. not_loaded counts weight x) (seen_as false is)

  pub seen_posted : {E : Type 0} (result : Result (Unit {0}) E) (r : List ClassKnown) → in_memory ≡ true → ClassTurned p.lane (place_for c.vdevs id.vdev) (PostAnswer p.lane (Weigh id weight) result) p.classes r
      → Acted t (WeighedAs p.lane id result) p (record p { cells = q; classes = r })
  seen_posted result r is turn =
      let mid : LanePasses R = record p { cells = q } in
      let first : Acted t (AtMetaslab (number_of t.vdevs id) (IsSight counts weight true)) p mid = seen_as true is in
      let seated : IsSeated t c mid = acted_seated t c (AtMetaslab (number_of t.vdevs id) (IsSight counts weight true)) p mid s first in
      acted_join t (AtMetaslab (number_of t.vdevs id) (IsSight counts weight true)) (AtClass (place_for t.vdevs id.vdev) (PostAnswer p.lane (Weigh id weight) result)) (WeighedAs p.lane id result) p mid (record p { cells = q; classes = r })
      (λ es fs x y. weighed_so p.lane id counts weight result (ground_of t p) es fs x y)
      first
      (at_class_acted t c mid seated (place_for t.vdevs id.vdev) (PostAnswer p.lane (Weigh id weight) result) r
      (subst (λ (rows : List VdevRow). ClassTurned p.lane (place_for rows id.vdev) (PostAnswer p.lane (Weigh id weight) result) p.classes r) s.one turn))

-- those before it
module _ {R : Type 0} (t : Turns) (p : LanePasses R) where
  abbrev Few : ℕ → LanePasses R → Type 0
  Few number q = Acted t (λ g es. AreWeighed p.lane g number es) p q

  pub weighed_none : (c : ClassTurns) → IsSeated t c p → Few 0 p
  weighed_none c s = acted_as t Nothing (λ g es. AreWeighed p.lane g 0 es) p p (λ es e. subst (λ (l : List LaneEvent). AreWeighed p.lane (ground_of t p) 0 l) (sym e) none) (acted_none t c p s)

  pub weighed_whole : (E : Type 0) (number : ℕ) (q : LanePasses R) → number ≡ metaslabs_in t.vdevs → Few number q → Acted t (AllWeighedAs {E = E} p.lane (Ok tt)) p q
  weighed_whole E number q all few = acted_as t (λ g es. AreWeighed p.lane g number es) (AllWeighedAs {E = E} p.lane (Ok tt)) p q (λ es x. subst (λ (n : ℕ). AreWeighed p.lane (ground_of t p) n es) all x) few

  module _ (E : Type 0) (number : ℕ) (id : MsId) (inside : IsIn t.vdevs id) (place : number_of t.vdevs id ≡ number) (q r : LanePasses R) (few : Few number q) where
    pub weighed_more : Acted t (WeighedAs {E = E} q.lane id (Ok tt)) q r → Few (number + 1) r
    weighed_more one =
        acted_join t (λ g es. AreWeighed p.lane g number es) (λ g es. IsWeighedOnce p.lane id g es) (λ g es. AreWeighed p.lane g (number + 1) es) p q r
        (λ es fs x y. more number id es fs x inside place y)
        few
        (subst (λ (n : ℕ). Acted t (λ g es. IsWeighedOnce n id g es) q r) few.journey.lane one)

    pub weighed_in_part : (e : E) → Acted t (WeighedAs {E = E} q.lane id (Err e)) q r → Acted t (AllWeighedAs {E = E} p.lane (Err e)) p r
    weighed_in_part e one =
        acted_join t (λ g es. AreWeighed p.lane g number es) (WeighedAs {E = E} q.lane id (Err e)) (AllWeighedAs {E = E} p.lane (Err e)) p q r
        (λ es fs x y. record { few = number; id = id; inside = inside; place = place; counts = y.0; weight = y.1.0; turns = record { one = es; two = fs; whole = refl; first = x; second = y.1.1 } })
        few
        one
