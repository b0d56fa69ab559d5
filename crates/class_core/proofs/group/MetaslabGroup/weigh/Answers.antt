use Rattle.std.proofs.Common.{◌≡◌, ◌<◌, ◌≤◌, true, false, length, length-set, set, get_or, ◌∙◌, ap, refl, sym, subst, arith}
use Rattle.std.specs.Prelude.{◌&&◌, ◌||◌, not}
use Rattle.ms_model.specs.declared.notes.Got.{Got}
use Rattle.class_core.specs.Rankings.{has, is_same}
use Rattle.class_core.specs.Groups.{GroupState, Stands, active_in}
use Rattle.class_core.specs.GroupInside.{group_state}
use Rattle.class_core.proofs.Booleans.{got_is, dropped_free}
use Rattle.class_core.proofs.Standing.{got_at, own_got, weighed_agrees, active_weighed}
use Rattle.class_core.proofs.group.MetaslabGroup.weigh.Goals as goal
use Rattle.class_core.proofs.group.MetaslabGroup.weigh.Goals.{then-has+in_ok-shift, else-has}

pub invariant_of-self-2 : goal.invariant_of-self-2
invariant_of-self-2 c =
    let old = group_state c.self.inside in
    let i = c.args.index in
    let posted = c.args.weight in
    let lt : i < length old.weights = subst (λ (s : GroupState). i < length s.weights) (sym c.self.view_is) c.requires in
    let now : GroupState = record { vdev = old.vdev; weights = set old.weights i posted; active = old.active } in
    let m = has c.self.inside.ranking in
    let same : c.got-former.result ≡ own_got old i =
    got_is c.got-former.result (own_got old i) c.got-former.ensures.index (c.got-former.ensures.weight ∙ ap (λ (s : GroupState). get_or s.weights i 0) (sym c.self.view_is)) in
    let few : length (set old.weights i posted) ≤ 65536 = omega (arith, length-set old.weights i posted, c.self.invariant.few) in
    elim c.if-has.branch [
      | then-has+in_ok-shift w ↦ rw w.self-inside-is (record {
        few = few;
        places = c.self.invariant.places;
        agrees =
            let st : Stands old (own_got old i) = c.self.invariant.agrees.has (own_got old i) (subst (λ (x : Got). m x ≡ true) same (sym c.has.ensures ∙ w.if-has.true)) in
            weighed_agrees old now m (has w.shift.new.self) i posted c.self.invariant.agrees lt refl
            (λ place. sym (dropped_free i (active_in old place) (st.inactive place)))
            (λ g. subst (λ (x : Got). has w.shift.new.self g ≡ (is_same (got_at i posted) g || (not (is_same x g) && m g))) same (w.in_ok-shift.ensures.ok g));
      })
      | else-has w ↦ rw w.self-inside-is (record {
        few = few;
        places = c.self.invariant.places;
        agrees = active_weighed old now m i posted c.self.invariant.agrees lt refl (λ place. refl) (subst (λ (x : Got). m x ≡ false) same (sym c.has.ensures ∙ w.if-has.false));
      })
    ]
