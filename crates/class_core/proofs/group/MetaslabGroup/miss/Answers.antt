use Rattle.std.proofs.Common.{◌≡◌, ℕ, None, ◌<◌, List, Option, length, length-set, set, get_or, ◌∙◌, ap, refl, sym, subst, arith}
use Rattle.std.specs.Prelude.{◌&&◌, ◌||◌, not}
use Rattle.std.proofs.lemmas.List.{length-map}
use Rattle.ms_model.specs.declared.notes.Got.{Got}
use Rattle.class_model.specs.Replay.{dropped}
use Rattle.class_core.specs.Rankings.{has, is_same}
use Rattle.class_core.specs.Groups.{GroupState}
use Rattle.class_core.specs.GroupInside.{group_state}
use Rattle.class_core.proofs.Booleans.{got_is, map_look}
use Rattle.class_core.proofs.Standing.{got_at, own_got, weighed_agrees}
use Rattle.class_core.proofs.group.MetaslabGroup.miss.Goals as goal

pub invariant_of-self-2 : goal.invariant_of-self-2
invariant_of-self-2 c =
    let old = group_state c.self.inside in
    let i = c.args.index in
    let lt : i < length old.weights = subst (λ (s : GroupState). i < length s.weights) (sym c.self.view_is) c.requires in
    let now : GroupState = record { vdev = old.vdev; weights = set old.weights i c.args.weight; active = c.drop_active.new.active } in
    let m = has c.self.inside.ranking in
    let same : c.got-former.result ≡ own_got old i =
    got_is c.got-former.result (own_got old i) c.got-former.ensures.index (c.got-former.ensures.weight ∙ ap (λ (s : GroupState). get_or s.weights i 0) (sym c.self.view_is)) in
    record {
      few = omega (arith, length-set old.weights i c.args.weight, c.self.invariant.few);
      places = ap length c.drop_active.ensures ∙ (length-map old.active (dropped i) ∙ c.self.invariant.places);
      agrees = weighed_agrees old now m (has c.shift.new.self) i c.args.weight c.self.invariant.agrees lt refl
          (λ place. ap (λ (l : List (Option ℕ)). get_or l place None) c.drop_active.ensures ∙ map_look (dropped i) old.active place None refl)
          (λ g. subst (λ (x : Got). has c.shift.new.self g ≡ (is_same (got_at i c.args.weight) g || (not (is_same x g) && m g))) same (c.in_ok-shift.ensures.ok g));
    }
