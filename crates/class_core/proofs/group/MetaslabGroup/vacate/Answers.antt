use Rattle.std.proofs.Common.{◌≡◌, None, ◌<◌, length, length-set, set, get_or, ◌∙◌, ap, refl, sym, subst, arith}
use Rattle.std.specs.Prelude.{◌||◌}
use Rattle.ms_model.specs.declared.notes.Got.{Got}
use Rattle.class_core.specs.Rankings.{has, is_same}
use Rattle.class_core.specs.Groups.{GroupState}
use Rattle.class_core.specs.GroupInside.{group_state}
use Rattle.class_core.proofs.Booleans.{set_look, got_is}
use Rattle.class_core.proofs.Standing.{own_got, vacated_none, vacated_some}
use Rattle.class_core.proofs.group.MetaslabGroup.vacate.Goals as goal
use Rattle.class_core.proofs.group.MetaslabGroup.vacate.Goals.{in-Some+in_ok-put, in_default}

pub invariant_of-self-2 : goal.invariant_of-self-2
invariant_of-self-2 c =
    let old = group_state c.self.inside in
    let place = c.args.pair in
    let lt : place < length old.active = omega (arith, c.requires, c.self.invariant.places) in
    let now : GroupState = record { vdev = old.vdev; weights = old.weights; active = set old.active place None } in
    let eight : length (set old.active place None) ≡ 8 = length-set old.active place None ∙ c.self.invariant.places in
    let m = has c.self.inside.ranking in
    elim c.match-self-pair.branch [
      | in-Some+in_ok-put w ↦ rw w.self-inside-is (record {
        few = c.self.invariant.few;
        places = eight;
        agrees = vacated_some old now m (has w.put.new.self) place c.self.invariant.agrees refl (λ k. set_look old.active place k None None lt) w.in-Some.former w.in-Some.is
            (λ g.
            let same : w.got-former.result ≡ own_got old w.in-Some.former =
            got_is w.got-former.result (own_got old w.in-Some.former) w.got-former.ensures.index
            (w.got-former.ensures.weight ∙ ap (λ (s : GroupState). get_or s.weights w.in-Some.former 0) (sym c.self.view_is)) in
            subst (λ (x : Got). has w.put.new.self g ≡ (is_same x g || m g)) same (w.in_ok-put.ensures.ok g));
      })
      | in_default w ↦ rw w.self-inside-is (record {
        few = c.self.invariant.few;
        places = eight;
        agrees = vacated_none old now m m place c.self.invariant.agrees refl (λ k. set_look old.active place k None None lt) w.in_default.is (λ g. refl);
      })
    ]
