use Rattle.std.proofs.Common.{None, Some, ◌<◌, length, length-set, set, ◌∙◌, refl, arith}
use Rattle.class_core.specs.Rankings.{has}
use Rattle.class_core.specs.GroupInside.{group_state}
use Rattle.class_core.specs.declared.group.MetaslabGroup.TheInside.{Inside}
use Rattle.class_core.proofs.Booleans.{set_look}
use Rattle.class_core.proofs.Standing.{occupied}
use Rattle.class_core.proofs.group.MetaslabGroup.occupy.Goals as goal

pub invariant_of-self : goal.invariant_of-self
invariant_of-self c =
    let old = c.self.inside in
    let place = c.args.pair in
    let none = rw (← c.self.view_is) at c.requires.none in
    let stands = rw (← c.self.view_is) at c.requires.stands in
    let lt : place < length old.active = omega (arith, c.requires.pair, c.self.invariant.places) in
    let now : Inside = record { vdev = old.vdev; weights = old.weights; active = set old.active place (Some c.args.got.index); ranking = c.take.new.self } in
    record {
      few = c.self.invariant.few;
      places = length-set old.active place (Some c.args.got.index) ∙ c.self.invariant.places;
      agrees = occupied (group_state old) (group_state now) (has old.ranking) (has c.take.new.self) place c.args.got c.self.invariant.agrees refl
          (λ k. set_look old.active place k (Some c.args.got.index) None lt) none stands c.take.ensures;
    }
