use Rattle.std.proofs.Common.{◌≡◌, ℕ, ◌+◌, ◌∷◌, ◌++◌, cond, [], length, ap, sym, subst, ◌∙◌, arith}
use Rattle.copy_walk.specs.Plans.{Plan, plan_of, distance}
use Rattle.copy_walk.specs.Routes.{stop_of, IsTaken, HasStops}
use Rattle.copy_walk.specs.declared.route.Stop.{Stop}
use Rattle.copy_walk.proofs.Order.{distance_at}
use Rattle.copy_walk.proofs.Routing.{room, step_on}
use Rattle.copy_walk.proofs.route.add_stops.Goals as goal

pub add-requires : goal.add-requires
add-requires c = λ yes.
    let p : Plan = plan_of c.args.rows.now c.args.class c.args.rotor c.args.earlier.now in
    let v = c.vdev_at-vdev.result in
    let k = c.loop-further.further in
    let far : distance p v ≡ k = distance_at p v k c.requires.plan.rotor.0 c.loop-further-test.true c.vdev_at-vdev.ensures.at in
    room p c.requires.plan c.args.holding k c.loop-further.route c.loop-further.invariant v c.vdev_at-vdev.ensures.below far (c.is_wanted-wanted.ensures.0 yes)

pub loop-further-preserved : goal.loop-further-preserved
loop-further-preserved c =
    let p : Plan = plan_of c.args.rows.now c.args.class c.args.rotor c.args.earlier.now in
    let v = c.vdev_at-vdev.result in
    let k = c.loop-further.further in
    let far : distance p v ≡ k = distance_at p v k c.requires.plan.rotor.0 c.loop-further-test.true c.vdev_at-vdev.ensures.at in
    let one : c.add.new.self ≡ cond c.is_wanted-wanted.result (c.loop-further.route ++ stop_of c.args.rows.now v ∷ []) c.loop-further.route =
    c.add.ensures ∙ ap (λ (s : Stop). cond c.is_wanted-wanted.result (c.loop-further.route ++ s ∷ []) c.loop-further.route) c.stop_at.ensures in
    subst (HasStops p (IsTaken p c.args.holding (k + 1))) (sym one)
    (step_on p c.requires.plan c.args.holding k c.loop-further.route c.loop-further.invariant v c.vdev_at-vdev.ensures.below far c.is_wanted-wanted.result c.is_wanted-wanted.ensures)

pub returns : goal.returns
returns c =
    let p : Plan = plan_of c.args.rows.now c.args.class c.args.rotor c.args.earlier.now in
    let all : c.loop-further.further ≡ length c.args.rows.now = omega arith in
    subst (λ (n : ℕ). HasStops p (IsTaken p c.args.holding n) c.loop-further.route) all c.loop-further.invariant
