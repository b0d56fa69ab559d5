use Rattle.std.proofs.Common.{List, sym, subst, refl}
use Rattle.zms_units.specs.declared.places.VdevRow.{VdevRow}
use Rattle.copy_walk.specs.Plans.{Plan, plan_of, IsPlan}
use Rattle.copy_walk.specs.Routes.{IsRoute}
use Rattle.copy_walk.proofs.Keeping.{fresh_sound, fresh_told}
use Rattle.copy_walk.proofs.walk.Walk.new.Goals as goal

pub route_of-requires : goal.route_of-requires
route_of-requires c = subst (λ (l : List VdevRow). IsPlan (plan_of l c.args.class c.args.rotor c.args.earlier.now)) (sym c.as_slice.ensures) c.requires

pub invariant_of-result : goal.invariant_of-result
invariant_of-result c =
    let p : Plan = plan_of c.args.layout.now.vdevs c.args.class c.args.rotor c.args.earlier.now in
    let route : IsRoute p c.route_of.result = subst (λ (l : List VdevRow). IsRoute (plan_of l c.args.class c.args.rotor c.args.earlier.now) c.route_of.result) c.as_slice.ensures c.route_of.ensures in
    rw (c.of.ensures, c.of-2.ensures, c.of-3.ensures, c.of-4.ensures) (fresh_sound p c.requires c.route_of.result route c.new.result c.new.ensures.none c.new.ensures.size)

pub returns-clause-plan : goal.returns-clause-plan
returns-clause-plan c = rw (c.of.ensures, c.of-2.ensures, c.of-3.ensures, c.of-4.ensures) refl

pub returns-clause-told : goal.returns-clause-told
returns-clause-told c =
    let p : Plan = plan_of c.args.layout.now.vdevs c.args.class c.args.rotor c.args.earlier.now in
    let route : IsRoute p c.route_of.result = subst (λ (l : List VdevRow). IsRoute (plan_of l c.args.class c.args.rotor c.args.earlier.now) c.route_of.result) c.as_slice.ensures c.route_of.ensures in
    rw (c.of.ensures, c.of-2.ensures, c.of-3.ensures, c.of-4.ensures) (fresh_told p c.requires c.route_of.result route c.new.result c.new.ensures.none c.new.ensures.count)
