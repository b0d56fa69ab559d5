use Rattle.std.proofs.Common.{List, sym, subst}
use Rattle.zms_units.specs.declared.blocks.Dva.{Dva}
use Rattle.copy_walk.specs.Plans.{Plan, plan_of, IsPlan}
use Rattle.copy_walk.specs.Routes.{IsRoute}
use Rattle.copy_walk.proofs.Routing.{half_way, all_taken}
use Rattle.copy_walk.proofs.route.route_of.Goals as goal

pub add_stops-requires-2-clause-before : goal.add_stops-requires-2-clause-before
add_stops-requires-2-clause-before c =
    let copies = c.as_slice-copies.result.now in
    let p : Plan = plan_of c.args.rows.now c.args.class c.args.rotor copies in
    let is : IsPlan p = subst (λ (l : List Dva). IsPlan (plan_of c.args.rows.now c.args.class c.args.rotor l)) (sym c.as_slice-copies.ensures) c.requires in
    half_way p c.add_stops.new.route is c.add_stops.ensures

pub returns : goal.returns
returns c =
    let copies = c.as_slice-copies.result.now in
    let p : Plan = plan_of c.args.rows.now c.args.class c.args.rotor copies in
    let is : IsPlan p = subst (λ (l : List Dva). IsPlan (plan_of c.args.rows.now c.args.class c.args.rotor l)) (sym c.as_slice-copies.ensures) c.requires in
    subst (λ (l : List Dva). IsRoute (plan_of c.args.rows.now c.args.class c.args.rotor l) c.add_stops-2.new.route) c.as_slice-copies.ensures
    (all_taken p c.add_stops-2.new.route is c.add_stops-2.ensures)
