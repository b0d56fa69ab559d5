use Rattle.std.proofs.Common.{rules, sym, ap, ◌∙◌, Ok, Err}
use denote.Enum.Bare.{same_true, same_false}
use Rattle.zms_units.specs.contracts.places.Class.{the_type}
use Rattle.zms_units.specs.declared.places.Class.TheVariants.{Normal}
use Rattle.lane_passes.proofs.Acting.{acted_seated}
use Rattle.pool_alloc.specs.Asks.{Ask}
use Rattle.pool_alloc.proofs.Searching.{ended_on_class, normal_is_full, ended_on_normal, neither_has}
use Rattle.pool_alloc.proofs.placing.place_copy.Goals as goal

pub returns-in-Err-clause-acted : goal.returns-in-Err-clause-acted
returns-in-Err-clause-acted g c =
    let p = c.args.passes.now in
    let a : Ask = record { lane = p.lane; group = c.args.group; size = c.args.size } in
    ended_on_class c.args.cells.now a c.args.earlier.now c.args.class c.place_on.result (Err c.in-Err.cut) p c.place_on.new.passes c.in-Err.is (λ looked is. cc) c.place_on.ensures.acted

pub returns-then-eq-clause-acted : goal.returns-then-eq-clause-acted
returns-then-eq-clause-acted g c =
    let p = c.args.passes.now in
    let a : Ask = record { lane = p.lane; group = c.args.group; size = c.args.size } in
    normal_is_full c.args.cells.now a c.args.earlier.now c.args.class c.place_on.result c.in-Ok-Full.looked (c.in-Ok-Full.is ∙ ap Ok c.in-Ok-Full.field-0-is) p c.place_on.new.passes c.place_on.ensures.acted
    (same_true the_type (search rules) c.args.class Normal (sym c.if-eq.ensures))

pub place_on-requires-2-clause-seated : goal.place_on-requires-2-clause-seated
place_on-requires-2-clause-seated g c = acted_seated c.args.cells.now c.args.classes.now _ c.args.passes.now c.place_on.new.passes c.requires.seated c.place_on.ensures.acted

pub returns-in-Ok-Full-place_on-clause-acted : goal.returns-in-Ok-Full-place_on-clause-acted
returns-in-Ok-Full-place_on-clause-acted g c =
    let p = c.args.passes.now in
    let a : Ask = record { lane = p.lane; group = c.args.group; size = c.args.size } in
    let first = c.in-Ok-Full in
    let second = c.in-Ok-Full-place_on in
    neither_has c.args.cells.now a c.args.earlier.now c.args.class c.place_on.result first.looked (first.is ∙ ap Ok first.field-0-is) p c.place_on.new.passes c.place_on.ensures.acted
    (same_false the_type c.args.class Normal (sym c.if-eq.ensures)) c.place_on-2.new.passes c.place_on-2.result second.looked (second.is ∙ ap Ok second.field-0-is) c.place_on.ensures.acted.journey.lane c.place_on-2.ensures.acted

pub returns-in-Ok-Full-place_on-clause-follows : goal.returns-in-Ok-Full-place_on-clause-follows
returns-in-Ok-Full-place_on-clause-follows g c = g.L.Loader.follows_along c.args.loader.now c.place_on.new.loader c.place_on-2.new.loader c.place_on.ensures.follows c.place_on-2.ensures.follows

pub returns-in-Ok-Placed-place_on-clause-acted : goal.returns-in-Ok-Placed-place_on-clause-acted
returns-in-Ok-Placed-place_on-clause-acted g c =
    let p = c.args.passes.now in
    let a : Ask = record { lane = p.lane; group = c.args.group; size = c.args.size } in
    let first = c.in-Ok-Full in
    let second = c.in-Ok-Placed-place_on in
    ended_on_normal c.args.cells.now a c.args.earlier.now c.args.class c.place_on.result first.looked (first.is ∙ ap Ok first.field-0-is) p c.place_on.new.passes c.place_on.ensures.acted
    (same_false the_type c.args.class Normal (sym c.if-eq.ensures)) c.place_on-2.new.passes c.place_on-2.result _ (second.is ∙ ap Ok second.field-0-is) c.place_on.ensures.acted.journey.lane c.place_on-2.ensures.acted (λ looked is. cc)

pub returns-in-Ok-Placed-place_on-clause-follows : goal.returns-in-Ok-Placed-place_on-clause-follows
returns-in-Ok-Placed-place_on-clause-follows g c = g.L.Loader.follows_along c.args.loader.now c.place_on.new.loader c.place_on-2.new.loader c.place_on.ensures.follows c.place_on-2.ensures.follows

pub returns-in-Err-place_on-clause-acted : goal.returns-in-Err-place_on-clause-acted
returns-in-Err-place_on-clause-acted g c =
    let p = c.args.passes.now in
    let a : Ask = record { lane = p.lane; group = c.args.group; size = c.args.size } in
    let first = c.in-Ok-Full in
    ended_on_normal c.args.cells.now a c.args.earlier.now c.args.class c.place_on.result first.looked (first.is ∙ ap Ok first.field-0-is) p c.place_on.new.passes c.place_on.ensures.acted
    (same_false the_type c.args.class Normal (sym c.if-eq.ensures)) c.place_on-2.new.passes c.place_on-2.result (Err c.in-Err-place_on.cut) c.in-Err-place_on.is c.place_on.ensures.acted.journey.lane c.place_on-2.ensures.acted (λ looked is. cc)

pub returns-in-Err-place_on-clause-follows : goal.returns-in-Err-place_on-clause-follows
returns-in-Err-place_on-clause-follows g c = g.L.Loader.follows_along c.args.loader.now c.place_on.new.loader c.place_on-2.new.loader c.place_on.ensures.follows c.place_on-2.ensures.follows
