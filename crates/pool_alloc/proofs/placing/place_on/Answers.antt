use Rattle.std.proofs.Common.{ℕ, ◌∷◌, ◌++◌, [], Ok, Err, Option, refl, sym, ap, ◌∙◌, subst}
use Rattle.ms_cell.specs.Turns.{Turns}
use Rattle.lane_passes.specs.Lanes.{ground_of}
use Rattle.copy_walk.specs.Plans.{plan_of}
use Rattle.lane_passes.proofs.Acting.{acted_as, acted_seated}
use Rattle.copy_walk.specs.Steps.{Picking, pick_gave, look_failed}
use Rattle.pool_alloc.specs.declared.looks.Looked.TheVariants.{Placed, Failed, Loaded}
use Rattle.pool_alloc.specs.Asks.{Ask, kind_of}
use Rattle.pool_alloc.specs.Looks.{IsBegun, was_active}
use Rattle.class_core.specs.Classes.{got_of}
use Rattle.pool_alloc.specs.Places.{no_vdev}
use Rattle.pool_alloc.proofs.Walking.{Walked, picking, walked_none, pick_given, told_pick}
use Rattle.pool_alloc.proofs.Stepping.{ask_as, look_as, goes_pick, goes_fail, goes_load, ends_placed, ends_cut, ends_broken, ends_full, pick_vdev, look_id, counts_along}
use Rattle.pool_alloc.proofs.placing.place_on.Goals as goal

-- src/placing.rt:61:9
pub returns-in_default-clause-acted : goal.returns-in_default-clause-acted
returns-in_default-clause-acted g c =
    acted_as c.args.cells.now _ _ c.args.passes.now c.begin.new.passes (λ es x. no_vdev (subst (λ (r : Option ℕ). IsBegun c.args.class r (ground_of c.args.cells.now c.args.passes.now) es) c.in_default.is x)) c.begin.ensures.acted

-- src/placing.rt:65:5
pub loop-init : goal.loop-init
loop-init g c =
    record {
      steps = [];
      told = c.new-walk.ensures.told;
      acted =
          acted_as c.args.cells.now _ (Walked (record { lane = c.args.passes.now.lane; group = c.args.group; size = c.args.size }) c.args.earlier.now c.args.class c.in-Some.rotor []) c.args.passes.now c.begin.new.passes
          (λ es x. walked_none (record { lane = c.args.passes.now.lane; group = c.args.group; size = c.args.size }) c.args.earlier.now c.args.class c.in-Some.rotor _ es x) c.in-Some.ensures.acted;
      plan = c.new-walk.ensures.plan ∙ ap (λ (x : Turns). plan_of x.vdevs c.args.class c.in-Some.rotor c.args.earlier.now) c.cells.view_is;
      follows = g.L.Loader.follows_itself c.args.loader.now;
      count = refl;
      last = refl;
    }

-- src/placing.rt:67:27
pub returns-in-Done-clause-acted : goal.returns-in-Done-clause-acted
returns-in-Done-clause-acted g c =
    let i = c.loop.invariant in
    ends_full c.args.cells.now (record { lane = c.args.passes.now.lane; group = c.args.group; size = c.args.size }) c.args.earlier.now c.args.class c.in-Some.rotor c.args.passes.now c.loop.passes c.loop.passes i.steps c.loop.walk.plan _ i.plan
    (c.next-in-loop.ensures.next i.steps i.told) i.acted _ c.in-Done.is (c.looked.ensures.count i.steps i.told)

-- src/placing.rt:67:27
pub returns-in-Done-clause-follows : goal.returns-in-Done-clause-follows
returns-in-Done-clause-follows g c = c.loop.invariant.follows

-- src/placing.rt:67:27
pub returns-in-Done-clause-counts : goal.returns-in-Done-clause-counts
returns-in-Done-clause-counts g c = (c.loop.invariant.count, c.loop.invariant.last)

-- src/placing.rt:69:21
pub bytes_on-bytes-requires-clause-vdev : goal.bytes_on-bytes-requires-clause-vdev
bytes_on-bytes-requires-clause-vdev g c =
    let i = c.loop.invariant in pick_vdev c.loop.walk.plan i.steps _ _ _ (c.next-in-loop.ensures.next i.steps i.told) c.in-Pick.is i.plan

-- src/placing.rt:70:23
pub pick-requires-clause-vdev : goal.pick-requires-clause-vdev
pick-requires-clause-vdev g c =
    let i = c.loop.invariant in pick_vdev c.loop.walk.plan i.steps _ _ _ (c.next-in-loop.ensures.next i.steps i.told) c.in-Pick.is i.plan

-- src/placing.rt:70:23
pub pick-requires-clause-seated : goal.pick-requires-clause-seated
pick-requires-clause-seated g c = acted_seated c.args.cells.now c.args.classes.now _ c.args.passes.now c.loop.passes c.requires.seated c.loop.invariant.acted

-- src/placing.rt:71:35
pub picked-requires : goal.picked-requires
picked-requires g c =
    let i = c.loop.invariant in
    pick_given c.loop.walk.plan _ _ _ _ _ i.plan (sym c.next-in-loop.ensures.asked ∙ c.in-Pick.is) c.got_of.ensures c.in-Ok.ensures.within

-- src/placing.rt:65:5
pub loop-preserved-in-Ok : goal.loop-preserved-in-Ok
loop-preserved-in-Ok g c =
    let i = c.loop.invariant in
    let a : Ask = record { lane = c.args.passes.now.lane; group = c.args.group; size = c.args.size } in
    let pick : Picking = record { vdev = c.in-Pick.vdev; start = c.in-Pick.start; got = got_of c.in-Ok.picked; was_active = was_active c.in-Ok.picked } in
    record {
      steps = i.steps ++ pick_gave pick ∷ [];
      told =
          told_pick c.loop.walk _ i.steps pick c.got_of.result c.was_active.result i.told (sym c.next-in-loop.ensures.asked ∙ c.in-Pick.is) c.got_of.ensures c.was_active.ensures c.picked.ensures.told;
      acted =
          goes_pick c.args.cells.now a c.args.earlier.now c.args.class c.in-Some.rotor c.args.passes.now c.loop.passes c.pick.new.passes i.steps c.loop.walk.plan _ i.plan
          (c.next-in-loop.ensures.next i.steps i.told) i.acted pick c.in-Pick.is
          (acted_as c.args.cells.now _ _ c.loop.passes c.pick.new.passes
          (λ es x. picking a c.kind_of-kind.result (kind_of c.args.earlier.now) c.in-Pick.vdev c.bytes_on-bytes.result c.loop.passes.lane c.in-Pick.start c.pick.result c.in-Ok.picked _ es c.kind_of-kind.ensures i.acted.journey.lane c.in-Ok.is
          c.bytes_on-bytes.ensures.0 c.bytes_on-bytes.ensures.1.0 c.bytes_on-bytes.ensures.1.1 x) c.pick.ensures.acted);
      plan = c.picked.ensures.plan ∙ i.plan;
      follows = i.follows;
      count = i.count;
      last = i.last;
    }

-- src/placing.rt:72:31
pub returns-in-Err-clause-acted : goal.returns-in-Err-clause-acted
returns-in-Err-clause-acted g c =
    let i = c.loop.invariant in
    ends_broken c.args.cells.now (record { lane = c.args.passes.now.lane; group = c.args.group; size = c.args.size }) c.args.earlier.now c.args.class c.in-Some.rotor c.args.passes.now c.loop.passes c.pick.new.passes i.steps c.loop.walk.plan _ i.plan
    (c.next-in-loop.ensures.next i.steps i.told) i.acted _ _ c.in-Err.ensures.acted

-- src/placing.rt:72:31
pub returns-in-Err-clause-follows : goal.returns-in-Err-clause-follows
returns-in-Err-clause-follows g c = c.loop.invariant.follows

-- src/placing.rt:72:31
pub returns-in-Err-clause-counts : goal.returns-in-Err-clause-counts
returns-in-Err-clause-counts g c = (c.loop.invariant.count, c.loop.invariant.last)

-- src/placing.rt:75:40
pub look-requires-clause-id : goal.look-requires-clause-id
look-requires-clause-id g c =
    let i = c.loop.invariant in look_id c.loop.walk.plan i.steps _ _ i.told.each (c.next-in-loop.ensures.next i.steps i.told) c.in-Look.is i.plan

-- src/placing.rt:75:40
pub look-requires-clause-seated : goal.look-requires-clause-seated
look-requires-clause-seated g c = acted_seated c.args.cells.now c.args.classes.now _ c.args.passes.now c.loop.passes c.requires.seated c.loop.invariant.acted

-- src/placing.rt:75:40
pub look-requires-clause-serves : goal.look-requires-clause-serves
look-requires-clause-serves g c =
    subst (λ (n : ℕ). g.L.Loader.serves c.loop.loader n c.args.cells.now) (sym c.loop.invariant.acted.journey.lane)
    (g.L.Loader.serves_along c.args.loader.now c.loop.loader c.args.passes.now.lane c.args.cells.now c.requires.serves c.loop.invariant.follows)

-- src/placing.rt:76:44
pub returns-in-Ok-Placed-clause-acted : goal.returns-in-Ok-Placed-clause-acted
returns-in-Ok-Placed-clause-acted g c =
    let i = c.loop.invariant in
    let a : Ask = record { lane = c.args.passes.now.lane; group = c.args.group; size = c.args.size } in
    let line = look_as c.args.cells.now _ a c.in-Look.id c.look.result (Ok (Placed c.in-Ok-Placed.dva)) c.loop.passes c.look.new.passes (ask_as c.args.group c.args.size c.loop.passes.lane c.args.passes.now.lane i.acted.journey.lane) (cc (c.in-Ok-Placed.is, c.in-Ok-Placed.field-0-is)) c.look.ensures.acted in
    ends_placed c.args.cells.now a c.args.earlier.now c.args.class c.in-Some.rotor c.args.passes.now c.loop.passes c.look.new.passes i.steps c.loop.walk.plan _ i.plan
    (c.next-in-loop.ensures.next i.steps i.told) i.acted c.in-Look.id c.in-Ok-Placed.dva c.in-Look.is line

-- src/placing.rt:76:44
pub returns-in-Ok-Placed-clause-follows : goal.returns-in-Ok-Placed-clause-follows
returns-in-Ok-Placed-clause-follows g c = g.L.Loader.follows_along c.args.loader.now c.loop.loader c.look.new.loader c.loop.invariant.follows c.look.ensures.follows

-- src/placing.rt:76:44
pub returns-in-Ok-Placed-clause-counts : goal.returns-in-Ok-Placed-clause-counts
returns-in-Ok-Placed-clause-counts g c =
    (c.in-Ok-Placed.ensures.counts.0 ∙ c.loop.invariant.count, c.in-Ok-Placed.ensures.counts.1 ∙ c.loop.invariant.last)

-- src/placing.rt:65:5
pub loop-preserved-in-Ok-Failed : goal.loop-preserved-in-Ok-Failed
loop-preserved-in-Ok-Failed g c =
    let i = c.loop.invariant in
    let a : Ask = record { lane = c.args.passes.now.lane; group = c.args.group; size = c.args.size } in
    let line = look_as c.args.cells.now _ a c.in-Look.id c.look.result (Ok Failed) c.loop.passes c.look.new.passes (ask_as c.args.group c.args.size c.loop.passes.lane c.args.passes.now.lane i.acted.journey.lane) (cc (c.in-Ok-Failed.is, c.in-Ok-Failed.field-0-is)) c.look.ensures.acted in
    record {
      steps = i.steps ++ look_failed c.in-Look.id ∷ [];
      told = c.failed.ensures.told i.steps c.in-Look.id i.told (sym c.next-in-loop.ensures.asked ∙ c.in-Look.is);
      acted =
          goes_fail c.args.cells.now a c.args.earlier.now c.args.class c.in-Some.rotor c.args.passes.now c.loop.passes c.look.new.passes i.steps c.loop.walk.plan _ i.plan
          (c.next-in-loop.ensures.next i.steps i.told) i.acted c.in-Look.id c.in-Look.is line;
      plan = c.failed.ensures.plan ∙ i.plan;
      follows = g.L.Loader.follows_along c.args.loader.now c.loop.loader c.look.new.loader i.follows c.look.ensures.follows;
      count = c.in-Ok-Failed.ensures.counts.0 ∙ i.count;
      last = c.in-Ok-Failed.ensures.counts.1 ∙ i.last;
    }

-- src/placing.rt:65:5
pub loop-preserved : goal.loop-preserved
loop-preserved g c =
    let i = c.loop.invariant in
    let a : Ask = record { lane = c.args.passes.now.lane; group = c.args.group; size = c.args.size } in
    let line = look_as c.args.cells.now _ a c.in-Look.id c.look.result (Ok Loaded) c.loop.passes c.look.new.passes (ask_as c.args.group c.args.size c.loop.passes.lane c.args.passes.now.lane i.acted.journey.lane) (cc (c.in-Ok-Loaded.is, c.in-Ok-Loaded.field-0-is)) c.look.ensures.acted in
    record {
      steps = i.steps;
      told = i.told;
      acted =
          goes_load c.args.cells.now a c.args.earlier.now c.args.class c.in-Some.rotor c.args.passes.now c.loop.passes c.look.new.passes i.steps c.loop.walk.plan _ i.plan
          (c.next-in-loop.ensures.next i.steps i.told) i.acted c.in-Look.id c.in-Look.is line;
      plan = i.plan;
      follows = g.L.Loader.follows_along c.args.loader.now c.loop.loader c.look.new.loader i.follows c.look.ensures.follows;
      count = c.in-Ok-Loaded.ensures.counts.0 ∙ i.count;
      last = c.in-Ok-Loaded.ensures.counts.1 ∙ i.last;
    }

-- src/placing.rt:79:29
pub returns-in-Err-look-clause-acted : goal.returns-in-Err-look-clause-acted
returns-in-Err-look-clause-acted g c =
    let i = c.loop.invariant in
    let a : Ask = record { lane = c.args.passes.now.lane; group = c.args.group; size = c.args.size } in
    let line = look_as c.args.cells.now _ a c.in-Look.id c.look.result (Err c.in-Err-look.cut) c.loop.passes c.look.new.passes (ask_as c.args.group c.args.size c.loop.passes.lane c.args.passes.now.lane i.acted.journey.lane) c.in-Err-look.is c.look.ensures.acted in
    ends_cut c.args.cells.now a c.args.earlier.now c.args.class c.in-Some.rotor c.args.passes.now c.loop.passes c.look.new.passes i.steps c.loop.walk.plan _ i.plan
    (c.next-in-loop.ensures.next i.steps i.told) i.acted c.in-Look.id c.in-Err-look.cut c.in-Look.is line

-- src/placing.rt:79:29
pub returns-in-Err-look-clause-follows : goal.returns-in-Err-look-clause-follows
returns-in-Err-look-clause-follows g c = g.L.Loader.follows_along c.args.loader.now c.loop.loader c.look.new.loader c.loop.invariant.follows c.look.ensures.follows

-- src/placing.rt:79:29
pub returns-in-Err-look-clause-counts : goal.returns-in-Err-look-clause-counts
returns-in-Err-look-clause-counts g c =
    counts_along _ _ _ _ _ _ _ c.loop.invariant.count c.loop.invariant.last c.in-Err-look.ensures.counts
