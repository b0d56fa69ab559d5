use Rattle.std.proofs.Common.{◌≡◌, length, refl, ap, ◌∙◌, Ok, arith}
use Rattle.zms_units.specs.declared.blocks.Block.{Block}
use Rattle.lane_passes.proofs.Acting.{acted_seated}
use Rattle.pool_alloc.proofs.Granting.{laid_none, laid_more, begins_placing, places_one, ends_full, ends_cut, ends_placed, counts_full, counts_short, one_longer}
use Rattle.pool_alloc.proofs.allocs.place_copies.Goals as goal

pub loop-init : goal.loop-init
loop-init g c =
    let none : length c.new-placed.result ≡ 0 = ap length c.new-placed.ensures in
    record {
      acted = begins_placing c.args.cells.now c.args.passes.now c.args.group c.args.size c.args.class c.args.classes.now c.new-placed.result c.requires.seated c.new-placed.ensures;
      laid = laid_none c.args.cells.now.vdevs c.new-placed.result c.new-placed.ensures;
      tried = none;
      follows = g.L.Loader.follows_itself c.args.loader.now;
      count = refl;
      last = refl;
    }

pub place_copy-requires-clause-seated : goal.place_copy-requires-clause-seated
place_copy-requires-clause-seated g c = acted_seated c.args.cells.now c.args.classes.now _ c.args.passes.now c.loop.passes c.requires.seated c.loop.invariant.acted

pub take_copies_back-requires-clause-seated : goal.take_copies_back-requires-clause-seated
take_copies_back-requires-clause-seated g c =
    let t = c.args.cells.now in
    acted_seated t c.args.classes.now _ c.loop.passes c.place_copy.new.passes (acted_seated t c.args.classes.now _ c.args.passes.now c.loop.passes c.requires.seated c.loop.invariant.acted) c.place_copy.ensures.acted

pub returns-in-Ok-Full-clause-acted : goal.returns-in-Ok-Full-clause-acted
returns-in-Ok-Full-clause-acted g c =
    let full = c.in-Ok-Full in
    ends_full c.args.cells.now c.args.passes.now c.args.group c.args.size c.args.class c.loop.placed c.loop.passes c.place_copy.new.passes c.loop.invariant.acted c.place_copy.result c.place_copy.ensures.acted c.args.copies
    (omega (arith, c.loop.invariant.tried, c.loop-test.true)) c.take_copies_back.result c.take_copies_back.new.passes full.looked (full.is ∙ ap Ok full.field-0-is) c.take_copies_back.ensures

pub returns-in-Ok-Full-clause-follows : goal.returns-in-Ok-Full-clause-follows
returns-in-Ok-Full-clause-follows g c = g.L.Loader.follows_along c.args.loader.now c.loop.loader c.place_copy.new.loader c.loop.invariant.follows c.place_copy.ensures.follows

pub returns-in-Ok-Full-clause-counts : goal.returns-in-Ok-Full-clause-counts
returns-in-Ok-Full-clause-counts g c =
    counts_full Block c.args.cells.now c.args.group c.loop.placed c.place_copy.new.passes c.take_copies_back.new.passes c.take_copies_back.result _ _ _ _ _ _ c.loop.invariant.count c.loop.invariant.last c.in-Ok-Full.looked
    c.take_copies_back.ensures c.in-Ok-Full.ensures.counts

pub cut_short-requires-clause-seated : goal.cut_short-requires-clause-seated
cut_short-requires-clause-seated g c =
    let t = c.args.cells.now in
    acted_seated t c.args.classes.now _ c.loop.passes c.place_copy.new.passes (acted_seated t c.args.classes.now _ c.args.passes.now c.loop.passes c.requires.seated c.loop.invariant.acted) c.place_copy.ensures.acted

pub returns-in-Err-clause-acted : goal.returns-in-Err-clause-acted
returns-in-Err-clause-acted g c =
    ends_cut c.args.cells.now c.args.passes.now c.args.group c.args.size c.args.class c.loop.placed c.loop.passes c.place_copy.new.passes c.loop.invariant.acted c.place_copy.result c.place_copy.ensures.acted c.args.copies
    (omega (arith, c.loop.invariant.tried, c.loop-test.true)) c.cut_short.result c.cut_short.new.passes c.in-Err.cut c.in-Err.is c.cut_short.ensures

pub returns-in-Err-clause-follows : goal.returns-in-Err-clause-follows
returns-in-Err-clause-follows g c = g.L.Loader.follows_along c.args.loader.now c.loop.loader c.place_copy.new.loader c.loop.invariant.follows c.place_copy.ensures.follows

pub returns-in-Err-clause-counts : goal.returns-in-Err-clause-counts
returns-in-Err-clause-counts g c =
    counts_short Block c.args.cells.now c.args.group c.loop.placed c.place_copy.new.passes c.cut_short.new.passes c.cut_short.result _ _ _ _ _ _ c.loop.invariant.count c.loop.invariant.last c.in-Err.cut c.cut_short.ensures
    c.in-Err.ensures.counts

pub loop-preserved : goal.loop-preserved
loop-preserved g c =
    let i = c.loop.invariant in
    let one = c.in-Ok-Placed in
    record {
      acted = places_one c.args.cells.now c.args.passes.now c.args.group c.args.size c.args.class c.loop.placed c.loop.passes c.place_copy.new.passes i.acted c.place_copy.result c.place_copy.ensures.acted one.dva c.push.new.self (one.is ∙ ap Ok one.field-0-is) c.push.ensures;
      laid = laid_more c.args.cells.now.vdevs c.loop.placed c.push.new.self one.dva c.push.ensures (rw one.field-0-is at one.ensures.laid) i.laid;
      tried = one_longer c.loop.placed c.push.new.self one.dva c.loop.counter c.push.ensures i.tried;
      follows = g.L.Loader.follows_along c.args.loader.now c.loop.loader c.place_copy.new.loader i.follows c.place_copy.ensures.follows;
      count = one.ensures.counts.0 ∙ i.count;
      last = one.ensures.counts.1 ∙ i.last;
    }

pub returns-clause-acted : goal.returns-clause-acted
returns-clause-acted g c =
    ends_placed c.args.cells.now c.args.passes.now c.loop.passes (record { lane = c.args.passes.now.lane; group = c.args.group; size = c.args.size }) c.args.class c.args.copies c.loop.placed
    (omega (arith, c.loop.invariant.tried, c.loop-test.false, c.loop.auto.counter-end)) c.loop.invariant.acted

pub returns-clause-follows : goal.returns-clause-follows
returns-clause-follows g c = c.loop.invariant.follows

pub returns-clause-counts : goal.returns-clause-counts
returns-clause-counts g c = (c.loop.invariant.count, c.loop.invariant.last)
