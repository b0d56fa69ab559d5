use Rattle.std.proofs.Common.{◌≡◌, rules, refl, ◌∙◌, Ok, Err}
use Rattle.ms_core.specs.declared.faults.MsFault.TheVariants.{NotLoaded, NotLive, Late}
use Rattle.ms_cell.specs.declared.answers.CellFault.TheVariants.{Ms}
use Rattle.lane_passes.proofs.Acting.{acted_seated}
use Rattle.pool_alloc.proofs.Freeing.{err_given, no_place, begins, loads, free_as, frees, finds_dead, finds_late, lacks_memory, load_refused}
use Rattle.pool_alloc.proofs.frees.free_place.Goals as goal

pub returns-in_err-id-clause-acted : goal.returns-in_err-id-clause-acted
returns-in_err-id-clause-acted g c =
    let fault = c.in_err-id.field-0.0 in
    rw (err_given c.from_residual.result fault c.from_residual.ensures.1)
    (no_place c.args.cells.now c.args.passes.now.lane c.args.hold.now.group c.args.freed (record { vdev = c.args.vdev; offset = c.args.offset; size = c.args.size }) c.requires.seated.0 c.args.passes.now fault c.requires.seated.1 c.in_err-id.ensures.none)

pub loop-init : goal.loop-init
loop-init g c = record {
  acted = begins c.args.cells.now c.args.passes.now.lane c.args.hold.now.group c.in_ok-id.id c.in_ok-id.seg c.requires.seated.0 c.args.passes.now c.requires.seated.1;
  follows = g.L.Loader.follows_itself c.args.loader.now;
  count = refl;
  last = refl;
}

pub free-requires-clause-seated : goal.free-requires-clause-seated
free-requires-clause-seated g c = (c.requires.seated.0, acted_seated c.args.cells.now c.requires.seated.0 _ c.args.passes.now c.loop.passes c.requires.seated.1 c.loop.invariant.acted)

pub returns-in-Ok-clause-acted : goal.returns-in-Ok-clause-acted
returns-in-Ok-clause-acted g c =
    frees c.args.cells.now c.args.passes.now.lane c.args.hold.now.group c.in_ok-id.id c.in_ok-id.seg c.args.freed (record { vdev = c.args.vdev; offset = c.args.offset; size = c.args.size }) c.in_ok-id.ensures.found c.args.passes.now c.loop.passes c.free.new.passes c.loop.invariant.acted
    (free_as c.args.cells.now c.args.passes.now.lane c.args.hold.now.group c.in_ok-id.id c.in_ok-id.seg c.loop.passes.lane c.free.result (Ok (record {})) c.loop.passes c.free.new.passes c.loop.invariant.acted.journey.lane c.in-Ok.is c.free.ensures)

pub load-requires-clause-seated : goal.load-requires-clause-seated
load-requires-clause-seated g c =
    (c.requires.seated.0, acted_seated c.args.cells.now c.requires.seated.0 _ c.loop.passes c.free.new.passes (acted_seated c.args.cells.now c.requires.seated.0 _ c.args.passes.now c.loop.passes c.requires.seated.1 c.loop.invariant.acted) c.free.ensures)

pub returns-in_err-load-in-Err-Ms-NotLoaded-clause-acted : goal.returns-in_err-load-in-Err-Ms-NotLoaded-clause-acted
returns-in_err-load-in-Err-Ms-NotLoaded-clause-acted g c =
    let fault = c.in_err-load-in-Err-Ms-NotLoaded.field-0.0 in
    let is : c.free.result ≡ Err (Ms NotLoaded) = search rules in
    rw (err_given c.from_residual-in_err-load-in-Err-Ms-NotLoaded.result fault c.from_residual-in_err-load-in-Err-Ms-NotLoaded.ensures.1)
    (load_refused c.args.cells.now c.args.passes.now.lane c.args.hold.now.group c.in_ok-id.id c.in_ok-id.seg c.args.freed (record { vdev = c.args.vdev; offset = c.args.offset; size = c.args.size }) c.in_ok-id.ensures.found fault c.args.passes.now c.loop.passes c.free.new.passes c.load.new.passes c.in_err-load-in-Err-Ms-NotLoaded.ensures.memory c.loop.invariant.acted
    (free_as c.args.cells.now c.args.passes.now.lane c.args.hold.now.group c.in_ok-id.id c.in_ok-id.seg c.loop.passes.lane c.free.result (Err (Ms NotLoaded)) c.loop.passes c.free.new.passes c.loop.invariant.acted.journey.lane is c.free.ensures) c.load.ensures.acted)

pub returns-in_err-load-in-Err-Ms-NotLoaded-clause-follows : goal.returns-in_err-load-in-Err-Ms-NotLoaded-clause-follows
returns-in_err-load-in-Err-Ms-NotLoaded-clause-follows g c = g.L.Loader.follows_along c.args.loader.now c.loop.loader c.load.new.loader c.loop.invariant.follows c.load.ensures.follows

pub loop-preserved : goal.loop-preserved
loop-preserved g c =
    let is : c.free.result ≡ Err (Ms NotLoaded) = search rules in
    record {
      acted = loads c.args.cells.now c.args.passes.now.lane c.args.hold.now.group c.in_ok-id.id c.in_ok-id.seg c.args.passes.now c.loop.passes c.free.new.passes c.load.new.passes c.loop.invariant.acted
          (free_as c.args.cells.now c.args.passes.now.lane c.args.hold.now.group c.in_ok-id.id c.in_ok-id.seg c.loop.passes.lane c.free.result (Err (Ms NotLoaded)) c.loop.passes c.free.new.passes c.loop.invariant.acted.journey.lane is c.free.ensures) c.load.ensures.acted;
      follows = g.L.Loader.follows_along c.args.loader.now c.loop.loader c.load.new.loader c.loop.invariant.follows c.load.ensures.follows;
      count = c.in_ok-load-in-Err-Ms-NotLoaded.ensures.counts.0 ∙ c.loop.invariant.count;
      last = c.in_ok-load-in-Err-Ms-NotLoaded.ensures.counts.1 ∙ c.loop.invariant.last;
    }

pub returns-in-Err-Ms-NotLive-clause-acted : goal.returns-in-Err-Ms-NotLive-clause-acted
returns-in-Err-Ms-NotLive-clause-acted g c =
    let is : c.free.result ≡ Err (Ms (NotLive c.in-Err-Ms-NotLive.unit)) = search rules in
    finds_dead c.args.cells.now c.args.passes.now.lane c.args.hold.now.group c.in_ok-id.id c.in_ok-id.seg c.args.freed (record { vdev = c.args.vdev; offset = c.args.offset; size = c.args.size }) c.in_ok-id.ensures.found c.in-Err-Ms-NotLive.unit c.offset_of.result c.args.passes.now c.loop.passes c.free.new.passes c.offset_of.ensures c.loop.invariant.acted
    (free_as c.args.cells.now c.args.passes.now.lane c.args.hold.now.group c.in_ok-id.id c.in_ok-id.seg c.loop.passes.lane c.free.result (Err (Ms (NotLive c.in-Err-Ms-NotLive.unit))) c.loop.passes c.free.new.passes c.loop.invariant.acted.journey.lane is c.free.ensures)

pub returns-in-Err-Ms-Late-clause-acted : goal.returns-in-Err-Ms-Late-clause-acted
returns-in-Err-Ms-Late-clause-acted g c =
    let is : c.free.result ≡ Err (Ms (Late c.in-Err-Ms-Late.group c.in-Err-Ms-Late.collected)) = search rules in
    finds_late c.args.cells.now c.args.passes.now.lane c.args.hold.now.group c.in_ok-id.id c.in_ok-id.seg c.args.freed (record { vdev = c.args.vdev; offset = c.args.offset; size = c.args.size }) c.in_ok-id.ensures.found c.in-Err-Ms-Late.group c.in-Err-Ms-Late.collected c.args.passes.now c.loop.passes c.free.new.passes c.loop.invariant.acted
    (free_as c.args.cells.now c.args.passes.now.lane c.args.hold.now.group c.in_ok-id.id c.in_ok-id.seg c.loop.passes.lane c.free.result (Err (Ms (Late c.in-Err-Ms-Late.group c.in-Err-Ms-Late.collected))) c.loop.passes c.free.new.passes c.loop.invariant.acted.journey.lane is c.free.ensures)

pub returns-in-Err-clause-acted : goal.returns-in-Err-clause-acted
returns-in-Err-clause-acted g c =
    lacks_memory c.args.cells.now c.args.passes.now.lane c.args.hold.now.group c.in_ok-id.id c.in_ok-id.seg c.args.freed (record { vdev = c.args.vdev; offset = c.args.offset; size = c.args.size }) c.in_ok-id.ensures.found c.in-Err.field-0 c.args.passes.now c.loop.passes c.free.new.passes c.loop.invariant.acted
    (free_as c.args.cells.now c.args.passes.now.lane c.args.hold.now.group c.in_ok-id.id c.in_ok-id.seg c.loop.passes.lane c.free.result (Err c.in-Err.field-0) c.loop.passes c.free.new.passes c.loop.invariant.acted.journey.lane c.in-Err.is c.free.ensures)
