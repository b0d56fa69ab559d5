use Rattle.std.proofs.Common.{refl, ◌∙◌, get_or, Ok, Err}
use Rattle.lane_passes.proofs.Acting.{acted_seated}
use Rattle.zms_units.specs.declared.blocks.Dva.{Dva}
use Rattle.pool_alloc.specs.Frees.{place_of}
use Rattle.pool_alloc.proofs.Freeing.{err_given, line_as, begins_copies, frees_copy, copy_refused, no_copy}
use Rattle.pool_alloc.proofs.frees.free_copies.Goals as goal

pub loop-place-init : goal.loop-place-init
loop-place-init g c = record {
  acted = begins_copies c.args.cells.now c.args.passes.now.lane c.args.hold.now.group c.requires.seated.0 c.args.passes.now c.args.copies.now c.requires.seated.1;
  follows = g.L.Loader.follows_itself c.args.loader.now;
  count = refl;
  last = refl;
}

pub free_place-requires-clause-seated : goal.free_place-requires-clause-seated
free_place-requires-clause-seated g c = (c.requires.seated.0, acted_seated c.args.cells.now c.requires.seated.0 _ c.args.passes.now c.loop-place.passes c.requires.seated.1 c.loop-place.invariant.acted)

pub returns-in_err-free_place-clause-follows : goal.returns-in_err-free_place-clause-follows
returns-in_err-free_place-clause-follows g c = g.L.Loader.follows_along c.args.loader.now c.loop-place.loader c.free_place.new.loader c.loop-place.invariant.follows c.free_place.ensures.follows

pub returns-in_err-free_place-clause-acted : goal.returns-in_err-free_place-clause-acted
returns-in_err-free_place-clause-acted g c =
    let fault = c.in_err-free_place.field-0.0 in
    let dva : Dva = get_or c.args.copies.now c.loop-place.place no_copy in
    rw (err_given c.from_residual.result fault c.from_residual.ensures.1)
    (copy_refused c.args.cells.now c.args.passes.now.lane c.args.hold.now.group c.args.copies.now c.loop-place.place c.loop-place.place no_copy dva fault c.args.passes.now c.loop-place.passes c.free_place.new.passes c.loop-place-test.true refl refl c.loop-place.invariant.acted
    (line_as c.args.cells.now c.args.passes.now.lane c.args.hold.now.group c.loop-place.passes.lane c.loop-place.place (place_of dva) (Err fault) c.loop-place.passes c.free_place.new.passes c.loop-place.invariant.acted.journey.lane c.in_err-free_place.ensures.acted))

pub loop-place-preserved : goal.loop-place-preserved
loop-place-preserved g c =
    let dva : Dva = get_or c.args.copies.now c.loop-place.place no_copy in
    record {
      acted = frees_copy c.args.cells.now c.args.passes.now.lane c.args.hold.now.group c.args.copies.now c.loop-place.place c.loop-place.place no_copy dva c.args.passes.now c.loop-place.passes c.free_place.new.passes c.loop-place-test.true refl c.loop-place.invariant.acted
          (line_as c.args.cells.now c.args.passes.now.lane c.args.hold.now.group c.loop-place.passes.lane c.loop-place.place (place_of dva) (Ok (record {})) c.loop-place.passes c.free_place.new.passes c.loop-place.invariant.acted.journey.lane c.in_ok-free_place.ensures.acted);
      follows = g.L.Loader.follows_along c.args.loader.now c.loop-place.loader c.free_place.new.loader c.loop-place.invariant.follows c.free_place.ensures.follows;
      count = c.in_ok-free_place.ensures.counts.0 ∙ c.loop-place.invariant.count;
      last = c.in_ok-free_place.ensures.counts.1 ∙ c.loop-place.invariant.last;
    }
