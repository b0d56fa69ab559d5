use Rattle.std.proofs.Common.{◌≡◌, ℕ, [], ◌∷◌, rules, subst, Result, Ok, Err}
use Rattle.lane_passes.specs.Lanes.{Acted}
use Rattle.lane_passes.proofs.Acting.{acted_seated}
use Rattle.pool_alloc.specs.Frees.{Place, PlaceLine, PlacesLine}
use Rattle.pool_alloc.specs.declared.answers.FreeFault.{FreeFault}
use Rattle.pool_alloc.proofs.Freeing.{one_place, freed_line, refused_line}
use Rattle.pool_alloc.proofs.frees.free_seg.Goals as goal

pub free_place-freed-requires-clause-seated : goal.free_place-freed-requires-clause-seated
free_place-freed-requires-clause-seated g c = (c.requires.seated.0, acted_seated c.args.cells.now c.requires.seated.0 _ c.args.passes.now c.hold-hold.new.passes c.requires.seated.1 c.hold-hold.ensures)

pub release-requires : goal.release-requires
release-requires g c =
    (c.requires.seated.0, acted_seated c.args.cells.now c.requires.seated.0 _ c.hold-hold.new.passes c.free_place-freed.new.passes (acted_seated c.args.cells.now c.requires.seated.0 _ c.args.passes.now c.hold-hold.new.passes c.requires.seated.1 c.hold-hold.ensures) c.free_place-freed.ensures.acted)

pub returns-in-Ok-clause-acted : goal.returns-in-Ok-clause-acted
returns-in-Ok-clause-acted g c =
    let group = c.hold-hold.result.group in
    let place : Place = (record { vdev = c.args.vdev; offset = c.args.offset; size = c.args.size }) in
    let result = c.free_place-freed.result in
    let freed : Acted c.args.cells.now (PlaceLine c.args.passes.now.lane group 0 place result) c.hold-hold.new.passes c.free_place-freed.new.passes =
    subst (λ (n : ℕ). Acted c.args.cells.now (PlaceLine n group 0 place result) c.hold-hold.new.passes c.free_place-freed.new.passes) c.hold-hold.ensures.journey.lane c.free_place-freed.ensures.acted in
    let is : result ≡ (Ok (record {})) = search rules in
    freed_line c.args.cells.now c.args.passes.now.lane group (place ∷ []) c.args.passes.now c.hold-hold.new.passes c.free_place-freed.new.passes c.release.new.passes c.hold-hold.ensures
    (subst (λ (x : Result (Unit {0}) FreeFault). Acted c.args.cells.now (PlacesLine c.args.passes.now.lane group (place ∷ []) x) c.hold-hold.new.passes c.free_place-freed.new.passes) is (one_place c.args.cells.now c.args.passes.now.lane group place result c.hold-hold.new.passes c.free_place-freed.new.passes freed)) c.release.ensures

pub returns-in-Err-clause-acted : goal.returns-in-Err-clause-acted
returns-in-Err-clause-acted g c =
    let group = c.hold-hold.result.group in
    let place : Place = (record { vdev = c.args.vdev; offset = c.args.offset; size = c.args.size }) in
    let result = c.free_place-freed.result in
    let freed : Acted c.args.cells.now (PlaceLine c.args.passes.now.lane group 0 place result) c.hold-hold.new.passes c.free_place-freed.new.passes =
    subst (λ (n : ℕ). Acted c.args.cells.now (PlaceLine n group 0 place result) c.hold-hold.new.passes c.free_place-freed.new.passes) c.hold-hold.ensures.journey.lane c.free_place-freed.ensures.acted in
    let is : result ≡ (Err c.in-Err.fault) = search rules in
    refused_line c.args.cells.now c.args.passes.now.lane group (place ∷ []) c.args.passes.now c.hold-hold.new.passes c.free_place-freed.new.passes c.release.new.passes c.in-Err.fault c.hold-hold.ensures
    (subst (λ (x : Result (Unit {0}) FreeFault). Acted c.args.cells.now (PlacesLine c.args.passes.now.lane group (place ∷ []) x) c.hold-hold.new.passes c.free_place-freed.new.passes) is (one_place c.args.cells.now c.args.passes.now.lane group place result c.hold-hold.new.passes c.free_place-freed.new.passes freed)) c.release.ensures
