use Rattle.std.proofs.Common.{◌≡◌, ℕ, List, rules, subst, Result, Ok, Err}
use Rattle.std.specs.Prelude.{map}
use Rattle.lane_passes.specs.Lanes.{Acted}
use Rattle.lane_passes.proofs.Acting.{acted_seated}
use Rattle.pool_alloc.specs.Frees.{place_of, PlacesLine}
use Rattle.pool_alloc.specs.declared.answers.FreeFault.{FreeFault}
use Rattle.zms_units.specs.declared.blocks.Dva.{Dva}
use Rattle.pool_alloc.proofs.Freeing.{freed_line, refused_line}
use Rattle.pool_alloc.proofs.frees.free_block.Goals as goal

pub free_copies-freed-requires-clause-seated : goal.free_copies-freed-requires-clause-seated
free_copies-freed-requires-clause-seated g c = (c.requires.seated.0, acted_seated c.args.cells.now c.requires.seated.0 _ c.args.passes.now c.hold-hold.new.passes c.requires.seated.1 c.hold-hold.ensures)

pub release-requires : goal.release-requires
release-requires g c =
    (c.requires.seated.0, acted_seated c.args.cells.now c.requires.seated.0 _ c.hold-hold.new.passes c.free_copies-freed.new.passes (acted_seated c.args.cells.now c.requires.seated.0 _ c.args.passes.now c.hold-hold.new.passes c.requires.seated.1 c.hold-hold.ensures) c.free_copies-freed.ensures.acted)

pub returns-in-Ok-clause-acted : goal.returns-in-Ok-clause-acted
returns-in-Ok-clause-acted g c =
    let group = c.hold-hold.result.group in
    let places = (map place_of c.args.block.now.copies) in
    let result = c.free_copies-freed.result in
    let freed : Acted c.args.cells.now (PlacesLine c.args.passes.now.lane group places result) c.hold-hold.new.passes c.free_copies-freed.new.passes =
    subst (λ (l : List Dva). Acted c.args.cells.now (PlacesLine c.args.passes.now.lane group (map place_of l) result) c.hold-hold.new.passes c.free_copies-freed.new.passes) c.as_slice.ensures
    (subst (λ (n : ℕ). Acted c.args.cells.now (PlacesLine n group (map place_of c.as_slice.result.now) result) c.hold-hold.new.passes c.free_copies-freed.new.passes) c.hold-hold.ensures.journey.lane c.free_copies-freed.ensures.acted) in
    let is : result ≡ (Ok (record {})) = search rules in
    freed_line c.args.cells.now c.args.passes.now.lane group places c.args.passes.now c.hold-hold.new.passes c.free_copies-freed.new.passes c.release.new.passes c.hold-hold.ensures
    (subst (λ (x : Result (Unit {0}) FreeFault). Acted c.args.cells.now (PlacesLine c.args.passes.now.lane group places x) c.hold-hold.new.passes c.free_copies-freed.new.passes) is freed) c.release.ensures

pub returns-in-Err-clause-acted : goal.returns-in-Err-clause-acted
returns-in-Err-clause-acted g c =
    let group = c.hold-hold.result.group in
    let places = (map place_of c.args.block.now.copies) in
    let result = c.free_copies-freed.result in
    let freed : Acted c.args.cells.now (PlacesLine c.args.passes.now.lane group places result) c.hold-hold.new.passes c.free_copies-freed.new.passes =
    subst (λ (l : List Dva). Acted c.args.cells.now (PlacesLine c.args.passes.now.lane group (map place_of l) result) c.hold-hold.new.passes c.free_copies-freed.new.passes) c.as_slice.ensures
    (subst (λ (n : ℕ). Acted c.args.cells.now (PlacesLine n group (map place_of c.as_slice.result.now) result) c.hold-hold.new.passes c.free_copies-freed.new.passes) c.hold-hold.ensures.journey.lane c.free_copies-freed.ensures.acted) in
    let is : result ≡ (Err c.in-Err.fault) = search rules in
    refused_line c.args.cells.now c.args.passes.now.lane group places c.args.passes.now c.hold-hold.new.passes c.free_copies-freed.new.passes c.release.new.passes c.in-Err.fault c.hold-hold.ensures
    (subst (λ (x : Result (Unit {0}) FreeFault). Acted c.args.cells.now (PlacesLine c.args.passes.now.lane group places x) c.hold-hold.new.passes c.free_copies-freed.new.passes) is freed) c.release.ensures
