use Rattle.std.proofs.Common.{◌≡◌, ◌<◌, inl, inr, ⊎_elim, arith}
use Rattle.lane_passes.proofs.Acting.{acted_seated}
use Rattle.pool_alloc.proofs.Granting.{bad_size, bad_copies, tries}
use Rattle.pool_alloc.proofs.allocs.alloc.Goals as goal

pub returns-then-size-eq0-clause-acted : goal.returns-then-size-eq0-clause-acted
returns-then-size-eq0-clause-acted g c =
    bad_size c.args.cells.now c.args.passes.now c.args.size c.args.copies c.args.class c.args.classes.now c.requires.seated (⊎_elim (λ (e : c.args.size ≡ 0). inl e) (λ (x : (c.args.size ≡ 0 → ⊥) × (16777216 < c.args.size)). inr x.1) c.then-size-eq0.either)

pub returns-then-copies-eq0-clause-acted : goal.returns-then-copies-eq0-clause-acted
returns-then-copies-eq0-clause-acted g c =
    bad_copies c.args.cells.now c.args.passes.now c.args.size c.args.copies c.args.class c.args.classes.now c.requires.seated (omega arith, c.if-size-gt-MAX_BLOCK_SIZE.false)
    (⊎_elim (λ (e : c.args.copies ≡ 0). inl e) (λ (x : (c.args.copies ≡ 0 → ⊥) × (3 < c.args.copies)). inr x.1) c.then-copies-eq0.either)

pub place_copies-result-requires-clause-seated : goal.place_copies-result-requires-clause-seated
place_copies-result-requires-clause-seated g c = acted_seated c.args.cells.now c.args.classes.now _ c.args.passes.now c.hold-hold.new.passes c.requires.seated c.hold-hold.ensures

pub release-requires : goal.release-requires
release-requires g c =
    let t = c.args.cells.now in
    let k = c.args.classes.now in
    (k, acted_seated t k _ c.hold-hold.new.passes c.place_copies-result.new.passes (acted_seated t k _ c.args.passes.now c.hold-hold.new.passes c.requires.seated c.hold-hold.ensures) c.place_copies-result.ensures.acted)

pub returns-clause-acted : goal.returns-clause-acted
returns-clause-acted g c =
    tries c.args.cells.now c.args.passes.now c.args.size c.args.copies c.args.class (omega arith, c.if-size-gt-MAX_BLOCK_SIZE.false) (omega arith, c.if-copies-gt3.false) c.hold-hold.result.group c.place_copies-result.result
    c.hold-hold.new.passes c.place_copies-result.new.passes c.release.new.passes c.hold-hold.ensures c.place_copies-result.ensures.acted c.release.ensures
