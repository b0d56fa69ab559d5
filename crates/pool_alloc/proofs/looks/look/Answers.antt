use Rattle.std.proofs.Common.{◌<◌, ◌∙◌, ℕ, length, ap, subst, Ok}
use Rattle.zms_units.specs.declared.blocks.Dva.{Dva}
use Rattle.lane_passes.specs.Lanes.{ground_of}
use Rattle.lane_passes.proofs.Acting.{acted_as, acted_join, acted_seated}
use Rattle.pool_alloc.specs.Asks.{Ask, bytes_on}
use Rattle.pool_alloc.specs.Looks.{shut}
use Rattle.pool_alloc.specs.declared.turns.Post.TheVariants.{Granted as GrantedPost, Missed as MissedPost}
use Rattle.pool_alloc.proofs.Looking.{grant_within, laid, granting, post_ok, post_err, looked_so, unposted, missing, missing_unposted, loading_so, cut_so}
use Rattle.pool_alloc.proofs.looks.look.Goals as goal

pub dva_of-dva-requires-clause-seg : goal.dva_of-dva-requires-clause-seg
dva_of-dva-requires-clause-seg g c =
    let t = c.args.cells.now in
    let p = c.args.passes.now in
    let a : Ask = record { lane = p.lane; group = c.args.group; size = c.args.size } in
    let turn = looked_so t a c.args.id c.units_on-count.result c.grant.result _ p _ (c.in-Ok-Granted.is ∙ ap Ok c.in-Ok-Granted.field-0-is) c.grant.ensures in
    (grant_within t c.args.classes.now p a c.args.id c.units_on-count.result c.in-Ok-Granted.seg _ c.requires.seated c.requires.id (subst (λ (n : ℕ). n < length t.metaslabs) c.place_of.ensures.place c.place_of.ensures.within) turn.fact).1

pub post_weight-requires-clause-seated : goal.post_weight-requires-clause-seated
post_weight-requires-clause-seated g c = acted_seated c.args.cells.now c.args.classes.now _ c.args.passes.now _ c.requires.seated c.grant.ensures

pub post_weight-requires-in-Ok-Miss-clause-seated : goal.post_weight-requires-in-Ok-Miss-clause-seated
post_weight-requires-in-Ok-Miss-clause-seated g c = acted_seated c.args.cells.now c.args.classes.now _ c.args.passes.now _ c.requires.seated c.grant.ensures

pub load-requires-clause-seated : goal.load-requires-clause-seated
load-requires-clause-seated g c = acted_seated c.args.cells.now c.args.classes.now _ c.args.passes.now _ c.requires.seated c.grant.ensures

pub returns-in-Ok-clause-acted : goal.returns-in-Ok-clause-acted
returns-in-Ok-clause-acted g c =
    let t = c.args.cells.now in
    let p = c.args.passes.now in
    let a : Ask = record { lane = p.lane; group = c.args.group; size = c.args.size } in
    let count = c.units_on-count.result in
    let dva = c.dva_of-dva.result in
    let seg = c.in-Ok-Granted.seg in
    let turn = looked_so t a c.args.id count c.grant.result _ p _ (c.in-Ok-Granted.is ∙ ap Ok c.in-Ok-Granted.field-0-is) c.grant.ensures in
    let long = (grant_within t c.args.classes.now p a c.args.id count seg _ c.requires.seated c.requires.id (subst (λ (n : ℕ). n < length t.metaslabs) c.place_of.ensures.place c.place_of.ensures.within) turn.fact).0 in
    acted_join t _ _ _ p _ _
    (λ es fs x y. (seg, (c.dva_of-dva.ensures, granting a c.args.id seg count dva.size (ground_of t p) es fs c.units_on-count.ensures.units (ap (λ (d : Dva). d.size) c.dva_of-dva.ensures ∙ ap (λ (n : ℕ). bytes_on t.vdevs c.args.id.vdev n) long) x y)))
    turn
    (post_ok t p.lane _ c.args.id (GrantedPost dva.size) c.post_weight.result _ _ _ c.in-Ok.is c.grant.ensures.journey.lane c.post_weight.ensures)

pub returns-in-Ok-clause-laid : goal.returns-in-Ok-clause-laid
returns-in-Ok-clause-laid g c =
    let t = c.args.cells.now in
    let p = c.args.passes.now in
    let a : Ask = record { lane = p.lane; group = c.args.group; size = c.args.size } in
    let turn = looked_so t a c.args.id c.units_on-count.result c.grant.result _ p _ (c.in-Ok-Granted.is ∙ ap Ok c.in-Ok-Granted.field-0-is) c.grant.ensures in
    let within = (grant_within t c.args.classes.now p a c.args.id c.units_on-count.result c.in-Ok-Granted.seg _ c.requires.seated c.requires.id (subst (λ (n : ℕ). n < length t.metaslabs) c.place_of.ensures.place c.place_of.ensures.within) turn.fact).1 in
    laid t.vdevs c.args.id c.in-Ok-Granted.seg c.dva_of-dva.result c.requires.id within c.dva_of-dva.ensures

pub returns-in-Err-post_weight-clause-acted : goal.returns-in-Err-post_weight-clause-acted
returns-in-Err-post_weight-clause-acted g c =
    let t = c.args.cells.now in
    let p = c.args.passes.now in
    let a : Ask = record { lane = p.lane; group = c.args.group; size = c.args.size } in
    let count = c.units_on-count.result in
    let seg = c.in-Ok-Granted.seg in
    let turn = looked_so t a c.args.id count c.grant.result _ p _ (c.in-Ok-Granted.is ∙ ap Ok c.in-Ok-Granted.field-0-is) c.grant.ensures in
    acted_join t _ _ _ p _ _ (λ es fs x y. (seg, (c.dva_of-dva.ensures, unposted a c.args.id seg count (ground_of t p) es fs c.units_on-count.ensures.units x y))) turn
    (post_err t _ c.args.id (GrantedPost c.dva_of-dva.result.size) c.post_weight.result _ _ _ c.in-Err-post_weight.is c.post_weight.ensures)

pub returns-in-Err-post_weight-clause-laid : goal.returns-in-Err-post_weight-clause-laid
returns-in-Err-post_weight-clause-laid g c =
    let t = c.args.cells.now in
    let p = c.args.passes.now in
    let a : Ask = record { lane = p.lane; group = c.args.group; size = c.args.size } in
    let turn = looked_so t a c.args.id c.units_on-count.result c.grant.result _ p _ (c.in-Ok-Granted.is ∙ ap Ok c.in-Ok-Granted.field-0-is) c.grant.ensures in
    let within = (grant_within t c.args.classes.now p a c.args.id c.units_on-count.result c.in-Ok-Granted.seg _ c.requires.seated c.requires.id (subst (λ (n : ℕ). n < length t.metaslabs) c.place_of.ensures.place c.place_of.ensures.within) turn.fact).1 in
    laid t.vdevs c.args.id c.in-Ok-Granted.seg c.dva_of-dva.result c.requires.id within c.dva_of-dva.ensures

pub returns-in-Ok-post_weight-clause-acted : goal.returns-in-Ok-post_weight-clause-acted
returns-in-Ok-post_weight-clause-acted g c =
    let t = c.args.cells.now in
    let p = c.args.passes.now in
    let a : Ask = record { lane = p.lane; group = c.args.group; size = c.args.size } in
    let turn = looked_so t a c.args.id c.units_on-count.result c.grant.result _ p _ (c.in-Ok-Miss.is ∙ ap Ok c.in-Ok-Miss.field-0-is) c.grant.ensures in
    acted_join t _ _ _ p _ _ (λ es fs x y. missing a c.args.id c.units_on-count.result (ground_of t p) es fs c.units_on-count.ensures.units x y) turn
    (post_ok t p.lane _ c.args.id MissedPost c.post_weight-in-Ok-Miss.result _ _ _ c.in-Ok-post_weight.is c.grant.ensures.journey.lane c.post_weight-in-Ok-Miss.ensures)

pub returns-in-Err-post_weight-2-clause-acted : goal.returns-in-Err-post_weight-2-clause-acted
returns-in-Err-post_weight-2-clause-acted g c =
    let t = c.args.cells.now in
    let p = c.args.passes.now in
    let a : Ask = record { lane = p.lane; group = c.args.group; size = c.args.size } in
    let turn = looked_so t a c.args.id c.units_on-count.result c.grant.result _ p _ (c.in-Ok-Miss.is ∙ ap Ok c.in-Ok-Miss.field-0-is) c.grant.ensures in
    acted_join t _ _ _ p _ _ (λ es fs x y. missing_unposted a c.args.id c.units_on-count.result (ground_of t p) es fs x y) turn
    (post_err t _ c.args.id MissedPost c.post_weight-in-Ok-Miss.result _ _ _ c.in-Err-post_weight-2.is c.post_weight-in-Ok-Miss.ensures)

pub returns-in-Ok-Shut-clause-acted : goal.returns-in-Ok-Shut-clause-acted
returns-in-Ok-Shut-clause-acted g c =
    let t = c.args.cells.now in
    let p = c.args.passes.now in
    let a : Ask = record { lane = p.lane; group = c.args.group; size = c.args.size } in
    acted_as t _ _ p _ (λ es x. shut c.units_on-count.result x) (looked_so t a c.args.id c.units_on-count.result c.grant.result _ p _ (c.in-Ok-Shut.is ∙ ap Ok c.in-Ok-Shut.field-0-is) c.grant.ensures)

pub returns-in-Ok-load-clause-acted : goal.returns-in-Ok-load-clause-acted
returns-in-Ok-load-clause-acted g c =
    let t = c.args.cells.now in
    let p = c.args.passes.now in
    let a : Ask = record { lane = p.lane; group = c.args.group; size = c.args.size } in
    let turn = looked_so t a c.args.id c.units_on-count.result c.grant.result _ p _ (c.in-Ok-NotLoaded.is ∙ ap Ok c.in-Ok-NotLoaded.field-0-is) c.grant.ensures in
    loading_so t a c.args.id c.units_on-count.result c.load.result _ p _ _ c.in-Ok-load.is c.grant.ensures.journey.lane turn c.load.ensures.acted

pub returns-in-Err-load-clause-acted : goal.returns-in-Err-load-clause-acted
returns-in-Err-load-clause-acted g c =
    let t = c.args.cells.now in
    let p = c.args.passes.now in
    let a : Ask = record { lane = p.lane; group = c.args.group; size = c.args.size } in
    let turn = looked_so t a c.args.id c.units_on-count.result c.grant.result _ p _ (c.in-Ok-NotLoaded.is ∙ ap Ok c.in-Ok-NotLoaded.field-0-is) c.grant.ensures in
    cut_so t a c.args.id c.units_on-count.result c.load.result _ p _ _ c.in-Err-load.is c.grant.ensures.journey.lane turn c.load.ensures.acted
