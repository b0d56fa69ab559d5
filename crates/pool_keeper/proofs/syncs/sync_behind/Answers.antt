use Rattle.std.proofs.Common.{◌≡◌, ◌+◌, ◌<◌, ℕ, [], Ok, Err, sym, ap, subst, arith}
use Rattle.zms_units.specs.Limits.{MAX_COMMANDS}
use Rattle.zms_units.specs.declared.segments.Group.{Group}
use Rattle.lane_passes.proofs.Journeys.{lane_stays_seated}
use Rattle.pool_keeper.specs.SyncParts.{TryAnswer, Did, cut}
use Rattle.pool_keeper.proofs.SyncActs.{few_calm, did_turn, did_after}
use Rattle.pool_keeper.proofs.SyncLines.{tried_again, busy_again}
use Rattle.pool_keeper.proofs.syncs.sync_behind.Goals as goal

pub returns-in-Err-clause-did : goal.returns-in-Err-clause-did
returns-in-Err-clause-did g c =
    did_turn c.args.cells.now _ _ c.args.passes.now c.take_up.new.passes c.args.keeper.now c.take_up.new.keeper (λ s x. cut c.in-Err.fault s x) c.take_up.ensures.passes c.in-Err.ensures.turn

pub try_sync-requires-clause-seated : goal.try_sync-requires-clause-seated
try_sync-requires-clause-seated g c κs within = lane_stays_seated _ c.args.cells.now c.args.classes.now [] c.args.passes.now c.take_up.new.passes c.requires.seated c.take_up.ensures.passes

pub try_sync-requires-clause-few : goal.try_sync-requires-clause-few
try_sync-requires-clause-few g c κs within = subst (λ (n : ℕ). n < MAX_COMMANDS) (sym (few_calm c.args.passes.now c.take_up.new.passes c.take_up.ensures.passes)) c.requires.few

pub returns-in-Ok-try_sync-clause-did : goal.returns-in-Ok-try_sync-clause-did
returns-in-Ok-try_sync-clause-did g c =
    let t = c.args.cells.now in
    let p = c.args.passes.now in
    let q = c.take_up.new.passes in
    let r = c.try_sync.new.passes in
    let answer = c.in-Ok-try_sync.answer in
    let below : c.in-Ok.field-0.0 + 1 ≡ c.args.many.open_group.0 = omega (arith, ap (λ (x : Group). x.0) c.in-Ok.ensures.group, c.requires.third) in
    did_after t _ (λ x. TryAnswer p.lane x (Ok answer)) _ p q r c.args.keeper.now c.take_up.new.keeper c.try_sync.new.keeper
    (λ s es steps noted line. tried_again p.lane c.args.many _ c.in-Ok.field-0 below s noted answer es steps line)
    c.take_up.ensures.passes c.in-Ok.ensures.turn
    (subst (λ (n : ℕ). Did t (λ x. TryAnswer n x (Ok answer)) q r c.take_up.new.keeper c.try_sync.new.keeper) c.take_up.ensures.passes.lane c.in-Ok-try_sync.ensures.did)

pub returns-in-Err-try_sync-clause-did : goal.returns-in-Err-try_sync-clause-did
returns-in-Err-try_sync-clause-did g c =
    let t = c.args.cells.now in
    let p = c.args.passes.now in
    let q = c.take_up.new.passes in
    let r = c.try_sync.new.passes in
    let still = c.in-Err-try_sync.field-0 in
    let below : c.in-Ok.field-0.0 + 1 ≡ c.args.many.open_group.0 = omega (arith, ap (λ (x : Group). x.0) c.in-Ok.ensures.group, c.requires.third) in
    did_after t _ (λ x. TryAnswer p.lane x (Err still)) _ p q r c.args.keeper.now c.take_up.new.keeper c.try_sync.new.keeper
    (λ s es steps noted line. busy_again p.lane c.args.many _ c.in-Ok.field-0 below s noted still es steps line)
    c.take_up.ensures.passes c.in-Ok.ensures.turn
    (subst (λ (n : ℕ). Did t (λ x. TryAnswer n x (Err still)) q r c.take_up.new.keeper c.try_sync.new.keeper) c.take_up.ensures.passes.lane c.in-Err-try_sync.ensures.did)
