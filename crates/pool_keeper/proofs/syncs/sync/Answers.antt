use Rattle.std.proofs.Common.{◌<◌, ℕ, [], Ok, Err, None, Some, sym, subst}
use Rattle.zms_units.specs.Limits.{MAX_COMMANDS}
use Rattle.lane_passes.proofs.Acting.{acted_seated}
use Rattle.lane_passes.proofs.Journeys.{lane_stays_seated}
use Rattle.pool_keeper.specs.Syncs.{suspended}
use Rattle.pool_keeper.specs.SyncParts.{MeetNoted, TryAnswer, BehindLine, Did}
use Rattle.pool_keeper.proofs.SyncActs.{few_calm, at_cells_alone, serves_did, did_turn, did_after, did_join}
use Rattle.pool_keeper.proofs.SyncLines.{AfterMeeting, after_try, after_behind, sync_did}
use Rattle.pool_keeper.proofs.syncs.sync.Goals as goal

pub returns-in-Some-clause-done : goal.returns-in-Some-clause-done
returns-in-Some-clause-done g c =
    let t = c.args.cells.now in
    let p = c.args.passes.now in
    sync_did t _ p _ c.args.keeper.now c.meet.new.self
    (did_turn t _ (MeetNoted p.lane (Some c.in-Some.first)) p _ c.args.keeper.now c.meet.new.self (λ s noted. suspended c.in-Some.first s noted)
    (at_cells_alone t c.args.classes.now p c.requires.seated c.meet.new.passes c.meet.ensures.passes) c.in-Some.ensures.turn)

pub try_sync-requires-clause-seated : goal.try_sync-requires-clause-seated
try_sync-requires-clause-seated g c κs within =
    let t = c.args.cells.now in
    let p = c.args.passes.now in
    lane_stays_seated _ t c.args.classes.now [] p _ c.requires.seated (at_cells_alone t c.args.classes.now p c.requires.seated c.meet.new.passes c.meet.ensures.passes)

pub try_sync-requires-clause-few : goal.try_sync-requires-clause-few
try_sync-requires-clause-few g c κs within =
    let t = c.args.cells.now in
    let p = c.args.passes.now in
    subst (λ (n : ℕ). n < MAX_COMMANDS) (sym (few_calm p _ (at_cells_alone t c.args.classes.now p c.requires.seated c.meet.new.passes c.meet.ensures.passes))) c.requires.few

pub sync_behind-requires-clause-seated : goal.sync_behind-requires-clause-seated
sync_behind-requires-clause-seated g c κs within =
    let t = c.args.cells.now in
    let p = c.args.passes.now in
    let met = lane_stays_seated _ t c.args.classes.now [] p _ c.requires.seated (at_cells_alone t c.args.classes.now p c.requires.seated c.meet.new.passes c.meet.ensures.passes) in
    acted_seated t c.args.classes.now _ _ c.try_sync.new.passes met c.try_sync.ensures.did.acted

pub sync_behind-requires-clause-serves : goal.sync_behind-requires-clause-serves
sync_behind-requires-clause-serves g c κs within = serves_did c.args.cells.now _ _ c.try_sync.new.passes c.meet.new.self c.try_sync.new.keeper c.meet.ensures.serves c.try_sync.ensures.did

pub returns-in-Ok-clause-done : goal.returns-in-Ok-clause-done
returns-in-Ok-clause-done g c =
    let t = c.args.cells.now in
    let p = c.args.passes.now in
    sync_did t c.in-Ok.answer p c.try_sync.new.passes c.args.keeper.now c.try_sync.new.keeper
    (did_after t _ (λ x. TryAnswer p.lane x (Ok c.in-Ok.answer)) (MeetNoted p.lane None) p _ c.try_sync.new.passes c.args.keeper.now c.meet.new.self c.try_sync.new.keeper
    (λ s es steps quiet line. after_try p.lane c.in-Ok.answer _ es steps line s quiet)
    (at_cells_alone t c.args.classes.now p c.requires.seated c.meet.new.passes c.meet.ensures.passes) (rw c.in_default.is at c.meet.ensures.turn) c.in-Ok.ensures.did)

pub returns-in-Ok-clause-serves : goal.returns-in-Ok-clause-serves
returns-in-Ok-clause-serves g c = serves_did c.args.cells.now _ _ c.try_sync.new.passes c.meet.new.self c.try_sync.new.keeper c.meet.ensures.serves c.try_sync.ensures.did

pub returns-in-Err-clause-done : goal.returns-in-Err-clause-done
returns-in-Err-clause-done g c =
    let t = c.args.cells.now in
    let p = c.args.passes.now in
    let many = c.in-Err.many in
    let result = c.sync_behind.result in
    let rest : Did t (AfterMeeting p.lane result) (record p { cells = c.meet.new.passes }) c.sync_behind.new.passes c.meet.new.self c.sync_behind.new.keeper =
    did_join t (AfterMeeting p.lane result) (λ x. BehindLine p.lane many x result) (λ x. TryAnswer p.lane x (Err many)) _ c.try_sync.new.passes c.sync_behind.new.passes c.meet.new.self c.try_sync.new.keeper c.sync_behind.new.keeper
    (λ es fs ss ts x y. after_behind p.lane many _ result es fs ss ts x y)
    c.in-Err.ensures.did
    (subst (λ (n : ℕ). Did t (λ x. BehindLine n many x result) c.try_sync.new.passes c.sync_behind.new.passes c.try_sync.new.keeper c.sync_behind.new.keeper) c.try_sync.ensures.did.acted.journey.lane c.sync_behind.ensures.did) in
    sync_did t result p c.sync_behind.new.passes c.args.keeper.now c.sync_behind.new.keeper
    (did_after t _ (AfterMeeting p.lane result) (MeetNoted p.lane None) p _ c.sync_behind.new.passes c.args.keeper.now c.meet.new.self c.sync_behind.new.keeper
    (λ s es steps quiet line. line s quiet)
    (at_cells_alone t c.args.classes.now p c.requires.seated c.meet.new.passes c.meet.ensures.passes) (rw c.in_default.is at c.meet.ensures.turn) rest)

pub returns-in-Err-clause-serves : goal.returns-in-Err-clause-serves
returns-in-Err-clause-serves g c =
    let t = c.args.cells.now in
    let q = c.try_sync.new.passes in
    serves_did t _ q c.sync_behind.new.passes c.try_sync.new.keeper c.sync_behind.new.keeper
    (serves_did t _ _ q c.meet.new.self c.try_sync.new.keeper c.meet.ensures.serves c.try_sync.ensures.did) c.sync_behind.ensures.did
