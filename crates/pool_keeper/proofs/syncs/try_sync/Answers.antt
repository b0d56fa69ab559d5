use Rattle.std.proofs.Common.{◌<◌, ℕ, [], ◌∷◌, sym, subst, Option}
use Rattle.zms_units.specs.Limits.{MAX_COMMANDS}
use Rattle.ms_model.specs.Events.{at_gate}
use Rattle.ms_model.specs.declared.notes.GateNote.{GateNote}
use Rattle.ms_cell.specs.Journey.{Journey}
use Rattle.lane_passes.proofs.Acting.{acted_seated, at_gate_acted}
use Rattle.pool_keeper.specs.Syncs.{no_memory}
use Rattle.pool_keeper.specs.SyncParts.{tried, ahead}
use Rattle.pool_keeper.proofs.Knowing.{look_gate}
use Rattle.pool_keeper.proofs.SyncActs.{closings_calm, did_still, did_behind}
use Rattle.pool_keeper.proofs.SyncLines.{closed_tried}
use Rattle.pool_keeper.proofs.syncs.try_sync.Goals as goal

pub sync_closed-requires-clause-seated : goal.sync_closed-requires-clause-seated
sync_closed-requires-clause-seated g c κs within =
    let t = c.args.cells.now in
    let p = c.args.passes.now in
    acted_seated t c.args.classes.now _ p _ c.requires.seated (at_gate_acted t c.args.classes.now p c.requires.seated _ c.close_open_at.new.passes c.close_open_at.ensures)

pub returns-in-Ok-clause-did : goal.returns-in-Ok-clause-did
returns-in-Ok-clause-did g c =
    let t = c.args.cells.now in
    let p = c.args.passes.now in
    did_behind t _ _ _ p _ c.sync_closed.new.passes c.args.keeper.now c.sync_closed.new.keeper (λ es fs steps x y. closed_tried p.lane c.in-Ok.group c.sync_closed.result _ es fs steps x y)
    (at_gate_acted t c.args.classes.now p c.requires.seated _ c.close_open_at.new.passes c.in-Ok.ensures) c.sync_closed.ensures.did

pub returns-in-Err-Memory-clause-did : goal.returns-in-Err-Memory-clause-did
returns-in-Err-Memory-clause-did g c =
    let t = c.args.cells.now in
    let p = c.args.passes.now in
    let turn = rw c.in-Err-Memory.field-0-is at c.in-Err-Memory.ensures in
    did_still t _ _ p _ c.args.keeper.now (λ es x. tried _ es [] (λ again. no_memory es x)) c.requires.serves (at_gate_acted t c.args.classes.now p c.requires.seated _ c.close_open_at.new.passes turn)

pub returns-in-Err-TooMany-clause-did : goal.returns-in-Err-TooMany-clause-did
returns-in-Err-TooMany-clause-did g c =
    let t = c.args.cells.now in
    let p = c.args.passes.now in
    let turn = rw c.in-Err-TooMany.field-0-is at c.in-Err-TooMany.ensures in
    did_still t _ _ p _ c.args.keeper.now (λ es x. ahead c.in-Err-TooMany.many es x) c.requires.serves (at_gate_acted t c.args.classes.now p c.requires.seated _ c.close_open_at.new.passes turn)

pub returns-in-Err-TooMany-clause-few : goal.returns-in-Err-TooMany-clause-few
returns-in-Err-TooMany-clause-few g c =
    let p = c.args.passes.now in
    let turn = rw c.in-Err-TooMany.field-0-is at c.in-Err-TooMany.ensures in
    let calm = look_gate p.lane turn.before p.cells c.close_open_at.new.passes
    (subst (λ (n : Option GateNote). Journey p.lane (at_gate (record { before = turn.before; note = n }) ∷ []) p.cells c.close_open_at.new.passes) turn.answer.0 turn.journey) in
    subst (λ (n : ℕ). n < MAX_COMMANDS) (sym (closings_calm p.lane p.cells c.close_open_at.new.passes calm)) c.requires.few
