use Rattle.std.proofs.Common.{◌≡◌, ◌+◌, ◌++◌, ◌∷◌, [], List, length, ap, ◌∙◌, arith}
use Rattle.zms_units.specs.declared.segments.Group.{Group}
use Rattle.vdev_map.specs.declared.layout.Batch.{Batch}
use Rattle.pool_keeper.proofs.Knowing.{gate_grows}
use Rattle.pool_keeper.proofs.Sound.{seated, next_due, sound_still, sound_more}
use Rattle.pool_keeper.proofs.keeper.Keeper.gather_one.Goals as goal

pub collect-requires-clause-number : goal.collect-requires-clause-number
collect-requires-clause-number g c = let at : c.len-number.result ≡ length c.args.self.now.gathered.items = c.len-number.ensures ∙ (c.reserve.new.self.ok.0 ∙ ap length c.reserve.ensures.items) in omega (arith, c.requires.some)

pub collect-requires-clause-group : goal.collect-requires-clause-group
collect-requires-clause-group g c =
    let at : c.len-number.result ≡ length c.args.self.now.gathered.items = c.len-number.ensures ∙ (c.reserve.new.self.ok.0 ∙ ap length c.reserve.ensures.items) in
    next_due g.D.Disk.state g.D.Disk.faults c.args.cells.now c.args.self.now c.requires.of c.requires.sound c.len-number.result c.group.result.0 at (omega (arith, c.requires.some)) (ap (λ (x : Group). x.0) c.group.ensures.group)

pub collect-requires-clause-seated : goal.collect-requires-clause-seated
collect-requires-clause-seated g c = seated g.D.Disk.state g.D.Disk.faults c.args.cells.now c.args.self.now c.requires.of c.requires.sound

pub returns-in_err-batch-clause-sound : goal.returns-in_err-batch-clause-sound
returns-in_err-batch-clause-sound g c =
    sound_still g.D.Disk.state g.D.Disk.faults c.args.cells.now c.args.self.now c.requires.of c.requires.sound c.collect.new.passes c.reserve.new.self c.in_err-batch.ensures.err c.reserve.ensures.items

pub returns-in_err-batch-clause-later : goal.returns-in_err-batch-clause-later
returns-in_err-batch-clause-later g c = gate_grows 0 _ _ _ c.in_err-batch.ensures.err

pub returns-clause-sound : goal.returns-clause-sound
returns-clause-sound g c =
    let at : c.len-number.result ≡ length c.args.self.now.gathered.items = c.len-number.ensures ∙ (c.reserve.new.self.ok.0 ∙ ap length c.reserve.ensures.items) in
    let next : c.group.result.0 + 1 ≡ c.args.self.now.store.table.group.0 + 1 = ap (λ (x : Group). x.0 + 1) c.group.ensures.group in
    sound_more g.D.Disk.state g.D.Disk.faults c.args.cells.now c.args.self.now c.requires.of c.requires.sound c.args.lane c.len-number.result (record { 0 = c.group.result.0 + 1 }) c.in_ok-batch.batch c.collect.new.passes
    c.push_reserved.new.self at (omega (arith, c.requires.some)) next c.in_ok-batch.ensures.collected (c.push_reserved.ensures.items ∙ ap (λ (l : List Batch). l ++ c.in_ok-batch.batch ∷ []) c.reserve.ensures.items) c.requires.closed

pub returns-clause-later : goal.returns-clause-later
returns-clause-later g c = gate_grows 0 _ _ _ c.in_ok-batch.ensures.collected.runs.journey
