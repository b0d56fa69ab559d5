use Rattle.std.proofs.Common.{◌++◌, ◌∷◌, [], ap, ◌∙◌}
use Rattle.zms_units.specs.declared.segments.Group.{Group}
use Rattle.ms_model.specs.declared.notes.KeeperNote.TheVariants.{Sync}
use Rattle.pool_keeper.proofs.Told.{sound_synced}
use Rattle.pool_keeper.proofs.keeper.Keeper.note_synced.Goals as goal

pub returns-clause-sound : goal.returns-clause-sound
returns-clause-sound g c =
    sound_synced g.D.Disk.state g.D.Disk.faults c.args.self.now c.args.lane c.push_reserved.new.self c.requires.sound c.requires.idle
    (c.push_reserved.ensures.items ∙ ap (λ (x : Group). c.args.self.now.notes.items ++ (c.args.lane, Sync x) ∷ []) c.group-group.ensures.group)
