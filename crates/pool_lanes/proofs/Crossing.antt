-- What a lane owns, and what lanes share, may cross threads.
use mathlib.Core.List.{List, [], ◌∷◌}
use mathlib.Core.Path.{◌≡◌}
use denote.Builtin.{u8}
use denote.RattleType.{RattleType}
use denote.Struct.Tuple.{Tuple, TupleAt}
use denote.Ref.{ShrRef}
use denote.Slice.{ShrSlice}
use base.Fml.{Lft}
use mir.Syntax.{Lifetime}
use Prim.Native.Nat.{ℕ}
use denote.Struct.Declared.{shape}
use denote.Param.Send.{IsSend, IsSync, sendable, recorded_send, struct_send}
use Rattle.std.proofs.Crossing.{crosses}
use Rattle.std.specs.declared.clone.Clone as Clone
use Rattle.std.specs.contracts.alloc.Global as Global
use Rattle.cmd_text.specs.contracts.script.Command as Command
use Rattle.cmd_text.proofs.script.Command.TheSendSync as command
use Rattle.zms_units.proofs.items.Items.TheSendSync as items
use Rattle.zms_units.proofs.faults.First.TheSendSync as first
use Rattle.zms_dev.specs.declared.disk.Disk as Disk
use Rattle.vdev_map.proofs.layout.Batch.TheSendSync as batch
use Rattle.range_tree.specs.contracts.trees.RangeTrees as RangeTrees
use Rattle.range_tree.specs.contracts.trees.RangeTreesSegTrees.TheImpl as trees
use Rattle.range_tree.proofs.trees.RangeTrees.TheSendSync as range_trees
use Rattle.ms_model.proofs.notes.ClassNote.TheSendSync as class_note
use Rattle.ms_model.proofs.notes.KeeperNote.TheSendSync as keeper_note
use Rattle.class_core.specs.contracts.cell.ClassCell as ClassCell
use Rattle.class_core.proofs.group.MetaslabGroup.TheSendSync as group
use Rattle.class_group.specs.contracts.classes.Classes as Classes
use Rattle.class_group.specs.contracts.classes.ClassPasses as ClassPasses
use Rattle.lane_passes.specs.contracts.passes.LanePasses as LanePasses
use Rattle.ms_model.specs.contracts.notes.KeeperNote as KeeperNote
use Rattle.turn_cell.specs.contracts.pass.Pass as Pass
use Rattle.turn_cell.specs.contracts.turn.Turn as Turn
use Rattle.pool_keeper.specs.contracts.kept.KeeperKept.TheImpl as kept
use Rattle.turn_cell.proofs.turn.Turn.TheSendSync as turn
use Rattle.turn_cell.proofs.pass.Pass.TheSendSync as pass
use Rattle.ms_cell.proofs.cells.CellPasses.TheSendSync as cell_passes
use Rattle.ms_cell.proofs.cells.Cells.TheSendSync as cells
use Rattle.pool_keeper.specs.contracts.keeper.Keeper as Keeper
use Rattle.pool_keeper.specs.contracts.keeper.Start as Start
use Rattle.meta_store.proofs.store.MetaStore.TheSendSync as store
use Rattle.pool_seats.specs.contracts.pool.Pool as Pool
use Rattle.pool_seats.specs.contracts.pool.Seat as Seat
use Rattle.lane_run.proofs.replies.Reply.TheSendSync as reply
use Rattle.pool_lanes.specs.contracts.running.Ran as Ran

-- a note of the keeper's journal, with its right
abbrev note : RattleType
note = Tuple (u8 ∷ KeeperNote.the_row ∷ [])

-- a copy of a note is always made; what `Clone` says of notes is no part of what a turn owns
abbrev pub copies : Clone.Ghosts note.Denot
copies = record { is_clone = λ x y. y ≡ x; is_infallible = λ x. Unit {0} }

pub class_cell_send : IsSend ClassCell.the_row
class_cell_send = search (sendable, crosses, class_note.the_send, group.the_send) depth 30 fits 30000

pub classes_sync : IsSync Classes.the_row
classes_sync = search (sendable, crosses, class_cell_send, items.the_sync, turn.the_sync) depth 30 fits 30000

pub class_passes_send : IsSend ClassPasses.the_row
class_passes_send = search (sendable, crosses, class_cell_send, pass.the_send) depth 30 fits 30000

pub lane_passes_send : IsSend (LanePasses.the_field RangeTrees.the_row trees.ghosts).row
lane_passes_send = search (sendable, crosses, class_passes_send, range_trees.the_send, cell_passes.the_send) depth 30 fits 30000

pub pool_sync : IsSync Pool.the_row
pool_sync = search (sendable, crosses, classes_sync, cells.the_sync, range_trees.the_send) depth 30 fits 30000

module _ (D : RattleType) where
  pub start_send : IsSend (Start.the_row D RangeTrees.the_row trees.ghosts)
  start_send = search (sendable, crosses) depth 30 fits 30000

  pub keeper_send : IsSend D → IsSend (Keeper.the_row D RangeTrees.the_row trees.ghosts)
  keeper_send d = search (sendable, crosses, store.the_send, range_trees.the_send, cell_passes.the_send, first.the_send, batch.the_send, keeper_note.the_send) depth 30 fits 30000

  abbrev keeper : RattleType
  keeper = Keeper.the_row D RangeTrees.the_row trees.ghosts

  abbrev start : RattleType
  start = Start.the_row D RangeTrees.the_row trees.ghosts

  module _ (g : Disk.Ghosts D.Denot) (d : IsSend D) where
    pub keeper_pass_send : IsSend (Pass.the_row keeper note start (kept.ghosts D RangeTrees.the_row g kept.no_dict trees.ghosts kept.no_dict))
    keeper_pass_send = pass.the_send keeper note start (kept.ghosts D RangeTrees.the_row g kept.no_dict trees.ghosts kept.no_dict) (keeper_send d)

    abbrev turn_row : RattleType
    turn_row = Turn.the_row keeper note start (kept.ghosts D RangeTrees.the_row g kept.no_dict trees.ghosts kept.no_dict) copies

    pub turn_sync : IsSync turn_row
    turn_sync = turn.the_sync keeper note start (kept.ghosts D RangeTrees.the_row g kept.no_dict trees.ghosts kept.no_dict) copies (keeper_send d)

    pub seat_send : IsSend (Seat.the_field D g).row
    seat_send = struct_send (shape (Seat.the_type D g)) (lane_passes_send, (keeper_pass_send, tt))

    pub seat_row_send : IsSend (Seat.the_row D g)
    seat_row_send = recorded_send _ _ _ (Seat.the_type D g).to_one seat_send

    pub ran_send : IsSend (Ran.the_row D g)
    ran_send = search (sendable, crosses, seat_send, reply.the_send) depth 30 fits 30000

    -- what the lanes share: the host, the allocator, the pool, the keeper's turn, the commands and the place where lanes meet
    module _ (W M : RattleType) (w : IsSync W) (m : IsSync M) where
      pub shared_sync : (name : List ℕ) (ℓ₁ ℓ₂ ℓ₃ ℓ₄ ℓ₅ ℓ₆ : Lifetime) (κ₁ κ₂ κ₃ κ₄ κ₅ κ₆ : Lft)
          → IsSync (TupleAt name (ShrRef ℓ₁ κ₁ W ∷ ShrRef ℓ₂ κ₂ Global.the_row ∷ ShrRef ℓ₃ κ₃ Pool.the_row ∷ ShrRef ℓ₄ κ₄ turn_row ∷ ShrSlice ℓ₅ κ₅ Command.the_row ∷ ShrRef ℓ₆ κ₆ M ∷ []))
      shared_sync name ℓ₁ ℓ₂ ℓ₃ ℓ₄ ℓ₅ ℓ₆ κ₁ κ₂ κ₃ κ₄ κ₅ κ₆ = search (sendable, crosses, pool_sync, turn_sync, command.the_sync) depth 30 fits 30000
