-- A pool whose lanes have ended and whose turns are closed.
use Rattle.std.specs.Prelude.{ℕ, Option, Result, IfOk, List}
use Rattle.std.specs.Global.{Vec}
use Rattle.std.specs.declared.alloc.AllocError.{AllocError}
use Rattle.zms_units.specs.declared.segments.Seg.{Seg}
use Rattle.zms_dev.specs.Disk.{DiskState}
use Rattle.class_model.specs.declared.origin.ClassOrigin.{ClassOrigin}
use Rattle.meta_store.specs.Stores.{StoreState}
use Rattle.cmd_text.specs.declared.script.Script.{Script}
use Rattle.lane_run.specs.declared.replies.Reply.{Reply}
use Rattle.pool_seats.specs.declared.closing.Closed.{Closed}
use Rattle.pool_lanes.specs.Lanes.{Ended, ground_in, IsOfStore, AreLegal, AreWithin, IsKept, AreBacked}

module _ {D : Type 0} where
  abbrev pub ended_by : Closed D → List (Option ClassOrigin) → Ended
  ended_by c origins = record { gate = c.gate; metaslabs = c.metaslabs.items; classes = c.classes.items; keeper = c.keeper.items; origins = origins }

  -- what its turns held is a run of the store's lanes
  pub record HasEnded (state : D → DiskState) (faults : D → ℕ) (store : StoreState D) (bases : List (List Seg)) (script : Script) (c : Closed D) (replies : Result (Vec Reply) AllocError) : Type 0 where
    pub origins : List (Option ClassOrigin)
    pub ground : IsOfStore store bases (ended_by c origins)
    pub legal : AreLegal (ended_by c origins)
    pub within : AreWithin script.lanes (ended_by c origins)
    pub kept : IsKept state faults store (ended_by c origins) c.store.table.group c.store.disk
    pub replies_are : IfOk replies (λ r. AreBacked script.lanes (ground_in store (ended_by c origins)) script.commands (ended_by c origins) r.items)
