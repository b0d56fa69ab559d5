use Rattle.std.proofs.Common.{◌≡◌, length, take, None}
use Rattle.ms_core.specs.State.{origin_of, StaysButNotes}
use Rattle.std.specs.Prelude.{if◌then◌else◌}
use Rattle.zms_dev.specs.Causes.{one_more}
use Rattle.zms_dev.specs.Disk.{Tells}
use Rattle.zms_dev.specs.Runs.{Spares}
use Rattle.meta_store.specs.Rewinds.{Adds}
use Rattle.zms_top.specs.Answers.{paired, is_failure}
use Rattle.zms_top.specs.Ends.{first_damage}
use Rattle.zms_top.specs.Lines.{AreIntervals}
use Rattle.zms_top.specs.Pools.{IsStoreOf, IsRemembered, StaysRemembered}
use Rattle.zms_top.specs.Names.{AreNamed}
use Rattle.zms_top.specs.Sound.{shape_of}
use Rattle.zms_top.specs.Stored.{IsBeside}
use Rattle.zms_top.specs.Runs.{HasRun, answers_of}
use Rattle.zms_top.proofs.lane.run_lane.Given as goal

abbrev pub invariant-loop-command : goal.invariant-loop-command
invariant-loop-command g l = record {
  each : length l.replies.items ≡ l.command-index;
  named : AreNamed (shape_of (origin_of l.fn.pool.metaslab)) (paired (take l.command-index l.commands) l.replies.items) l.blocks;
  ran : HasRun l.fn.pool l.pool (paired (take l.command-index l.commands) l.replies.items);
  intervals : AreIntervals (g.D.Disk.faults l.fn.store.disk) (g.D.Disk.faults l.store.disk) (answers_of l.replies.items);
  undamaged : IsRemembered l.fn.pool l.fn.store.layout l.fn.store.table (g.D.Disk.state l.fn.store.disk) → first_damage l.replies.items ≡ None;
  store : IsStoreOf l.pool l.store.layout l.store.table;
  layout : l.store.layout ≡ l.fn.store.layout;
  remembered : IsRemembered l.fn.pool l.fn.store.layout l.fn.store.table (g.D.Disk.state l.fn.store.disk)
      → StaysRemembered l.fn.pool l.pool l.store.layout l.store.table (g.D.Disk.state l.fn.store.disk) (g.D.Disk.state l.store.disk);
  stays : StaysButNotes l.fn.pool.metaslab l.pool.metaslab;
  gate : l.pool.gate.opened ≡ l.fn.pool.gate.opened;
  faults : g.D.Disk.faults l.store.disk ≡ (if is_failure l.pool.first then one_more (g.D.Disk.faults l.fn.store.disk) else g.D.Disk.faults l.fn.store.disk);
  spares : Tells (g.D.Disk.state l.fn.store.disk) → Spares (IsBeside l.fn.store.layout) (g.D.Disk.state l.fn.store.disk) (g.D.Disk.state l.store.disk);
  flushes : Tells (g.D.Disk.state l.fn.store.disk) → Adds (g.D.Disk.state l.fn.store.disk) (g.D.Disk.state l.store.disk);
}
