use Rattle.std.proofs.Common.{◌≡◌, List}
use Rattle.std.specs.List.{flat_map}
use Rattle.zms_dev.specs.Disk.{Tells, bytes_of}
use Rattle.zms_dev.specs.Runs.{Untouched}
use Rattle.zms_dev.proofs.Prints.{Took}
use Rattle.meta_store.proofs.PartByPart.{SoundBelow}
use Rattle.zdb_report.specs.Stats.{AreShown}
use Rattle.zdb_report.specs.Texts.{metaslab_text}
use Rattle.zdb_report.specs.declared.stats.MetaslabStats.{MetaslabStats}
use Rattle.zdb_report.proofs.printing.write_metaslabs.Given as goal

abbrev pub invariant-loop-number : goal.invariant-loop-number
invariant-loop-number g l = record {
  shown : (stats : List MetaslabStats) × AreShown (g.D.Disk.state l.fn.store.disk) l.fn.store.table l.number stats × Took (g.K.Sink.state l.fn.out) (g.K.Sink.state l.out) (flat_map metaslab_text stats);
  sound : Tells (g.D.Disk.state l.fn.store.disk) → SoundBelow (bytes_of (g.D.Disk.state l.fn.store.disk)) l.fn.store.table l.number;
  layout : l.store.layout ≡ l.fn.store.layout;
  table : l.store.table ≡ l.fn.store.table;
  rests : Tells (g.D.Disk.state l.fn.store.disk) → Untouched (g.D.Disk.state l.fn.store.disk) (g.D.Disk.state l.store.disk);
  steady : g.D.Disk.faults l.store.disk ≡ g.D.Disk.faults l.fn.store.disk;
}
