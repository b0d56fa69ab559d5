-- How a report ends, from the store that was opened.
use Rattle.std.proofs.Common.{◌≡◌, ℕ, List, Ok, Err, refl, ◌∙◌, ap, subst}
use Rattle.zms_dev.specs.Causes.{one_more}
use Rattle.zms_dev.specs.Disk.{DiskState, Tells, bytes_of}
use Rattle.zms_dev.specs.Runs.{Untouched}
use Rattle.zms_dev.specs.Stream.{SinkState}
use Rattle.vdev_map.specs.declared.layout.Layout.{Layout}
use Rattle.vdev_map.specs.declared.table.Table.{Table}
use Rattle.meta_store.specs.Causes.{IsOpenFault, IsFaultOf}
use Rattle.meta_store.specs.Stores.{Opens}
use Rattle.meta_store.specs.Words.{row_of, units_of, words_in}
use Rattle.meta_store.specs.declared.causes.At.{At}
use Rattle.meta_store.specs.declared.causes.OpenCause.TheVariants.{MapDamaged}
use Rattle.meta_store.specs.declared.causes.OpenFault.{OpenFault}
use Rattle.meta_store.specs.declared.causes.OpenFault.TheVariants.{Cause, Failed as OpenFailed, Memory as OpenMemory}
use Rattle.zms_dev.specs.Prints.{HandsOn}
use Rattle.zdb_report.specs.Stats.{IsReport}
use Rattle.zdb_report.proofs.Showing.{shown_before}
use Rattle.zdb_report.specs.Faults.{IsReportFault, HaveFaulted}
use Rattle.zdb_report.specs.declared.faults.ReportFault.{ReportFault}
use Rattle.zdb_report.specs.declared.faults.ReportFault.TheVariants.{Write, Device, Damaged, Memory as ReportMemory}
use Rattle.zms_top.specs.FreshPool.{status_of_open}
use Rattle.zms_top.specs.PoolReports.{ReportEnds, status_of_report}
use Rattle.zms_top.specs.Ends.{IsOfText}
use Rattle.zms_top.specs.declared.status.Status.{Status}
use Rattle.zms_top.specs.declared.status.Status.TheVariants.{Done}
use Rattle.zms_top.proofs.OpenLemmas.{sound_no_damage}

-- the pool was not opened
pub unopened_ends : (at : At) (out : SinkState) (start : DiskState) (low high : ℕ) (fault : OpenFault) → (Tells start → IsOpenFault (bytes_of start) at fault) → IsFaultOf fault low high
    → ReportEnds at out out start low high (status_of_open fault)
unopened_ends at out start low high (Cause cause) shows counts = ReportEnds.unopened cause shows counts refl (λ _. refl)
unopened_ends at out start low high OpenFailed shows counts = ReportEnds.device counts refl
unopened_ends at out start low high OpenMemory shows counts = ReportEnds.memory counts refl

-- it was, and the report was not written to its end
pub unreported_ends : (at : At) (out now : SinkState) (start mid : DiskState) (layout : Layout) (table : Table) (low between high : ℕ) (fault : ReportFault) → between ≡ low
    → (Tells start → Untouched start mid) → (Tells start → Opens (bytes_of start) at layout table) → (Tells mid → IsReportFault (bytes_of mid) table fault)
    → HaveFaulted between high out.faults now.faults (Err fault) → ReportEnds at out now start low high (status_of_report fault)
unreported_ends at out now start mid layout table low between high Write steady rests opens shows counts =
    ReportEnds.unprinted layout table opens (counts.device_steady (λ e. cc) ∙ steady) (counts.sink_failed refl)
unreported_ends at out now start mid layout table low between high Device steady rests opens shows counts =
    ReportEnds.device (counts.device_failed refl ∙ ap one_more steady) (counts.sink_steady (λ e. cc))
unreported_ends at out now start mid layout table low between high (Damaged id damage) steady rests opens shows counts =
    ReportEnds.unopened (MapDamaged id damage) (λ tells. absurd (none tells)) (counts.device_steady (λ e. cc) ∙ steady) (counts.sink_steady (λ e. cc)) (λ tells. absurd (none tells))
  where
    none : Tells start → ⊥
    none tells =
        let quiet = rests tells in
        let first = subst (λ (b : List ℕ). IsReportFault b table (Damaged id damage)) quiet.contents (shows quiet.tells) in
        sound_no_damage (words_in (bytes_of start) table id) (units_of table id) (row_of table id).held damage ((opens tells).opened.has.sound id first.in_table) first.shows
unreported_ends at out now start mid layout table low between high ReportMemory steady rests opens shows counts =
    ReportEnds.memory (counts.device_steady (λ e. cc) ∙ steady) (counts.sink_steady (λ e. cc))

-- it was
pub reported_ends : (at : At) (out now : SinkState) (start mid : DiskState) (layout : Layout) (table : Table) (low between high : ℕ) → between ≡ low
    → (Tells start → Untouched start mid) → (Tells start → Opens (bytes_of start) at layout table)
    → ((text : List ℕ) × IsReport mid layout table text × HandsOn {T = Unit {0}} {E = ReportFault} out now text (Ok tt))
    → HaveFaulted between high out.faults now.faults (Ok tt) → ReportEnds at out now start low high Done
reported_ends at out now start mid layout table low between high steady rests opens printed counts =
    ReportEnds.reported layout table opens (counts.device_steady (λ e. cc) ∙ steady) printed.0 (told_before printed.1) printed.2
  where
    told_before : IsReport mid layout table printed.0 → IsReport start layout table printed.0
    told_before told = record {
      stats = told.stats;
      shown = record { many = told.shown.many; each = λ number d lt. shown_before start mid table number _ rests (told.shown.each number d lt) };
      text_is = told.text_is;
    }

-- a report reads no text
pub report_no_text : (at : At) (out now : SinkState) (start : DiskState) (low high : ℕ) (status : Status) → ReportEnds at out now start low high status → IsOfText status → ⊥
report_no_text at out now start low high _ (ReportEnds.unopened _ _ _ _ _) e = e
report_no_text at out now start low high _ (ReportEnds.device _ _) e = e
report_no_text at out now start low high _ (ReportEnds.memory _ _) e = e
report_no_text at out now start low high _ (ReportEnds.unprinted _ _ _ _ _) e = e
report_no_text at out now start low high _ (ReportEnds.reported _ _ _ _ _ _ _) e = e
