use Rattle.zms_dev.specs.Disk.{bytes_of}
use Rattle.zms_dev.proofs.Prints.{took_first}
use Rattle.zdb_report.proofs.Telling.{again, not_found, not_found_faulted, not_written, not_written_faulted, none_faulted}
use Rattle.zdb_report.proofs.printing.write_metaslab.Goals as goal

pub returns-in_err-stats-clause-damaged : goal.returns-in_err-stats-clause-damaged
returns-in_err-stats-clause-damaged g c = λ tells. not_found (bytes_of (g.D.Disk.state c.args.store.now.disk)) c.args.store.now.table c.args.number _ _ _ (c.survey.ensures.fault tells) c.in_err-stats.was c.from_residual.ensures.1

pub returns-in_err-stats-clause-faults : goal.returns-in_err-stats-clause-faults
returns-in_err-stats-clause-faults g c = not_found_faulted _ _ _ _ _ _ c.survey.ensures.steady c.survey.ensures.failed c.in_err-stats.was c.from_residual.ensures.1

pub returns-in_err-write-clause-damaged : goal.returns-in_err-write-clause-damaged
returns-in_err-write-clause-damaged g c = λ tells. not_written (bytes_of (g.D.Disk.state c.args.store.now.disk)) c.args.store.now.table c.args.number _ c.from_residual-in_err-write.ensures.1

pub returns-in_err-write-clause-faults : goal.returns-in_err-write-clause-faults
returns-in_err-write-clause-faults g c =
    not_written_faulted _ _ _ _ _ _ _ _ (c.in_ok-stats.ensures.steady (λ e. absurd (cc))) c.write.ensures c.in_err-write.was c.from_residual-in_err-write.ensures.1

pub returns-clause-shown : goal.returns-clause-shown
returns-clause-shown g c = (c.in_ok-stats.stats, c.in_ok-stats.ensures.shown, again _ _ _ _ c.write.ensures c.in_ok-write.was)

pub returns-clause-sound : goal.returns-clause-sound
returns-clause-sound g c = λ tells. let is = c.in_ok-stats.ensures.shown.stats.row in (c.in_ok-stats.stats.id, is.id, is.is, c.in_ok-stats.ensures.sound tells)

pub returns-clause-faults : goal.returns-clause-faults
returns-clause-faults g c = let took = took_first _ _ _ _ _ c.write.ensures c.in_ok-write.was in none_faulted _ _ _ _ (c.in_ok-stats.ensures.steady (λ e. absurd (cc))) took.steady
