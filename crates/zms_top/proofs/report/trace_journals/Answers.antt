use Rattle.zms_dev.proofs.Prints.{hands_on}
use Rattle.zms_top.proofs.report.trace_journals.Goals as goal

pub returns-clause-traces : goal.returns-clause-traces
returns-clause-traces g c =
    rw c.in_ok-printed.was (hands_on _ _ _ _ _ _ _ c.write_metaslab_trace.ensures c.in_ok-write_metaslab_trace.was c.flush.ensures.taken c.flush.ensures.handed c.flush.ensures.cause)
