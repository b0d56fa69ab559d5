use Rattle.trace_text.proofs.TracesFixed.{metaslab_trace_fixed}
use Rattle.trace_text.proofs.laws.metaslab_traces_fix_journals.Goals as goal

pub returns : goal.returns
returns c = metaslab_trace_fixed _ _ c.metaslabs_held.ensures c.metaslabs_held-2.ensures
