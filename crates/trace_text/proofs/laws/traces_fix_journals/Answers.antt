use Rattle.trace_text.proofs.TracesFixed.{trace_fixed}
use Rattle.trace_text.proofs.laws.traces_fix_journals.Goals as goal

pub returns : goal.returns
returns c = trace_fixed _ _ c.journals_held.ensures c.journals_held-2.ensures
