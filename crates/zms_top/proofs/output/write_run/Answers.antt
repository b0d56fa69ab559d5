use Rattle.zms_dev.proofs.Prints.{hands_on}
use Rattle.zms_top.proofs.output.write_run.Goals as goal

pub returns : goal.returns
returns g c = hands_on _ _ _ _ _ _ _ c.write_lines.ensures c.in_ok-write_lines.was c.flush.ensures.taken c.flush.ensures.handed c.flush.ensures.cause
