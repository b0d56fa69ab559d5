use Rattle.std.proofs.Common.{refl}
use Rattle.zms_dev.proofs.Prints.{took_first, prints_failed_first, prints_tail}
use Rattle.run_text.proofs.printing.write_run.Goals as goal

pub returns-in_err-write_replies : goal.returns-in_err-write_replies
returns-in_err-write_replies g c = prints_failed_first _ _ _ _ _ _ _ _ c.write_replies.ensures c.in_err-write_replies.was c.from_residual.ensures.0 refl

pub returns : goal.returns
returns g c = prints_tail _ _ _ _ _ _ _ (took_first _ _ _ _ _ c.write_replies.ensures c.in_ok-write_replies.was) c.write_totals.ensures refl
