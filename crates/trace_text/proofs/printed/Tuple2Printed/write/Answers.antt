use Rattle.std.proofs.Common.{refl}
use Rattle.zms_dev.proofs.Prints.{took_first, prints_failed_first, prints_tail}
use Rattle.trace_text.proofs.printed.Tuple2Printed.write.Goals as goal

pub returns-in_err-write : goal.returns-in_err-write
returns-in_err-write g c = prints_failed_first _ _ _ _ _ _ _ _ c.write.ensures c.in_err-write.was c.from_residual.ensures.0 refl

pub returns : goal.returns
returns g c = prints_tail _ _ _ _ _ _ _ (took_first _ _ _ _ _ c.write.ensures c.in_ok-write.was) c.write-2.ensures refl
