use Rattle.std.proofs.Common.{refl}
use Rattle.zms_dev.proofs.Prints.{took_first, prints_failed_first, prints_tail}
use Rattle.run_text.proofs.totals.write_totals.Goals as goal

pub returns-in_err-write_metaslabs : goal.returns-in_err-write_metaslabs
returns-in_err-write_metaslabs g c = prints_failed_first _ _ _ _ _ _ _ _ c.write_metaslabs.ensures c.in_err-write_metaslabs.was c.from_residual.ensures.0 refl

pub returns : goal.returns
returns g c = prints_tail _ _ _ _ _ _ _ (took_first _ _ _ _ _ c.write_metaslabs.ensures c.in_ok-write_metaslabs.was) c.write_sums.ensures refl
