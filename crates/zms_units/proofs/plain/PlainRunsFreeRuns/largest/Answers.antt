use Rattle.std.proofs.Common.{◌∙◌, ap, unwrap_or}
use Rattle.zms_units.proofs.Listed.{listed_largest}
use Rattle.zms_units.proofs.plain.PlainRunsFreeRuns.largest.Goals as goal

pub returns : goal.returns
returns c =
    rw (← c.self.view_is) (listed_largest _ _ c.self.invariant _ (c.unwrap_or.ensures ∙ ap (λ r. unwrap_or r 0) c.longest_count.ensures))
