use Rattle.std.proofs.Common.{◌∙◌, sym, ap, arith}
use Rattle.zms_units.specs.Apart.{RunList}
use Rattle.zms_units.specs.Segments.{covered}
use Rattle.zms_units.specs.Runs.{units_in}
use Rattle.zms_units.proofs.Counting.{rising_total, rising_units}
use Rattle.zms_units.proofs.Maximal.{apart_rise}
use Rattle.zms_units.proofs.plain.PlainRunsFreeRuns.units.Goals as goal

pub unit_count-requires : goal.unit_count-requires
unit_count-requires c = omega (arith, rising_total 0 c.self.inside.range _ (apart_rise _ _ c.self.invariant))

pub returns : goal.returns
returns c =
    c.unit_count.ensures ∙ (sym (rising_units 0 _ _ (apart_rise _ _ c.self.invariant)) ∙ ap (λ (r : RunList). units_in (covered r.runs) r.range) c.self.view_is)
