use Rattle.std.proofs.Common.{refl, rules, arith, ap, sym, ◌∙◌}
use Rattle.zms_units.specs.Segments.{total_of}
use Rattle.zms_units.proofs.Counting.{rising_total, rising_units}
use Rattle.ms_core.proofs.Keeping.{kept_first}
use Rattle.ms_core.proofs.Sparing.{waiting_none}
use Rattle.ms_core.proofs.metaslab.Metaslab.new.Goals as goal

pub unit_count-held-requires : goal.unit_count-held-requires
unit_count-held-requires g c =
    omega (arith, ap total_of c.deref.ensures.value, rising_total 0 c.args.row.now.units _ c.requires.base, c.requires.units.1)

pub invariant_of-result : goal.invariant_of-result
invariant_of-result g c =
    let held = c.unit_count-held.ensures ∙ (ap total_of c.deref.ensures.value ∙ sym (rising_units 0 c.args.row.now.units _ c.requires.base)) in
    record {
      kept =
          kept_first (g.R.SegTrees.set c.new.result) _ c.new.ensures.empty c.requires.units.0 c.requires.units.1 c.requires.ashift c.requires.base (search rules) refl refl refl held refl refl;
      waiting = omega (arith, waiting_none (g.R.SegTrees.set c.new.result) c.new.ensures.empty);
      room = search rules;
    }
