use Rattle.std.proofs.Common.{◌≡◌, ℕ, cond, arith, sym, ◌∙◌}
use Rattle.zms_units.proofs.Counting.{units_le}
use Rattle.ms_model.specs.Checking.{vacant_in}
use Rattle.zms_units.proofs.Counting.{units_more}
use Rattle.ms_model.proofs.checking.Checker.vacant_count.Goals as goal
use Rattle.ms_model.proofs.checking.Checker.vacant_count.Goals.{then-is_vacant, else-is_vacant}

pub overflow_add-count : goal.overflow_add-count
overflow_add-count c = omega (arith, units_le (vacant_in c.args.self.now) c.loop-unit.unit, c.loop-unit.invariant)

pub loop-unit-preserved : goal.loop-unit-preserved
loop-unit-preserved c = elim c.if-is_vacant.branch [
  | then-is_vacant w ↦
      let one : ◌≡◌ {A = ℕ} (cond (vacant_in c.args.self.now c.loop-unit.unit) 1 0) 1 = rw (sym c.is_vacant.ensures ∙ w.if-is_vacant.true) in
      omega (arith, w.count-is, c.loop-unit.invariant, units_more (vacant_in c.args.self.now) c.loop-unit.unit, one)
  | else-is_vacant w ↦
      let none : ◌≡◌ {A = ℕ} (cond (vacant_in c.args.self.now c.loop-unit.unit) 1 0) 0 = rw (sym c.is_vacant.ensures ∙ w.if-is_vacant.false) in
      omega (arith, w.count-is, c.loop-unit.invariant, units_more (vacant_in c.args.self.now) c.loop-unit.unit, none)
]
