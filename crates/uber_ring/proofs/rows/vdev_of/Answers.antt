use Rattle.std.proofs.Common.{◌≡◌, [], ◌∷◌, ℕ, ◌+◌, ◌*◌, ◌≤◌, take, refl, sym, subst, arith}
use Rattle.vdev_map.specs.Limits.{IsShift, IsUnits}
use Rattle.vdev_map.specs.Numbers.{units_in}
use Rattle.uber_ring.specs.Numbers.{number_at}
use Rattle.uber_ring.specs.TableBytes.{vdev_at, vdevs_in}
use Rattle.uber_ring.specs.TableFields.{IsRight, vdev_fields, class_, ashift, units, metaslabs, vdev_zeros}
use Rattle.uber_ring.proofs.TableRows.{units_right, units_shown}
use Rattle.uber_ring.proofs.Wrong.{wrong_here, fault_is, not_true}
use Rattle.uber_ring.proofs.rows.vdev_of.Goals as goal

pub returns-in_default-clause-err : goal.returns-in_default-clause-err
returns-in_default-clause-err c head uber =
    let bytes = c.args.bytes.now in
    let P = IsRight head uber bytes in
    fault_is P bytes (vdev_fields c.args.v) (vdev_at c.args.v) c.malformed.result c.malformed.ensures
    (wrong_here P bytes ([]) (class_ c.args.v) ((ashift c.args.v) ∷ (units c.args.v) ∷ (metaslabs c.args.v) ∷ (vdev_zeros c.args.v) ∷ []) (vdev_at c.args.v)
    tt
    (λ right. omega (arith, c.u32_at.ensures, c.in_default.ensures, right)) refl)

pub returns-then-not-is_shift-clause-err : goal.returns-then-not-is_shift-clause-err
returns-then-not-is_shift-clause-err c head uber =
    let bytes = c.args.bytes.now in
    let P = IsRight head uber bytes in
    fault_is P bytes (vdev_fields c.args.v) (vdev_at c.args.v + 4) c.malformed-then-not-is_shift.result c.malformed-then-not-is_shift.ensures
    (wrong_here P bytes ((class_ c.args.v) ∷ []) (ashift c.args.v) ((units c.args.v) ∷ (metaslabs c.args.v) ∷ (vdev_zeros c.args.v) ∷ []) (vdev_at c.args.v + 4) (
      omega (arith, c.u32_at.ensures, c.in-Some.ensures.0),
      tt,
    )
    (λ right. not_true c.is_shift.result (IsShift c.u32_at-ashift.result) c.is_shift.ensures.1 c.if-not-is_shift.true (subst IsShift (sym c.u32_at-ashift.ensures) right)) refl)

pub returns-then-not-are_units-clause-err : goal.returns-then-not-are_units-clause-err
returns-then-not-are_units-clause-err c head uber =
    let bytes = c.args.bytes.now in
    let P = IsRight head uber bytes in
    fault_is P bytes (vdev_fields c.args.v) (vdev_at c.args.v + 8) c.malformed-then-not-are_units.result c.malformed-then-not-are_units.ensures
    (wrong_here P bytes ((class_ c.args.v) ∷ (ashift c.args.v) ∷ []) (units c.args.v) ((metaslabs c.args.v) ∷ (vdev_zeros c.args.v) ∷ []) (vdev_at c.args.v + 8) (
      omega (arith, c.u32_at.ensures, c.in-Some.ensures.0),
      (
        subst IsShift c.u32_at-ashift.ensures (c.is_shift.ensures.0 c.if-not-is_shift.false),
        tt,
      ),
    )
    (λ right. let shown = units_shown bytes c.args.v c.requires.number right in not_true c.are_units.result (IsUnits c.u32_at-units.result × (c.args.units_before + c.u32_at-metaslabs.result * c.u32_at-units.result ≤ 4194304)) c.are_units.ensures.1 c.if-not-are_units.true (subst IsUnits (sym c.u32_at-units.ensures) shown.0, let e : c.u32_at-metaslabs.result * c.u32_at-units.result ≡ number_at bytes (vdev_at c.args.v + 12) 4 * number_at bytes (vdev_at c.args.v + 8) 4 = (λ i. c.u32_at-metaslabs.ensures i * c.u32_at-units.ensures i) in omega (arith, shown.1, e, c.requires.before))) refl)

pub returns-then-metaslabs-lt1-clause-err : goal.returns-then-metaslabs-lt1-clause-err
returns-then-metaslabs-lt1-clause-err c head uber =
    let bytes = c.args.bytes.now in
    let P = IsRight head uber bytes in
    fault_is P bytes (vdev_fields c.args.v) (vdev_at c.args.v + 12) c.malformed-then-metaslabs-lt1.result c.malformed-then-metaslabs-lt1.ensures
    (wrong_here P bytes ((class_ c.args.v) ∷ (ashift c.args.v) ∷ (units c.args.v) ∷ []) (metaslabs c.args.v) ((vdev_zeros c.args.v) ∷ []) (vdev_at c.args.v + 12) (
      omega (arith, c.u32_at.ensures, c.in-Some.ensures.0),
      (
        subst IsShift c.u32_at-ashift.ensures (c.is_shift.ensures.0 c.if-not-is_shift.false),
        (
          (let yes = c.are_units.ensures.0 c.if-not-are_units.false in let both : IsUnits c.u32_at-units.result × (units_in (take c.args.v (vdevs_in bytes)) + c.u32_at-metaslabs.result * c.u32_at-units.result ≤ 4194304) = (yes.0, omega (arith, yes.1, c.requires.before)) in units_right bytes c.args.v c.requires.number (subst IsUnits c.u32_at-units.ensures both.0) (subst (λ (n : ℕ). units_in (take c.args.v (vdevs_in bytes)) + n ≤ 4194304) (λ i. c.u32_at-metaslabs.ensures i * c.u32_at-units.ensures i) both.1)),
          tt,
        ),
      ),
    )
    (λ right. omega (arith, c.u32_at-metaslabs.ensures, c.if-metaslabs-lt1.true, right)) refl)

pub returns-then-not-has_zeros-clause-err : goal.returns-then-not-has_zeros-clause-err
returns-then-not-has_zeros-clause-err c head uber =
    let bytes = c.args.bytes.now in
    let P = IsRight head uber bytes in
    fault_is P bytes (vdev_fields c.args.v) (vdev_at c.args.v + 16) c.malformed-then-not-has_zeros.result c.malformed-then-not-has_zeros.ensures
    (wrong_here P bytes ((class_ c.args.v) ∷ (ashift c.args.v) ∷ (units c.args.v) ∷ (metaslabs c.args.v) ∷ []) (vdev_zeros c.args.v) ([]) (vdev_at c.args.v + 16) (
      omega (arith, c.u32_at.ensures, c.in-Some.ensures.0),
      (
        subst IsShift c.u32_at-ashift.ensures (c.is_shift.ensures.0 c.if-not-is_shift.false),
        (
          (let yes = c.are_units.ensures.0 c.if-not-are_units.false in let both : IsUnits c.u32_at-units.result × (units_in (take c.args.v (vdevs_in bytes)) + c.u32_at-metaslabs.result * c.u32_at-units.result ≤ 4194304) = (yes.0, omega (arith, yes.1, c.requires.before)) in units_right bytes c.args.v c.requires.number (subst IsUnits c.u32_at-units.ensures both.0) (subst (λ (n : ℕ). units_in (take c.args.v (vdevs_in bytes)) + n ≤ 4194304) (λ i. c.u32_at-metaslabs.ensures i * c.u32_at-units.ensures i) both.1)),
          (
            omega (arith, c.u32_at-metaslabs.ensures, c.if-metaslabs-lt1.false),
            tt,
          ),
        ),
      ),
    )
    (not_true c.has_zeros.result (P (vdev_zeros c.args.v)) c.has_zeros.ensures.1 c.if-not-has_zeros.true) refl)

pub returns-clause-ok : goal.returns-clause-ok
returns-clause-ok c head uber =
    let bytes = c.args.bytes.now in (
      omega (arith, c.u32_at.ensures, c.in-Some.ensures.0),
      (
        subst IsShift c.u32_at-ashift.ensures (c.is_shift.ensures.0 c.if-not-is_shift.false),
        (
          (let yes = c.are_units.ensures.0 c.if-not-are_units.false in let both : IsUnits c.u32_at-units.result × (units_in (take c.args.v (vdevs_in bytes)) + c.u32_at-metaslabs.result * c.u32_at-units.result ≤ 4194304) = (yes.0, omega (arith, yes.1, c.requires.before)) in units_right bytes c.args.v c.requires.number (subst IsUnits c.u32_at-units.ensures both.0) (subst (λ (n : ℕ). units_in (take c.args.v (vdevs_in bytes)) + n ≤ 4194304) (λ i. c.u32_at-metaslabs.ensures i * c.u32_at-units.ensures i) both.1)),
          (
            omega (arith, c.u32_at-metaslabs.ensures, c.if-metaslabs-lt1.false),
            (
              c.has_zeros.ensures.0 c.if-not-has_zeros.false,
              tt,
            ),
          ),
        ),
      ),
    )
