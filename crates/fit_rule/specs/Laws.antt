-- The laws of the fit.
use Rattle.std.specs.Prelude.{◌≡◌, ℕ, Bool}
use Rattle.zms_units.specs.declared.segments.Seg.{Seg}
use Rattle.zms_units.specs.Runs.{IsFit}

-- two fits of one question are the same segment
abbrev pub OneFit : Type 0
OneFit = (set : ℕ → Bool) (units ashift cursor count : ℕ) (one other : Seg) → IsFit set units ashift cursor count one → IsFit set units ashift cursor count other → one ≡ other
