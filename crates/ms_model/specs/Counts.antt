-- The totals of a metaslab.
use Rattle.std.specs.Prelude.{ℕ, List}
use Rattle.zms_units.specs.Runs.{units_in}
use Rattle.ms_model.specs.Origin.{Origin}
use Rattle.ms_model.specs.Spaces.{is_live, is_deferred, is_vacant}
use Rattle.ms_model.specs.declared.notes.Noted.{Noted}

abbrev pub live_units : Origin → List Noted → ℕ
live_units o h = units_in (is_live o h) o.units

abbrev pub deferred_units : Origin → List Noted → ℕ
deferred_units o h = units_in (is_deferred o h) o.units

abbrev pub vacant_units : Origin → List Noted → ℕ
vacant_units o h = units_in (is_vacant o h) o.units
