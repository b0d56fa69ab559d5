-- What stays the same of a metaslab while its pool is open.
use Rattle.zms_units.specs.Segments.{covered}
use Rattle.ms_model.specs.Origin.{Origin}
use Rattle.ms_core.specs.State.{MsState}
use Rattle.ms_core.specs.declared.kept.Standing.{Standing}

-- what a metaslab stands for
abbrev pub standing_of : MsState → Standing
standing_of m = record { id = m.id; units = m.units; ashift = m.ashift; opened = record { 0 = m.opened }; base = m.base }

-- what a metaslab was when its pool was opened, by what it stands for
abbrev pub origin_at : Standing → Origin
origin_at s = record { units = s.units; ashift = s.ashift; opened = s.opened.0; base = covered s.base }
