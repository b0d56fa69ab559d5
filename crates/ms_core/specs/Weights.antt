-- What a metaslab weighs.
use Rattle.std.specs.Prelude.{ℕ, Bool, nat_lt, List}
use Rattle.zms_units.specs.declared.histograms.Histogram.{Histogram}
use Rattle.zms_units.specs.Weights.{IsHistogramOf, IsWeightOf}
use Rattle.ms_model.specs.Origin.{Origin}
use Rattle.ms_model.specs.Counts.{vacant_units}
use Rattle.ms_model.specs.declared.notes.Noted.{Noted}

-- the weight of a set of the units 0 to units-1, of 2^ashift bytes each
pub record IsWeightOfSet (set : ℕ → Bool) (units ashift weight : ℕ) : Type 0 where
  pub hist : Histogram
  pub counts : IsHistogramOf set units ashift hist
  pub weighs : IsWeightOf hist weight

-- the vacant units as if they were one run, from 0 on
abbrev pub as_one_run : Origin → List Noted → ℕ → Bool
as_one_run o h u = nat_lt u (vacant_units o h)
