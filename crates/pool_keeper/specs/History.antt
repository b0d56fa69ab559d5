-- What the journals of a pool say that each group holds.
use Rattle.std.specs.Prelude.{◌≡◌, ℕ, ◌<◌, ◌≤◌, List}
use Rattle.vdev_map.specs.Numbers.{number_of, metaslabs_in}
use Rattle.vdev_map.specs.declared.layout.Layout.{Layout}
use Rattle.ms_model.specs.Origin.{Origin}
use Rattle.ms_model.specs.Units.{held, collected_group}
use Rattle.ms_model.specs.declared.notes.Noted.{Noted}
use Rattle.meta_store.specs.Groups.{Contents}

-- the layout of a pool, the group at which it was opened, and of each metaslab, by its number, what it was then and its journal
pub record History : Type 0 where
  pub layout : Layout
  pub opened : ℕ
  pub origin : ℕ → Origin
  pub journal : ℕ → List Noted

-- which units a group holds
abbrev pub contents_of : History → ℕ → Contents
contents_of h group = record {
  layout = h.layout;
  held = λ id u. held (h.origin (number_of h.layout.vdevs id)) (h.journal (number_of h.layout.vdevs id)) group u;
}

-- each metaslab has collected the group
abbrev pub AllCollected : History → ℕ → Type 0
AllCollected h group = (k : ℕ) → k < metaslabs_in h.layout.vdevs → group ≤ collected_group (h.origin k) (h.journal k)

-- the journal grew by nothing that changes what the collected groups hold
pub record Grows (o : Origin) (h j : List Noted) : Type 0 where
  pub collected : collected_group o h ≤ collected_group o j
  pub holds : (t u : ℕ) → t ≤ collected_group o h → held o j t u ≡ held o h t u

-- the journals of a history, each grown so
pub record GrowsTo (h : History) (journal : ℕ → List Noted) : Type 0 where
  pub each : (k : ℕ) → k < metaslabs_in h.layout.vdevs → Grows (h.origin k) (h.journal k) (journal k)
