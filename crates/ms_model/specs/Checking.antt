-- What a checker of journals keeps of each unit and group, and how that agrees with a journal.
use Rattle.std.specs.Prelude.{◌≡◌, ℕ, ◌+◌, ◌<◌, ◌≤◌, Bool, true, false, not, max, List, ◌∷◌, ◌++◌, length, get_or, slice_index}
use Rattle.std.specs.List.{fold}
use Rattle.zms_units.specs.declared.segments.Seg.{Seg}
use Rattle.zms_units.specs.Limits.{MAX_UNITS, CURSORS, IsShift}
use Rattle.zms_units.specs.Segments.{covered}
use Rattle.ms_model.specs.Origin.{Origin}
use Rattle.ms_model.specs.Units.{LastAct, granted, freed, taken_back, untouched, act_on, last_act, settled_by, settled_group, collected_by, collected_group, loaded_by, is_loaded, disabled_by, worker_at}
use Rattle.ms_model.specs.Spaces.{keeps_busy}
use Rattle.ms_model.specs.Cursors.{cursor_by, cursor_at}
use Rattle.ms_model.specs.Legal.{IsWithin, MayDo, IsLegal}
use Rattle.ms_model.specs.declared.notes.Act.{Act}
use Rattle.ms_model.specs.declared.notes.Act.TheVariants.{Grant, Free, Unalloc}
use Rattle.ms_model.specs.declared.notes.Noted.{Noted}
use Rattle.ms_model.specs.declared.checking.Last.{Last}
use Rattle.ms_model.specs.declared.checking.Last.TheVariants.{Granted, Freed, TakenBack, Untouched}
use Rattle.ms_model.specs.declared.checking.Checker.{Checker}

-- a test answers a question
pub record Decides (answer : Bool) (Holds : Type 0) : Type 0 where
  pub holds : answer ≡ true → Holds
  pub fails : answer ≡ false → Holds → ⊥

-- the place, from 1, of the first note that may not follow those before it
pub record IsFirstIllegal (o : Origin) (notes : List Noted) (place : ℕ) : Type 0 where
  pub before : List Noted
  pub note : Noted
  pub rest : List Noted
  pub stands : before ++ (note ∷ rest) ≡ notes
  pub place_is : place ≡ length before + 1
  pub legal : IsLegal o before
  pub refused : MayDo o before note.lane note.act → ⊥

-- the last act on a unit as a checker keeps it
abbrev pub act_of : Last → LastAct
act_of (Granted lane group) = granted lane group.0
act_of (Freed group) = freed group.0
act_of TakenBack = taken_back
act_of Untouched = untouched

abbrev pub act_at : List Last → ℕ → LastAct
act_at lasts u = act_of (get_or lasts u Untouched)

-- which units are vacant, s being the settled group
abbrev pub vacant_at : ℕ → List Last → ℕ → Bool
vacant_at s lasts u = not (keeps_busy s (act_at lasts u))

-- which units a checker takes for vacant
abbrev pub vacant_in : Checker → ℕ → Bool
vacant_in c = vacant_at c.settled.0 c.lasts.items

abbrev pub changed_by : ℕ → Act → ℕ
changed_by so_far (Grant group _) = max so_far group.0
changed_by so_far (Free group _) = max so_far group.0
changed_by so_far (Unalloc group _) = max so_far group.0
changed_by so_far _ = so_far

-- the greatest group of a grant, free or take-back
abbrev pub changed_group : List Noted → ℕ
changed_group h = fold (λ so_far note. changed_by so_far note.act) 0 h

-- what a checker keeps is what a journal says
pub record Reflects (o : Origin) (h : List Noted) (c : Checker) : Type 0 where
  pub units : length c.lasts.items ≡ o.units
  pub most : o.units ≤ MAX_UNITS
  pub shift : c.ashift ≡ o.ashift
  pub shifts : IsShift o.ashift
  pub acts : (u : ℕ) → u < o.units → act_at c.lasts.items u ≡ last_act o h u
  pub settled : c.settled.0 ≡ settled_group o h
  pub collected : c.collected.0 ≡ collected_group o h
  pub loaded : c.loaded ≡ is_loaded h
  pub worker : c.worker ≡ worker_at h
  pub cursors : (number : ℕ) → number < CURSORS → slice_index c.cursors number ≡ cursor_at h number
  pub changed : c.changed.0 ≡ changed_group h

-- there are not too many units, and they have a size that a vdev may have
pub record IsTable (c : Checker) : Type 0 where
  pub most : length c.lasts.items ≤ MAX_UNITS
  pub shift : IsShift c.ashift

-- the segment of an act that changes units lies within them
abbrev pub LiesWithin : ℕ → Act → Type 0
LiesWithin units (Grant _ seg) = IsWithin units seg
LiesWithin units (Free _ seg) = IsWithin units seg
LiesWithin units (Unalloc _ seg) = IsWithin units seg
LiesWithin units _ = Unit {0}

-- what is kept after one more note
pub record TakesIn (old new : Checker) (lane : ℕ) (act : Act) : Type 0 where
  pub units : length new.lasts.items ≡ length old.lasts.items
  pub shift : new.ashift ≡ old.ashift
  pub acts : (u : ℕ) → u < length old.lasts.items → act_at new.lasts.items u ≡ act_on u (act_at old.lasts.items u) lane act
  pub settled : new.settled.0 ≡ settled_by old.settled.0 act
  pub collected : new.collected.0 ≡ collected_by old.collected.0 act
  pub loaded : new.loaded ≡ loaded_by old.loaded act
  pub worker : new.worker ≡ disabled_by old.worker act
  pub cursors : (number : ℕ) → number < CURSORS → slice_index new.cursors number ≡ cursor_by number (slice_index old.cursors number) act
  pub changed : new.changed.0 ≡ changed_by old.changed.0 act

-- a metaslab's journal begins so
abbrev pub origin_from : List Seg → ℕ → ℕ → ℕ → Origin
origin_from base units ashift opened = record { units = units; ashift = ashift; opened = opened; base = covered base }

-- which runs are looked for
abbrev pub LiesBetween : ℕ → ℕ → ℕ → ℕ → Seg → Type 0
LiesBetween least most from below run = ((least ≤ run.count) × (run.count ≤ most)) × ((from ≤ run.start) × (run.start < below))
