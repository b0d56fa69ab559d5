-- What the pool device holds of a run, at each stop: the groups from the opened one on, each with the units that it holds by
-- the journal.
use Rattle.std.specs.Prelude.{◌≡◌, ℕ, ◌+◌, ◌<◌, ◌≤◌, ◌⊎◌, List, [], ◌∷◌, ◌++◌}
use Rattle.zms_units.specs.Limits.{GROUPS_END}
use Rattle.zms_units.specs.declared.places.Class.TheVariants.{Normal}
use Rattle.ms_model.specs.Origin.{Origin}
use Rattle.ms_model.specs.Units.{held, settled_group, collected_group}
use Rattle.ms_model.specs.declared.notes.Noted.{Noted}
use Rattle.zms_dev.specs.Disk.{DiskState, Tells, bytes_of}
use Rattle.vdev_map.specs.declared.layout.Layout.{Layout}
use Rattle.vdev_map.specs.declared.table.Table.{Table}
use Rattle.uber_ring.specs.Slots.{IsValid}
use Rattle.uber_ring.specs.declared.slot.Uber.{Uber}
use Rattle.meta_store.specs.Causes.{IsAsked}
use Rattle.meta_store.specs.Groups.{Contents, Finds, HasNewest}
use Rattle.meta_store.specs.Heads.{head_of}
use Rattle.meta_store.specs.Kept.{LiesIn}
use Rattle.meta_store.specs.NextGroups.{IsLeft}
use Rattle.meta_store.specs.Rewinds.{IsRewinding, EndsAt}
use Rattle.meta_store.specs.Stores.{Opens}
use Rattle.meta_store.specs.declared.causes.At.{At}
use Rattle.meta_store.specs.declared.causes.At.TheVariants.{Group as AtGroup}

-- the layout over which lanes run: one normal vdev of 4096-byte units, with one metaslab
pub record IsSingle (layout : Layout) (units : ℕ) : Type 0 where
  pub vdevs : layout.vdevs ≡ record { class = Normal; ashift = 12; units = units; metaslabs = 1 } ∷ []

-- what a group holds by the journal
abbrev pub contents_of : Layout → Origin → List Noted → ℕ → Contents
contents_of layout o h group = record { layout = layout; held = λ id u. held o h group u }

-- what the opened group holds
abbrev pub opened_contents : Layout → Origin → Contents
opened_contents layout o = record { layout = layout; held = λ id u. o.base u }

-- the image opens at what is asked for, with a table of the opened group, whose vdevs are the layout's
pub record IsOpenedAs (image : List ℕ) (at : At) (layout : Layout) (o : Origin) : Type 0 where
  pub table : Table
  pub vdevs : table.vdevs ≡ layout.vdevs
  pub named : table.group.0 ≡ o.opened
  pub opens : Opens image at layout table

-- a group that can be opened where this is the newest: one from the opened group on, and at most two below the newest
pub record IsOpenable (o : Origin) (newest group : ℕ) : Type 0 where
  pub from : o.opened ≤ group
  pub to : group ≤ newest
  pub recent : newest ≤ group + 2

-- the image opens at a group
pub record OpensAt (image : List ℕ) (group : ℕ) (layout : Layout) : Type 0 where
  pub table : Table
  pub named : table.group.0 ≡ group
  pub opens : Opens image (AtGroup (record { 0 = group })) layout table

-- the image has groups from this one on, and none that was not collected. It opens at each that can be opened, and finds
-- there exactly the units that the group holds by the journal; no other group is recent
pub record Remembers (layout : Layout) (o : Origin) (h : List Noted) (low : ℕ) (image : List ℕ) : Type 0 where
  pub newest : ℕ
  pub is_newest : HasNewest image newest
  pub least : low ≤ newest
  pub most : newest ≤ collected_group o h
  pub only : (uber : Uber) → IsValid image uber → newest ≤ uber.group.0 + 2 → o.opened ≤ uber.group.0
  pub finds : (group : ℕ) → IsOpenable o newest group → Finds image group (contents_of layout o h group)
  pub opens : (group : ℕ) → IsOpenable o newest group → group < GROUPS_END → OpensAt image group layout

-- the places at which no group's words, table or slot lies
abbrev pub IsBeside : Layout → ℕ → Type 0
IsBeside layout p = (group : ℕ) → IsLeft (head_of layout) layout.vdevs group p

-- the device tells its bytes, and all that the group which is asked for keeps lies before its end: the premise of what is
-- said of stops
pub record IsWhole (start : DiskState) (at : At) : Type 0 where
  pub tells : Tells start
  pub lies : (uber : Uber) → IsAsked (bytes_of start) at uber → LiesIn (bytes_of start) uber

-- while the group that was asked for is made the only one: from the first flush on it is whole and valid, with no group that
-- was not valid before
pub record IsAskedAlways (at : At) (start now : DiskState) : Type 0 where
  pub uber : Uber
  pub asked : IsAsked (bytes_of start) at uber
  pub after_first : (t : ℕ) (rest : List ℕ) → now.flushes ≡ start.flushes ++ t ∷ rest → (c : List ℕ) → now.left_since t c → IsRewinding uber (bytes_of start) c

-- the device of a run, at every stop: from its first flush on the group that was asked for can still be opened as it was, or
-- the image remembers what was collected since; from the moment on at which the other groups were closed it remembers; and a
-- stop now leaves at least the last settled group
pub record IsAtEveryStop (at : At) (layout : Layout) (o : Origin) (h : List Noted) (start now : DiskState) : Type 0 where
  pub uber : Uber
  pub asked : IsAsked (bytes_of start) at uber
  pub named : uber.group.0 ≡ o.opened
  pub moment : ℕ
  pub ends : EndsAt uber start now moment
  pub early : moment ≤ now.moment
  pub rewinding : (t : ℕ) (rest : List ℕ) → now.flushes ≡ start.flushes ++ t ∷ rest → t ≤ moment
      → (c : List ℕ) → now.left_since t c → IsRewinding uber (bytes_of start) c ⊎ Remembers layout o h o.opened c
  pub since : (c : List ℕ) → now.left_since moment c → Remembers layout o h o.opened c
  pub left : (c : List ℕ) → now.may_leave c → Remembers layout o h (settled_group o h) c
