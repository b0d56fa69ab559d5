-- What the definitions are to mean: the statements of the laws.
use Rattle.std.specs.Prelude.{◌≡◌, ℕ, ◌<◌, List}
use Rattle.zms_units.specs.declared.places.MsId.{MsId}
use Rattle.vdev_map.specs.Numbers.{IsIn, row_at}
use Rattle.vdev_map.specs.declared.layout.Layout.{Layout}
use Rattle.vdev_map.specs.declared.table.Table.{Table}
use Rattle.meta_store.specs.Causes.{Shows}
use Rattle.meta_store.specs.Groups.{Contents, Finds}
use Rattle.meta_store.specs.Stores.{Opens}
use Rattle.meta_store.specs.declared.causes.At.{At}
use Rattle.meta_store.specs.declared.causes.OpenCause.{OpenCause}

-- one layout, and the same units are held
pub record SameContents (one other : Contents) : Type 0 where
  pub layout : one.layout ≡ other.layout
  pub held : (id : MsId) (u : ℕ) → IsIn one.layout.vdevs id → u < (row_at one.layout.vdevs id.vdev).units → one.held id u ≡ other.held id u

-- what a group finds is certain
abbrev pub FoundIsCertain : Type 0
FoundIsCertain = (image : List ℕ) (group : ℕ) (one other : Contents) → Finds image group one → Finds image group other → SameContents one other

-- an image shows one cause
abbrev pub CauseIsCertain : Type 0
CauseIsCertain = (image : List ℕ) (at : At) (one other : OpenCause) → Shows image at one → Shows image at other → one ≡ other

-- and none where it opens
abbrev pub OpensWithoutCause : Type 0
OpensWithoutCause = (image : List ℕ) (at : At) (layout : Layout) (table : Table) (cause : OpenCause) → Opens image at layout table → Shows image at cause → ⊥
