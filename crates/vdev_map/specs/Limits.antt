-- What a layout may be.
use Rattle.std.specs.Prelude.{◌≡◌, ℕ, ◌<◌, ◌≤◌, ◌⊎◌, List, length}
use Rattle.zms_units.specs.declared.places.Class.TheVariants.{Normal}
use Rattle.zms_units.specs.declared.places.VdevRow.{VdevRow}
use Rattle.vdev_map.specs.Numbers.{row_at, metaslabs_in, units_in}
use Rattle.vdev_map.specs.declared.layout.Head.{Head}
use Rattle.vdev_map.specs.declared.layout.Layout.{Layout}
use Rattle.vdev_map.specs.declared.layout.LayoutFault.{LayoutFault}
use Rattle.vdev_map.specs.declared.layout.LayoutFault.TheVariants.{Flush, Log, Vdevs, Ashift, Units, Metaslabs, TotalUnits, TotalMetaslabs, NoNormal}

-- for how many groups a metaslab may stay unflushed
pub record IsFlush (flush : ℕ) : Type 0 where
  pub least : 2 ≤ flush
  pub most : flush ≤ 32

-- how many runs a group may log
pub record IsLog (log : ℕ) : Type 0 where
  pub least : 64 ≤ log
  pub most : log ≤ 65536

-- how many vdevs there may be
pub record IsVdevCount (count : ℕ) : Type 0 where
  pub least : 1 ≤ count
  pub most : count ≤ 16

-- a unit has 512 to 4096 bytes
pub record IsShift (ashift : ℕ) : Type 0 where
  pub least : 9 ≤ ashift
  pub most : ashift ≤ 12

-- how many units a metaslab may have
pub record IsUnits (units : ℕ) : Type 0 where
  pub least : 64 ≤ units
  pub most : units ≤ 131072

-- each row has P
abbrev pub EachRow : (VdevRow → Type 0) → List VdevRow → Type 0
EachRow P vdevs = (v : ℕ) → v < length vdevs → P (row_at vdevs v)

-- some vdev is normal
abbrev pub HasNormal : List VdevRow → Type 0
HasNormal vdevs = (v : ℕ) × ((v < length vdevs) × ((row_at vdevs v).class ≡ Normal))

-- what a head may say
pub record IsHead (head : Head) : Type 0 where
  pub flush : IsFlush head.flush
  pub log : IsLog head.log

-- what vdevs a pool may have
pub record AreVdevs (vdevs : List VdevRow) : Type 0 where
  pub count : IsVdevCount (length vdevs)
  pub shifts : EachRow (λ row. IsShift row.ashift) vdevs
  pub units : EachRow (λ row. IsUnits row.units) vdevs
  pub metaslabs : EachRow (λ row. 1 ≤ row.metaslabs) vdevs
  pub units_in_all : units_in vdevs ≤ 4194304
  pub metaslabs_in_all : metaslabs_in vdevs ≤ 1024
  pub normal : HasNormal vdevs

-- a layout within the limits
pub record IsLayout (layout : Layout) : Type 0 where
  pub flush : IsFlush layout.flush
  pub log : IsLog layout.log
  pub vdevs : AreVdevs layout.vdevs

-- the vdev has P no more
abbrev pub Lacks : (VdevRow → Type 0) → List VdevRow → ℕ → Type 0
Lacks P vdevs v = (v < length vdevs) × (P (row_at vdevs v) → ⊥)

-- the layout passes the limit that a fault names
abbrev pub Passes : Layout → LayoutFault → Type 0
Passes layout Flush = IsFlush layout.flush → ⊥
Passes layout Log = IsLog layout.log → ⊥
Passes layout Vdevs = IsVdevCount (length layout.vdevs) → ⊥
Passes layout (Ashift vdev) = Lacks (λ row. IsShift row.ashift) layout.vdevs vdev
Passes layout (Units vdev) = Lacks (λ row. IsUnits row.units) layout.vdevs vdev
Passes layout (Metaslabs vdev) = Lacks (λ row. 1 ≤ row.metaslabs) layout.vdevs vdev
Passes layout TotalUnits = 4194304 < units_in layout.vdevs
Passes layout TotalMetaslabs = 1024 < metaslabs_in layout.vdevs
Passes layout NoNormal = HasNormal layout.vdevs → ⊥

-- the place of a fault's kind in the order in which they are told
abbrev pub kind_of : LayoutFault → ℕ
kind_of Flush = 0
kind_of Log = 1
kind_of Vdevs = 2
kind_of (Ashift vdev) = 3
kind_of (Units vdev) = 4
kind_of (Metaslabs vdev) = 5
kind_of TotalUnits = 6
kind_of TotalMetaslabs = 7
kind_of NoNormal = 8

-- the vdev that a fault names, 0 where it names none
abbrev pub vdev_of : LayoutFault → ℕ
vdev_of Flush = 0
vdev_of Log = 0
vdev_of Vdevs = 0
vdev_of (Ashift vdev) = vdev
vdev_of (Units vdev) = vdev
vdev_of (Metaslabs vdev) = vdev
vdev_of TotalUnits = 0
vdev_of TotalMetaslabs = 0
vdev_of NoNormal = 0

-- one fault is told before another
abbrev pub ComesBefore : LayoutFault → LayoutFault → Type 0
ComesBefore one other = (kind_of one < kind_of other) ⊎ ((kind_of one ≡ kind_of other) × (vdev_of one < vdev_of other))

-- the first limit that the layout passes
pub record IsFirstFault (layout : Layout) (fault : LayoutFault) : Type 0 where
  pub passes : Passes layout fault
  pub first : (other : LayoutFault) → ComesBefore other fault → Passes layout other → ⊥

-- each row before this one has P, and this one has it not
pub record IsFirstLacking (P : VdevRow → Type 0) (vdevs : List VdevRow) (v : ℕ) : Type 0 where
  pub within : v < length vdevs
  pub before : (k : ℕ) → k < v → P (row_at vdevs k)
  pub lacks : P (row_at vdevs v) → ⊥

-- the limits on numbers that stand alone are kept
pub record AreNumbers (layout : Layout) : Type 0 where
  pub flush : IsFlush layout.flush
  pub log : IsLog layout.log
  pub count : IsVdevCount (length layout.vdevs)

-- the limits on each vdev are kept
pub record AreRows (vdevs : List VdevRow) : Type 0 where
  pub shifts : EachRow (λ row. IsShift row.ashift) vdevs
  pub units : EachRow (λ row. IsUnits row.units) vdevs
  pub metaslabs : EachRow (λ row. 1 ≤ row.metaslabs) vdevs
