-- The entries of batches fit their bits.
use Rattle.std.proofs.Common.{◌≡◌, ℕ, ◌+◌, ◌-◌, ◌*◌, ◌<◌, ◌≤◌, ◌^◌, Bool, true, false, List, [], ◌∷◌, map, refl, arith, lit<}
use Rattle.std.specs.Prelude.{if◌then◌else◌, nat_le}
use Rattle.std.specs.List.{All}
use Rattle.std.proofs.lemmas.Bool.{leb-true}
use Rattle.std.proofs.lemmas.List.Elements.{All-cons, All-nil}
use Rattle.std.proofs.lemmas.Nat.{mul-le, pow_pos}
use Rattle.std.proofs.Math.Pow.{pow_mono}
use Rattle.zms_units.specs.declared.segments.Seg.{Seg}
use Rattle.zms_units.specs.Segments.{AreRisingFrom, AreSegs, end_of}
use Rattle.sm_entry.specs.Grammar.{IsFitting, type_bit}
use Rattle.sm_entry.specs.declared.SmType.{SmType}
use Rattle.sm_entry.specs.declared.SmType.TheVariants.{Alloc, Free}
use Rattle.sm_entry.specs.declared.Entry.TheVariants.{One, Two, Debug}
use Rattle.space_map.specs.declared.places.Place.{Place}
use Rattle.space_map.specs.declared.places.Place.TheVariants.{Side, Log}
use Rattle.space_map.specs.Batches.{batch, entry_of, sectors}
use Rattle.space_map.proofs.Batching.{rising_order}

type_fits : (kind : SmType) → type_bit kind < 4
type_fits Alloc = lit< tt
type_fits Free = lit< tt

-- the entry of a run of a side
side_fits : (before : ℕ) (kind : SmType) (run : Seg) → 0 < run.count → end_of run < 2 ^ 32 → IsFitting (entry_of (Side before) kind run)
side_fits before kind run some within = by_size (nat_le run.count 32768) refl where
  by_size : (short : Bool) → nat_le run.count 32768 ≡ short → IsFitting (if short then One run.start run.count kind else Two 0 run.start run.count kind)
  by_size true short = (omega arith, record { some = omega arith; within = omega (arith, leb-true run.count 32768 short) })
  by_size false long = (omega arith, (omega arith, record { some = omega arith; within = omega arith }))

-- a unit has 1 to 8 sectors
sectors_some : (ashift : ℕ) → 0 < sectors ashift
sectors_some ashift = pow_pos (ashift - 9)

sectors_few : (ashift : ℕ) → ashift ≤ 12 → sectors ashift ≤ 8
sectors_few ashift most = let below : ashift - 9 ≤ 3 = omega arith in pow_mono below

-- the entry of a run in a log
log_fits : (vdev start_sector ashift : ℕ) (kind : SmType) (units : ℕ) (run : Seg) → vdev < 2 ^ 24 → ashift ≤ 12 → start_sector + units * sectors ashift < 2 ^ 63
    → 0 < run.count → end_of run ≤ units → units < 2 ^ 32 → IsFitting (entry_of (Log vdev start_sector ashift) kind run)
log_fits vdev start_sector ashift kind units run named most ends some within few =
    let size = sectors ashift in
    let before : run.start * size ≤ units * size = mul-le run.start size units size (omega arith) (omega arith) in
    let least : 1 * 1 ≤ run.count * size = mul-le 1 1 run.count size (omega arith) (sectors_some ashift) in
    let longest : run.count * size ≤ 2 ^ 32 * 8 = mul-le run.count size (2 ^ 32) 8 (omega arith) (sectors_few ashift most) in
    (named, (omega arith, record { some = omega arith; within = omega arith }))

-- entries of runs that fit one by one
entries_fit : (place : Place) (kind : SmType) (units low : ℕ) (runs : List Seg) → ((run : Seg) → 0 < run.count → end_of run ≤ units → IsFitting (entry_of place kind run))
    → AreRisingFrom low units runs → All IsFitting (map (entry_of place kind) runs)
entries_fit place kind units low [] fits rising = All-nil IsFitting
entries_fit place kind units low (run ∷ runs) fits rising =
    All-cons IsFitting (entry_of place kind run) (map (entry_of place kind) runs) (fits run rising.1.0 (rising_order (end_of run) units runs rising.1.1))
    (entries_fit place kind units (end_of run) runs fits rising.1.1)

batch_fits : (place : Place) (group : ℕ) (kind : SmType) (units : ℕ) (runs : List Seg) → group < 2 ^ 50 → ((run : Seg) → 0 < run.count → end_of run ≤ units → IsFitting (entry_of place kind run))
    → AreSegs units runs → All IsFitting (batch place group kind runs)
batch_fits place group kind units [] named fits segs = All-nil IsFitting
batch_fits place group kind units (run ∷ runs) named fits segs =
    All-cons IsFitting (Debug (type_bit kind) 1 group) (map (entry_of place kind) (run ∷ runs)) (type_fits kind, (lit< tt, named)) (entries_fit place kind units 0 (run ∷ runs) fits segs)

-- a batch on a side
pub side_batch_fits : (before group : ℕ) (kind : SmType) (units : ℕ) (runs : List Seg) → group < 2 ^ 50 → AreSegs units runs → units < 2 ^ 32 → All IsFitting (batch (Side before) group kind runs)
side_batch_fits before group kind units runs named segs few =
    batch_fits (Side before) group kind units runs named (λ run some within. side_fits before kind run some (omega arith)) segs

-- a batch in a log
pub log_batch_fits : (vdev start_sector ashift group : ℕ) (kind : SmType) (units : ℕ) (runs : List Seg) → vdev < 2 ^ 24 → ashift ≤ 12 → start_sector + units * sectors ashift < 2 ^ 63
    → group < 2 ^ 50 → AreSegs units runs → units < 2 ^ 32 → All IsFitting (batch (Log vdev start_sector ashift) group kind runs)
log_batch_fits vdev start_sector ashift group kind units runs named most ends in_group segs few =
    batch_fits (Log vdev start_sector ashift) group kind units runs in_group (λ run some within. log_fits vdev start_sector ashift kind units run named most ends some within few) segs
