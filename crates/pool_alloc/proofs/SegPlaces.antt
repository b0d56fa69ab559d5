-- Where segments lie on a vdev, in units and in bytes.
use Rattle.std.proofs.Common.{◌≡◌, ℕ, zero, suc, ◌+◌, ◌-◌, ◌*◌, ◌/◌, ◌%◌, ◌^◌, ◌<◌, ◌≤◌, List, length, refl, sym, ap, subst, ◌∙◌, arith, inl, inr}
use Rattle.std.proofs.Math.Nat.{mul-le-mul_right, mul-div_cancel, mul-mod_left}
use Rattle.std.proofs.Math.Pow.{pow_mono}
use Rattle.std.proofs.lemmas.Bool.{cases_lt}
use Rattle.std.proofs.lemmas.Nat.{div-mul-add, mod-mul-add, div-add-mod', mod_below}
use Rattle.std.proofs.lemmas.List.Sums.{get_or-le-sum_by}
use Rattle.zms_units.specs.Limits.{IsShift}
use Rattle.zms_units.specs.declared.segments.Seg.{Seg}
use Rattle.zms_units.specs.declared.places.MsId.{MsId}
use Rattle.zms_units.specs.declared.places.VdevRow.{VdevRow}
use Rattle.vdev_map.specs.Numbers.{IsIn, row_at}
use Rattle.vdev_map.specs.Limits.{AreVdevs}
use Rattle.vdev_map.proofs.InOrder.{part_within, no_row}
use Rattle.pool_alloc.specs.Asks.{IsSegAt}

-- a block takes at least one unit, and few
pub some_units : (size u count : ℕ) → 0 < size → size ≤ count * u → 1 ≤ count
some_units size u zero some enough = absurd (omega arith)
some_units size u (suc count) some enough = omega arith

pub few_units : (size u count : ℕ) → 512 ≤ u → size ≤ 16777216 → count * u < size + u → count ≤ 131072
few_units size u count least most lt = elim (cases_lt 131072 count) [
  | inl above ↦ let many : 131073 * u ≤ count * u = mul-le-mul_right u (omega arith) in absurd (omega arith)
  | inr within ↦ within
]

-- a size that is so many units of u bytes, at an offset that is so many units behind i parts of n units
module _ (u n i start count offset size : ℕ) (some : 0 < u) (at : offset ≡ (i * n + start) * u) (long : size ≡ count * u) where
  pub offset_units : offset / u ≡ i * n + start
  offset_units = ap (λ (x : ℕ). x / u) at ∙ mul-div_cancel (i * n + start) some

  pub offset_whole : offset % u ≡ 0
  offset_whole = ap (λ (x : ℕ). x % u) at ∙ mul-mod_left (i * n + start) u

  pub size_units : size / u ≡ count
  size_units = ap (λ (x : ℕ). x / u) long ∙ mul-div_cancel count some

  pub size_whole : size % u ≡ 0
  size_whole = ap (λ (x : ℕ). x % u) long ∙ mul-mod_left count u

  pub part_is : start < n → offset / u / n ≡ i
  part_is lt = ap (λ (x : ℕ). x / n) offset_units ∙ div-mul-add i n start lt

  pub start_is : start < n → offset / u % n ≡ start
  start_is lt = ap (λ (x : ℕ). x % n) offset_units ∙ mod-mul-add i n start lt

positive_of : (size : ℕ) → (size ≡ 0 → ⊥) → 0 < size
positive_of zero some = absurd (some refl)
positive_of (suc size) some = omega arith

pub whole_units : (size u : ℕ) → size % u ≡ 0 → size ≡ size / u * u
whole_units size u whole = omega (arith, div-add-mod' size u, whole)

module _ (vdevs : List VdevRow) (ok : AreVdevs vdevs) where
  pub shift_of : (v : ℕ) → v < length vdevs → IsShift (row_at vdevs v).ashift
  shift_of v lt = let s = ok.shifts v lt in (s.least, s.most)

  pub unit_bytes : (v : ℕ) → v < length vdevs → 512 ≤ 2 ^ (row_at vdevs v).ashift
  unit_bytes v lt = let least : 2 ^ 9 ≤ 2 ^ (row_at vdevs v).ashift = pow_mono (ok.shifts v lt).least in omega arith

  -- the units of a vdev's metaslabs together
  pub unit_below : (id : MsId) (unit : ℕ) → IsIn vdevs id → unit < (row_at vdevs id.vdev).units → id.index * (row_at vdevs id.vdev).units + unit < 4194304
  unit_below id unit in_ lt =
      let row = row_at vdevs id.vdev in
      omega (arith, part_within id.index row.metaslabs row.units in_.index, get_or-le-sum_by (λ (r : VdevRow). r.metaslabs * r.units) vdevs id.vdev no_row in_.vdev, ok.units_in_all)

  -- what the numbers of a segment are, where units are of so many bytes and metaslabs of so many units
  module _ (v offset size unit n n2 : ℕ) (lt : v < length vdevs) (is : unit ≡ 1 * 2 ^ (row_at vdevs v).ashift) (n_is : n ≡ (row_at vdevs v).units) (n2_is : n2 ≡ (row_at vdevs v).units) where
    abbrev row : VdevRow
    row = row_at vdevs v

    power_is : unit ≡ 2 ^ row.ashift
    power_is = omega (arith, is)

    some_bytes : 0 < unit
    some_bytes = omega (arith, power_is, unit_bytes v lt)

    pub some_units_there : 0 < row.units
    some_units_there = omega (arith, (ok.units v lt).least)

    found_there : (size ≡ 0 → ⊥) → size % unit ≡ 0 → offset % unit ≡ 0 → offset / unit / row.units < row.metaslabs → size / unit ≤ row.units - offset / unit % row.units
        → IsSegAt vdevs v offset size (record { vdev = v; index = offset / unit / row.units }) (record { start = offset / unit % row.units; count = size / unit })
    found_there some whole at_whole inside fits =
        let long : size ≡ size / unit * unit = whole_units size unit whole in
        let place : offset ≡ offset / unit * unit = whole_units offset unit at_whole in
        let split : offset / unit / row.units * row.units + offset / unit % row.units ≡ offset / unit = div-add-mod' (offset / unit) row.units in
        let positive : 0 < size = positive_of size some in
        record {
          on = refl;
          is = record { vdev = lt; index = inside };
          within = record { some = some_units size unit (size / unit) positive (omega (arith, long)); within = omega (arith, fits, mod_below (offset / unit) row.units some_units_there) };
          offset_is = place ∙ (ap (λ (x : ℕ). x * unit) (sym split) ∙ ap (λ (u : ℕ). (offset / unit / row.units * row.units + offset / unit % row.units) * u) power_is);
          size_is = long ∙ ap (λ (u : ℕ). size / unit * u) power_is;
        }

    pub seg_there : (size ≡ 0 → ⊥) → size % unit ≡ 0 → offset % unit ≡ 0 → offset / unit / n < row.metaslabs → size / unit ≤ row.units - offset / unit % n2
        → IsSegAt vdevs v offset size (record { vdev = v; index = offset / unit / n }) (record { start = offset / unit % n2; count = size / unit })
    seg_there some whole at_whole inside fits =
        subst (λ (k : ℕ). IsSegAt vdevs v offset size (record { vdev = v; index = offset / unit / k }) (record { start = offset / unit % n2; count = size / unit })) (sym n_is)
        (subst (λ (k : ℕ). IsSegAt vdevs v offset size (record { vdev = v; index = offset / unit / row.units }) (record { start = offset / unit % k; count = size / unit })) (sym n2_is)
        (found_there some whole at_whole (subst (λ (k : ℕ). offset / unit / k < row.metaslabs) n_is inside) (subst (λ (k : ℕ). size / unit ≤ row.units - offset / unit % k) n2_is fits)))

    -- and of each segment there, all of this holds
    module _ (id : MsId) (seg : Seg) (at : IsSegAt vdevs v offset size id seg) where
      offset_is : offset ≡ (id.index * row.units + seg.start) * unit
      offset_is =
          at.offset_is
          ∙ (ap (λ (w : ℕ). (id.index * (row_at vdevs w).units + seg.start) * 2 ^ (row_at vdevs w).ashift) at.on
          ∙ ap (λ (u : ℕ). (id.index * row.units + seg.start) * u) (sym power_is))

      size_is : size ≡ seg.count * unit
      size_is = at.size_is ∙ ap (λ (u : ℕ). seg.count * u) (sym power_is)

      starts_below : seg.start < row.units
      starts_below = omega (arith, at.within.some, at.within.within)

      pub size_some : size ≡ 0 → ⊥
      size_some none = absurd (omega (arith, some_bytes, at.within.some, size_is, none, mul-le-mul_right unit at.within.some))

      pub is_whole : size % unit ≡ 0
      is_whole = size_whole unit row.units id.index seg.start seg.count offset size some_bytes offset_is size_is

      pub at_whole_is : offset % unit ≡ 0
      at_whole_is = offset_whole unit row.units id.index seg.start seg.count offset size some_bytes offset_is size_is

      pub is_inside : offset / unit / n < row.metaslabs
      is_inside =
          let index : id.index < row.metaslabs = subst (λ (w : ℕ). id.index < (row_at vdevs w).metaslabs) at.on at.is.index in
          let there : offset / unit / row.units ≡ id.index = part_is unit row.units id.index seg.start seg.count offset size some_bytes offset_is size_is starts_below in
          subst (λ (k : ℕ). k < row.metaslabs) (sym (ap (λ (k : ℕ). offset / unit / k) n_is ∙ there)) index

      pub is_fitting : size / unit ≤ row.units - offset / unit % n2
      is_fitting =
          let start : offset / unit % n2 ≡ seg.start = ap (λ (k : ℕ). offset / unit % k) n2_is ∙ start_is unit row.units id.index seg.start seg.count offset size some_bytes offset_is size_is starts_below in
          let count : size / unit ≡ seg.count = size_units unit row.units id.index seg.start seg.count offset size some_bytes offset_is size_is in
          omega (arith, at.within.within, start, count)
