use Rattle.std.specs.Prelude.{ℕ, ◌+◌, ◌<◌, ◌≤◌, Bool, ◌&&◌, nat_le, nat_lt, List, [], ◌∷◌}
use Rattle.std.specs.List.{list_any, sum_by}
use Rattle.zms_units.specs.declared.segments.Seg.{Seg}

-- the unit just past a segment
abbrev pub end_of : Seg → ℕ
end_of seg = seg.start + seg.count

-- does a segment cover a unit?
abbrev pub covers : Seg → ℕ → Bool
covers seg u = nat_le seg.start u && nat_lt u (end_of seg)

-- a segment covers a unit
abbrev pub Covers : Seg → ℕ → Type 0
Covers seg u = (seg.start ≤ u) × (u < end_of seg)

-- does some segment of a list cover a unit? A list of segments stands for the set of units that it covers
abbrev pub covered : List Seg → ℕ → Bool
covered segs u = list_any (λ seg. covers seg u) segs

-- how many units segments have together
abbrev pub total_of : List Seg → ℕ
total_of segs = sum_by (λ (seg : Seg). seg.count) segs

-- segments that are not empty, rise, do not overlap, begin at or after a unit, and end at or before another
abbrev pub AreRisingFrom : ℕ → ℕ → List Seg → Type 0
AreRisingFrom low high [] = low ≤ high
AreRisingFrom low high (seg ∷ segs) = (low ≤ seg.start) × ((0 < seg.count) × AreRisingFrom (end_of seg) high segs)

-- segments that are not empty, disjoint, rising and within so many units
abbrev pub AreSegs : ℕ → List Seg → Type 0
AreSegs units segs = AreRisingFrom 0 units segs
