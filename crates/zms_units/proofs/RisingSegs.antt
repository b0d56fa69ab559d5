-- Segments that rise: what they cover, and a segment that comes to its place among them.
use Rattle.std.proofs.Common.{◌≡◌, ℕ, zero, suc, ◌≤◌, ◌<◌, false, List, [], ◌∷◌, length, get_or, take, drop, refl, arith}
use Rattle.zms_units.specs.declared.segments.Seg.{Seg}
use Rattle.zms_units.specs.Segments.{end_of, covers, covered, AreRisingFrom}
use Rattle.zms_units.proofs.Bools.{or_none}
use Rattle.zms_units.proofs.Covers.{covers_low, covers_high}

pub rising_order : (low high : ℕ) (segs : List Seg) → AreRisingFrom low high segs → low ≤ high
rising_order low high [] a = a
rising_order low high (s ∷ ss) a = omega (arith, rising_order (end_of s) high ss a.1.1)

pub rising_low : (low low' high : ℕ) (segs : List Seg) → low ≤ low' → AreRisingFrom low' high segs → AreRisingFrom low high segs
rising_low low low' high [] le a = omega arith
rising_low low low' high (s ∷ ss) le a = (omega arith, a.1)

pub rising_below : (low high : ℕ) (segs : List Seg) → AreRisingFrom low high segs → (u : ℕ) → u < low → covered segs u ≡ false
rising_below low high [] a u l = refl
rising_below low high (s ∷ ss) a u l =
    or_none (covers s u) (covered ss u) (covers_low s u (omega arith)) (rising_below (end_of s) high ss a.1.1 u (omega arith))

pub rising_above : (low high : ℕ) (segs : List Seg) → AreRisingFrom low high segs → (u : ℕ) → high ≤ u → covered segs u ≡ false
rising_above low high [] a u l = refl
rising_above low high (s ∷ ss) a u l =
    or_none (covers s u) (covered ss u) (covers_high s u (omega (arith, rising_order (end_of s) high ss a.1.1))) (rising_above (end_of s) high ss a.1.1 u l)

pub rising_at : (low high : ℕ) (segs : List Seg) (k : ℕ) (d : Seg) → AreRisingFrom low high segs → k < length segs
    → (low ≤ (get_or segs k d).start) × (0 < (get_or segs k d).count) × (end_of (get_or segs k d) ≤ high)
rising_at low high [] k d a l = absurd (omega arith)
rising_at low high (s ∷ ss) zero d a l = (a.0, a.1.0, rising_order (end_of s) high ss a.1.1)
rising_at low high (s ∷ ss) (suc k) d a l =
    let t = rising_at (end_of s) high ss k d a.1.1 (omega arith) in
    (omega arith, t.1, t.2)

-- those before a place lie below what stands there
pub rising_front : (low high : ℕ) (segs : List Seg) (k : ℕ) (d : Seg) → AreRisingFrom low high segs → k < length segs
    → (u : ℕ) → (get_or segs k d).start ≤ u → covered (take k segs) u ≡ false
rising_front low high [] k d a l u h = absurd (omega arith)
rising_front low high (s ∷ ss) zero d a l u h = refl
rising_front low high (s ∷ ss) (suc k) d a l u h =
    let t = rising_at (end_of s) high ss k d a.1.1 (omega arith) in
    or_none (covers s u) (covered (take k ss) u) (covers_high s u (omega arith)) (rising_front (end_of s) high ss k d a.1.1 (omega arith) u h)

pub rising_drop : (low high : ℕ) (segs : List Seg) (k : ℕ) (d : Seg) → AreRisingFrom low high segs → k < length segs
    → AreRisingFrom (end_of (get_or segs k d)) high (drop (suc k) segs)
rising_drop low high [] k d a l = absurd (omega arith)
rising_drop low high (s ∷ ss) zero d a l = a.1.1
rising_drop low high (s ∷ ss) (suc k) d a l = rising_drop (end_of s) high ss k d a.1.1 (omega arith)

pub rising_high : (low high high' : ℕ) (segs : List Seg) → high ≤ high' → AreRisingFrom low high segs → AreRisingFrom low high' segs
rising_high low high high' [] le a = omega arith
rising_high low high high' (s ∷ ss) le a = (a.0, (a.1.0, rising_high (end_of s) high high' ss le a.1.1))
