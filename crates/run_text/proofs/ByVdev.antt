-- The counts of a vdev, among those of all.
use Rattle.std.proofs.Common.{◌≡◌, ℕ, ◌+◌, ◌*◌, ◌<◌, ◌≤◌, Bool, List, [], ◌∷◌, length, get_or, zero, suc, take, drop, refl, ◌∙◌, ap, arith}
use Rattle.std.specs.Prelude.{◌||◌}
use Rattle.std.specs.List.{list_any}
use Rattle.std.proofs.lemmas.List.{drop-drop, get_or-take, get_or-drop}
use Rattle.std.proofs.lemmas.List.Sums.{sum_by-cons, sum_by_more_le}
use Rattle.zms_units.specs.declared.places.VdevRow.{VdevRow}
use Rattle.ms_core.specs.declared.faults.Counts.{Counts}
use Rattle.vdev_map.specs.Numbers.{row_at, number_of, metaslabs_in}
use Rattle.vdev_map.proofs.InOrder.{no_row}
use Rattle.run_text.specs.Tallies.{VdevCounts, by_vdev, StandByNumber}

-- any vdev
abbrev pub no_vdev : VdevCounts
no_vdev = record { row = no_row; counts = [] }

pub length-by_vdev : (rows : List VdevRow) (counts : List Counts) → length (by_vdev rows counts) ≡ length rows
length-by_vdev [] counts = refl
length-by_vdev (row ∷ rows) counts = ap (λ n. suc n) (length-by_vdev rows (drop row.metaslabs counts))

-- those of a vdev stand behind those of the vdevs before it
pub by_vdev_at : (rows : List VdevRow) (counts : List Counts) (v : ℕ) (none : VdevCounts) → v < length rows
    → get_or (by_vdev rows counts) v none ≡ record { row = row_at rows v; counts = take (row_at rows v).metaslabs (drop (metaslabs_in (take v rows)) counts) }
by_vdev_at [] counts v none lt = absurd (omega arith)
by_vdev_at (row ∷ rows) counts zero none lt = refl
by_vdev_at (row ∷ rows) counts (suc v) none lt =
    let more : row.metaslabs + metaslabs_in (take v rows) ≡ metaslabs_in (row ∷ take v rows) =
    omega (arith, sum_by-cons (λ (row : VdevRow). row.metaslabs * 1) row (take v rows)) in
    by_vdev_at rows (drop row.metaslabs counts) v none (omega arith)
    ∙ ap (λ (l : List Counts). record { row = row_at rows v; counts = take (row_at rows v).metaslabs l })
    (drop-drop (metaslabs_in (take v rows)) row.metaslabs counts ∙ ap (λ n. drop n counts) more)

-- and those of a metaslab at its number
pub counts_at : (rows : List VdevRow) (counts : List Counts) → StandByNumber rows counts
counts_at rows counts id none no_counts in_ =
    let number : metaslabs_in (take id.vdev rows) + id.index ≡ number_of rows id = omega arith in
    ap (λ (vdev : VdevCounts). get_or vdev.counts id.index no_counts) (by_vdev_at rows counts id.vdev none in_.vdev)
    ∙ get_or-take (row_at rows id.vdev).metaslabs (drop (metaslabs_in (take id.vdev rows)) counts) id.index no_counts in_.index
    ∙ get_or-drop (metaslabs_in (take id.vdev rows)) counts id.index no_counts
    ∙ ap (λ (n : ℕ). get_or counts n no_counts) number

-- the vdevs before one and itself have no more metaslabs than all
pub within : (rows : List VdevRow) (v : ℕ) → v < length rows → metaslabs_in (take v rows) + (row_at rows v).metaslabs ≤ metaslabs_in rows
within rows v lt = omega (arith, sum_by_more_le (λ (row : VdevRow). row.metaslabs * 1) rows v no_row lt)

-- whatever was counted, the vdevs are of their classes
pub any_row : (p : VdevRow → Bool) (rows : List VdevRow) (counts : List Counts) → list_any (λ (vdev : VdevCounts). p vdev.row) (by_vdev rows counts) ≡ list_any p rows
any_row p [] counts = refl
any_row p (row ∷ rows) counts = ap (λ (b : Bool). p row || b) (any_row p rows (drop row.metaslabs counts))
