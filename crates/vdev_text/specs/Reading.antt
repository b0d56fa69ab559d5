-- What the readers say of a text.
use Rattle.std.specs.Prelude.{◌≡◌, ℕ, ◌≤◌, List, [], ◌∷◌, ◌++◌, length}
use Rattle.std.specs.List.{All}
use Rattle.zms_units.specs.declared.places.VdevRow.{VdevRow}
use Rattle.vdev_map.specs.Limits.{IsVdevCount, HasNormal}
use Rattle.vdev_map.specs.Numbers.{units_in, metaslabs_in}
use Rattle.vdev_text.specs.Specs.{IsVdev, vdev_text, spec_text}

-- the text is that of these vdevs, of which each keeps its own limits
pub record IsRead (text : List ℕ) (rows : List VdevRow) : Type 0 where
  pub count : IsVdevCount (length rows)
  pub each : All IsVdev rows
  pub text_is : spec_text rows ≡ text

-- the vdevs keep the limits on all of them together
pub record AreFew (rows : List VdevRow) : Type 0 where
  pub units : units_in rows ≤ 4194304
  pub metaslabs : metaslabs_in rows ≤ 1024
  pub normal : HasNormal rows

-- the text is that of a vdev, which stands behind the others now
pub record Adds (old : List VdevRow) (text : List ℕ) (new : List VdevRow) : Type 0 where
  pub row : VdevRow
  pub is : IsVdev row
  pub text_is : vdev_text row ≡ text
  pub new_is : new ≡ old ++ row ∷ []
  pub few : length new ≤ 16

-- the text is that of no vdev, or there is no room for it
abbrev pub Refuses : List VdevRow → List ℕ → Type 0
Refuses old text = (row : VdevRow) → IsVdev row → vdev_text row ≡ text → 16 ≤ length old
