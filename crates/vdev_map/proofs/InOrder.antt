-- Metaslabs in order: what stands before each, and that no two share any of it.
use Rattle.std.proofs.Common.{◌≡◌, ◌⊎◌, inl, inr, ℕ, ◌+◌, ◌*◌, ◌<◌, ◌≤◌, List, length, take, sym, ap, arith}
use Rattle.std.specs.List.{sum_by}
use Rattle.std.proofs.Math.Nat.{mul-le-mul_left, mul-le-mul_right, add-mul, mul-add}
use Rattle.std.proofs.lemmas.Bool.{cases_lt}
use Rattle.std.proofs.lemmas.List.{get_or-take, length-take-le, take-take}
use Rattle.std.proofs.lemmas.List.Sums.{sum_by_more, sum_by_more_le}
use Rattle.zms_units.specs.declared.places.Class.TheVariants.{Normal}
use Rattle.zms_units.specs.declared.places.MsId.{MsId}
use Rattle.zms_units.specs.declared.places.VdevRow.{VdevRow}
use Rattle.vdev_map.specs.Numbers.{row_at, IsIn, before, in_all, number_of}

pub product_le : (a b c d : ℕ) → a ≤ c → b ≤ d → a * b ≤ c * d
product_le a b c d first second =
    let one : a * b ≤ c * b = mul-le-mul_right b first in
    let two : c * b ≤ c * d = mul-le-mul_left c second in
    omega arith

-- one more part, of a row of equal parts
pub part_within : (i n a : ℕ) → i < n → i * a + a ≤ n * a
part_within i n a lt =
    let whole : (i + 1) * a ≤ n * a = mul-le-mul_right a (omega arith) in
    let split : (i + 1) * a ≡ i * a + 1 * a = add-mul i 1 a in
    omega arith

-- the same for parts that are counted on the other side
pub parts_within : (a i n : ℕ) → i < n → a * i + a ≤ a * n
parts_within a i n lt =
    let whole : a * (i + 1) ≤ a * n = mul-le-mul_left a (omega arith) in
    let split : a * (i + 1) ≡ a * i + a * 1 = mul-add a i 1 in
    omega arith

abbrev pub no_row : VdevRow
no_row = record { class = Normal; ashift = 0; units = 0; metaslabs = 0 }

module _ (amount : VdevRow → ℕ) (vdevs : List VdevRow) where
  abbrev all_of : VdevRow → ℕ
  all_of row = row.metaslabs * amount row

  abbrev amount_at : MsId → ℕ
  amount_at id = amount (row_at vdevs id.vdev)

  -- a metaslab ends before the next vdev begins
  before_next_vdev : (id : MsId) → IsIn vdevs id → before amount vdevs id + amount_at id ≤ sum_by all_of (take (id.vdev + 1) vdevs)
  before_next_vdev id in_ =
      omega (arith, sum_by_more all_of vdevs id.vdev no_row in_.vdev, part_within id.index (row_at vdevs id.vdev).metaslabs (amount_at id) in_.index)

  pub before_within : (id : MsId) → IsIn vdevs id → before amount vdevs id + amount_at id ≤ in_all amount vdevs
  before_within id in_ =
      omega (arith, sum_by_more_le all_of vdevs id.vdev no_row in_.vdev, part_within id.index (row_at vdevs id.vdev).metaslabs (amount_at id) in_.index)

  -- the sums over more vdevs are no less
  sums_rise : (v w : ℕ) → v < w → w ≤ length vdevs → sum_by all_of (take (v + 1) vdevs) ≤ sum_by all_of (take w vdevs)
  sums_rise v w lt within =
      let inner = sum_by_more_le all_of (take w vdevs) v no_row (omega (arith, length-take-le w vdevs within)) in
      let first : sum_by all_of (take v (take w vdevs)) ≡ sum_by all_of (take v vdevs) = ap (λ (xs : List VdevRow). sum_by all_of xs) (take-take v w vdevs (omega arith)) in
      let row : all_of (row_at (take w vdevs) v) ≡ all_of (row_at vdevs v) = ap all_of (get_or-take w vdevs v no_row lt) in
      omega (arith, inner, first, row, sum_by_more all_of vdevs v no_row (omega arith))

  before_later_vdev : (id other : MsId) → IsIn vdevs id → IsIn vdevs other → id.vdev < other.vdev → before amount vdevs id + amount_at id ≤ before amount vdevs other
  before_later_vdev id other in_ other_in lt = omega (arith, before_next_vdev id in_, sums_rise id.vdev other.vdev lt (omega (arith, other_in.vdev)))

  before_later_index : (id other : MsId) → id.vdev ≡ other.vdev → id.index < other.index → before amount vdevs id + amount_at id ≤ before amount vdevs other
  before_later_index id other same lt =
      let sums : sum_by all_of (take id.vdev vdevs) ≡ sum_by all_of (take other.vdev vdevs) = ap (λ (v : ℕ). sum_by all_of (take v vdevs)) same in
      let amounts : amount_at id ≡ amount_at other = ap (λ (v : ℕ). amount (row_at vdevs v)) same in
      let parts : id.index * amount_at id + amount_at id ≤ other.index * amount_at id = part_within id.index other.index (amount_at id) lt in
      let there : other.index * amount_at id ≡ other.index * amount_at other = ap (λ (a : ℕ). other.index * a) amounts in
      omega arith

  -- of two metaslabs one ends before the other begins, or they are one
  pub before_either : (id other : MsId) → IsIn vdevs id → IsIn vdevs other
      → (id ≡ other) ⊎ ((before amount vdevs id + amount_at id ≤ before amount vdevs other) ⊎ (before amount vdevs other + amount_at other ≤ before amount vdevs id))
  before_either id other in_ other_in = elim (cases_lt id.vdev other.vdev) [
    | inl lt ↦ inr (inl (before_later_vdev id other in_ other_in lt))
    | inr ge ↦ elim (cases_lt other.vdev id.vdev) [
      | inl lt ↦ inr (inr (before_later_vdev other id other_in in_ lt))
      | inr le ↦
          let same : id.vdev ≡ other.vdev = omega arith in
          elim (cases_lt id.index other.index) [
            | inl lt ↦ inr (inl (before_later_index id other same lt))
            | inr ge' ↦ elim (cases_lt other.index id.index) [
              | inl lt ↦ inr (inr (before_later_index other id (sym same) lt))
              | inr le' ↦
                  let index : id.index ≡ other.index = omega arith in
                  inl (λ i. record { vdev = same i; index = index i })
            ]
          ]
    ]
  ]

-- no two metaslabs have one number
pub one_number : (vdevs : List VdevRow) (id other : MsId) → IsIn vdevs id → IsIn vdevs other → number_of vdevs other ≡ number_of vdevs id → other ≡ id
one_number vdevs id other in_ other_in same = elim (before_either (λ _. 1) vdevs other id other_in in_) [
  | inl one ↦ one
  | inr apart ↦ elim apart [ inl below ↦ absurd (omega arith) | inr above ↦ absurd (omega arith) ]
]
