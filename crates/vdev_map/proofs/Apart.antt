-- No two things on the device have a byte in common.
use Rattle.std.proofs.Common.{◌≡◌, inl, inr, ℕ, ◌+◌, ◌*◌, ◌%◌, ◌<◌, ◌≤◌, List, sym, ◌∙◌, ap, subst, arith}
use Rattle.std.proofs.lemmas.Bool.{cases_lt}
use Rattle.zms_units.specs.declared.places.MsId.{MsId}
use Rattle.zms_units.specs.declared.places.VdevRow.{VdevRow}
use Rattle.vdev_map.specs.Numbers.{IsIn, row_at}
use Rattle.vdev_map.specs.Places.{log_len, words_len, metaslab_len, metaslabs_place, row_place, place_of, len_of, IsPiece, AreSame, AreApart, IsApart}
use Rattle.vdev_map.specs.declared.layout.Form.{Form}
use Rattle.vdev_map.specs.declared.layout.Form.TheVariants.{Whole, Logged}
use Rattle.vdev_map.specs.declared.layout.Head.{Head}
use Rattle.vdev_map.specs.declared.places.Piece.{Piece}
use Rattle.vdev_map.specs.declared.places.Piece.TheVariants.{Front, Slot, Table, Log, WholeSlot, Side}
use Rattle.vdev_map.proofs.InOrder.{before_either, parts_within}

-- n parts of one length do not meet
parts_apart : (at len i j : ℕ) → (i ≡ j → ⊥) → AreApart (at + len * i) len (at + len * j) len
parts_apart at len i j differ = elim (cases_lt i j) [
  | inl lt ↦ inl (omega (arith, parts_within len i j lt))
  | inr ge ↦ elim (cases_lt j i) [
    | inl lt ↦ inr (omega (arith, parts_within len j i lt))
    | inr le ↦ absurd (differ (omega arith))
  ]
]

module _ (head : Head) (vdevs : List VdevRow) where
  -- where the metaslabs begin
  abbrev edge : ℕ
  edge = metaslabs_place head.form head.flush head.log

  -- five areas lie one behind the other: head, ring, tables, logs, metaslabs
  abbrev area : Piece → ℕ
  area Front = 0
  area (Slot group) = 1
  area (Table group) = 2
  area (Log group) = 3
  area (WholeSlot id group) = 4
  area (Side id side) = 4

  edge_logged : head.form ≡ Logged → edge ≡ 2232320 + log_len head.log * (head.flush + 4)
  edge_logged logged = ap (λ (form : Form). metaslabs_place form head.flush head.log) logged

  least_edge : (form : Form) → 2232320 ≤ metaslabs_place form head.flush head.log
  least_edge Whole = omega arith
  least_edge Logged = omega arith

  -- a thing begins behind the areas before its own
  pub record Begins (piece : Piece) : Type 0 where
    pub behind_head : 0 < area piece → 4096 ≤ place_of head vdevs piece
    pub behind_ring : 1 < area piece → 135168 ≤ place_of head vdevs piece
    pub behind_tables : 2 < area piece → 2232320 ≤ place_of head vdevs piece
    pub behind_logs : 3 < area piece → edge ≤ place_of head vdevs piece

  begins : (piece : Piece) → Begins piece
  begins Front = record { behind_head = λ lt. absurd (omega arith); behind_ring = λ lt. absurd (omega arith); behind_tables = λ lt. absurd (omega arith); behind_logs = λ lt. absurd (omega arith) }
  begins (Slot group) = record { behind_head = λ lt. omega arith; behind_ring = λ lt. absurd (omega arith); behind_tables = λ lt. absurd (omega arith); behind_logs = λ lt. absurd (omega arith) }
  begins (Table group) = record { behind_head = λ lt. omega arith; behind_ring = λ lt. omega arith; behind_tables = λ lt. absurd (omega arith); behind_logs = λ lt. absurd (omega arith) }
  begins (Log group) = record { behind_head = λ lt. omega arith; behind_ring = λ lt. omega arith; behind_tables = λ lt. omega arith; behind_logs = λ lt. absurd (omega arith) }
  begins (WholeSlot id group) = record { behind_head = λ lt. omega (arith, least_edge head.form); behind_ring = λ lt. omega (arith, least_edge head.form); behind_tables = λ lt. omega (arith, least_edge head.form); behind_logs = λ lt. omega arith }
  begins (Side id side) = record { behind_head = λ lt. omega (arith, least_edge head.form); behind_ring = λ lt. omega (arith, least_edge head.form); behind_tables = λ lt. omega (arith, least_edge head.form); behind_logs = λ lt. omega arith }

  -- and ends before those behind it
  ends : (piece other : Piece) → IsPiece head vdevs piece → area piece < area other → area other ≤ 4 → place_of head vdevs piece + len_of head vdevs piece ≤ place_of head vdevs other
  ends Front other in_ lt most = omega (arith, (begins other).behind_head lt)
  ends (Slot group) other in_ lt most = omega (arith, (begins other).behind_ring lt)
  ends (Table group) other in_ lt most = omega (arith, (begins other).behind_tables lt)
  ends (Log group) other in_ lt most =
      omega (arith, (begins other).behind_logs lt, edge_logged in_, parts_within (log_len head.log) (group.0 % (head.flush + 4)) (head.flush + 4) (omega arith))
  ends (WholeSlot id group) other in_ lt most = absurd (omega arith)
  ends (Side id side) other in_ lt most = absurd (omega arith)

  last_area : (piece : Piece) → area piece ≤ 4
  last_area Front = omega arith
  last_area (Slot group) = omega arith
  last_area (Table group) = omega arith
  last_area (Log group) = omega arith
  last_area (WholeSlot id group) = omega arith
  last_area (Side id side) = omega arith

  -- parts of metaslabs, of which each has n
  module _ (form : Form) (n : ℕ) (is : head.form ≡ form) (whole : (row : VdevRow) → metaslab_len head.form row ≡ n * words_len form row.units) where
    abbrev len_at : MsId → ℕ
    len_at id = words_len form (row_at vdevs id.vdev).units

    part_ends : (id : MsId) (i : ℕ) → i < n → row_place head vdevs id + len_at id * i + len_at id ≤ row_place head vdevs id + metaslab_len head.form (row_at vdevs id.vdev)
    part_ends id i lt = omega (arith, parts_within (len_at id) i n lt, whole (row_at vdevs id.vdev))

    metaslabs_apart : (id other : MsId) (i j : ℕ) → IsIn vdevs id → IsIn vdevs other → i < n → j < n → ((id ≡ other) × (i ≡ j) → ⊥)
        → AreApart (row_place head vdevs id + len_at id * i) (len_at id) (row_place head vdevs other + len_at other * j) (len_at other)
    metaslabs_apart id other i j in_ other_in lt other_lt differ = elim (before_either (metaslab_len head.form) vdevs id other in_ other_in) [
      | inl same ↦
          subst (λ (there : MsId). AreApart (row_place head vdevs id + len_at id * i) (len_at id) (row_place head vdevs there + len_at there * j) (len_at there)) same
          (parts_apart (row_place head vdevs id) (len_at id) i j (λ equal. differ (same, equal)))
      | inr apart ↦ elim apart [
        | inl below ↦ inl (omega (arith, below, part_ends id i lt))
        | inr above ↦ inr (omega (arith, above, part_ends other j other_lt))
      ]
    ]

  whole_parts : head.form ≡ Whole → (row : VdevRow) → metaslab_len head.form row ≡ 8 * words_len Whole row.units
  whole_parts is row = ap (λ (form : Form). metaslab_len form row) is

  logged_parts : head.form ≡ Logged → (row : VdevRow) → metaslab_len head.form row ≡ 2 * words_len Logged row.units
  logged_parts is row = ap (λ (form : Form). metaslab_len form row) is

  -- things of one area
  apart_there : (piece other : Piece) → IsPiece head vdevs piece → IsPiece head vdevs other → area piece ≡ area other → (AreSame head piece other → ⊥) → AreApart (place_of head vdevs piece) (len_of head vdevs piece) (place_of head vdevs other) (len_of head vdevs other)
  apart_there Front Front in_ other_in same differ = absurd (differ tt)
  apart_there (Slot group) (Slot other) in_ other_in same differ = parts_apart 4096 1024 (group.0 % 128) (other.0 % 128) differ
  apart_there (Table group) (Table other) in_ other_in same differ = parts_apart 135168 262144 (group.0 % 8) (other.0 % 8) differ
  apart_there (Log group) (Log other) in_ other_in same differ = parts_apart 2232320 (log_len head.log) (group.0 % (head.flush + 4)) (other.0 % (head.flush + 4)) differ
  apart_there (WholeSlot id group) (WholeSlot other_id other) in_ other_in same differ =
      metaslabs_apart Whole 8 in_.0 (whole_parts in_.0) id other_id (group.0 % 8) (other.0 % 8) in_.1 other_in.1 (omega arith) (omega arith) differ
  apart_there (Side id side) (Side other_id other) in_ other_in same differ =
      metaslabs_apart Logged 2 in_.0 (logged_parts in_.0) id other_id side other in_.1.0 other_in.1.0 (omega arith) (omega arith) differ
  apart_there (WholeSlot id group) (Side other_id other) in_ other_in same differ = let both : Whole ≡ Logged = sym in_.0 ∙ other_in.0 in cc
  apart_there (Side id side) (WholeSlot other_id other) in_ other_in same differ = let both : Whole ≡ Logged = sym other_in.0 ∙ in_.0 in cc
  apart_there _ _ in_ other_in same differ = absurd (omega arith)

  pub is_apart : (piece : Piece) (at len : ℕ) → IsPiece head vdevs piece → at ≡ place_of head vdevs piece → len ≡ len_of head vdevs piece → IsApart head vdevs piece at len
  is_apart piece at len in_ place size other other_in differ = rw (place, size) (elim (cases_lt (area piece) (area other)) [
    | inl lt ↦ inl (ends piece other in_ lt (last_area other))
    | inr ge ↦ elim (cases_lt (area other) (area piece)) [
      | inl lt ↦ inr (ends other piece other_in lt (last_area piece))
      | inr le ↦ apart_there piece other in_ other_in (omega arith) differ
    ]
  ])
