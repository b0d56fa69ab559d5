-- Entries and the words that say them.
use Rattle.std.proofs.Common.{◌≡◌, ℕ, ◌+◌, ◌-◌, ◌<◌, ◌≤◌, List, [], ◌∷◌, ◌++◌, length, slice_index, take, drop, refl, sym, ◌∙◌, ap, subst, lit<, lit≤, arith}
use Rattle.std.proofs.Math.Seq.{take-append_seam}
use Rattle.sm_entry.specs.Layout.{one_offset, one_type, one_run, form, two_run, two_vdev, second_type, second_offset, debug_action, debug_pass, debug_group, placed}
use Rattle.sm_entry.specs.Grammar.{Says, HasBadPad, IsCutShort, IsFitting, IsOneWord, AreTwoWords, IsDebugWord, size_of, entry_words, type_bit}
use Rattle.sm_entry.specs.declared.SmType.{SmType}
use Rattle.sm_entry.specs.declared.SmType.TheVariants.{Alloc, Free}
use Rattle.sm_entry.specs.declared.Entry.{Entry}
use Rattle.sm_entry.specs.declared.Entry.TheVariants.{One, Two, Debug}

-- a type is one bit
pub type_bit_fits : (kind : SmType) → type_bit kind < 2
type_bit_fits Alloc = lit< tt
type_bit_fits Free = lit< tt

-- and each has its own
pub type_bit_same : (a b : SmType) → type_bit a ≡ type_bit b → a ≡ b
type_bit_same Alloc Alloc same = refl
type_bit_same Alloc Free same = absurd (omega arith)
type_bit_same Free Alloc same = absurd (omega arith)
type_bit_same Free Free same = refl

-- fields at their places are read as they were put
module _ (offset run : ℕ) (kind : SmType) where
  one_says : IsFitting (One offset run kind) → IsOneWord (placed one_offset offset + placed one_type (type_bit kind) + placed one_run (run - 1)) offset run kind
  one_says (at, long) =
      let below = at in
      let some = long.some in
      let within = long.within in
      let bit = type_bit_fits kind in
      record { is_word = omega arith; has_form = omega arith; holds_offset = omega arith; holds_type = omega arith; holds_run = omega arith }

  two_says : (vdev : ℕ) → IsFitting (Two vdev offset run kind) → AreTwoWords (placed form 3 + placed two_run (run - 1) + placed two_vdev vdev) (placed second_type (type_bit kind) + placed second_offset offset) vdev offset run kind
  two_says vdev (named, (at, long)) =
      let some = long.some in
      let within = long.within in
      let bit = type_bit_fits kind in
      record {
        is_word = omega arith;
        begins = record { has_form = omega arith; no_pad = omega arith };
        holds_run = omega arith;
        holds_vdev = omega arith;
        is_second = omega arith;
        holds_type = omega arith;
        holds_offset = omega arith;
      }

debug_says : (action pass group : ℕ) → IsFitting (Debug action pass group) → IsDebugWord (placed form 2 + placed debug_action action + placed debug_pass pass + placed debug_group group) action pass group
debug_says action pass group (does, (passes, groups)) = record {
  is_word = omega arith;
  has_form = omega arith;
  holds_action = omega arith;
  holds_pass = omega arith;
  holds_group = omega arith;
}

-- an entry has so many words
pub length-entry_words : (entry : Entry) → length (entry_words entry) ≡ size_of entry
length-entry_words (One _ _ _) = refl
length-entry_words (Two _ _ _ _) = refl
length-entry_words (Debug _ _ _) = refl

-- an entry that fits is said by its words, whatever follows
pub says_entry_words : (entry : Entry) → IsFitting entry → (rest : List ℕ) → Says (entry_words entry ++ rest) entry
says_entry_words (One offset run kind) fits rest = one_says offset run kind fits
says_entry_words (Two vdev offset run kind) fits rest = two_says offset run kind vdev fits
says_entry_words (Debug action pass group) fits rest = debug_says action pass group fits

-- words begin with at most one entry
pub says_one : (words : List ℕ) (a b : Entry) → Says words a → Says words b → a ≡ b
says_one [] a b says other = absurd says
says_one (word ∷ rest) (One offset run kind) (One offset' run' kind') says other =
    let same_type = type_bit_same kind kind' (sym says.holds_type ∙ other.holds_type) in
    let same_offset : offset ≡ offset' = sym says.holds_offset ∙ other.holds_offset in
    let same_run : run ≡ run' = sym says.holds_run ∙ other.holds_run in
    cc
says_one (word ∷ rest) (One offset run kind) (Debug action pass group) says other = absurd (omega (arith, says.has_form, other.has_form))
says_one (word ∷ rest) (Debug action pass group) (One offset run kind) says other = absurd (omega (arith, says.has_form, other.has_form))
says_one (word ∷ rest) (Debug action pass group) (Debug action' pass' group') says other =
    let same_action : action ≡ action' = sym says.holds_action ∙ other.holds_action in
    let same_pass : pass ≡ pass' = sym says.holds_pass ∙ other.holds_pass in
    let same_group : group ≡ group' = sym says.holds_group ∙ other.holds_group in
    cc
says_one (word ∷ []) (Two _ _ _ _) b says other = absurd says
says_one (word ∷ []) (One _ _ _) (Two _ _ _ _) says other = absurd other
says_one (word ∷ []) (Debug _ _ _) (Two _ _ _ _) says other = absurd other
says_one (word ∷ second ∷ rest) (Two vdev offset run kind) (Two vdev' offset' run' kind') says other =
    let same_type = type_bit_same kind kind' (sym says.holds_type ∙ other.holds_type) in
    let same_vdev : vdev ≡ vdev' = sym says.holds_vdev ∙ other.holds_vdev in
    let same_offset : offset ≡ offset' = sym says.holds_offset ∙ other.holds_offset in
    let same_run : run ≡ run' = sym says.holds_run ∙ other.holds_run in
    cc
says_one (word ∷ second ∷ rest) (Two _ _ _ _) (One _ _ _) says other = absurd (omega (arith, says.begins.has_form, other.has_form))
says_one (word ∷ second ∷ rest) (Two _ _ _ _) (Debug _ _ _) says other = absurd (omega (arith, says.begins.has_form, other.has_form))
says_one (word ∷ second ∷ rest) (One _ _ _) (Two _ _ _ _) says other = absurd (omega (arith, says.has_form, other.begins.has_form))
says_one (word ∷ second ∷ rest) (Debug _ _ _) (Two _ _ _ _) says other = absurd (omega (arith, says.has_form, other.begins.has_form))

-- an entry that words say fits
pub says_fitting : (words : List ℕ) (entry : Entry) → Says words entry → IsFitting entry
says_fitting [] entry says = absurd says
says_fitting (word ∷ rest) (One offset run kind) says = (omega (arith, says.holds_offset), record { some = omega (arith, says.holds_run); within = omega (arith, says.holds_run) })
says_fitting (word ∷ []) (Two vdev offset run kind) says = absurd says
says_fitting (word ∷ second ∷ rest) (Two vdev offset run kind) says =
    (omega (arith, says.holds_vdev), (omega (arith, says.holds_offset), record { some = omega (arith, says.holds_run); within = omega (arith, says.holds_run) }))
says_fitting (word ∷ rest) (Debug action pass group) says = (omega (arith, says.holds_action), (omega (arith, says.holds_pass), omega (arith, says.holds_group)))

-- words that say an entry begin with the entry's words
pub says_words : (words : List ℕ) (entry : Entry) → Says words entry → words ≡ entry_words entry ++ drop (size_of entry) words
says_words [] entry says = absurd says
says_words (word ∷ rest) (One offset run kind) says =
    let same : word ≡ placed one_offset offset + placed one_type (type_bit kind) + placed one_run (run - 1) =
    omega (arith, says.is_word, says.has_form, says.holds_offset, says.holds_type, says.holds_run) in
    ap (λ w. w ∷ rest) same
says_words (word ∷ []) (Two vdev offset run kind) says = absurd says
says_words (word ∷ second ∷ rest) (Two vdev offset run kind) says =
    let same : word ≡ placed form 3 + placed two_run (run - 1) + placed two_vdev vdev =
    omega (arith, says.is_word, says.begins.has_form, says.begins.no_pad, says.holds_run, says.holds_vdev) in
    let same_second : second ≡ placed second_type (type_bit kind) + placed second_offset offset =
    omega (arith, says.is_second, says.holds_type, says.holds_offset) in
    cc
says_words (word ∷ rest) (Debug action pass group) says =
    let same : word ≡ placed form 2 + placed debug_action action + placed debug_pass pass + placed debug_group group =
    omega (arith, says.is_word, says.has_form, says.holds_action, says.holds_pass, says.holds_group) in
    ap (λ w. w ∷ rest) same

-- and the words it takes are the entry's
pub says_take : (words : List ℕ) (entry : Entry) → Says words entry → take (size_of entry) words ≡ entry_words entry
says_take words entry says =
    ap (λ all. take (size_of entry) all) (says_words words entry says)
    ∙ ap (λ n. take n (entry_words entry ++ drop (size_of entry) words)) (sym (length-entry_words entry))
    ∙ take-append_seam (entry_words entry) (drop (size_of entry) words)

-- what follows an entry's words is what is left without them
after_entry : (entry : Entry) (r s : List ℕ) → entry_words entry ++ r ≡ entry_words entry ++ s → r ≡ s
after_entry (One _ _ _) r s same = ap (λ words. drop 1 words) same
after_entry (Two _ _ _ _) r s same = ap (λ words. drop 2 words) same
after_entry (Debug _ _ _) r s same = ap (λ words. drop 1 words) same

-- two entries that fit, whose words begin one list, are one entry
pub entry_words-same : (a b : Entry) (r s : List ℕ) → IsFitting a → IsFitting b → entry_words a ++ r ≡ entry_words b ++ s → (a ≡ b) × (r ≡ s)
entry_words-same a b r s fits fits' same =
    let P : List ℕ → Type 0 = λ words. Says words a in
    let one : a ≡ b = says_one (entry_words b ++ s) a b (subst P same (says_entry_words a fits r)) (says_entry_words b fits' s) in
    let Q : Entry → Type 0 = λ entry. entry_words entry ++ r ≡ entry_words b ++ s in
    (one, after_entry b r s (subst Q one same))

-- words that say an entry say it whatever follows
pub says_append : (words rest : List ℕ) (entry : Entry) → Says words entry → Says (words ++ rest) entry
says_append [] rest entry says = absurd says
says_append (word ∷ words) rest (One _ _ _) says = says
says_append (word ∷ []) rest (Two _ _ _ _) says = absurd says
says_append (word ∷ second ∷ words) rest (Two _ _ _ _) says = says
says_append (word ∷ words) rest (Debug _ _ _) says = says

-- the words that an entry takes are there
pub size_of-le : (words : List ℕ) (entry : Entry) → Says words entry → size_of entry ≤ length words
size_of-le [] entry says = absurd says
size_of-le (word ∷ words) (One _ _ _) says = omega arith
size_of-le (word ∷ []) (Two _ _ _ _) says = absurd says
size_of-le (word ∷ second ∷ words) (Two _ _ _ _) says = omega arith
size_of-le (word ∷ words) (Debug _ _ _) says = omega arith

-- an entry takes a word or two
pub size_of-bounds : (entry : Entry) → (1 ≤ size_of entry) × (size_of entry ≤ 2)
size_of-bounds (One _ _ _) = (lit≤ tt, lit≤ tt)
size_of-bounds (Two _ _ _ _) = (lit≤ tt, lit≤ tt)
size_of-bounds (Debug _ _ _) = (lit≤ tt, lit≤ tt)

-- words that say an entry show no fault
pub says_no_bad_pad : (words : List ℕ) (entry : Entry) → Says words entry → HasBadPad (slice_index words 0) → ⊥
says_no_bad_pad [] entry says bad = absurd says
says_no_bad_pad (word ∷ rest) (One _ _ _) says bad = omega (arith, says.has_form, bad.has_form)
says_no_bad_pad (word ∷ []) (Two _ _ _ _) says bad = absurd says
says_no_bad_pad (word ∷ second ∷ rest) (Two _ _ _ _) says bad = bad.some_pad says.begins.no_pad
says_no_bad_pad (word ∷ rest) (Debug _ _ _) says bad = omega (arith, says.has_form, bad.has_form)

pub says_not_short : (words : List ℕ) (entry : Entry) → Says words entry → IsCutShort words → ⊥
says_not_short [] entry says short = absurd says
says_not_short (word ∷ rest) (One _ _ _) says short = omega (arith, says.has_form, short.begins.has_form)
says_not_short (word ∷ []) (Two _ _ _ _) says short = absurd says
says_not_short (word ∷ second ∷ rest) (Two _ _ _ _) says short = omega (arith, short.alone)
says_not_short (word ∷ rest) (Debug _ _ _) says short = omega (arith, says.has_form, short.begins.has_form)

-- the two faults exclude each other
pub one_fault : (words : List ℕ) → HasBadPad (slice_index words 0) → IsCutShort words → ⊥
one_fault words bad short = bad.some_pad short.begins.no_pad
