-- Entries that words hold one after another.
use Rattle.std.proofs.Common.{◌≡◌, ℕ, ◌+◌, List, [], ◌∷◌, ◌++◌, length, drop, refl, sym, ◌∙◌, ap, subst, arith}
use Rattle.std.specs.List.{All}
use Rattle.std.proofs.lemmas.List.Elements.{All-head, All-tail}
use Rattle.std.proofs.lemmas.List.Sums.{sum_by-cons}
use Rattle.sm_entry.specs.Grammar.{Says, IsFitting, size_of}
use Rattle.sm_entry.proofs.Entries.{says_append, says_entry_words}
use Rattle.sm_entry.specs.declared.Entry.{Entry}
use Rattle.sm_entry.specs.declared.Entry.TheVariants.{One, Two, Debug}
use Rattle.space_map.specs.declared.places.MapKind.{MapKind}
use Rattle.space_map.specs.Layout.{Holds, sizes, words_of}
use Rattle.space_map.specs.Reading.{AreSound}

-- how many words an entry and others take
pub sizes-cons : (entry : Entry) (entries : List Entry) → sizes (entry ∷ entries) ≡ size_of entry + sizes entries
sizes-cons entry entries = sum_by-cons size_of entry entries

-- what is after an entry is followed by what follows the words
pub after_more : (words more : List ℕ) (entry : Entry) → Says words entry → drop (size_of entry) (words ++ more) ≡ drop (size_of entry) words ++ more
after_more [] more (One _ _ _) says = absurd says
after_more [] more (Two _ _ _ _) says = absurd says
after_more [] more (Debug _ _ _) says = absurd says
after_more (word ∷ []) more (Two _ _ _ _) says = absurd says
after_more (word ∷ rest) more (One _ _ _) says = refl
after_more (word ∷ second ∷ rest) more (Two _ _ _ _) says = refl
after_more (word ∷ rest) more (Debug _ _ _) says = refl

-- an entry takes as many words as its size
pub says_length : (words : List ℕ) (entry : Entry) → Says words entry → length words ≡ size_of entry + length (drop (size_of entry) words)
says_length [] (One _ _ _) says = absurd says
says_length [] (Two _ _ _ _) says = absurd says
says_length [] (Debug _ _ _) says = absurd says
says_length (word ∷ []) (Two _ _ _ _) says = absurd says
says_length (word ∷ rest) (One _ _ _) says = omega arith
says_length (word ∷ second ∷ rest) (Two _ _ _ _) says = omega arith
says_length (word ∷ rest) (Debug _ _ _) says = omega arith

-- the words of entries that fit hold them
pub holds_words : (entries : List Entry) (rest : List ℕ) → All IsFitting entries → Holds (words_of entries ++ rest) entries rest
holds_words [] rest fits = refl
holds_words (One offset run kind ∷ entries) rest fits =
    let entry = One offset run kind in
    (says_entry_words entry (All-head IsFitting entry entries fits) (words_of entries ++ rest), holds_words entries rest (All-tail IsFitting entry entries fits))
holds_words (Two vdev offset run kind ∷ entries) rest fits =
    let entry = Two vdev offset run kind in
    (says_entry_words entry (All-head IsFitting entry entries fits) (words_of entries ++ rest), holds_words entries rest (All-tail IsFitting entry entries fits))
holds_words (Debug action pass group ∷ entries) rest fits =
    let entry = Debug action pass group in
    (says_entry_words entry (All-head IsFitting entry entries fits) (words_of entries ++ rest), holds_words entries rest (All-tail IsFitting entry entries fits))

pub holds_more : (words : List ℕ) (entries : List Entry) (rest more : List ℕ) → Holds words entries rest → Holds (words ++ more) entries (rest ++ more)
holds_more words [] rest more held = ap (λ (w : List ℕ). w ++ more) held
holds_more words (entry ∷ entries) rest more held = (
  says_append words more entry held.0,
  subst (λ (w : List ℕ). Holds w entries (rest ++ more)) (sym (after_more words more entry held.0)) (holds_more (drop (size_of entry) words) entries rest more held.1),
)

pub holds_then : (words : List ℕ) (entries : List Entry) (middle : List ℕ) (others : List Entry) (rest : List ℕ) → Holds words entries middle → Holds middle others rest
    → Holds words (entries ++ others) rest
holds_then words [] middle others rest held then = subst (λ (w : List ℕ). Holds w others rest) (sym held) then
holds_then words (entry ∷ entries) middle others rest held then = (held.0, holds_then (drop (size_of entry) words) entries middle others rest held.1 then)

pub holds_length : (words : List ℕ) (entries : List Entry) (rest : List ℕ) → Holds words entries rest → length words ≡ sizes entries + length rest
holds_length words [] rest held = ap length held ∙ omega arith
holds_length words (entry ∷ entries) rest held =
    omega (arith, sizes-cons entry entries, says_length words entry held.0, holds_length (drop (size_of entry) words) entries rest held.1)

pub sound_then : (kind : MapKind) (at : ℕ) (entries others : List Entry) → AreSound kind at entries → AreSound kind (at + sizes entries) others → AreSound kind at (entries ++ others)
sound_then kind at [] others sound then = subst (λ (n : ℕ). AreSound kind n others) (omega arith) then
sound_then kind at (entry ∷ entries) others sound then = (
  sound.0,
  sound_then kind (at + size_of entry) entries others sound.1 (subst (λ (n : ℕ). AreSound kind n others) (omega (arith, sizes-cons entry entries)) then),
)
