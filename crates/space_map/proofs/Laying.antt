-- Entries as they are laid out in words.
use Rattle.std.proofs.Common.{◌≡◌, ℕ, ◌+◌, ◌%◌, Bool, true, false, List, [], ◌∷◌, ◌++◌, length, refl, sym, ◌∙◌, ap, arith, lit<}
use Rattle.std.specs.Prelude.{◌&&◌, if◌then◌else◌, None}
use Rattle.std.specs.List.{All, filter_map}
use Rattle.std.proofs.lemmas.List.{length-append, append_assoc}
use Rattle.std.proofs.lemmas.List.Elements.{All-append, All-cons, All-head, All-nil, All-tail, filter_map-append}
use Rattle.std.proofs.lemmas.List.Sums.{sum_by-append}
use Rattle.std.proofs.lemmas.Bool.{and_parts, and_right, eqb-true, ne_eqb}
use Rattle.sm_entry.specs.Grammar.{IsFitting, size_of, entry_words}
use Rattle.sm_entry.specs.declared.Entry.{Entry}
use Rattle.sm_entry.proofs.Entries.{length-entry_words}
use Rattle.space_map.specs.declared.places.MapKind.{MapKind}
use Rattle.space_map.specs.Layout.{filler, is_block_end, is_long, laid_out, placed, sizes, words_of}
use Rattle.space_map.specs.Reading.{AreSound, fault_of, found_in}
use Rattle.space_map.proofs.Holding.{sizes-cons, sound_then}

pub length-words_of : (entries : List Entry) → length (words_of entries) ≡ sizes entries
length-words_of [] = refl
length-words_of (entry ∷ entries) = omega (arith, sizes-cons entry entries, length-append (entry_words entry) (words_of entries), length-entry_words entry, length-words_of entries)

-- a map refuses an entry for where it begins only
abbrev pub Suits : MapKind → Entry → Type 0
Suits kind entry = (at : ℕ) → (is_long entry && is_block_end at) ≡ false → fault_of kind at entry ≡ None

filler_fits : IsFitting filler
filler_fits = (lit< tt, (lit< tt, lit< tt))

-- the word after the end of a block is no end of one
after_end : (at : ℕ) → is_block_end at ≡ true → is_block_end (at + 1) ≡ false
after_end at ends = ne_eqb ((at + 1) % 512) 511 (λ same. let here : at % 512 ≡ 511 = eqb-true (at % 512) 511 ends in omega arith)

-- an entry, with the filler before it or not
abbrev placed_by : Bool → Entry → List Entry
placed_by fills entry = if fills then filler ∷ entry ∷ [] else entry ∷ []

fits_by : (fills : Bool) (entry : Entry) → IsFitting entry → All IsFitting (placed_by fills entry)
fits_by true entry fits = All-cons IsFitting filler (entry ∷ []) filler_fits (All-cons IsFitting entry [] fits (All-nil IsFitting))
fits_by false entry fits = All-cons IsFitting entry [] fits (All-nil IsFitting)

found_by : (fills : Bool) (entry : Entry) → filter_map found_in (placed_by fills entry) ≡ filter_map found_in (entry ∷ [])
found_by true entry = refl
found_by false entry = refl

sound_by : (fills : Bool) (kind : MapKind) (at : ℕ) (entry : Entry) → (is_long entry && is_block_end at) ≡ fills → Suits kind entry → AreSound kind at (placed_by fills entry)
sound_by true kind at entry long_at_end suits =
    (refl, (suits (at + 1) (and_right (is_long entry) (is_block_end (at + 1)) (after_end at (and_parts (is_long entry) (is_block_end at) long_at_end).1)), tt))
sound_by false kind at entry fine suits = (suits at fine, tt)

pub laid_fits : (at : ℕ) (entries : List Entry) → All IsFitting entries → All IsFitting (laid_out at entries)
laid_fits at [] fits = All-nil IsFitting
laid_fits at (entry ∷ entries) fits =
    All-append IsFitting (placed at entry) (laid_out (at + sizes (placed at entry)) entries)
    (fits_by (is_long entry && is_block_end at) entry (All-head IsFitting entry entries fits))
    (laid_fits (at + sizes (placed at entry)) entries (All-tail IsFitting entry entries fits))

pub laid_found : (at : ℕ) (entries : List Entry) → filter_map found_in (laid_out at entries) ≡ filter_map found_in entries
laid_found at [] = refl
laid_found at (entry ∷ entries) =
    let rest = laid_out (at + sizes (placed at entry)) entries in
    let front : filter_map found_in (placed at entry) ≡ filter_map found_in (entry ∷ []) = found_by (is_long entry && is_block_end at) entry in
    filter_map-append found_in (placed at entry) rest
    ∙ (ap (λ f. f ++ filter_map found_in rest) front
    ∙ (ap (λ f. filter_map found_in (entry ∷ []) ++ f) (laid_found (at + sizes (placed at entry)) entries)
    ∙ sym (filter_map-append found_in (entry ∷ []) entries)))

pub laid_sound : (kind : MapKind) (at : ℕ) (entries : List Entry) → All (Suits kind) entries → AreSound kind at (laid_out at entries)
laid_sound kind at [] suits = tt
laid_sound kind at (entry ∷ entries) suits =
    sound_then kind at (placed at entry) (laid_out (at + sizes (placed at entry)) entries)
    (sound_by (is_long entry && is_block_end at) kind at entry refl (All-head (Suits kind) entry entries suits))
    (laid_sound kind (at + sizes (placed at entry)) entries (All-tail (Suits kind) entry entries suits))

-- entries that are laid out in two parts
pub laid_out-append : (at : ℕ) (entries others : List Entry) → laid_out at (entries ++ others) ≡ laid_out at entries ++ laid_out (at + sizes (laid_out at entries)) others
laid_out-append at [] others = ap (λ (n : ℕ). laid_out n others) (omega arith)
laid_out-append at (entry ∷ entries) others =
    let front = placed at entry in
    let next = at + sizes front in
    let back = laid_out next entries in
    let place : next + sizes back ≡ at + sizes (front ++ back) = omega (arith, sum_by-append size_of front back) in
    ap (λ l. front ++ l) (laid_out-append next entries others ∙ ap (λ (n : ℕ). back ++ laid_out n others) place)
    ∙ sym (append_assoc front back (laid_out (at + sizes (front ++ back)) others))
