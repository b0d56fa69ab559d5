-- How entries lie in the words of a map, whose blocks have 512 words.
use Rattle.std.specs.Prelude.{◌≡◌, ℕ, ◌+◌, ◌%◌, ◌==◌, Bool, ◌&&◌, if◌then◌else◌, List, [], ◌∷◌, ◌++◌, drop}
use Rattle.std.specs.List.{sum_by, flat_map}
use Rattle.sm_entry.specs.Grammar.{Says, size_of, entry_words}
use Rattle.sm_entry.specs.declared.Entry.{Entry}
use Rattle.sm_entry.specs.declared.Entry.TheVariants.{Debug}

-- is a word, by its number from the map's start, the last of a block?
abbrev pub is_block_end : ℕ → Bool
is_block_end at = at % 512 == 511

-- does an entry have two words?
abbrev pub is_long : Entry → Bool
is_long entry = size_of entry == 2

-- how many words entries take
abbrev pub sizes : List Entry → ℕ
sizes entries = sum_by size_of entries

-- the words of entries, one after another
abbrev pub words_of : List Entry → List ℕ
words_of entries = flat_map entry_words entries

-- the words say these entries, one after another, and then comes the rest
abbrev pub Holds : List ℕ → List Entry → List ℕ → Type 0
Holds words [] rest = words ≡ rest
Holds words (entry ∷ entries) rest = Says words entry × Holds (drop (size_of entry) words) entries rest

-- the entry of the word that fills a block up: a debug entry that names nothing
abbrev pub filler : Entry
filler = Debug 0 0 0

-- an entry as it is put at a word: one of two words does not begin at the end of a block
abbrev pub placed : ℕ → Entry → List Entry
placed at entry = if is_long entry && is_block_end at then filler ∷ entry ∷ [] else entry ∷ []

-- entries as they are put one after another, from a word on
abbrev pub laid_out : ℕ → List Entry → List Entry
laid_out at [] = []
laid_out at (entry ∷ entries) = placed at entry ++ laid_out (at + sizes (placed at entry)) entries
