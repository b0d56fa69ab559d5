-- The entries of a batch, as they are laid out, read and counted.
use Rattle.std.proofs.Common.{◌≡◌, ℕ, ◌+◌, ◌*◌, ◌≤◌, ◌<◌, Bool, true, false, List, [], ◌∷◌, ◌++◌, length, map, drop, get_or, refl, sym, ◌∙◌, ap, subst, arith}
use Rattle.std.specs.Prelude.{◌&&◌, nat_le, if◌then◌else◌, Some, None}
use Rattle.std.specs.List.{All, filter_map}
use Rattle.std.proofs.lemmas.Bool.{le-leb}
use Rattle.std.proofs.lemmas.List.{append_assoc, append-nil, drop_all, drop_more, get_or-map, length-append, length-map}
use Rattle.std.proofs.lemmas.List.Elements.{All-cons, All-nil, All-head, All-tail, filter_map-append}
use Rattle.std.proofs.lemmas.List.Concat.{flat_map-append}
use Rattle.std.proofs.lemmas.List.Sums.{sum_by-append}
use Rattle.zms_units.specs.declared.segments.Seg.{Seg}
use Rattle.zms_units.specs.Segments.{AreRisingFrom, end_of}
use Rattle.sm_entry.specs.Grammar.{IsFitting, size_of, entry_words, type_bit}
use Rattle.sm_entry.specs.declared.SmType.{SmType}
use Rattle.sm_entry.specs.declared.SmType.TheVariants.{Alloc, Free}
use Rattle.sm_entry.specs.declared.Entry.{Entry}
use Rattle.sm_entry.specs.declared.Entry.TheVariants.{One, Two, Debug}
use Rattle.space_map.specs.declared.places.MapKind.{MapKind}
use Rattle.space_map.specs.declared.places.MapKind.TheVariants.{Side as SideMap, Log as LogMap}
use Rattle.space_map.specs.declared.places.Place.{Place}
use Rattle.space_map.specs.declared.places.Place.TheVariants.{Side, Log}
use Rattle.space_map.specs.declared.places.Found.{Found}
use Rattle.space_map.specs.Layout.{Holds, is_block_end, is_long, laid_out, placed, sizes, words_of}
use Rattle.space_map.specs.Batches.{ReadsAt, batch, condensed, entry_of, found_as, words_before}
use Rattle.space_map.specs.Reading.{AreSound, Decodes, fault_of, found_in, range_fault}
use Rattle.space_map.proofs.Holding.{holds_length, holds_more, holds_then, holds_words, sizes-cons, sound_then}
use Rattle.space_map.proofs.Laying.{Suits, laid_fits, laid_found, laid_out-append, laid_sound, length-words_of}

-- the entry of a run is found again as the run
found_entry : (place : Place) (kind : SmType) (run : Seg) → found_in (entry_of place kind run) ≡ Some (found_as place kind run)
found_entry (Side before) kind run = by_size (nat_le run.count 32768) where
  by_size : (short : Bool) → found_in (if short then One run.start run.count kind else Two 0 run.start run.count kind) ≡ Some (found_as (Side before) kind run)
  by_size true = refl
  by_size false = refl
found_entry (Log vdev start_sector ashift) kind run = refl

found_entries : (place : Place) (kind : SmType) (runs : List Seg) → filter_map found_in (map (entry_of place kind) runs) ≡ map (found_as place kind) runs
found_entries place kind [] = refl
found_entries place kind (run ∷ runs) =
    rw (found_entry place kind run) (ap (λ f. found_as place kind run ∷ f) (found_entries place kind runs))

pub found_batch : (place : Place) (group : ℕ) (kind : SmType) (runs : List Seg) → filter_map found_in (batch place group kind runs) ≡ map (found_as place kind) runs
found_batch place group kind [] = refl
found_batch place group kind (run ∷ runs) = found_entries place kind (run ∷ runs)

-- rising segments end above where they begin
pub rising_order : (low high : ℕ) (runs : List Seg) → AreRisingFrom low high runs → low ≤ high
rising_order low high [] rising = rising
rising_order low high (run ∷ runs) rising = let more = rising_order (end_of run) high runs rising.1.1 in omega (arith, rising.0)

-- a kind of map refuses the entry of a run within it for where it begins only
entry_suits : (units before : ℕ) (kind : SmType) (run : Seg) → end_of run ≤ units → Suits (SideMap units) (entry_of (Side before) kind run)
entry_suits units before kind run within at = by_size (nat_le run.count 32768) refl where
  inside : range_fault units run.start run.count ≡ None
  inside = rw (le-leb (run.start + run.count) units within)

  by_size : (short : Bool) → nat_le run.count 32768 ≡ short
      → (is_long (if short then One run.start run.count kind else Two 0 run.start run.count kind) && is_block_end at) ≡ false
      → fault_of (SideMap units) at (if short then One run.start run.count kind else Two 0 run.start run.count kind) ≡ None
  by_size true short fine = inside
  by_size false long fine = rw (fine, long) inside

side_suits : (units before : ℕ) (kind : SmType) (low : ℕ) (runs : List Seg) → AreRisingFrom low units runs → All (Suits (SideMap units)) (map (entry_of (Side before) kind) runs)
side_suits units before kind low [] rising = All-nil (Suits (SideMap units))
side_suits units before kind low (run ∷ runs) rising =
    All-cons (Suits (SideMap units)) (entry_of (Side before) kind run) (map (entry_of (Side before) kind) runs)
    (entry_suits units before kind run (rising_order (end_of run) units runs rising.1.1))
    (side_suits units before kind (end_of run) runs rising.1.1)

log_suits : (vdev start_sector ashift : ℕ) (kind : SmType) (runs : List Seg) → All (Suits LogMap) (map (entry_of (Log vdev start_sector ashift) kind) runs)
log_suits vdev start_sector ashift kind [] = All-nil (Suits LogMap)
log_suits vdev start_sector ashift kind (run ∷ runs) =
    let place = Log vdev start_sector ashift in
    All-cons (Suits LogMap) (entry_of place kind run) (map (entry_of place kind) runs) (λ at fine. rw fine) (log_suits vdev start_sector ashift kind runs)

pub batch_suits : (place : Place) (group : ℕ) (kind : SmType) (runs : List Seg) (map_kind : MapKind) → ReadsAt place runs map_kind → All (Suits map_kind) (batch place group kind runs)
batch_suits place group kind [] map_kind reads = All-nil (Suits map_kind)
batch_suits (Side before) group kind (run ∷ runs) (SideMap units) reads =
    All-cons (Suits (SideMap units)) (Debug (type_bit kind) 1 group) (map (entry_of (Side before) kind) (run ∷ runs)) (λ at fine. refl) (side_suits units before kind 0 (run ∷ runs) reads)
batch_suits (Log vdev start_sector ashift) group kind (run ∷ runs) LogMap reads =
    All-cons (Suits LogMap) (Debug (type_bit kind) 1 group) (map (entry_of (Log vdev start_sector ashift) kind) (run ∷ runs)) (λ at fine. refl)
    (log_suits vdev start_sector ashift kind (run ∷ runs))
batch_suits (Side before) group kind (run ∷ runs) LogMap reads = absurd reads
batch_suits (Log _ _ _) group kind (run ∷ runs) (SideMap units) reads = absurd reads

-- entries that a map doesn't refuse, laid out after words that it reads, are read after them
module _ (kind : MapKind) (words : List ℕ) (found : List Found) (entries : List Entry) (decodes : Decodes kind words found) (fits : All IsFitting entries) (suits : All (Suits kind) entries) where
  pub read_after : Decodes kind (words ++ words_of (laid_out (length words) entries)) (found ++ filter_map found_in entries)
  read_after =
      let more = laid_out (length words) entries in
      let size : length words ≡ 0 + sizes decodes.entries = holds_length words decodes.entries [] decodes.held ∙ omega arith in
      let held : Holds (words_of more) more [] = subst (λ (w : List ℕ). Holds w more []) (append-nil (words_of more)) (holds_words more [] (laid_fits (length words) entries fits)) in
      record {
        entries = decodes.entries ++ more;
        held = holds_then (words ++ words_of more) decodes.entries (words_of more) more [] (holds_more words decodes.entries [] (words_of more) decodes.held) held;
        sound = sound_then kind 0 decodes.entries more decodes.sound (subst (λ (n : ℕ). AreSound kind n more) size (laid_sound kind (length words) entries suits));
        given = filter_map-append found_in decodes.entries more
            ∙ (ap (λ f. f ++ filter_map found_in more) decodes.given ∙ ap (λ f. found ++ f) (laid_found (length words) entries));
      }

-- a batch after words that are read is read after them
pub again : (place : Place) (group : ℕ) (kind : SmType) (runs : List Seg) (old new : List ℕ) → All IsFitting (batch place group kind runs)
    → new ≡ old ++ words_of (laid_out (words_before place + length old) (batch place group kind runs))
    → (map_kind : MapKind) (front : List ℕ) (found : List Found) → length front ≡ words_before place → ReadsAt place runs map_kind
    → Decodes map_kind (front ++ old) found → Decodes map_kind (front ++ new) (found ++ map (found_as place kind) runs)
again place group kind runs old new fits written map_kind front found ahead reads decodes =
    let entries = batch place group kind runs in
    let whole = read_after map_kind (front ++ old) found entries decodes fits (batch_suits place group kind runs map_kind reads) in
    let at : length (front ++ old) ≡ words_before place + length old = length-append front old ∙ ap (λ n. n + length old) ahead in
    let words : (front ++ old) ++ words_of (laid_out (length (front ++ old)) entries) ≡ front ++ new =
    ap (λ (n : ℕ). (front ++ old) ++ words_of (laid_out n entries)) at
    ∙ (append_assoc front old (words_of (laid_out (words_before place + length old) entries)) ∙ ap (λ (w : List ℕ). front ++ w) (sym written)) in
    subst (λ (w : List ℕ). Decodes map_kind w (found ++ map (found_as place kind) runs)) words
    (subst (λ (f : List Found). Decodes map_kind ((front ++ old) ++ words_of (laid_out (length (front ++ old)) entries)) (found ++ f)) (found_batch place group kind runs) whole)

-- the heading of a batch that has a run
pub batch_heading : (place : Place) (group : ℕ) (kind : SmType) (runs : List Seg) → 0 < length runs
    → batch place group kind runs ≡ Debug (type_bit kind) 1 group ∷ map (entry_of place kind) runs
batch_heading place group kind [] some = absurd (omega arith)
batch_heading place group kind (run ∷ runs) some = refl

-- words to which the first of some entries is put, and the rest of them
pub put_first : (before : ℕ) (words new : List ℕ) (entry : Entry) (entries : List Entry) → new ≡ words ++ words_of (placed (before + length words) entry)
    → words ++ words_of (laid_out (before + length words) (entry ∷ entries)) ≡ new ++ words_of (laid_out (before + length new) entries)
put_first before words new entry entries put =
    let at = before + length words in
    let front = placed at entry in
    let rest = laid_out (at + sizes front) entries in
    let place : at + sizes front ≡ before + length new = omega (arith, ap length put, length-append words (words_of front), length-words_of front) in
    ap (λ (w : List ℕ). words ++ w) (flat_map-append entry_words front rest)
    ∙ (sym (append_assoc words (words_of front) (words_of rest))
    ∙ (ap (λ (w : List ℕ). w ++ words_of rest) (sym put) ∙ ap (λ (n : ℕ). new ++ words_of (laid_out n entries)) place))

-- the words so far, and the runs that are left as they will be laid out, are the words of the whole batch
pub record IsWrittenUpTo (place : Place) (group : ℕ) (kind : SmType) (runs : List Seg) (i : ℕ) (old new : List ℕ) : Type 0 where
  pub whole : new ++ words_of (laid_out (words_before place + length new) (map (entry_of place kind) (drop i runs)))
      ≡ old ++ words_of (laid_out (words_before place + length old) (batch place group kind runs))

module _ (place : Place) (group : ℕ) (kind : SmType) (runs : List Seg) (old : List ℕ) where
  pub written_heading : (new : List ℕ) → 0 < length runs → new ≡ old ++ words_of (placed (words_before place + length old) (Debug (type_bit kind) 1 group))
      → IsWrittenUpTo place group kind runs 0 old new
  written_heading new some put = record {
    whole = sym (ap (λ (es : List Entry). old ++ words_of (laid_out (words_before place + length old) es)) (batch_heading place group kind runs some)
        ∙ put_first (words_before place) old new (Debug (type_bit kind) 1 group) (map (entry_of place kind) runs) put);
  }

  pub written_more : (i : ℕ) (words new : List ℕ) (d : Seg) → i < length runs → IsWrittenUpTo place group kind runs i old words
      → new ≡ words ++ words_of (placed (words_before place + length words) (entry_of place kind (get_or runs i d)))
      → IsWrittenUpTo place group kind runs (i + 1) old new
  written_more i words new d inside so_far put = record {
    whole = sym (put_first (words_before place) words new (entry_of place kind (get_or runs i d)) (map (entry_of place kind) (drop (i + 1) runs)) put)
        ∙ (ap (λ (left : List Seg). words ++ words_of (laid_out (words_before place + length words) (map (entry_of place kind) left))) (sym (drop_more runs i d inside)) ∙ so_far.whole);
  }

  pub written_all : (i : ℕ) (words : List ℕ) → length runs ≤ i → IsWrittenUpTo place group kind runs i old words
      → words ≡ old ++ words_of (laid_out (words_before place + length old) (batch place group kind runs))
  written_all i words all so_far =
      sym (append-nil words)
      ∙ (ap (λ (left : List Seg). words ++ words_of (laid_out (words_before place + length words) (map (entry_of place kind) left))) (sym (drop_all i runs all)) ∙ so_far.whole)

-- the size so far, and that of the runs that are left, is the size of the whole batch
pub record SizedUpTo (at : ℕ) (runs : List Seg) (i size : ℕ) : Type 0 where
  pub whole : (before group : ℕ) (kind : SmType) → size + sizes (laid_out (at + size) (map (entry_of (Side before) kind) (drop i runs))) ≡ sizes (laid_out at (batch (Side before) group kind runs))
  pub few : size ≤ 3 * i + 1

module _ (at : ℕ) (runs : List Seg) where
  pub sized_heading : 0 < length runs → SizedUpTo at runs 0 1
  sized_heading some = record {
    whole = λ before group kind.
        let heading = Debug (type_bit kind) 1 group in
        let entries = map (entry_of (Side before) kind) runs in
        sym (ap (λ (es : List Entry). sizes (laid_out at es)) (batch_heading (Side before) group kind runs some) ∙ sizes-cons heading (laid_out (at + 1) entries));
    few = omega arith;
  }

  pub sized_more : (i size one : ℕ) (d : Seg) → i < length runs → SizedUpTo at runs i size
      → ((before : ℕ) (kind : SmType) → one ≡ sizes (placed (at + size) (entry_of (Side before) kind (get_or runs i d)))) → one ≤ 3
      → SizedUpTo at runs (i + 1) (size + one)
  sized_more i size one d inside so_far counted small = record {
    whole = λ before group kind.
        let entry = entry_of (Side before) kind (get_or runs i d) in
        let left = map (entry_of (Side before) kind) (drop (i + 1) runs) in
        let front = placed (at + size) entry in
        let rest = laid_out (at + size + sizes front) left in
        let here : sizes (laid_out (at + size) (map (entry_of (Side before) kind) (drop i runs))) ≡ sizes (front ++ rest) =
        ap (λ (l : List Seg). sizes (laid_out (at + size) (map (entry_of (Side before) kind) l))) (drop_more runs i d inside) in
        let place : at + size + sizes front ≡ at + (size + one) = omega (arith, counted before kind) in
        let moved : sizes rest ≡ sizes (laid_out (at + (size + one)) left) = ap (λ (n : ℕ). sizes (laid_out n left)) place in
        omega (arith, counted before kind, so_far.whole before group kind, here, moved, sum_by-append size_of front rest);
    few = omega (arith, so_far.few);
  }

  pub sized_all : (i size : ℕ) → length runs ≤ i → SizedUpTo at runs i size → (before group : ℕ) (kind : SmType) → size ≡ sizes (laid_out at (batch (Side before) group kind runs))
  sized_all i size all so_far before group kind =
      let none : sizes (laid_out (at + size) (map (entry_of (Side before) kind) (drop i runs))) ≡ 0 = ap (λ (l : List Seg). sizes (laid_out (at + size) (map (entry_of (Side before) kind) l))) (drop_all i runs all) in
      omega (arith, so_far.whole before group kind, none)

-- the size of a side that is written anew, from those of its two batches
pub sizes-condensed : (group units : ℕ) (free : List Seg) (allocated freed : ℕ)
    → allocated ≡ sizes (laid_out 0 (batch (Side 0) group Alloc (record { start = 0; count = units } ∷ [])))
    → freed ≡ sizes (laid_out allocated (batch (Side 0) group Free free))
    → allocated + freed ≡ sizes (laid_out 0 (condensed group units free))
sizes-condensed group units free allocated freed first second =
    let whole : List Entry = batch (Side 0) group Alloc (record { start = 0; count = units } ∷ []) in
    let rest = batch (Side 0) group Free free in
    let place : allocated ≡ 0 + sizes (laid_out 0 whole) = omega (arith, first) in
    let moved : freed ≡ sizes (laid_out (0 + sizes (laid_out 0 whole)) rest) = second ∙ ap (λ (n : ℕ). sizes (laid_out n rest)) place in
    let both : sizes (laid_out 0 (whole ++ rest)) ≡ sizes (laid_out 0 whole ++ laid_out (0 + sizes (laid_out 0 whole)) rest) = ap sizes (laid_out-append 0 whole rest) in
    omega (arith, first, moved, both, sum_by-append size_of (laid_out 0 whole) (laid_out (0 + sizes (laid_out 0 whole)) rest))

-- the entries of a batch that fits fit
module _ (place : Place) (group : ℕ) (kind : SmType) (runs : List Seg) (fits : All IsFitting (batch place group kind runs)) where
  entries_fit : 0 < length runs → All IsFitting (Debug (type_bit kind) 1 group ∷ map (entry_of place kind) runs)
  entries_fit some = subst (λ (es : List Entry). All IsFitting es) (batch_heading place group kind runs some) fits

  pub heading_fits : 0 < length runs → IsFitting (Debug (type_bit kind) 1 group)
  heading_fits some = All-head IsFitting (Debug (type_bit kind) 1 group) (map (entry_of place kind) runs) (entries_fit some)

  pub run_fits : (i : ℕ) (d : Seg) → i < length runs → IsFitting (entry_of place kind (get_or runs i d))
  run_fits i d inside =
      let entries = All-tail IsFitting (Debug (type_bit kind) 1 group) (map (entry_of place kind) runs) (entries_fit (omega arith)) in
      subst IsFitting (get_or-map (entry_of place kind) runs i d (entry_of place kind d) inside) (entries i (entry_of place kind d) (simp length-map inside))
