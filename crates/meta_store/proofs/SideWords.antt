-- The words of a side that is written anew: how many there are.
use Rattle.std.proofs.Common.{◌≡◌, ℕ, ◌+◌, ◌<◌, ◌≤◌, Bool, true, false, List, [], ◌∷◌, ◌++◌, length, map, refl, sym, ◌∙◌, ap, arith}
use Rattle.std.specs.Prelude.{if◌then◌else◌, ◌&&◌, nat_le}
use Rattle.std.proofs.lemmas.Bool.Decides.{nat_tests}
use Rattle.std.proofs.lemmas.List.Sums.{sum_by-append, sum_by-cons}
use Rattle.std.proofs.lemmas.List.Concat.{flat_map-append}
use Rattle.zms_units.specs.declared.segments.Seg.{Seg}
use Rattle.zms_units.specs.Segments.{end_of, AreRisingFrom, AreSegs, total_of}
use Rattle.zms_units.proofs.Counting.{rising_total}
use Rattle.sm_entry.specs.Grammar.{size_of, entry_words, type_bit}
use Rattle.sm_entry.specs.declared.Entry.{Entry}
use Rattle.sm_entry.specs.declared.Entry.TheVariants.{One, Two, Debug}
use Rattle.sm_entry.specs.declared.SmType.{SmType}
use Rattle.sm_entry.specs.declared.SmType.TheVariants.{Alloc, Free}
use Rattle.space_map.specs.declared.places.Place.TheVariants.{Side}
use Rattle.space_map.specs.Batches.{batch, condensed, entry_of}
use Rattle.space_map.specs.Layout.{filler, is_block_end, laid_out, placed, sizes, words_of}
use Rattle.space_map.proofs.Holding.{sizes-cons}
use Rattle.space_map.proofs.Laying.{laid_out-append, length-words_of}

-- an entry with a filler before it or not
few_by : (fills : Bool) (entry : Entry) (n : ℕ) → size_of entry + 1 ≤ n → sizes (if fills then filler ∷ entry ∷ [] else entry ∷ []) ≤ n
few_by true entry n le = omega arith
few_by false entry n le = omega arith

one_by : (fills : Bool) (offset run : ℕ) (kind : SmType) → sizes (if false && fills then filler ∷ One offset run kind ∷ [] else One offset run kind ∷ []) ≡ 1
one_by fills offset run kind = refl

-- a run takes no more words than it has units, but for a whole range that is long
run_few : (at : ℕ) (kind : SmType) (run : Seg) → 0 < run.count → sizes (placed at (entry_of (Side 0) kind run)) ≤ run.count
run_few at kind run some = by_size (nat_le run.count 32768) refl where
  by_size : (short : Bool) → nat_le run.count 32768 ≡ short → sizes (placed at (if short then One run.start run.count kind else Two 0 run.start run.count kind)) ≤ run.count
  by_size true short = omega arith
  by_size false long =
      let many : 32768 < run.count = grind (arith, nat_tests) in
      few_by (is_block_end at) (Two 0 run.start run.count kind) run.count (omega arith)

runs_few : (at low high : ℕ) (kind : SmType) (runs : List Seg) → AreRisingFrom low high runs → sizes (laid_out at (map (entry_of (Side 0) kind) runs)) ≤ total_of runs
runs_few at low high kind [] rising = omega arith
runs_few at low high kind (run ∷ runs) rising =
    let first = placed at (entry_of (Side 0) kind run) in
    let rest = laid_out (at + sizes first) (map (entry_of (Side 0) kind) runs) in
    omega (arith, sum_by-append size_of first rest, run_few at kind run rising.1.0, runs_few (at + sizes first) (end_of run) high kind runs rising.1.1, sum_by-cons (λ (s : Seg). s.count) run runs)

freed_few : (at group units : ℕ) (free : List Seg) → AreSegs units free → sizes (laid_out at (batch (Side 0) group Free free)) ≤ units + 1
freed_few at group units [] segs = omega arith
freed_few at group units (run ∷ runs) segs =
    let entries = map (entry_of (Side 0) Free) (run ∷ runs) in
    let heading : sizes (laid_out at (batch (Side 0) group Free (run ∷ runs))) ≡ 1 + sizes (laid_out (at + 1) entries) = sizes-cons (Debug (type_bit Free) 1 group) (laid_out (at + 1) entries) in
    omega (arith, heading, runs_few (at + 1) 0 units Free (run ∷ runs) segs, rising_total 0 units (run ∷ runs) segs)

abbrev whole : ℕ → Seg
whole units = record { start = 0; count = units }

abbrev whole_by : Bool → ℕ → ℕ → List Entry
whole_by short units group = Debug (type_bit Alloc) 1 group ∷ (placed 1 (if short then One 0 units Alloc else Two 0 0 units Alloc) ++ [])

whole_few : (units group : ℕ) → sizes (laid_out 0 (batch (Side 0) group Alloc (whole units ∷ []))) ≤ 4
whole_few units group = by_size (nat_le units 32768) where
  by_size : (short : Bool) → sizes (whole_by short units group) ≤ 4
  by_size true = omega arith
  by_size false = omega arith

whole_some : (units group : ℕ) → 0 < sizes (laid_out 0 (batch (Side 0) group Alloc (whole units ∷ [])))
whole_some units group = by_size (nat_le units 32768) where
  by_size : (short : Bool) → 0 < sizes (whole_by short units group)
  by_size true = omega arith
  by_size false = omega arith

module _ (group units : ℕ) (free : List Seg) where
  abbrev front : List Entry
  front = laid_out 0 (batch (Side 0) group Alloc (whole units ∷ []))

  abbrev back : List Entry
  back = laid_out (sizes front) (batch (Side 0) group Free free)

  laid : laid_out 0 (condensed group units free) ≡ front ++ back
  laid =
      laid_out-append 0 (batch (Side 0) group Alloc (whole units ∷ [])) (batch (Side 0) group Free free)
      ∙ ap (λ (n : ℕ). front ++ laid_out n (batch (Side 0) group Free free)) (let e : 0 + sizes front ≡ sizes front = omega arith in e)

  -- in two parts, one behind the other, after no words
  pub words_laid : (old first words : List ℕ) (n m : ℕ) → old ≡ [] → n ≡ length old → m ≡ length first → first ≡ old ++ words_of (laid_out (0 + n) (batch (Side 0) group Alloc (whole units ∷ [])))
      → words ≡ first ++ words_of (laid_out (0 + m) (batch (Side 0) group Free free)) → words ≡ words_of (laid_out 0 (condensed group units free))
  words_laid old first words n m none old_len first_len is last =
      let start : 0 + n ≡ 0 = omega (arith, old_len, ap length none) in
      let at_first : first ≡ words_of front = is ∙ ap (λ (o : List ℕ). o ++ words_of (laid_out (0 + n) (batch (Side 0) group Alloc (whole units ∷ [])))) none
      ∙ ap (λ (k : ℕ). words_of (laid_out k (batch (Side 0) group Alloc (whole units ∷ [])))) start in
      let len : 0 + m ≡ sizes front = omega (arith, first_len, ap length at_first, length-words_of front) in
      last ∙ ap (λ (f : List ℕ). f ++ words_of (laid_out (0 + m) (batch (Side 0) group Free free))) at_first
      ∙ ap (λ (k : ℕ). words_of front ++ words_of (laid_out k (batch (Side 0) group Free free))) len
      ∙ sym (flat_map-append entry_words front back) ∙ sym (ap words_of laid)

  words_len : length (words_of (laid_out 0 (condensed group units free))) ≡ sizes front + sizes back
  words_len = length-words_of (laid_out 0 (condensed group units free)) ∙ ap sizes laid ∙ sum_by-append size_of front back

  pub words_room : AreSegs units free → length (words_of (laid_out 0 (condensed group units free))) ≤ units + 64
  words_room segs = omega (arith, words_len, whole_few units group, freed_few (sizes front) group units free segs)

  pub words_some : 0 < length (words_of (laid_out 0 (condensed group units free)))
  words_some = omega (arith, words_len, whole_some units group)
