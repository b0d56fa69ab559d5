-- A side that is written anew.
use Rattle.std.proofs.Common.{◌≡◌, ℕ, ◌<◌, ◌^◌, Bool, true, false, List, [], ◌∷◌, ◌++◌, map, refl, ◌∙◌, ap, subst, arith}
use Rattle.std.specs.Prelude.{if◌then◌else◌, not}
use Rattle.std.specs.List.{All, filter_map}
use Rattle.std.proofs.lemmas.Bool.Decides.{nat_tests}
use Rattle.std.proofs.lemmas.List.Elements.{All-append, filter_map-append}
use Rattle.zms_units.specs.declared.segments.Seg.{Seg}
use Rattle.zms_units.specs.Segments.{AreSegs, covered}
use Rattle.sm_entry.specs.Grammar.{IsFitting}
use Rattle.sm_entry.specs.declared.SmType.TheVariants.{Alloc, Free}
use Rattle.sm_entry.specs.declared.Entry.{Entry}
use Rattle.space_map.specs.declared.places.Found.{Found}
use Rattle.space_map.specs.declared.places.MapKind.TheVariants.{Side as SideMap}
use Rattle.space_map.specs.declared.places.Place.TheVariants.{Side}
use Rattle.space_map.specs.Layout.{laid_out, words_of}
use Rattle.space_map.specs.Batches.{batch, condensed, found_as}
use Rattle.space_map.specs.Reading.{Decodes, found_in}
use Rattle.space_map.specs.Replay.{is_held}
use Rattle.space_map.specs.Laws.{HoldsAllButFree}
use Rattle.space_map.proofs.Laying.{Suits}
use Rattle.space_map.proofs.Batching.{batch_suits, found_batch, read_after}
use Rattle.space_map.proofs.Fitting.{side_batch_fits}
use Rattle.space_map.proofs.Replaying.{batch_decides}

-- the whole range as one segment
abbrev whole : ℕ → Seg
whole units = record { start = 0; count = units }

whole_segs : (units : ℕ) → 0 < units → AreSegs units (whole units ∷ [])
whole_segs units some = (omega arith, (some, omega arith))

module _ (group units : ℕ) (free : List Seg) (named : group < 2 ^ 50) (some : 0 < units) (within : units < 2 ^ 32) (segs : AreSegs units free) where
  first : List Entry
  first = batch (Side 0) group Alloc (whole units ∷ [])

  abbrev found : List Found
  found = map (found_as (Side 0) Alloc) (whole units ∷ []) ++ map (found_as (Side 0) Free) free

  fits : All IsFitting (condensed group units free)
  fits = All-append IsFitting (batch (Side 0) group Alloc (whole units ∷ [])) (batch (Side 0) group Free free)
      (side_batch_fits 0 group Alloc units (whole units ∷ []) named (whole_segs units some) within)
      (side_batch_fits 0 group Free units free named segs within)

  suits : All (Suits (SideMap units)) (condensed group units free)
  suits = All-append (Suits (SideMap units)) (batch (Side 0) group Alloc (whole units ∷ [])) (batch (Side 0) group Free free)
      (batch_suits (Side 0) group Alloc (whole units ∷ []) (SideMap units) (whole_segs units some))
      (batch_suits (Side 0) group Free free (SideMap units) segs)

  given : filter_map found_in (condensed group units free) ≡ found
  given =
      filter_map-append found_in (batch (Side 0) group Alloc (whole units ∷ [])) (batch (Side 0) group Free free)
      ∙ (ap (λ (f : List Found). f ++ filter_map found_in (batch (Side 0) group Free free)) (found_batch (Side 0) group Alloc (whole units ∷ []))
      ∙ ap (λ (f : List Found). map (found_as (Side 0) Alloc) (whole units ∷ []) ++ f) (found_batch (Side 0) group Free free))

  decodes : Decodes (SideMap units) (words_of (laid_out 0 (condensed group units free))) found
  decodes =
      subst (λ (f : List Found). Decodes (SideMap units) (words_of (laid_out 0 (condensed group units free))) f) given
      (read_after (SideMap units) [] [] (condensed group units free) (record { entries = []; held = refl; sound = tt; given = refl }) fits suits)

  held : (u : ℕ) → u < units → is_held found u ≡ not (covered free u)
  held u below =
      batch_decides (map (found_as (Side 0) Alloc) (whole units ∷ [])) 0 Free free u
      ∙ (ap (λ (h : Bool). if covered free u then false else h) at_first ∙ by_cover (covered free u)) where
        at_first : is_held (map (found_as (Side 0) Alloc) (whole units ∷ [])) u ≡ true
        at_first = grind (arith, nat_tests)

        by_cover : (c : Bool) → (if c then false else true) ≡ not c
        by_cover true = refl
        by_cover false = refl

  pub holds_all_but_free : HoldsAllButFree (words_of (laid_out 0 (condensed group units free))) units free
  holds_all_but_free = record { found = found; decodes = decodes; held = held }
