-- What one run more, or a batch, changes of what a map says of a unit.
use Rattle.std.proofs.Common.{◌≡◌, ℕ, Bool, true, false, List, [], ◌∷◌, ◌++◌, map, refl, sym, ◌∙◌, ap, reverse}
use Rattle.std.specs.Prelude.{if◌then◌else◌, ◌||◌}
use Rattle.std.proofs.lemmas.List.{append_assoc, append-nil, reverse-append}
use Rattle.std.specs.List.{find}
use Rattle.std.specs.Option.{option_map_or}
use Rattle.zms_units.specs.declared.segments.Seg.{Seg}
use Rattle.zms_units.specs.Segments.{covered, covers}
use Rattle.sm_entry.specs.declared.SmType.{SmType}
use Rattle.space_map.specs.declared.places.Found.{Found}
use Rattle.space_map.specs.declared.places.Place.TheVariants.{Side}
use Rattle.space_map.specs.Batches.{found_as}
use Rattle.space_map.specs.Replay.{is_alloc, is_held, run_covers}

pub last_decides : (found : List Found) (last : Found) (u : ℕ) → is_held (found ++ last ∷ []) u ≡ (if run_covers u last then is_alloc last.run.kind else is_held found u)
last_decides found last u = ap (λ (f : List Found). option_map_or (λ (l : Found). is_alloc l.run.kind) (find (run_covers u) f) false) (reverse-append found (last ∷ [])) ∙ by_test (run_covers u last) refl where
  by_test : (test : Bool) → run_covers u last ≡ test
      → option_map_or (λ (l : Found). is_alloc l.run.kind) (find (run_covers u) (last ∷ reverse found)) false ≡ (if test then is_alloc last.run.kind else is_held found u)
  by_test true covers = rw covers
  by_test false misses = rw misses

-- a test of two parts
either : (a b held alloc : Bool) → (if b then alloc else (if a then alloc else held)) ≡ (if a || b then alloc else held)
either true true held alloc = refl
either true false held alloc = refl
either false true held alloc = refl
either false false held alloc = refl

pub batch_decides : (found : List Found) (before : ℕ) (kind : SmType) (runs : List Seg) (u : ℕ)
    → is_held (found ++ map (found_as (Side before) kind) runs) u ≡ (if covered runs u then is_alloc kind else is_held found u)
batch_decides found before kind [] u = ap (λ (f : List Found). is_held f u) (append-nil found)
batch_decides found before kind (run ∷ runs) u =
    let first = found_as (Side before) kind run in
    let rest = map (found_as (Side before) kind) runs in
    let held = is_held found u in
    ap (λ (f : List Found). is_held f u) (sym (append_assoc found (first ∷ []) rest))
    ∙ (batch_decides (found ++ first ∷ []) before kind runs u
    ∙ (ap (λ (h : Bool). if covered runs u then is_alloc kind else h) (last_decides found first u)
    ∙ either (covers run u) (covered runs u) held (is_alloc kind)))
