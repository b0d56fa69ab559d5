-- Where a segment stands among runs, and what is left of a run.
use Rattle.std.specs.Prelude.{ℕ, ◌<◌, ◌≤◌, ◌==◌, if◌then◌else◌, List, [], ◌∷◌, length, slice_index_or}
use Rattle.std.specs.List.{AllWithin, HoldsAt}
use Rattle.zms_units.specs.declared.segments.Seg.{Seg}
use Rattle.zms_units.specs.Segments.{end_of}

-- a segment as a list of runs: none where it is empty
abbrev pub runs_of : Seg → List Seg
runs_of seg = if seg.count == 0 then [] else seg ∷ []

-- the run at a place covers a segment whole
pub record IsHolder (runs : List Seg) (seg : Seg) (index : ℕ) : Type 0 where
  pub place : index < length runs
  pub from : HoldsAt (λ (run : Seg). run.start ≤ seg.start) runs index
  pub till : HoldsAt (λ (run : Seg). end_of seg ≤ end_of run) runs index

-- the runs from one place up to another are those that a segment overlaps, or begins or ends at
pub record Touches (runs : List Seg) (seg : Seg) (low high : ℕ) : Type 0 where
  pub order : low ≤ high
  pub bound : high ≤ length runs
  pub before : AllWithin (λ (run : Seg). end_of run < seg.start) runs 0 low
  pub from : AllWithin (λ (run : Seg). seg.start ≤ end_of run) runs low (length runs)
  pub till : AllWithin (λ (run : Seg). run.start ≤ end_of seg) runs 0 high
  pub after : AllWithin (λ (run : Seg). end_of seg < run.start) runs high (length runs)

-- of two lists of which so many runs are taken, the first one's next run comes no later than the second one's
pub record IsNextRun (first : List Seg) (taken : ℕ) (second : List Seg) (used : ℕ) : Type 0 where
  pub place : taken < length first
  pub sooner : used < length second → (d : Seg) → (slice_index_or first taken d).start ≤ (slice_index_or second used d).start
