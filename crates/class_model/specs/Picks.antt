-- Which metaslab of a vdev a pick gives.
use Rattle.std.specs.Prelude.{◌≡◌, ℕ, ◌<◌, ◌⊎◌, Option, Some, None, List, MatchOption}
use Rattle.zms_units.specs.Weights.{PassesOver}
use Rattle.ms_model.specs.declared.notes.Got.{Got}
use Rattle.ms_model.specs.declared.notes.Start.{Start}
use Rattle.ms_model.specs.declared.notes.Start.TheVariants.{Active, Top, After}
use Rattle.class_model.specs.Replay.{LaneNote, Pair, metaslabs_of, weight_at, active_at}
use Rattle.class_model.specs.declared.origin.ClassOrigin.{ClassOrigin}

-- one metaslab comes before another: by the higher weight, and of one weight by the lower index
abbrev pub ComesBefore : Got → Got → Type 0
ComesBefore a b = (b.weight < a.weight) ⊎ ((a.weight ≡ b.weight) × (a.index < b.index))

-- an inactive metaslab of the vdev that is not passed over, with its weight
pub record MayGive (o : ClassOrigin) (h : List LaneNote) (v bytes : ℕ) (g : Got) : Type 0 where
  pub within : g.index < metaslabs_of o v
  pub weight : g.weight ≡ weight_at o h v g.index
  pub inactive : (p : Pair) → active_at h v p ≡ Some g.index → ⊥
  pub fits : PassesOver g.weight bytes → ⊥

-- it comes behind the one after which the pick begins, if after any
abbrev pub IsBehind : Start → Got → Type 0
IsBehind Active g = Unit {0}
IsBehind Top g = Unit {0}
IsBehind (After weight index) g = ComesBefore (record { index = index; weight = weight }) g

-- a metaslab has P, and none with P comes before it
pub record IsFirst (P : Got → Type 0) (g : Got) : Type 0 where
  pub is : P g
  pub first : (other : Got) → P other → ComesBefore other g → ⊥

-- the first metaslab with P, and none where none has it
abbrev pub IsFirstOf : (Got → Type 0) → Option Got → Type 0
IsFirstOf P got = MatchOption got ((g : Got) → P g → ⊥) (IsFirst P)

-- the first that may be given, from the start on
abbrev pub IsFirstFrom : ClassOrigin → List LaneNote → ℕ → ℕ → Start → Option Got → Type 0
IsFirstFrom o h v bytes start got = IsFirstOf (λ g. MayGive o h v bytes g × IsBehind start g) got

-- a pick that begins at the active metaslab gives that one, whatever it weighs; where there is none, it begins at the top
abbrev pub IsActiveOr : ClassOrigin → List LaneNote → ℕ → ℕ → Option ℕ → Option Got → Type 0
IsActiveOr o h v bytes None got = IsFirstFrom o h v bytes Top got
IsActiveOr o h v bytes (Some i) got = got ≡ Some (record { index = i; weight = weight_at o h v i })

-- what a pick of a pair on a vdev gives
abbrev pub IsAnswer : ClassOrigin → List LaneNote → ℕ → Pair → ℕ → Start → Option Got → Type 0
IsAnswer o h v p bytes Active got = IsActiveOr o h v bytes (active_at h v p) got
IsAnswer o h v p bytes Top got = IsFirstFrom o h v bytes Top got
IsAnswer o h v p bytes (After weight index) got = IsFirstFrom o h v bytes (After weight index) got
