-- What the definitions give: each law is the contract of a function of `laws`.
use Rattle.std.specs.Prelude.{◌≡◌, ℕ, ◌<◌, ◌≤◌, ◌==◌, Option, Some, List, [], ◌∷◌, ◌++◌, length, map}
use Rattle.std.specs.List.{IsDistinct}
use Rattle.ms_model.specs.declared.notes.Got.{Got}
use Rattle.ms_model.specs.declared.notes.Start.{Start}
use Rattle.ms_model.specs.declared.notes.Start.TheVariants.{Top, After}
use Rattle.class_model.specs.Replay.{LaneNote, Pair, IsVdevOf, metaslabs_of, weight_at, active_at, rotor_at}
use Rattle.class_model.specs.Picks.{ComesBefore, IsAnswer}
use Rattle.class_model.specs.Legal.{IsClassLegal}
use Rattle.class_model.specs.declared.origin.ClassOrigin.{ClassOrigin}

-- a pick has at most one answer
abbrev pub AnswersAreOne : Type 0
AnswersAreOne = (o : ClassOrigin) (h : List LaneNote) (v : ℕ) (p : Pair) (bytes : ℕ) (start : Start) (a b : Option Got) → IsAnswer o h v p bytes start a → IsAnswer o h v p bytes start b → a ≡ b

-- a metaslab is active for at most one pair
abbrev pub MetaslabsHaveOnePair : Type 0
MetaslabsHaveOnePair = (o : ClassOrigin) (h : List LaneNote) → IsClassLegal o h → (v i : ℕ) (p q : Pair) → active_at h v p ≡ Some i → active_at h v q ≡ Some i → p ≡ q

-- what is active is a metaslab of the vdev, and so is what a pick gives
abbrev pub ActiveAreMetaslabs : Type 0
ActiveAreMetaslabs = (o : ClassOrigin) (h : List LaneNote) → IsClassLegal o h → (v i : ℕ) (p : Pair) → active_at h v p ≡ Some i → i < metaslabs_of o v

abbrev pub PicksAreMetaslabs : Type 0
PicksAreMetaslabs = (o : ClassOrigin) (h : List LaneNote) → IsClassLegal o h → (v : ℕ) (p : Pair) (bytes : ℕ) (start : Start) (g : Got) → IsAnswer o h v p bytes start (Some g) → g.index < metaslabs_of o v

-- the rotor is at a vdev of the class
abbrev pub RotorsAreVdevs : Type 0
RotorsAreVdevs = (o : ClassOrigin) (h : List LaneNote) → 0 < length o.vdevs → IsVdevOf o (rotor_at o h).vdev

-- a look of a walk: what a pick gave at some journal with the weights of this one, whatever was active then
pub record IsLook (o : ClassOrigin) (h : List LaneNote) (v : ℕ) (p : Pair) (bytes : ℕ) (start : Start) (g : Got) : Type 0 where
  pub at : List LaneNote
  pub same : (i : ℕ) → weight_at o at v i ≡ weight_at o h v i
  pub answer : IsAnswer o at v p bytes start (Some g)

-- each look of a walk begins after the one before it
abbrev pub GoesOn : ClassOrigin → List LaneNote → ℕ → Pair → ℕ → Got → List Got → Type 0
GoesOn o h v p bytes g [] = Unit {0}
GoesOn o h v p bytes g (x ∷ xs) = IsLook o h v p bytes (After g.weight g.index) x × GoesOn o h v p bytes x xs

-- and the first at the top
abbrev pub IsWalk : ClassOrigin → List LaneNote → ℕ → Pair → ℕ → List Got → Type 0
IsWalk o h v p bytes [] = Unit {0}
IsWalk o h v p bytes (x ∷ xs) = IsLook o h v p bytes Top x × GoesOn o h v p bytes x xs

-- each comes before the next
abbrev pub FallsFrom : Got → List Got → Type 0
FallsFrom g [] = Unit {0}
FallsFrom g (x ∷ xs) = ComesBefore g x × FallsFrom x xs

abbrev pub Falls : List Got → Type 0
Falls [] = Unit {0}
Falls (x ∷ xs) = FallsFrom x xs

-- a walk goes down, visits no metaslab twice, and ends
abbrev pub WalksVisitOnce : Type 0
WalksVisitOnce = (o : ClassOrigin) (h : List LaneNote) (v : ℕ) (p : Pair) (bytes : ℕ) (gots : List Got) → IsWalk o h v p bytes gots
    → Falls gots × (IsDistinct (λ i j. i == j) (map (λ g. g.index) gots) × (length gots ≤ metaslabs_of o v))

-- what stands before a note of a legal journal is legal
abbrev pub BeginningsAreLegal : Type 0
BeginningsAreLegal = (o : ClassOrigin) (h rest : List LaneNote) → IsClassLegal o (h ++ rest) → IsClassLegal o h
