-- What one holder knows of the classes, one pass a class: a lane, or the rest that nobody notes with.
use Rattle.std.specs.Prelude.{◌≡◌, ℕ, Option, Some, None, List, [], length, slice_get}
use Rattle.zms_units.specs.declared.places.VdevRow.{VdevRow}
use Rattle.turn_cell.specs.Known.{Known}
use Rattle.turn_cell.specs.Lanes.{Ready}
use Rattle.turn_passes.specs.Parts.{IsIdle, IsFresh, IsRest, Has}
use Rattle.turn_passes.specs.Pairs.{Each}
use Rattle.class_model.specs.Replay.{LaneNote}
use Rattle.class_model.specs.declared.origin.ClassOrigin.{ClassOrigin}
use Rattle.class_group.specs.Turns.{ClassTurns, StandsAt, origin_from}

-- one pass
abbrev pub ClassKnown : Type 0
ClassKnown = Known LaneNote ClassOrigin

-- the right that a note needs: its lane's number
abbrev pub right_of : LaneNote → ℕ
right_of n = n.0

abbrev pub fixed_of : Option ClassKnown → Option ClassOrigin
fixed_of None = None
fixed_of (Some c) = c.fixed

abbrev pub seen_of : Option ClassKnown → List LaneNote
seen_of None = []
seen_of (Some c) = c.seen

-- what the class at a place was when the pool was opened
abbrev pub origin_in : List ClassKnown → ℕ → ClassOrigin
origin_in p place = origin_from (fixed_of (slice_get p place))

-- what the holder has seen of its journal
abbrev pub seen_in : List ClassKnown → ℕ → List LaneNote
seen_in p place = seen_of (slice_get p place)

-- a pass knows what the class at a place stands for
pub record KnowsAt (vdevs : List VdevRow) (weights : List ℕ) (place : ℕ) (c : ClassKnown) : Type 0 where
  pub origin : ClassOrigin
  pub is : c.fixed ≡ Some origin
  pub stands : StandsAt vdevs weights place origin

-- one pass for each class, which know what the classes stand for
pub record KnowAll (t : ClassTurns) (p : List ClassKnown) : Type 0 where
  pub count : length t.cells ≡ length p
  pub each : (k : ℕ) (c : ClassKnown) → slice_get p k ≡ Some c → KnowsAt t.vdevs t.weights k c

-- the holder of this right, at rest
pub record Seated (right : ℕ) (t : ClassTurns) (p : List ClassKnown) : Type 0 where
  pub each : Each (λ k turn c. Ready right_of right turn c) t.cells p
  pub know : KnowAll t p

-- passes at rest, whatever their rights
pub record AreIdle (t : ClassTurns) (p : List ClassKnown) : Type 0 where
  pub each : Each (λ k turn c. IsIdle turn c) t.cells p
  pub know : KnowAll t p

-- of new classes, the passes of this right alone
pub record AreFresh (right : ℕ) (t : ClassTurns) (p : List ClassKnown) : Type 0 where
  pub each : Each (λ k turn c. IsFresh right turn c) t.cells p
  pub know : KnowAll t p

-- and those of each right from this one on
pub record AreRests (right : ℕ) (t : ClassTurns) (p : List ClassKnown) : Type 0 where
  pub each : Each (λ k turn c. IsRest right turn c) t.cells p
  pub know : KnowAll t p

-- passes stand for what others do, class by class
pub record StandAlike (q p : List ClassKnown) : Type 0 where
  pub count : length q ≡ length p
  pub each : Each (λ k c d. d.fixed ≡ c.fixed) p q

-- passes have all that others had
abbrev pub HaveAll : List ClassKnown → List ClassKnown → Type 0
HaveAll q p = Each (λ k c d. Has d c) p q
