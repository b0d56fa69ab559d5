-- What one holder knows of the cells, one pass a cell: a lane, the keeper, or the rest that nobody notes with.
use Rattle.std.specs.Prelude.{◌≡◌, ℕ, Option, Some, None, List, [], length, slice_get}
use Rattle.zms_units.specs.declared.segments.Group.{Group}
use Rattle.turn_cell.specs.Known.{Known}
use Rattle.turn_cell.specs.Lanes.{Ready}
use Rattle.turn_passes.specs.Parts.{IsIdle, IsFresh, IsRest, Has}
use Rattle.turn_passes.specs.Pairs.{Each}
use Rattle.ms_model.specs.Origin.{Origin}
use Rattle.ms_model.specs.Parts.{right_of, gate_right}
use Rattle.ms_model.specs.declared.notes.Noted.{Noted}
use Rattle.ms_model.specs.declared.notes.GateNote.{GateNote}
use Rattle.ms_core.specs.declared.kept.Standing.{Standing}
use Rattle.ms_cell.specs.Turns.{Turns, StandsAt, origin_from}

pub record Passes : Type 0 where
  pub gate : Known GateNote Group
  pub metaslabs : List (Known Noted Standing)

abbrev pub fixed_of : Option (Known Noted Standing) → Option Standing
fixed_of None = None
fixed_of (Some c) = c.fixed

abbrev pub seen_of : Option (Known Noted Standing) → List Noted
seen_of None = []
seen_of (Some c) = c.seen

abbrev pub tries_of : Option (Known Noted Standing) → List ℕ
tries_of None = []
tries_of (Some c) = c.tries

-- what the metaslab of a number was when the pool was opened
abbrev pub origin_in : Passes → ℕ → Origin
origin_in p number = origin_from (fixed_of (slice_get p.metaslabs number))

-- what the holder has seen of its journal
abbrev pub seen_in : Passes → ℕ → List Noted
seen_in p number = seen_of (slice_get p.metaslabs number)

-- the lock words that the holder's tries found there
abbrev pub tries_in : Passes → ℕ → List ℕ
tries_in p number = tries_of (slice_get p.metaslabs number)

-- a pass knows what the metaslab of a number stands for
pub record KnowsAt (t : Turns) (number : ℕ) (c : Known Noted Standing) : Type 0 where
  pub standing : Standing
  pub is : c.fixed ≡ Some standing
  pub stands : StandsAt t.vdevs t.opened number standing

-- one pass for each cell, which know what the cells stand for
pub record KnowAll (t : Turns) (p : Passes) : Type 0 where
  pub count : length t.metaslabs ≡ length p.metaslabs
  pub opened : p.gate.fixed ≡ Some (record { 0 = t.opened })
  pub each : (k : ℕ) (c : Known Noted Standing) → slice_get p.metaslabs k ≡ Some c → KnowsAt t k c

-- the holder of this right, at rest: a lane's number, or 0, the keeper's
pub record Seated (right : ℕ) (t : Turns) (p : Passes) : Type 0 where
  pub gate : Ready gate_right right t.gate p.gate
  pub each : Each (λ k turn c. Ready right_of right turn c) t.metaslabs p.metaslabs
  pub know : KnowAll t p

-- passes at rest, whatever their rights
pub record AreIdle (t : Turns) (p : Passes) : Type 0 where
  pub gate : IsIdle t.gate p.gate
  pub each : Each (λ k turn c. IsIdle turn c) t.metaslabs p.metaslabs
  pub know : KnowAll t p

-- of new cells, the passes of this right alone
pub record AreFresh (right : ℕ) (t : Turns) (p : Passes) : Type 0 where
  pub gate : IsFresh right t.gate p.gate
  pub each : Each (λ k turn c. IsFresh right turn c) t.metaslabs p.metaslabs
  pub know : KnowAll t p

-- and those of each right from this one on
pub record AreRests (right : ℕ) (t : Turns) (p : Passes) : Type 0 where
  pub gate : IsRest right t.gate p.gate
  pub each : Each (λ k turn c. IsRest right turn c) t.metaslabs p.metaslabs
  pub know : KnowAll t p

-- passes stand for what others do, cell by cell
pub record StandAlike (q p : Passes) : Type 0 where
  pub gate : q.gate.fixed ≡ p.gate.fixed
  pub count : length q.metaslabs ≡ length p.metaslabs
  pub each : Each (λ k c d. d.fixed ≡ c.fixed) p.metaslabs q.metaslabs

-- passes have all that others had
pub record HaveAll (q p : Passes) : Type 0 where
  pub gate : Has q.gate p.gate
  pub each : Each (λ k c d. Has d c) p.metaslabs q.metaslabs
