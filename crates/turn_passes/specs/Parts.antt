-- The passes of one turn: that of a lane, which has one right, and the rest, which has all from one right on.
use Rattle.std.specs.Prelude.{◌≡◌, ℕ, zero, suc, ◌+◌, ◌-◌, false, List, [], ◌∷◌}
use Rattle.std.specs.List.{Contains}
use Rattle.turn_cell.specs.Notes.{Own, IsPrefix}
use Rattle.turn_cell.specs.Known.{Known, TableId}
use Rattle.turn_cell.specs.declared.kept.TheConstants.{MAX_RIGHT}

-- so many rights from one on, at an empty journal
abbrev pub rights : {N : Type 0} → ℕ → ℕ → Own N
rights right zero = []
rights right (suc count) = (right, []) ∷ rights (right + 1) count

module _ {N F : Type 0} where
  -- a pass of this turn that has nothing out
  pub record IsIdle (turn : TableId) (p : Known N F) : Type 0 where
    pub at : p.turn ≡ turn
    pub idle : p.out ≡ false

  -- a pass of a new turn that has this right alone
  pub record IsFresh (right : ℕ) (turn : TableId) (p : Known N F) : Type 0 where
    pub at : p.turn ≡ turn
    pub idle : p.out ≡ false
    pub seen : p.seen ≡ []
    pub own : p.own ≡ (right, []) ∷ []

  -- a pass of a new turn that has each right from this one on
  pub record IsRest (right : ℕ) (turn : TableId) (p : Known N F) : Type 0 where
    pub at : p.turn ≡ turn
    pub idle : p.out ≡ false
    pub seen : p.seen ≡ []
    pub own : p.own ≡ rights right (MAX_RIGHT + 1 - right)

  -- a pass has what another had: each of its rights, with the same notes, and all that it had seen
  pub record Has (q p : Known N F) : Type 0 where
    pub rights : (e : ℕ × List N) → Contains p.own e → Contains q.own e
    pub seen : IsPrefix p.seen q.seen

  -- a pass at rest, which two others were joined to
  pub record Joined (p q both : Known N F) : Type 0 where
    pub at : both.turn ≡ p.turn
    pub idle : both.out ≡ false
    pub fixed : both.fixed ≡ p.fixed
    pub first : Has both p
    pub second : Has both q
