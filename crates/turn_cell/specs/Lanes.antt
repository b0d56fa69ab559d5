-- The pass of a lane, which has one right: the lane's number.
use Rattle.std.specs.Prelude.{◌≡◌, ℕ, false, List, [], ◌∷◌, Some}
use Rattle.turn_cell.specs.Notes.{notes_at}
pub use Rattle.lane_steps.specs.Steps.{Step, look, noting, after, notes_of, Quiet, Follows, Settled}
use Rattle.turn_cell.specs.Known.{Known, TableId}

module _ {N F : Type 0} (right : N → ℕ) (lane : ℕ) where
  -- a pass of the lane for this turn, at rest
  pub record Ready (turn : TableId) (p : Known N F) : Type 0 where
    pub at : p.turn ≡ turn
    pub idle : p.out ≡ false
    pub own : p.own ≡ (lane, notes_at right lane p.seen) ∷ []

  -- the lane's pass was p and is q, at rest, and the lane took just these turns
  pub record Went (steps : List (Step N)) (p q : Known N F) : Type 0 where
    pub at : q.turn ≡ p.turn
    pub fixed : q.fixed ≡ p.fixed
    pub idle : q.out ≡ false
    pub own : q.own ≡ (lane, notes_at right lane q.seen) ∷ []
    pub follows : Follows right lane p.seen steps q.seen

-- the lane's pass as it was split from a new turn
abbrev pub fresh : {N F : Type 0} → ℕ → TableId → F → Known N F
fresh lane turn fixed = record { turn = turn; fixed = Some fixed; seen = []; own = (lane, []) ∷ []; out = false; tries = []; counts = [] }
