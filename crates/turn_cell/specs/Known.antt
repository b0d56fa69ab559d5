-- A pass as contracts see it.
use Rattle.std.specs.Prelude.{ℕ, Bool, List, Option}
use Rattle.turn_cell.specs.Notes.{Own}
pub use Rattle.atomic_table.specs.Seated.{TableId}

pub record Known (N F : Type 0) : Type 0 where
  -- which turn: a turn is this in a clause
  pub turn : TableId
  -- what the value stands for: `Some` in every pass that a turn gave
  pub fixed : Option F
  -- a beginning of the journal
  pub seen : List N
  -- its rights, each with its notes of the journal
  pub own : Own N
  -- the value is out with this pass
  pub out : Bool
  -- the lock words that its tries found, in order
  pub tries : List ℕ
  -- the counts of notes that its `learn`s loaded, in order
  pub counts : List ℕ
