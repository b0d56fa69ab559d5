-- What the closed classes have.
use Rattle.std.specs.Prelude.{◌≡◌, ℕ, ◌≤◌, List, length}
use Rattle.std.specs.List.{All}
use Rattle.turn_cell.specs.Notes.{Ends}
use Rattle.turn_cell.specs.declared.kept.TheConstants.{MAX_RIGHT}
use Rattle.turn_passes.specs.Pairs.{Each}
use Rattle.ms_model.specs.declared.journals.ClassJournal.{ClassJournal}
use Rattle.class_model.specs.Legal.{IsClassLegal}
use Rattle.class_group.specs.Turns.{ClassTurns, StandsAt, place_of, origin_from}
use Rattle.class_group.specs.Passes.{ClassKnown, right_of}

-- the journal that a turn hands back, by the pass that closed it: it is a legal one of the class that the pass stands for, has
-- of each right of the pass just the notes that the pass had, and needs rights 0 to 16 alone
pub record IsHandedBack (c : ClassKnown) (j : ClassJournal) : Type 0 where
  pub class : j.class ≡ (origin_from c.fixed).class
  pub legal : IsClassLegal (origin_from c.fixed) j.notes
  pub ends : Ends right_of c.own c.seen j.notes
  pub rights : All (λ n. right_of n ≤ MAX_RIGHT) j.notes

-- and the class is the one at a place
pub record IsClosed (t : ClassTurns) (place : ℕ) (c : ClassKnown) (j : ClassJournal) : Type 0 where
  pub class : place_of j.class ≡ place
  pub stands : StandsAt t.vdevs t.weights place (origin_from c.fixed)
  pub back : IsHandedBack c j

-- and so of each class
pub record AreClosed (t : ClassTurns) (p : List ClassKnown) (journals : List ClassJournal) : Type 0 where
  pub count : length journals ≡ length t.cells
  pub passes : length p ≡ length t.cells
  pub each : Each (λ k c j. IsClosed t k c j) p journals
