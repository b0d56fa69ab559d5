-- What the journals of closed classes say of one holder, and of all.
use Rattle.std.specs.Prelude.{◌≡◌, ℕ, ◌≤◌, Some, List, [], slice_get}
use Rattle.std.specs.List.{All}
use Rattle.turn_cell.specs.Notes.{IsPrefix}
use Rattle.turn_cell.specs.Lanes.{Follows}
use Rattle.ms_model.specs.declared.journals.ClassJournal.{ClassJournal}
use Rattle.class_group.specs.Passes.{ClassKnown, right_of, seen_in}
use Rattle.class_group.specs.Journey.{ClassStep, steps_at}

-- each journal has P, by its place
abbrev pub EachJournal : (ℕ → ClassJournal → Type 0) → List ClassJournal → Type 0
EachJournal P journals = (k : ℕ) (j : ClassJournal) → slice_get journals k ≡ Some j → P k j

-- all that the holder of a right did is these steps, in this order: each note that needs the right is that of a step, and stands
-- where the step found the journal
abbrev pub InJournals : ℕ → List ClassStep → List ClassJournal → Type 0
InJournals right steps journals = EachJournal (λ k j. Follows right_of right [] (steps_at k steps) j.notes) journals

-- no note needs a right above this one
abbrev pub NeedAtMost : ℕ → List ClassJournal → Type 0
NeedAtMost most journals = EachJournal (λ k j. All (λ n. right_of n ≤ most) j.notes) journals

-- each journal begins with what passes had seen of it
abbrev pub GoOn : List ClassKnown → List ClassJournal → Type 0
GoOn p journals = EachJournal (λ k j. IsPrefix (seen_in p k) j.notes) journals
