-- What the definitions give: the statements of the laws.
use Rattle.std.specs.Prelude.{◌≡◌, ℕ, ◌<◌, ◌≤◌, List, ◌++◌}
use Rattle.turn_cell.specs.Notes.{IsPrefix}
use Rattle.vdev_map.specs.Numbers.{metaslabs_in}
use Rattle.ms_model.specs.Origin.{Origin}
use Rattle.ms_model.specs.Units.{held, collected_group}
use Rattle.ms_model.specs.Legal.{IsLegal}
use Rattle.ms_model.specs.declared.notes.Noted.{Noted}
use Rattle.pool_keeper.specs.History.{History}
use Rattle.pool_keeper.specs.Images.{Remembers}

-- a note behind the collect of a group is of a later group, so what the group holds does not change however the journal grows
abbrev pub HeldStays : Type 0
HeldStays = (o : Origin) (h more : List Noted) (t u : ℕ) → IsLegal o (h ++ more) → t ≤ collected_group o h → held o (h ++ more) t u ≡ held o h t u

-- so an image remembers by the journals as they are at the end what it remembered by their beginnings
abbrev pub RemembersAtEnd : Type 0
RemembersAtEnd =
    (h : History) (journal : ℕ → List Noted) (low : ℕ) (image : List ℕ)
    → ((k : ℕ) → k < metaslabs_in h.layout.vdevs → IsPrefix (h.journal k) (journal k) × IsLegal (h.origin k) (journal k))
    → Remembers h low image → Remembers (record h { journal = journal }) low image
