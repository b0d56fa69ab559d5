-- What one lane did in one journal: a list of steps, each at a place of the journal, each with one note or none.
-- Each note needs a right, which is a number; the notes of a lane are those that need its number.
use Rattle.std.specs.Prelude.{◌≡◌, ℕ, ◌==◌, List, [], ◌∷◌, ◌++◌, Option, Some, None, IfSome}
use Rattle.std.specs.List.{filter}
use Rattle.std.specs.Option.{option_to_list}
pub use mathlib.Core.List.{IsPrefix}

-- one step: the journal as it was found, and the note that was added to it
pub record Step (N : Type 0) : Type 0 where
  pub before : List N
  pub note : Option N

module _ {N : Type 0} where
  -- a step that added nothing
  abbrev pub look : List N → Step N
  look h = record { before = h; note = None }

  abbrev pub noting : List N → N → Step N
  noting h n = record { before = h; note = Some n }

  -- the journal as the step left it
  abbrev pub after : Step N → List N
  after s = s.before ++ option_to_list s.note

  -- what these steps added, in order
  abbrev pub notes_of : List (Step N) → List N
  notes_of [] = []
  notes_of (s ∷ steps) = option_to_list s.note ++ notes_of steps

  -- the notes that need the right r, in order
  abbrev pub notes_at : (N → ℕ) → ℕ → List N → List N
  notes_at right r notes = filter (λ n. r == right n) notes

module _ {N : Type 0} (right : N → ℕ) (lane : ℕ) where
  -- the journal grew from h to j by no note of the lane
  pub record Quiet (h j : List N) : Type 0 where
    pub more : List N
    pub is : h ++ more ≡ j
    pub none : notes_at right lane more ≡ []

  -- the journal grew from h to j, the lane took just these steps in this order, and added nothing else
  abbrev pub Follows : List N → List (Step N) → List N → Type 0
  Follows h [] j = Quiet h j
  Follows h (s ∷ steps) j = Quiet h s.before × (IfSome s.note (λ n. right n ≡ lane) × Follows (after s) steps j)

  -- h begins the journal j, and has all the lane's notes of it
  pub record Settled (h j : List N) : Type 0 where
    pub begins : IsPrefix h j
    pub same : notes_at right lane h ≡ notes_at right lane j
