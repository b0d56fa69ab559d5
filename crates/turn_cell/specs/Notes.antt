-- A journal is a list of notes. Each note needs a right, which is a number.
-- What one holder knows of its own notes: for each of its rights, the notes that need it, in order.
use Rattle.std.specs.Prelude.{◌≡◌, ℕ, ◌≤◌, ◌==◌, ◌||◌, Bool, false, not, if◌then◌else◌, List, [], ◌∷◌, ◌++◌, map, Option, Some, None}
use Rattle.std.specs.List.{filter, list_any}
use Rattle.turn_cell.specs.declared.kept.TheConstants.{MAX_RIGHT}
pub use Rattle.lane_steps.specs.Steps.{notes_at, IsPrefix}

-- rights, each with its notes
abbrev pub Own : Type 0 → Type 0
Own N = List (ℕ × List N)

-- whether r is one of these numbers
abbrev pub among : List ℕ → ℕ → Bool
among rights r = list_any (λ x. x == r) rights

module _ {N : Type 0} where
  -- whether r is one of the rights
  abbrev pub has : Own N → ℕ → Bool
  has [] r = false
  has (e ∷ own) r = (e.0 == r) || has own r

  -- the notes beside the right r
  abbrev pub own_at : Own N → ℕ → List N
  own_at [] r = []
  own_at (e ∷ own) r = if e.0 == r then e.1 else own_at own r

  -- beside each right stand all the journal's notes that need it, in order
  abbrev pub Owns : (N → ℕ) → Own N → List N → Type 0
  Owns right [] journal = Unit {0}
  Owns right (e ∷ own) journal = (e.1 ≡ notes_at right e.0 journal) × Owns right own journal

  -- each of the rights is 0 to 16
  abbrev pub Low : Own N → Type 0
  Low [] = Unit {0}
  Low (e ∷ own) = (e.0 ≤ MAX_RIGHT) × Low own

  -- the rights after these notes were added to the journal
  abbrev pub with_notes : (N → ℕ) → List N → Own N → Own N
  with_notes right notes own = map (λ e. (e.0, e.1 ++ notes_at right e.0 notes)) own

  -- all rights but these
  abbrev pub without : List ℕ → Own N → Own N
  without gone own = filter (λ e. not (among gone e.0)) own

  -- these rights alone
  abbrev pub only : List ℕ → Own N → Own N
  only gone own = filter (λ e. among gone e.0) own

  -- the rights 0 to 16, at an empty journal
  abbrev pub all_rights : Own N
  all_rights =
      (0, []) ∷ (1, []) ∷ (2, []) ∷ (3, []) ∷ (4, []) ∷ (5, []) ∷ (6, []) ∷ (7, []) ∷ (8, []) ∷ (9, [])
      ∷ (10, []) ∷ (11, []) ∷ (12, []) ∷ (13, []) ∷ (14, []) ∷ (15, []) ∷ (16, []) ∷ []

-- h begins the journal j, and these rights have all their notes of it
pub record Ends {N : Type 0} (right : N → ℕ) (own : Own N) (h j : List N) : Type 0 where
  pub begins : IsPrefix h j
  pub owns : Owns right own j

-- the value stands for the fixed part, which is known
abbrev pub StandsFor : {T F : Type 0} → (F → T → Type 0) → Option F → T → Type 0
StandsFor stands None x = ⊥
StandsFor stands (Some f) x = stands f x
