-- What each atomic step tells the pass that makes it: of the pass before, the number found and the pass after.
use Rattle.std.specs.Prelude.{◌≡◌, ◌≢◌, ℕ, ◌≤◌, List, [], ◌∷◌, ◌++◌, length, Option, Some, None}
use Rattle.atomic_table.specs.Table.{Step, Me, rest}
use Rattle.turn_cell.specs.Notes.{Owns, IsPrefix, StandsFor, with_notes, without, only}
use Rattle.turn_cell.specs.Rule.{Heard, AllSeen}
use Rattle.turn_cell.specs.declared.view.View.{View}
use Rattle.turn_cell.specs.declared.view.Stage.{Stage}
use Rattle.turn_cell.specs.declared.view.Stage.TheVariants.{Idle, Holding, Closing}

module _ {N F : Type 0} where
  -- after a try at the lock that found this word
  abbrev pub tried : View N F → List N → ℕ → Stage → View N F
  tried v seen found stage = record v { seen = seen; tried = v.tried ++ found ∷ []; stage = stage }

  abbrev pub glanced : View N F → List N → View N F
  glanced v seen = record v { seen = seen; heard = [] }

  abbrev pub learned_view : View N F → List N → ℕ → View N F
  learned_view v seen count = record v { seen = seen; heard = []; counts = v.counts ++ count ∷ [] }

  abbrev pub added : (N → ℕ) → List N → View N F → View N F
  added right notes v = record v { seen = v.seen ++ notes; own = with_notes right notes v.own }

  abbrev pub at_rest : View N F → View N F
  at_rest v = record v { stage = Idle }

  -- the pass that keeps all rights but these
  abbrev pub left_of : List ℕ → View N F → View N F
  left_of gone v = record v { own = without gone v.own }

  -- the new pass that has these rights
  abbrev pub part_of : List ℕ → View N F → View N F
  part_of gone v = record v { own = only gone v.own; tried = []; counts = []; stage = Idle }

  abbrev pub joined : View N F → View N F → View N F
  joined v u = record v { own = v.own ++ u.own; heard = v.seen ∷ u.seen ∷ v.heard }

  abbrev pub spent : View N F
  spent = record { fixed = None; seen = []; own = []; heard = []; tried = []; counts = []; stage = Idle }

module _ {N F T : Type 0} (journal : T → List N) (right : N → ℕ) (stands : F → T → Type 0) where
  abbrev M : Type 0
  M = Me (Option T) (View N F)

  -- the value was at home and is taken, or the lock word was 1
  abbrev pub grabbed : Step (Option T) → M → ℕ → M → Type 0
  grabbed st me found me' =
      (found ≡ 0 → (x : T) × (IsPrefix me.0.seen (journal x) × (Owns right me.0.own (journal x) × (StandsFor stands me.0.fixed x × (me' ≡ (tried me.0 (journal x) 0 Holding, (0, Some x) ∷ me.1))))))
      × (found ≢ 0 → (found ≡ 1) × (me' ≡ (tried me.0 me.0.seen 1 Idle, me.1)))

  -- the value stays at home for good, or the lock word was 1
  abbrev pub closed : Step (Option T) → M → ℕ → M → Type 0
  closed st me found me' =
      (found ≡ 0 → me' ≡ (tried me.0 me.0.seen 0 Closing, me.1))
      × (found ≢ 0 → (found ≡ 1) × (me' ≡ (tried me.0 me.0.seen 1 Idle, me.1)))

  -- the value is at home again
  abbrev pub released : Step (Option T) → M → ℕ → M → Type 0
  released st me found me' = me' ≡ (at_rest me.0, rest me.1)

module _ {N F T : Type 0} (right : N → ℕ) where
  -- these notes were added to the journal
  abbrev pub noted : List N → Step (Option T) → Me (Option T) (View N F) → ℕ → Me (Option T) (View N F) → Type 0
  noted notes st me found me' = me' ≡ (added right notes me.0, me.1)

  -- the journal so far was seen
  abbrev pub saw : Step (Option T) → Me (Option T) (View N F) → ℕ → Me (Option T) (View N F) → Type 0
  saw st me found me' =
      (more : List N)
      × (Owns right me.0.own (me.0.seen ++ more) × (Heard (me.0.seen ++ more) me.0.heard × (AllSeen more me.0.stage × (me' ≡ (glanced me.0 (me.0.seen ++ more), me.1)))))

  -- the same, and the count that was found is no more than was seen
  abbrev pub learned : Step (Option T) → Me (Option T) (View N F) → ℕ → Me (Option T) (View N F) → Type 0
  learned st me found me' =
      (more : List N)
      × (Owns right me.0.own (me.0.seen ++ more) × ((found ≤ length (me.0.seen ++ more)) × (me' ≡ (learned_view me.0 (me.0.seen ++ more) found, me.1))))
