-- What holds of a turn between any two atomic steps. Word 0 is the lock, word 1 counts the notes, and the slot has the value.
use Rattle.std.specs.Prelude.{◌≡◌, ◌≢◌, ℕ, ◌≤◌, ◌%◌, ◌^◌, Bool, true, false, List, [], ◌∷◌, ◌++◌, length, Option, Some, None, is_some}
use mathlib.Core.Option as maybe
use lib.ListN.{get_elem?}
use Rattle.atomic_table.specs.Table.{State, Me}
use Rattle.std.specs.List.{All}
use Rattle.turn_cell.specs.Notes.{Owns, Low, IsPrefix, has, all_rights}
use Rattle.turn_cell.specs.declared.kept.TheConstants.{MAX_RIGHT}
use Rattle.turn_cell.specs.Known.{Known, TableId}
use Rattle.turn_cell.specs.declared.view.View.{View}
use Rattle.turn_cell.specs.declared.view.Stage.{Stage}
use Rattle.turn_cell.specs.declared.view.Stage.TheVariants.{Idle, Holding, Closing}

-- where the value is: at home, out with a seat, or at home for good, by a seat that closes
pub data Lock (T : Type 0) : Type 0 where
  free : T → Lock T
  out : ℕ → Lock T
  shut : ℕ → T → Lock T

module _ {T : Type 0} where
  abbrev pub lock_word : Lock T → ℕ
  lock_word (free x) = 0
  lock_word (out j) = 1
  lock_word (shut j x) = 1

  abbrev pub lock_home : Lock T → maybe.Option (Option T)
  lock_home (free x) = maybe.some (Some x)
  lock_home (out j) = maybe.none
  lock_home (shut j x) = maybe.some (Some x)

  abbrev pub StageFits : Lock T → ℕ → Stage → Type 0
  StageFits lock seat Idle = Unit {0}
  StageFits lock seat Holding = lock ≡ out seat
  StageFits lock seat Closing = (x : T) × (lock ≡ shut seat x)

-- who holds the value has seen all
abbrev pub AllSeen : {N : Type 0} → List N → Stage → Type 0
AllSeen more Holding = more ≡ []
AllSeen more _ = Unit {0}

-- each of these is a beginning of the journal
abbrev pub Heard : {N : Type 0} → List N → List (List N) → Type 0
Heard log [] = Unit {0}
Heard log (h ∷ hs) = IsPrefix h log × Heard log hs

-- what the pass of a seat knows is so
pub record Fits {N F T : Type 0} (right : N → ℕ) (key : F) (log : List N) (lock : Lock T) (seat : ℕ) (v : View N F) : Type 0 where
  pub fixed : v.fixed ≡ Some key
  pub more : List N
  pub whole : log ≡ v.seen ++ more
  pub mine : Owns right v.own log
  pub low : Low v.own
  pub heard : Heard log v.heard
  pub stage : StageFits lock seat v.stage
  pub all_seen : AllSeen more v.stage

module _ {N F T : Type 0} (journal : T → List N) (right : N → ℕ) (stands : F → T → Type 0) (key : F) where
  -- a value at home has the journal, and stands for the fixed part
  abbrev pub Inside : List N → Lock T → Type 0
  Inside log (free x) = (journal x ≡ log) × stands key x
  Inside log (out j) = Unit {0}
  Inside log (shut j x) = (journal x ≡ log) × stands key x

  -- the pass of each seat knows what is so
  abbrev pub Seats : List N → Lock T → List (View N F) → Type 0
  Seats log lock views = (j : ℕ) (v : View N F) → get_elem? views j ≡ maybe.some v → is_some v.fixed ≡ true → Fits right key log lock j v

  -- no two seats have the same right
  abbrev pub Apart : List (View N F) → Type 0
  Apart views =
      (i j r : ℕ) (u v : View N F)
      → i ≢ j → get_elem? views i ≡ maybe.some u → get_elem? views j ≡ maybe.some v → has u.own r ≡ true → has v.own r ≡ true → ⊥

  -- there is one journal, which the value stores while it is at home, whose length the count has, and whose notes need rights 0 to 16
  pub record Turns (s : State (Option T) (View N F)) : Type 0 where
    pub log : List N
    pub lock : Lock T
    pub words : s.words ≡ lock_word lock ∷ length log % 2 ^ 64 ∷ []
    pub homes : s.homes ≡ lock_home lock ∷ []
    pub inside : Inside log lock
    pub ranged : All (λ n. right n ≤ MAX_RIGHT) log
    pub seats : Seats log lock s.views
    pub apart : Apart s.views

-- the view of the first seat
abbrev pub newcomer : {N F : Type 0} → F → View N F
newcomer key = record { fixed = Some key; seen = []; own = all_rights; heard = []; tried = []; counts = []; stage = Idle }

abbrev pub is_holding : Stage → Bool
is_holding Holding = true
is_holding _ = false

-- a seat as contracts see it
abbrev pub known : {N F T : Type 0} → TableId → Me (Option T) (View N F) → Known N F
known turn me = record {
  turn = turn;
  fixed = me.0.fixed;
  seen = me.0.seen;
  own = me.0.own;
  out = is_holding me.0.stage;
  tries = me.0.tried;
  counts = me.0.counts;
}

-- the seat has the slot exactly while it holds the value, and then the slot is empty
abbrev pub Carries : {T : Type 0} → Stage → List (ℕ × Option T) → Type 0
Carries Idle slots = slots ≡ []
Carries Holding slots = slots ≡ (0, None) ∷ []
Carries Closing slots = ⊥

-- what holds of each pass between two calls
pub record IsPass {N F T : Type 0} (right : N → ℕ) (me : Me (Option T) (View N F)) : Type 0 where
  pub live : is_some me.0.fixed ≡ true
  pub whole : Owns right me.0.own me.0.seen
  pub carries : Carries me.0.stage me.1
