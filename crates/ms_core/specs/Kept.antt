-- What a metaslab keeps of itself beside its journal, and how the two agree.
use Rattle.std.specs.Prelude.{◌≡◌, ℕ, ◌+◌, ◌-◌, ◌/◌, ◌<◌, ◌≤◌, ◌≢◌, ◌==◌, if◌then◌else◌, Bool, true, None, List, Vec, min, slice_index}
use Rattle.zms_units.specs.Cursors.{cursor_of}
use Rattle.zms_units.specs.Limits.{CURSORS, IsShift, MAX_UNITS}
use Rattle.std.specs.List.{All}
use Rattle.std.specs.Vec.{vec_len, vec_capacity}
use Rattle.zms_units.specs.declared.segments.Seg.{Seg}
use Rattle.zms_units.specs.Segments.{covered, end_of, AreSegs}
use Rattle.zms_units.specs.Runs.{units_in}
use Rattle.seg_trees.specs.Sets.{Sets, AllStay, nodes_of, all_nodes}
use Rattle.ms_model.specs.Origin.{Origin}
use Rattle.ms_model.specs.Units.{settled_group, collected_group, is_loaded, worker_at}
use Rattle.ms_model.specs.Cursors.{cursor_at}
use Rattle.ms_model.specs.Counts.{live_units, deferred_units}
use Rattle.ms_model.specs.Legal.{IsLegal}
use Rattle.ms_model.specs.declared.notes.Act.{Act}
use Rattle.ms_model.specs.declared.notes.Act.TheVariants.{Unload}
use Rattle.ms_model.specs.declared.notes.Noted.{Noted}
use Rattle.ms_core.specs.Mirrors.{Mirrors}
use Rattle.ms_core.specs.State.{MsState, AreOfLanes, noted}
use Rattle.ms_core.specs.declared.metaslab.Metaslab.TheInside.{Inside}

-- how many nodes the trees have of what is given back and not vacant yet
abbrev pub waiting_nodes : Sets → ℕ
waiting_nodes sets = nodes_of (sets 5) + (nodes_of (sets 6) + (nodes_of (sets 7) + (nodes_of (sets 8) + (nodes_of (sets 9) + nodes_of (sets 10)))))

-- for how many actions there is room: each takes up to two notes, its own and that of a later settle, beside those that
-- the groups to be settled will take, and up to two spare nodes of the trees, beside as many as wait
abbrev pub action_room : {R : Type 0} → (R → Sets) → (R → ℕ) → Inside R → ℕ
action_room set spare m = min ((vec_capacity m.notes - (vec_len m.notes + (m.collected.0 - m.settled.0))) / 2) ((spare m.trees - waiting_nodes (set m.trees)) / 2)

-- what contracts see
abbrev pub state_in : {R : Type 0} → (R → Sets) → (R → ℕ) → Inside R → MsState
state_in set spare m =
    record { id = m.id; units = m.units; ashift = m.ashift; opened = m.opened.0; base = m.base.items; notes = m.notes.items; room = action_room set spare m; memory = record { notes = vec_capacity m.notes; nodes = spare m.trees + all_nodes (set m.trees); base = vec_capacity m.base } }

-- what is kept, as numbers and lists
pub record Book : Type 0 where
  pub units : ℕ
  pub ashift : ℕ
  pub opened : ℕ
  pub base : List Seg
  pub notes : List Noted
  pub loaded : Bool
  pub cursors : List ℕ
  pub collected : ℕ
  pub settled : ℕ
  pub held : ℕ
  pub live : ℕ
  pub deferred : ℕ

abbrev pub book_in : {R : Type 0} → Inside R → Book
book_in m = record { units = m.units; ashift = m.ashift; opened = m.opened.0; base = m.base.items; notes = m.notes.items; loaded = m.loaded; cursors = m.cursors; collected = m.collected.0; settled = m.settled.0; held = m.held; live = m.live; deferred = m.deferred }

abbrev pub origin_in : Book → Origin
origin_in m = record { units = m.units; ashift = m.ashift; opened = m.opened; base = covered m.base }

-- the journal is legal, each note is of a lane, no worker came and free space was never given up, and what else is kept says
-- the same as the journal
pub record IsKept (sets : Sets) (m : Book) : Type 0 where
  pub least : 64 ≤ m.units
  pub most : m.units ≤ MAX_UNITS
  pub shift : IsShift m.ashift
  pub base : AreSegs m.units m.base
  pub legal : IsLegal (origin_in m) m.notes
  pub enabled : worker_at m.notes ≡ None
  pub stays : All (λ (note : Noted). note.act ≢ Unload) m.notes
  pub lanes : AreOfLanes m.notes
  pub collected : m.collected ≡ collected_group (origin_in m) m.notes
  pub settled : m.settled ≡ settled_group (origin_in m) m.notes
  pub order : m.settled ≤ m.collected
  pub loaded : m.loaded ≡ is_loaded m.notes
  pub mirrors : Mirrors (origin_in m) m.notes sets
  pub cursors : m.loaded ≡ true → (number : ℕ) → number < CURSORS → slice_index m.cursors number ≡ cursor_at m.notes number
  pub held : m.held ≡ units_in (covered m.base) m.units
  pub live : m.live ≡ live_units (origin_in m) m.notes
  pub deferred : m.deferred ≡ deferred_units (origin_in m) m.notes

-- the same of the fields, and there is room for the note of each settle to come, and for each node that waits for one
pub record HoldsTogether {R : Type 0} (set : R → Sets) (spare : R → ℕ) (m : Inside R) : Type 0 where
  pub kept : IsKept (set m.trees) (book_in m)
  pub waiting : waiting_nodes (set m.trees) ≤ spare m.trees
  pub room : vec_len m.notes + m.collected.0 ≤ vec_capacity m.notes + m.settled.0

-- one note more, in the memory that is there
pub record IsNotedIn {Z : Type 0} (old new : Vec Noted Z) (lane : ℕ) (act : Act) : Type 0 where
  pub items : new.items ≡ noted old.items lane act
  pub len : vec_len new ≡ vec_len old + 1
  pub capacity : vec_capacity new ≡ vec_capacity old

-- the same notes and trees, with no less room
pub record IsRoomier {Z : Type 0} (old new : Vec Noted Z) (sets new_sets : Sets) (spare new_spare : ℕ) : Type 0 where
  pub items : new.items ≡ old.items
  pub len : vec_len new ≡ vec_len old
  pub capacity : vec_capacity old ≤ vec_capacity new
  pub nodes : spare ≤ new_spare
  pub stay : AllStay sets new_sets

-- the cursor of a segment's count is at the segment's end, and the others are where they were
abbrev pub MovesCursor : List ℕ → List ℕ → Seg → Type 0
MovesCursor cursors new seg = (number : ℕ) → number < CURSORS → slice_index new number ≡ (if cursor_of seg.count == number then end_of seg else slice_index cursors number)
