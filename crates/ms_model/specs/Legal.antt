-- Which note may follow which, and the legal history.
use Rattle.std.specs.Prelude.{◌≡◌, ℕ, ◌+◌, ◌<◌, ◌≤◌, true, false, Some, None, List, ◌∷◌, ◌++◌}
use Rattle.std.specs.List.{All}
use Rattle.zms_units.specs.Cursors.{cursor_of}
use Rattle.zms_units.specs.declared.segments.Seg.{Seg}
use Rattle.zms_units.specs.Segments.{end_of, Covers}
use Rattle.zms_units.specs.Runs.{IsFit, NoneInRow}
use Rattle.ms_model.specs.Origin.{Origin}
use Rattle.ms_model.specs.Units.{LastAct, granted, last_act, settled_group, collected_group, is_loaded, worker_at}
use Rattle.ms_model.specs.Spaces.{is_vacant}
use Rattle.ms_model.specs.Cursors.{cursor_at}
use Rattle.ms_model.specs.declared.notes.Act.{Act}
use Rattle.ms_model.specs.declared.notes.Act.TheVariants.{Grant, Free, Unalloc, Miss, Shut, Collect, Settle, Load, Unload, Disable, Work, Enable}
use Rattle.ms_model.specs.declared.notes.Noted.{Noted}

-- a segment that is not empty and lies within so many units
pub record IsWithin (units : ℕ) (seg : Seg) : Type 0 where
  pub some : 0 < seg.count
  pub within : end_of seg ≤ units

-- a group in which the metaslab may change: above the collected one, and at most three above the settled one
pub record IsOpenGroup (o : Origin) (h : List Noted) (group : ℕ) : Type 0 where
  pub above : collected_group o h < group
  pub near : group ≤ settled_group o h + 3

-- the metaslab takes requests: its free space is in memory, and no worker keeps them away
pub record TakesRequests (h : List Noted) : Type 0 where
  pub loaded : is_loaded h ≡ true
  pub enabled : worker_at h ≡ None

-- a grant takes vacant units alone, and those that the fit names at the cursor of its count
pub record MayGrant (o : Origin) (h : List Noted) (group : ℕ) (seg : Seg) : Type 0 where
  pub takes : TakesRequests h
  pub open_group : IsOpenGroup o h group
  pub within : IsWithin o.units seg
  pub vacant : (u : ℕ) → Covers seg u → is_vacant o h u ≡ true
  pub fit : IsFit (is_vacant o h) o.units o.ashift (cursor_at h (cursor_of seg.count)) seg.count seg

-- a miss says that no so many vacant units stand in a row
pub record MayMiss (o : Origin) (h : List Noted) (count : ℕ) : Type 0 where
  pub takes : TakesRequests h
  pub none : NoneInRow (is_vacant o h) o.units count

-- a refusal by a worker
pub record MayShut (h : List Noted) : Type 0 where
  pub loaded : is_loaded h ≡ true
  pub worker : ℕ
  pub disabled : worker_at h ≡ Some worker

-- a unit is the lowest of a segment of which something does not hold
pub record IsLowestLacking (Has : ℕ → Type 0) (seg : Seg) (unit : ℕ) : Type 0 where
  pub inside : Covers seg unit
  pub lacks : Has unit → ⊥
  pub below : (u : ℕ) → Covers seg u → u < unit → Has u

-- the last act is a grant of a group of at most t
abbrev pub IsGrantedBy : ℕ → LastAct → Type 0
IsGrantedBy t (granted _ group) = group ≤ t
IsGrantedBy t _ = ⊥

-- a free is of units that are handed out, in no later group
pub record MayFree (o : Origin) (h : List Noted) (group : ℕ) (seg : Seg) : Type 0 where
  pub loaded : is_loaded h ≡ true
  pub open_group : IsOpenGroup o h group
  pub within : IsWithin o.units seg
  pub live : (u : ℕ) → Covers seg u → IsGrantedBy group (last_act o h u)

-- a take-back is of units that this lane was granted in this group and journal
pub record MayTakeBack (o : Origin) (h : List Noted) (lane group : ℕ) (seg : Seg) : Type 0 where
  pub loaded : is_loaded h ≡ true
  pub open_group : IsOpenGroup o h group
  pub within : IsWithin o.units seg
  pub own : (u : ℕ) → Covers seg u → last_act o h u ≡ granted (Some lane) group

-- an act of a group above s that changes a unit's space
abbrev pub ChangesAbove : ℕ → Act → Type 0
ChangesAbove s (Grant group _) = s < group.0
ChangesAbove s (Free group _) = s < group.0
ChangesAbove s (Unalloc group _) = s < group.0
ChangesAbove s _ = ⊥

-- free space may be given up where all that changed is settled
pub record MayUnload (o : Origin) (h : List Noted) : Type 0 where
  pub takes : TakesRequests h
  pub settled : All (λ note. ChangesAbove (settled_group o h) note.act → ⊥) h

-- a worker comes to a metaslab that takes requests
pub record MayDisable (h : List Noted) (lane worker : ℕ) : Type 0 where
  pub takes : TakesRequests h
  pub own : worker ≡ lane

-- a worker's segment is vacant, and the metaslab is its own
pub record MayWork (o : Origin) (h : List Noted) (lane worker : ℕ) (seg : Seg) : Type 0 where
  pub disabled : worker_at h ≡ Some worker
  pub own : worker ≡ lane
  pub within : IsWithin o.units seg
  pub vacant : (u : ℕ) → Covers seg u → is_vacant o h u ≡ true

-- a worker leaves the metaslab that is its own
pub record MayEnable (h : List Noted) (lane worker : ℕ) : Type 0 where
  pub disabled : worker_at h ≡ Some worker
  pub own : worker ≡ lane

-- an act of a lane may follow a journal
abbrev pub MayDo : Origin → List Noted → ℕ → Act → Type 0
MayDo o h lane (Grant group seg) = MayGrant o h group.0 seg
MayDo o h lane (Free group seg) = MayFree o h group.0 seg
MayDo o h lane (Unalloc group seg) = MayTakeBack o h lane group.0 seg
MayDo o h lane (Miss count) = MayMiss o h count
MayDo o h lane Shut = MayShut h
MayDo o h lane (Collect group) = group.0 ≡ collected_group o h + 1
MayDo o h lane (Settle group) = (group.0 ≡ settled_group o h + 1) × (group.0 ≤ collected_group o h)
MayDo o h lane Load = is_loaded h ≡ false
MayDo o h lane Unload = MayUnload o h
MayDo o h lane (Disable worker) = MayDisable h lane worker
MayDo o h lane (Work worker _ seg) = MayWork o h lane worker seg
MayDo o h lane (Enable worker) = MayEnable h lane worker

-- a legal history: each note may follow those before it
abbrev pub IsLegal : Origin → List Noted → Type 0
IsLegal o h = (before : List Noted) (note : Noted) (rest : List Noted) → before ++ (note ∷ rest) ≡ h → MayDo o before note.lane note.act
