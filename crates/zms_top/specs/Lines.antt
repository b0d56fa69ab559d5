-- When the replies of a lane are backed by what it did: each command's part of the lane's events is as the table of
-- replies says, and the events are all that the lane did in each journal.
use Rattle.std.specs.Prelude.{◌≡◌, ℕ, ◌+◌, ◌*◌, ◌^◌, ◌<◌, ◌⊎◌, Bool, Option, Some, None, List, [], ◌∷◌, ◌++◌, slice_get}
use Rattle.zms_units.specs.Limits.{IsBlockSize, MAX_BLOCK_SIZE}
use Rattle.std.specs.List.{Contains}
use Rattle.zms_units.specs.declared.segments.Seg.{Seg}
use Rattle.zms_units.specs.declared.segments.Group.{Group}
use Rattle.zms_units.specs.declared.blocks.Dva.{Dva}
use Rattle.zms_units.specs.declared.faults.First.{First}
use Rattle.zms_units.specs.declared.places.Class.TheVariants.{Normal}
use Rattle.zms_units.specs.Rounding.{AreUnitsOf}
use Rattle.ms_model.specs.Origin.{Origin}
use Rattle.ms_model.specs.Units.{last_act}
use Rattle.ms_model.specs.Legal.{IsWithin, IsGrantedBy, IsLowestLacking}
use Rattle.ms_model.specs.declared.notes.Act.TheVariants.{Grant, Free as FreeAct, Miss, Collect, Settle, Load}
use Rattle.ms_model.specs.declared.notes.Act.{Act}
use Rattle.ms_model.specs.declared.notes.Noted.{Noted}
use Rattle.ms_model.specs.declared.notes.GateNote.{GateNote}
use Rattle.ms_model.specs.declared.notes.GateNote.TheVariants.{Closed, Settled}
use Rattle.ms_model.specs.Steps.{look, noting, Follows}
use Rattle.ms_model.specs.Parts.{right_of, gate_right}
use Rattle.ms_model.specs.Gates.{open_group}
use Rattle.ms_model.specs.Events.{Event, at_gate, at_metaslab, gate_steps, metaslab_steps}
use Rattle.zms_dev.specs.Causes.{one_more}
use Rattle.zms_top.specs.Answers.{Replied, first_fault, copies_named}
use Rattle.cmd_text.specs.declared.script.What.{What}
use Rattle.cmd_text.specs.declared.script.What.TheVariants.{Alloc, Free, Sync}
use Rattle.zms_top.specs.declared.replies.Answer.{Answer}
use Rattle.zms_top.specs.declared.replies.Answer.TheVariants.{Granted, NoSpace, BadSize, Done, NoName, NotLive, Device, Damaged, Suspended}

-- what the lines need of the pool: the group at which it was opened, and its one vdev: the shift, the units of each of
-- its metaslabs, how many metaslabs there are, and which units of each the opened group held
pub record Shape : Type 0 where
  pub opened : ℕ
  pub ashift : ℕ
  pub units : ℕ
  pub metaslabs : ℕ
  pub bases : ℕ → ℕ → Bool

-- one of its metaslabs as it was opened
abbrev pub origin_at : Shape → ℕ → Origin
origin_at pool at = record { units = pool.units; ashift = pool.ashift; opened = pool.opened; base = pool.bases at }

-- the place of a metaslab's unit, in bytes of its vdev
abbrev pub offset_at : Shape → ℕ → ℕ → ℕ
offset_at pool at unit = (at * pool.units + unit) * 2 ^ pool.ashift

-- the place of a metaslab's segment
abbrev pub dva_at : Shape → ℕ → Seg → Dva
dva_at pool at seg = record { class = Normal; vdev = 0; offset = offset_at pool at seg.start; size = seg.count * 2 ^ pool.ashift }

-- a lane holds the open group, acts, and gives the hold back
pub record Holding (pool : Shape) (group : ℕ) (inner es : List Event) : Type 0 where
  pub start : List GateNote
  pub stop : List GateNote
  pub is_open : group ≡ open_group pool.opened start
  pub whole : es ≡ at_gate (look start) ∷ (inner ++ (at_gate (look stop) ∷ []))

-- the metaslabs below a place were looked at in order, and each has a miss of exactly so many units
pub data Missed (lane count : ℕ) : ℕ → List Event → Type 0 where
  none : Missed lane count 0 []
  more : (at : ℕ) (es : List Event) (before : List Noted) → Missed lane count at es
      → Missed lane count (at + 1) (es ++ (at_metaslab at (noting before (record { lane = lane; act = Miss count })) ∷ []))

-- the metaslabs before one were looked at and missed, and this one granted the segment
pub record Found (pool : Shape) (lane count : ℕ) (group : Group) (copies : List Dva) (es : List Event) : Type 0 where
  pub misses : List Event
  pub at : ℕ
  pub before : List Noted
  pub seg : Seg
  pub inside : at < pool.metaslabs
  pub missed : Missed lane count at misses
  pub counts : seg.count ≡ count
  pub whole : es ≡ misses ++ (at_metaslab at (noting before (record { lane = lane; act = Grant group seg })) ∷ [])
  pub copies_are : copies ≡ dva_at pool at seg ∷ []

-- `granted`: the size is one of a block, a metaslab granted its units in the group of the hold, and those before it missed
pub record IsGranted (pool : Shape) (lane size : ℕ) (group : Group) (copies : List Dva) (es : List Event) : Type 0 where
  pub count : ℕ
  pub units : AreUnitsOf size pool.ashift count
  pub inner : List Event
  pub holding : Holding pool group.0 inner es
  pub found : Found pool lane count group copies inner

-- `nospace`: every metaslab has a miss of the block's units, and their number is told
pub record IsNoSpace (pool : Shape) (lane size looked : ℕ) (es : List Event) : Type 0 where
  pub count : ℕ
  pub units : AreUnitsOf size pool.ashift count
  pub group : ℕ
  pub inner : List Event
  pub holding : Holding pool group inner es
  pub missed : Missed lane count pool.metaslabs inner
  pub all : looked ≡ pool.metaslabs

-- for the lane, free space of metaslabs was brought into memory, and nothing else was noted by the keeper
abbrev pub AreLoads : ℕ → ℕ → List Event → Type 0
AreLoads lane metaslabs [] = Unit {0}
AreLoads lane metaslabs (at_metaslab at step ∷ kept) = (at < metaslabs) × ((step.note ≡ Some (record { lane = lane; act = Load })) × AreLoads lane metaslabs kept)
AreLoads lane metaslabs (at_gate _ ∷ kept) = ⊥

-- `es` are the lane's events, and `kept` those of the keeper for it
abbrev pub AllocLine : Shape → ℕ → ℕ → Answer → List Event → List Event → Type 0
AllocLine pool lane size (Granted group copies) es kept = IsBlockSize size × (IsGranted pool lane size group copies es × AreLoads lane pool.metaslabs kept)
AllocLine pool lane size (NoSpace looked) es kept = IsBlockSize size × (IsNoSpace pool lane size looked es × AreLoads lane pool.metaslabs kept)
AllocLine pool lane size BadSize es kept = ((size ≡ 0) ⊎ (MAX_BLOCK_SIZE < size)) × ((es ≡ []) × (kept ≡ []))
AllocLine pool lane size _ es kept = ⊥

-- each of these copies was freed in the group, in order
pub data Freed (pool : Shape) (lane : ℕ) (group : Group) : List Dva → List Event → Type 0 where
  none : Freed pool lane group [] []
  more : (copies : List Dva) (es : List Event) (at : ℕ) (seg : Seg) (before : List Noted) → Freed pool lane group copies es
      → at < pool.metaslabs → IsWithin pool.units seg
      → Freed pool lane group (copies ++ (dva_at pool at seg ∷ [])) (es ++ (at_metaslab at (noting before (record { lane = lane; act = FreeAct group seg })) ∷ []))

-- `done` of a free: every copy was freed in the group of the hold
pub record IsFreed (pool : Shape) (lane : ℕ) (group : Group) (copies : List Dva) (es : List Event) : Type 0 where
  pub inner : List Event
  pub holding : Holding pool group.0 inner es
  pub freed : Freed pool lane group copies inner

-- `notlive`: the copies before one were freed, and of this one the lane saw the lowest unit whose last act was not a grant
-- of a group of at most the hold's. The place where it saw this is the journal as it was then
pub record IsNotLive (pool : Shape) (lane : ℕ) (copies : List Dva) (vdev offset : ℕ) (es : List Event) : Type 0 where
  pub group : Group
  pub inner : List Event
  pub holding : Holding pool group.0 inner es
  pub freed : List Dva
  pub frees : List Event
  pub freed_are : Freed pool lane group freed frees
  pub at : ℕ
  pub seg : Seg
  pub rest : List Dva
  pub inside : at < pool.metaslabs
  pub within : IsWithin pool.units seg
  pub copies_are : copies ≡ freed ++ (dva_at pool at seg ∷ rest)
  pub before : List Noted
  pub unit : ℕ
  pub lowest : IsLowestLacking (λ u. IsGrantedBy group.0 (last_act (origin_at pool at) before u)) seg unit
  pub vdev_is : vdev ≡ 0
  pub offset_is : offset ≡ offset_at pool at unit
  pub whole : inner ≡ frees ++ (at_metaslab at (look before) ∷ [])

-- a free gives back what the lane was granted under the name, and nothing else; `noname` comes where there is no such grant
abbrev pub FreeLine : Shape → ℕ → Option (List Dva) → Answer → List Event → List Event → Type 0
FreeLine pool lane (Some copies) (Done group) es kept = IsFreed pool lane group copies es × AreLoads lane pool.metaslabs kept
FreeLine pool lane (Some copies) (NotLive vdev offset) es kept = IsNotLive pool lane copies vdev offset es × AreLoads lane pool.metaslabs kept
FreeLine pool lane None NoName es kept = (es ≡ []) × (kept ≡ [])
FreeLine pool lane _ _ es kept = ⊥

-- the keeper noted this act for the lane at each of the metaslabs below a place, in order, and nothing else
pub data NotedAtEach (lane : ℕ) (act : Act) : ℕ → List Event → Type 0 where
  none : NotedAtEach lane act 0 []
  more : (at : ℕ) (kept : List Event) (before : List Noted) → NotedAtEach lane act at kept
      → NotedAtEach lane act (at + 1) (kept ++ (at_metaslab at (noting before (record { lane = lane; act = act })) ∷ []))

-- the keeper saw at the gate that the lane had closed the group, and then collected it at each of the metaslabs
pub record Collects (lane : ℕ) (group : Group) (metaslabs : ℕ) (kept : List Event) : Type 0 where
  pub seen : List GateNote
  pub closed : Contains seen (Closed lane group)
  pub notes : List Event
  pub noted : NotedAtEach lane (Collect group) metaslabs notes
  pub whole : kept ≡ at_gate (look seen) ∷ notes

-- the metaslabs below a place were seen in order, each when it had settled the group
pub data SeenSettled (group : Group) : ℕ → List Event → Type 0 where
  none : SeenSettled group 0 []
  more : (at : ℕ) (es : List Event) (before : List Noted) (by : ℕ) → SeenSettled group at es
      → Contains before (record { lane = by; act = Settle group })
      → SeenSettled group (at + 1) (es ++ (at_metaslab at (look before) ∷ []))

-- `done`: the lane closed the open group, and behind that the keeper collected it at each metaslab and then settled it there
-- and at the gate, and at return the gate and each metaslab had settled it
pub record IsSynced (pool : Shape) (lane : ℕ) (group : Group) (es kept : List Event) : Type 0 where
  pub collects : List Event
  pub collected : Collects lane group pool.metaslabs collects
  pub settles : List Event
  pub settled_each : NotedAtEach lane (Settle group) pool.metaslabs settles
  pub gate_before : List GateNote
  pub kept_is : kept ≡ collects ++ (settles ++ (at_gate (noting gate_before (Settled group)) ∷ []))
  pub before : List GateNote
  pub is_open : group.0 ≡ open_group pool.opened before
  pub seen : List Event
  pub settled : SeenSettled group pool.metaslabs seen
  pub after : List GateNote
  pub gate_settled : Contains after (Settled group)
  pub whole : es ≡ at_gate (noting before (Closed lane group)) ∷ (seen ++ (at_gate (look after) ∷ []))

-- the lane closed the open group, behind that the keeper collected it at each metaslab, and it was settled nowhere
pub record IsUnsettled (pool : Shape) (lane : ℕ) (es kept : List Event) : Type 0 where
  pub before : List GateNote
  pub group : Group
  pub collected : Collects lane group pool.metaslabs kept
  pub is_open : group.0 ≡ open_group pool.opened before
  pub whole : es ≡ at_gate (noting before (Closed lane group)) ∷ []

-- a sync goes on only while no fault is kept: it is done, or the device failed once, or what it read was damaged; from then
-- on each answers the first fault
abbrev pub SyncLine : Shape → ℕ → Option First → Answer → List Event → List Event → Type 0
SyncLine pool lane None (Done group) es kept = IsSynced pool lane group es kept
SyncLine pool lane None (Device low high) es kept = (high ≡ one_more low) × IsUnsettled pool lane es kept
SyncLine pool lane None (Damaged id damage) es kept = IsUnsettled pool lane es kept
SyncLine pool lane (Some first) (Suspended told) es kept = (told ≡ first) × ((es ≡ []) × (kept ≡ []))
SyncLine pool lane _ _ es kept = ⊥

-- the line of one command, behind the replies of the commands before it
abbrev pub WhatLine : Shape → ℕ → List Replied → What → Answer → List Event → List Event → Type 0
WhatLine pool lane done (Alloc _ size _ _) answer es kept = AllocLine pool lane size answer es kept
WhatLine pool lane done (Free name) answer es kept = FreeLine pool lane (copies_named name done) answer es kept
WhatLine pool lane done Sync answer es kept = SyncLine pool lane (first_fault done) answer es kept
WhatLine pool lane done _ answer es kept = ⊥

pub record Line (pool : Shape) (done : List Replied) (r : Replied) (es kept : List Event) : Type 0 where
  pub lane : r.reply.lane ≡ r.command.lane
  pub what : WhatLine pool r.command.lane done r.command.what r.reply.answer es kept

-- the lines of all commands, one behind the other
pub data Lines (pool : Shape) : List Replied → List Event → List Event → Type 0 where
  none : Lines pool [] [] []
  more : (done : List Replied) (es kept : List Event) (r : Replied) (es_of kept_of : List Event)
      → Lines pool done es kept → Line pool done r es_of kept_of → Lines pool (done ++ (r ∷ [])) (es ++ es_of) (kept ++ kept_of)

-- the intervals of `device` replies join end to end from the device's count at one moment to that at another, and each is
-- of one fault; so nothing else raised the count
abbrev pub AreIntervals : ℕ → ℕ → List Answer → Type 0
AreIntervals low high [] = high ≡ low
AreIntervals low high (Device before after ∷ rest) = (before ≡ low) × ((after ≡ one_more low) × AreIntervals after high rest)
AreIntervals low high (_ ∷ rest) = AreIntervals low high rest

-- a lane's replies are backed by the journals of the gate and of the metaslabs, in the pool's order; `kept` are the events
-- of the keeper for it
pub record AreBacked (pool : Shape) (lane : ℕ) (done : List Replied) (kept : List Event) (gate : List GateNote) (metaslabs : List (List Noted)) : Type 0 where
  pub events : List Event
  pub lines : Lines pool done events kept
  pub at_the_gate : Follows gate_right lane [] (gate_steps events) gate
  pub each : (k : ℕ) (h : List Noted) → slice_get metaslabs k ≡ Some h → Follows right_of lane [] (metaslab_steps k events) h

-- the keeper's notes in each journal are these, in order, and no others
pub record AreKept (kept : List Event) (gate : List GateNote) (metaslabs : List (List Noted)) : Type 0 where
  pub at_the_gate : Follows gate_right 0 [] (gate_steps kept) gate
  pub each : (k : ℕ) (h : List Noted) → slice_get metaslabs k ≡ Some h → Follows right_of 0 [] (metaslab_steps k kept) h
