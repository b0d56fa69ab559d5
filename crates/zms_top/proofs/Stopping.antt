-- The device of a run at every stop, from the rewind on.
use Rattle.std.proofs.Common.{◌≡◌, ℕ, ◌≤◌, Option, List, [], ◌∷◌, ◌++◌, ◌⊎◌, inl, inr, refl, sym, ◌∙◌, ap, arith}
use Rattle.std.proofs.lemmas.List.{append_assoc}
use Rattle.std.proofs.lemmas.List.{append_cancel_left}
use Rattle.zms_units.specs.declared.segments.Group.{Group}
use Rattle.ms_model.specs.Origin.{Origin}
use Rattle.ms_model.specs.Units.{settled_group}
use Rattle.ms_model.specs.Legal.{IsLegal}
use Rattle.ms_model.specs.declared.notes.Noted.{Noted}
use Rattle.ms_core.specs.State.{origin_of}
use Rattle.zms_dev.specs.Disk.{DiskState, Tells, bytes_of}
use Rattle.zms_dev.specs.Runs.{LeavesOnly, Spares}
use Rattle.zms_dev.specs.Stream.{SourceState, SinkState}
use Rattle.zms_dev.proofs.Sparing.{spares_then, spares_less}
use Rattle.vdev_map.specs.declared.layout.Layout.{Layout}
use Rattle.vdev_map.specs.declared.table.Table.{Table}
use Rattle.uber_ring.specs.declared.slot.Uber.{Uber}
use Rattle.meta_store.specs.Heads.{head_of}
use Rattle.meta_store.specs.Kept.{LiesIn}
use Rattle.meta_store.specs.Rewinds.{IsRewinding, EndsRewound, Adds, IsNoGate}
use Rattle.meta_store.specs.Stores.{IsAtRest, HasStore}
use Rattle.meta_store.specs.declared.causes.At.{At}
use Rattle.meta_store.proofs.KeptPlaces.{group_of_table}
use Rattle.zms_top.specs.Ends.{LanesEnd}
use Rattle.zms_top.specs.World.{world}
use Rattle.zms_top.specs.Stored.{Remembers, IsBeside, IsAskedAlways, IsAtEveryStop}
use Rattle.ms_model.specs.declared.journals.Journals.{Journals}
use Rattle.cmd_text.specs.declared.script.Command.{Command}
use Rattle.zms_top.specs.declared.status.RunLists.{RunLists}
use Rattle.zms_top.specs.declared.status.Status.{Status}
use Rattle.zms_top.specs.Pools.{IsStoreOf, IsRemembered}
use Rattle.zms_top.specs.FreshPool.{IsFresh}
use Rattle.zms_top.specs.Reports.{IsOpenedWhole, LanesLeave}
use Rattle.zms_top.specs.declared.pool.Pool.{Pool}
use Rattle.zms_top.proofs.EndLemmas.{acts_from}
use Rattle.zms_top.proofs.Growing.{grows_rest}
use Rattle.zms_top.proofs.Remembering.{rewound_remembers, remembers_grown}

module _ (at : At) (p : Pool) (layout : Layout) (table : Table) (fresh : IsFresh p) (store : IsStoreOf p layout table) (start mid : DiskState) (whole : IsOpenedWhole at p layout table start) where
  abbrev o : Origin
  o = origin_of p.metaslab

  abbrev uber : Uber
  uber = whole.opens.uber

  pub has_store : HasStore (bytes_of start) uber layout table
  has_store = whole.opens.opened.has

  pub lies : LiesIn (bytes_of start) uber
  lies = whole.whole.lies uber whole.opens.asked

  named : uber.group.0 ≡ o.opened
  named = ap (λ (g : Group). g.0) (group_of_table (bytes_of start) uber (head_of layout) table has_store.rows.has_table) ∙ (store.group ∙ ap (settled_group o) fresh.notes)

  -- from the moment on at which the others were closed each image remembers what was opened
  since_rewound : (ends : EndsRewound uber start mid) (c : List ℕ) → mid.left_since ends.moment c → Remembers layout o [] o.opened c
  since_rewound ends c left = rewound_remembers layout o uber (bytes_of start) c (ends.since c left) lies named whole.base

  -- so the pool that was opened is remembered when the lanes begin
  pub rewound_is : (ends : EndsRewound uber start mid) → Tells mid → IsAtRest mid layout table → ((t : ℕ) (c : List ℕ) → t ≤ mid.moment → mid.may_leave c → mid.left_since t c) → IsRemembered p layout table mid
  rewound_is ends tells rests counts = record {
    tells = tells;
    rests = λ _. rests;
    left = λ c may. rw fresh.notes (since_rewound ends c (counts ends.moment c ends.early may));
  }

  module _ (ends : EndsRewound uber start mid) (h : List Noted) (end : DiskState) (legal : IsLegal o h) (run : LeavesOnly mid end (Remembers layout o h o.opened)) (adds : Adds mid end)
      (after_first : (t : ℕ) (rest : List ℕ) → mid.flushes ≡ start.flushes ++ t ∷ rest → (c : List ℕ) → mid.left_since t c → IsRewinding uber (bytes_of start) c) where
    abbrev noted_then : List ℕ
    noted_then = ends.ends.before ++ ends.moment ∷ ends.ends.rest

    grown : (c : List ℕ) → Remembers layout o [] o.opened c → Remembers layout o h o.opened c
    grown c was = remembers_grown layout o [] h o.opened c (grows_rest o [] h legal) was

    noted : end.flushes ≡ start.flushes ++ (noted_then ++ adds.more)
    noted = adds.noted ∙ (ap (λ (f : List ℕ). f ++ adds.more) ends.ends.noted ∙ append_assoc start.flushes noted_then adds.more)

    split : noted_then ++ adds.more ≡ ends.ends.before ++ ends.moment ∷ (ends.ends.rest ++ adds.more)
    split = append_assoc ends.ends.before (ends.moment ∷ ends.ends.rest) adds.more

    from_mid : (t : ℕ) (rest : List ℕ) (xs : List ℕ) → noted_then ≡ xs → xs ++ adds.more ≡ t ∷ rest → (more : List ℕ) × (noted_then ≡ t ∷ more)
    from_mid t rest [] is all = absurd (none ends.ends.before is) where
      none : (before : List ℕ) → before ++ ends.moment ∷ ends.ends.rest ≡ [] → ⊥
      none [] e = cc
      none (x ∷ xs) e = cc
    from_mid t rest (x ∷ xs) is all = let e : x ≡ t = cc in (xs, is ∙ ap (λ (n : ℕ). n ∷ xs) e)

    first : (t : ℕ) (rest : List ℕ) → end.flushes ≡ start.flushes ++ t ∷ rest → (more : List ℕ) × (mid.flushes ≡ start.flushes ++ t ∷ more)
    first t rest is =
        let all : noted_then ++ adds.more ≡ t ∷ rest = append_cancel_left start.flushes (noted_then ++ adds.more) (t ∷ rest) (sym noted ∙ is) in
        let found = from_mid t rest noted_then refl all in
        (found.0, ends.ends.noted ∙ ap (λ (l : List ℕ). start.flushes ++ l) found.1)

    earlier : (t : ℕ) (rest : List ℕ) → end.flushes ≡ start.flushes ++ t ∷ rest → (c : List ℕ) → mid.left_since t c ⊎ Remembers layout o h o.opened c
        → IsRewinding uber (bytes_of start) c ⊎ Remembers layout o h o.opened c
    earlier t rest is c (inl was) = let found = first t rest is in inl (after_first t found.0 found.1 c was)
    earlier t rest is c (inr now) = inr now

    later : (c : List ℕ) → mid.left_since ends.moment c ⊎ Remembers layout o h o.opened c → Remembers layout o h o.opened c
    later c (inl was) = grown c (since_rewound ends c was)
    later c (inr now) = now

    pub at_every_stop : ((c : List ℕ) → end.may_leave c → Remembers layout o h (settled_group o h) c) → IsAtEveryStop at layout o h start end
    at_every_stop left = record {
      uber = uber;
      asked = whole.opens.asked;
      named = named;
      moment = ends.moment;
      ends = record {
        groups = ends.ends.groups;
        slots = ends.ends.slots;
        ring = ends.ends.ring;
        before = ends.ends.before;
        many = ends.ends.many;
        rest = ends.ends.rest ++ adds.more;
        noted = noted ∙ ap (λ (l : List ℕ). start.flushes ++ l) split;
      };
      early = omega (arith, ends.early, run.later);
      rewinding = λ t rest is soon c was. earlier t rest is c (run.before t c (omega (arith, soon, ends.early)) was);
      since = λ c was. later c (run.before ends.moment c ends.early was);
      left = left;
    }

-- lanes that ran behind the rewind

beside_gates : (layout : Layout) (p : ℕ) → IsBeside layout p → IsNoGate p
beside_gates layout p beside slot le = let out = (beside slot).1 in omega (arith, le, out (omega (arith, le)))

-- what is told of each uberblock that the store stands for, and that lies before the device's end
abbrev OfStore : DiskState → Layout → Table → (Uber → Type 0) → Type 0
OfStore start layout table P = (uber : Uber) → Tells start → HasStore (bytes_of start) uber layout table → LiesIn (bytes_of start) uber → P uber

module _ (at : At) (p : Pool) (layout : Layout) (table : Table) (fresh : IsFresh p) (store : IsStoreOf p layout table) (start mid : DiskState) (low between : ℕ)
    (after_first : OfStore start layout table (λ uber. (t : ℕ) (rest : List ℕ) → mid.flushes ≡ start.flushes ++ t ∷ rest → (c : List ℕ) → mid.left_since t c → IsRewinding uber (bytes_of start) c))
    (spared : Tells start → Spares IsNoGate start mid) where
  abbrev Whole : Type 0
  Whole = IsOpenedWhole at p layout table start

  pub asked_always : Whole → IsAskedAlways at start mid
  asked_always whole = record {
    uber = whole.opens.uber;
    asked = whole.opens.asked;
    after_first = after_first whole.opens.uber whole.whole.tells (has_store at p layout table fresh store start mid whole) (lies at p layout table fresh store start mid whole);
  }

  module _ (steady : between ≡ low) (rests : OfStore start layout table (λ uber. IsAtRest mid layout table)) (ends : OfStore start layout table (λ uber. EndsRewound uber start mid))
      (tells : Tells start → Tells mid) (counts : (t : ℕ) (c : List ℕ) → t ≤ mid.moment → mid.may_leave c → mid.left_since t c) where
    has : (whole : Whole) → HasStore (bytes_of start) whole.opens.uber layout table
    has whole = has_store at p layout table fresh store start mid whole

    lying : (whole : Whole) → LiesIn (bytes_of start) whole.opens.uber
    lying whole = lies at p layout table fresh store start mid whole

    ended : (whole : Whole) → EndsRewound whole.opens.uber start mid
    ended whole = ends whole.opens.uber whole.whole.tells (has whole) (lying whole)

    remembered : (whole : Whole) → IsRemembered p layout table mid
    remembered whole =
        rewound_is at p layout table fresh store start mid whole (ended whole) (tells whole.whole.tells) (rests whole.opens.uber whole.whole.tells (has whole) (lying whole)) counts

    pub lanes_end : (commands : List Command) (end : DiskState) (high : ℕ) (input out read left : SourceState) (old_out new_out old_trace new_trace : SinkState) (status : Status) (journals : Option Journals) (lists : Option RunLists)
        → LanesLeave p layout table commands (world input old_out old_trace mid between) (world out new_out new_trace end high) status journals lists
        → LanesEnd Whole at commands (world read old_out old_trace start low) (world left new_out new_trace end high) layout (origin_of p.metaslab) status journals lists
    lanes_end commands end high input out read left old_out new_out old_trace new_trace status journals lists lanes = record {
      journal = lanes.journal;
      some_journals = lanes.some_journals;
      some_lists = lanes.some_lists;
      journals_are = lanes.journals_are;
      lists_are = lanes.lists_are;
      shipped = lanes.shipped;
      end = acts_from remembered start mid end low between high steady input out read left old_out new_out old_trace new_trace commands (origin_of p.metaslab) lanes.journal lanes.some_journals lanes.some_lists status lanes.end;
      device = λ whole.
          let was = remembered whole in
          at_every_stop at p layout table fresh store start mid whole (ended whole) lanes.journal.notes end lanes.shipped.legal (lanes.run was) (lanes.flushes was.tells)
          (after_first whole.opens.uber whole.whole.tells (has whole) (lying whole)) (lanes.left was);
      spares = λ told. spares_then (IsBeside layout) start mid end (spares_less IsNoGate start mid (IsBeside layout) (beside_gates layout) (spared told)) (lanes.spares (tells told));
    }
