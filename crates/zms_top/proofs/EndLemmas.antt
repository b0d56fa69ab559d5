-- How lanes end, from what they did to what is shipped.
use Rattle.std.proofs.Common.{◌≡◌, ◌≢◌, ℕ, ◌≤◌, Bool, true, false, Option, Some, None, List, [], ◌∷◌, ◌++◌, length, zero, suc, inl, inr, sym, ◌∙◌, ap, subst, arith}
use Rattle.std.specs.Prelude.{◌⊎◌, slice_get, cond, IsSome}
use Rattle.ms_model.specs.Origin.{Origin}
use Rattle.ms_model.specs.Units.{settled_group}
use Rattle.ms_model.specs.Legal.{IsLegal}
use Rattle.zms_units.specs.Runs.{units_in}
use Rattle.ms_model.specs.Counts.{live_units, deferred_units, vacant_units}
use Rattle.ms_model.specs.Gates.{synced_group, IsGateLegal}
use Rattle.ms_model.specs.Parts.{right_of, gate_right}
use Rattle.ms_model.specs.Steps.{Quiet, Follows}
use Rattle.ms_model.specs.Events.{Event, metaslab_steps, gate_steps}
use Rattle.ms_model.specs.declared.notes.Noted.{Noted}
use Rattle.ms_model.specs.declared.journals.Journals.{Journals}
use Rattle.ms_core.specs.State.{MsState, origin_of, settled_of, StaysButNotes}
use Rattle.zms_dev.specs.Causes.{one_more}
use Rattle.zms_dev.specs.Disk.{DiskState, Tells, bytes_of}
use Rattle.zms_dev.specs.Runs.{LeavesOnly, Spares, Untouched}
use Rattle.zms_dev.specs.Stream.{SourceState, SinkState}
use Rattle.zms_dev.proofs.Resting.{rests_spares}
use Rattle.zms_dev.proofs.Sparing.{spares_then}
use Rattle.vdev_map.specs.declared.layout.Layout.{Layout}
use Rattle.vdev_map.specs.declared.table.Table.{Table}
use Rattle.meta_store.specs.Causes.{IsAsked}
use Rattle.meta_store.specs.Kept.{LiesIn}
use Rattle.meta_store.specs.Rewinds.{IsRewinding, IsRing, IsNoGate}
use Rattle.meta_store.specs.declared.causes.At.{At}
use Rattle.zms_top.specs.Answers.{paired, last_synced}
use Rattle.zms_top.specs.Lines.{Lines, AreIntervals}
use Rattle.zms_top.specs.Stored.{Remembers, IsBeside, IsWhole, IsAskedAlways, IsAtEveryStop}
use Rattle.zms_top.specs.Pools.{StaysRemembered}
use Rattle.zms_top.specs.Runs.{HasRun, answers_of}
use Rattle.zms_top.specs.FreshPool.{IsFresh}
use Rattle.zms_top.specs.Script.{IsFile}
use Rattle.zms_top.specs.Ends.{text_of, IsRead, IsOrigin, first_damage, AreShipped, IsCutOff, IsUnrewound, LanesDid, LanesEnd, RunEnds}
use Rattle.zms_top.specs.World.{World, world}
use Rattle.zms_top.specs.Reports.{HandsOver, IsReported}
use Rattle.zms_top.specs.declared.pool.Pool.{Pool}
use Rattle.cmd_text.specs.declared.script.Command.{Command}
use Rattle.zms_top.specs.declared.replies.Reply.{Reply}
use Rattle.ms_model.specs.declared.journals.MsJournal.{MsJournal}
use Rattle.zms_top.specs.declared.status.RunLists.{RunLists}
use Rattle.zms_top.specs.declared.status.Status.{Status}

-- what is shipped is of the pool that was opened
pub shipped_of : (p q : Pool) (replies : List Reply) (j : Journals) (l : RunLists) → IsFresh p → StaysButNotes p.metaslab q.metaslab → q.gate.opened ≡ p.gate.opened
    → (handed : HandsOver q replies j l) → AreShipped (origin_of p.metaslab) j l handed.journal
shipped_of p q replies j l fresh stays gate handed =
    let origin : origin_of q.metaslab ≡ origin_of p.metaslab = ap origin_of stays in
    let opened : q.gate.opened ≡ p.metaslab.opened = gate ∙ fresh.pool.opened in
    let units : q.metaslab.units ≡ p.metaslab.units = ap (λ (m : MsState). m.units) stays in
    let base : q.metaslab.base ≡ p.metaslab.base = ap (λ (m : MsState). m.base) stays in
    record {
      opened = handed.opened ∙ opened;
      only = handed.only;
      no_class = handed.no_class;
      no_keeper = handed.no_keeper;
      id = handed.id ∙ (ap (λ (m : MsState). m.id) stays ∙ fresh.id);
      units = handed.units ∙ units;
      ashift = handed.ashift ∙ ap (λ (m : MsState). m.ashift) stays;
      held = handed.held ∙ ap (λ (o : Origin). units_in o.base o.units) origin;
      legal = rw handed.notes (subst (λ (o : Origin). IsLegal o q.metaslab.notes) origin handed.legal);
      gate_legal = rw handed.gate (subst (λ n. IsGateLegal n q.gate.notes) opened handed.gate_legal);
      lanes = rw handed.notes handed.lanes;
      gate_lanes = rw handed.gate handed.gate_lanes;
      device_notes = handed.device_notes;
    }

only_journal : (lane : ℕ) (es : List Event) (n : List Noted) (k : ℕ) (h : List Noted) → Follows right_of lane [] (metaslab_steps 0 es) n → slice_get (n ∷ []) k ≡ Some h
    → Follows right_of lane [] (metaslab_steps k es) h
only_journal lane es n zero h follows e = subst (λ l. Follows right_of lane [] (metaslab_steps 0 es) l) (at_zero e) follows where
  at_zero : {n h : List Noted} → Some n ≡ Some h → n ≡ h
  at_zero e = cc
only_journal lane es n (suc k) h follows e = cc

-- a pool that was just opened has settled the opened group
opened_settled : (p : Pool) → IsFresh p → settled_of p.metaslab ≡ p.metaslab.opened
opened_settled p fresh = ap (settled_group (origin_of p.metaslab)) fresh.notes

-- the facts of a whole run, over what is shipped
pub lanes_did : (whole : Type 0) (p q : Pool) (commands : List Command) (replies : List Reply) (journals : Option Journals) (lists : Option RunLists) (old new : World) (status : Status)
    → IsFresh p → StaysButNotes p.metaslab q.metaslab → length replies ≡ length commands → HasRun p q (paired commands replies) → AreIntervals old.faults new.faults (answers_of replies)
    → (whole → first_damage replies ≡ None)
    → (report : IsReported q (paired commands replies) replies old.out new.out old.trace new.trace status journals lists)
    → LanesDid whole commands old new (origin_of p.metaslab) report.handed.journal report.some_journals report.some_lists status
lanes_did whole p q commands replies journals lists old new status fresh stays each run intervals undamaged report =
    let handed = report.handed in
    let o : Origin = origin_of p.metaslab in
    let origin : origin_of q.metaslab ≡ o = ap origin_of stays in
    let settled : settled_of q.metaslab ≡ settled_group o handed.journal.notes = ap (λ (x : Origin). settled_group x q.metaslab.notes) origin ∙ ap (settled_group o) (sym handed.notes) in
    record {
      each = rw handed.replies_are each;
      kept = run.kept;
      keeper = record {
        at_the_gate = rw handed.gate (subst (λ g. Follows gate_right 0 g (gate_steps run.kept) q.gate.notes) fresh.gate run.tour.keeper_gate);
        each = λ k h is. only_journal 0 run.kept handed.journal.notes k h (rw handed.notes (subst (λ n. Follows right_of 0 n (metaslab_steps 0 run.kept) q.metaslab.notes) fresh.notes run.tour.keeper)) is;
      };
      backed = record {
        events = run.events;
        lines = rw handed.replies_are run.lines;
        at_the_gate = rw handed.gate (subst (λ g. Follows gate_right 1 g (gate_steps run.events) q.gate.notes) fresh.gate run.tour.gate);
        each = λ k h is. only_journal 1 run.events handed.journal.notes k h (rw handed.notes (subst (λ n. Follows right_of 1 n (metaslab_steps 0 run.events) q.metaslab.notes) fresh.notes run.tour.metaslab)) is;
      };
      others = λ lane low.
          let low_one : 1 ≤ lane = omega (arith, low) in
          let apart : lane ≢ 1 = λ e. omega (arith, low, e) in
          record {
            events = [];
            lines = Lines.none;
            at_the_gate = rw handed.gate (subst (λ g. Quiet gate_right lane g q.gate.notes) fresh.gate (run.tour.others.gate lane low_one apart));
            each = λ k h is. only_journal lane [] handed.journal.notes k h (rw handed.notes (subst (λ n. Quiet right_of lane n q.metaslab.notes) fresh.notes (run.tour.others.metaslab lane low_one apart))) is;
          };
      synced = rw (handed.notes, handed.replies_are) (ap (λ (x : Origin). settled_group x q.metaslab.notes) (sym origin) ∙ (run.synced ∙ ap (λ n. last_synced n (paired commands replies)) (opened_settled p fresh)));
      settled = rw (handed.gate, handed.notes) (subst (λ (x : Origin). synced_group x.opened q.gate.notes ≡ settled_group x q.metaslab.notes) origin run.pool.sound.synced);
      intervals = rw handed.replies_are intervals;
      tally = report.tally;
      tally_is = record {
        id = report.tally_is.id ∙ sym handed.id;
        class = report.tally_is.class;
        ashift = report.tally_is.ashift ∙ ap (λ (m : MsState). m.ashift) stays;
        live = report.tally_is.live ∙ (ap (λ (x : Origin). live_units x q.metaslab.notes) origin ∙ ap (live_units o) (sym handed.notes));
        deferred = report.tally_is.deferred ∙ (ap (λ (x : Origin). deferred_units x q.metaslab.notes) origin ∙ ap (deferred_units o) (sym handed.notes));
        vacant = report.tally_is.vacant ∙ (ap (λ (x : Origin). vacant_units x q.metaslab.notes) origin ∙ ap (vacant_units o) (sym handed.notes));
      };
      group = report.group;
      group_is = report.group_is ∙ settled;
      written = report.written;
      writes = rw handed.replies_are report.writes;
      status_is = rw handed.replies_are report.status_is;
      undamaged = λ is. rw handed.replies_are (undamaged is);
    }

-- what is kept of the device, over the journal that is shipped

pub left_run : (p q : Pool) (layout later : Layout) (table : Table) (journal : List Noted) (old new : DiskState) → later ≡ layout → journal ≡ q.metaslab.notes → StaysRemembered p q later table old new
    → LeavesOnly old new (Remembers layout (origin_of p.metaslab) journal (origin_of p.metaslab).opened)
left_run p q layout later table journal old new same notes kept = rw notes (subst (λ (l : Layout). LeavesOnly old new (Remembers l (origin_of p.metaslab) q.metaslab.notes (origin_of p.metaslab).opened)) same kept.run)

pub left_now : (p q : Pool) (layout later : Layout) (table : Table) (journal : List Noted) (old new : DiskState) → later ≡ layout → StaysButNotes p.metaslab q.metaslab → journal ≡ q.metaslab.notes → StaysRemembered p q later table old new
    → (c : List ℕ) → new.may_leave c → Remembers layout (origin_of p.metaslab) journal (settled_group (origin_of p.metaslab) journal) c
left_now p q layout later table journal old new same stays notes kept c may =
    rw notes (subst (λ (o : Origin). Remembers layout o q.metaslab.notes (settled_group o q.metaslab.notes) c) (ap origin_of stays)
    (subst (λ (l : Layout). Remembers l (origin_of q.metaslab) q.metaslab.notes (settled_of q.metaslab) c) same (kept.now.left c may)))

pub cut_faults : (low high : ℕ) (failed : Bool) → high ≡ cond failed (one_more low) low → (high ≡ low) ⊎ (high ≡ one_more low)
cut_faults low high true is = inr is
cut_faults low high false is = inl is

-- behind a reading

spared_from : (spared : ℕ → Type 0) (start mid end : DiskState) → Untouched start mid → Spares spared mid end → Spares spared start end
spared_from spared start mid end quiet run = spares_then spared start mid end (rests_spares start mid spared quiet) run

pub whole_from : (at : At) (start mid : DiskState) → Untouched start mid → IsWhole start at → IsWhole mid at
whole_from at start mid quiet whole = record {
  tells = quiet.tells;
  lies = λ uber asked. subst (λ (b : List ℕ). LiesIn b uber) (sym quiet.contents) (whole.lies uber (subst (λ (b : List ℕ). IsAsked b at uber) quiet.contents asked));
}

flushes_from : (start mid now : DiskState) (more : List ℕ) → Untouched start mid → now.flushes ≡ mid.flushes ++ more → now.flushes ≡ start.flushes ++ more
flushes_from start mid now more quiet noted = noted ∙ ap (λ (f : List ℕ). f ++ more) quiet.flushes

flushes_to : (start mid now : DiskState) (more : List ℕ) → Untouched start mid → now.flushes ≡ start.flushes ++ more → now.flushes ≡ mid.flushes ++ more
flushes_to start mid now more quiet noted = noted ∙ ap (λ (f : List ℕ). f ++ more) (sym quiet.flushes)

asked_from : (at : At) (start mid now : DiskState) → Untouched start mid → IsAskedAlways at mid now → IsAskedAlways at start now
asked_from at start mid now quiet was = record {
  uber = was.uber;
  asked = subst (λ (b : List ℕ). IsAsked b at was.uber) quiet.contents was.asked;
  after_first = λ t rest noted c left. subst (λ (b : List ℕ). IsRewinding was.uber b c) quiet.contents (was.after_first t rest (flushes_to start mid now (t ∷ rest) quiet noted) c left);
}

stops_from : (at : At) (layout : Layout) (o : Origin) (h : List Noted) (start mid now : DiskState) → Untouched start mid → IsAtEveryStop at layout o h mid now → IsAtEveryStop at layout o h start now
stops_from at layout o h start mid now quiet was = record {
  uber = was.uber;
  asked = subst (λ (b : List ℕ). IsAsked b at was.uber) quiet.contents was.asked;
  named = was.named;
  moment = was.moment;
  ends = record {
    groups = was.ends.groups;
    slots = was.ends.slots;
    ring = subst (λ (b : List ℕ). IsRing b was.ends.groups 128) quiet.contents was.ends.ring;
    before = was.ends.before;
    many = was.ends.many;
    rest = was.ends.rest;
    noted = flushes_from start mid now (was.ends.before ++ was.moment ∷ was.ends.rest) quiet was.ends.noted;
  };
  early = was.early;
  rewinding = λ t rest noted soon c left. either c (was.rewinding t rest (flushes_to start mid now (t ∷ rest) quiet noted) soon c left);
  since = was.since;
  left = was.left;
} where
  either : (c : List ℕ) → IsRewinding was.uber (bytes_of mid) c ⊎ Remembers layout o h o.opened c → IsRewinding was.uber (bytes_of start) c ⊎ Remembers layout o h o.opened c
  either c (inl run) = inl (subst (λ (b : List ℕ). IsRewinding was.uber b c) quiet.contents run)
  either c (inr now) = inr now

-- how lanes ended, told from an earlier moment on at which the device had failed as often
module _ {Was Whole : Type 0} (premise : Whole → Was) (start mid end : DiskState) (low between high : ℕ) (steady : between ≡ low) (input out read left : SourceState) (old_out new_out old_trace new_trace : SinkState)
    (commands : List Command) (o : Origin) (journal : MsJournal) (journals : Journals) (lists : RunLists) (status : Status) where
  faults_from : (high ≡ between) ⊎ (high ≡ one_more between) → (high ≡ low) ⊎ (high ≡ one_more low)
  faults_from (inl same) = inl (same ∙ steady)
  faults_from (inr more) = inr (more ∙ ap one_more steady)

  pub acts_from : IsCutOff (world input old_out old_trace mid between) (world out new_out new_trace end high) lists status
      ⊎ LanesDid Was commands (world input old_out old_trace mid between) (world out new_out new_trace end high) o journal journals lists status
      → IsCutOff (world read old_out old_trace start low) (world left new_out new_trace end high) lists status
      ⊎ LanesDid Whole commands (world read old_out old_trace start low) (world left new_out new_trace end high) o journal journals lists status
  acts_from (inl cut) = inl (record { faults = faults_from cut.faults; none = cut.none; status_is = cut.status_is; out = cut.out; trace = cut.trace })
  acts_from (inr did) = inr (record {
    each = did.each;
    kept = did.kept;
    keeper = did.keeper;
    backed = did.backed;
    others = did.others;
    settled = did.settled;
    synced = did.synced;
    intervals = subst (λ (n : ℕ). AreIntervals n high (answers_of lists.replies)) steady did.intervals;
    tally = did.tally;
    tally_is = did.tally_is;
    group = did.group;
    group_is = did.group_is;
    written = did.written;
    writes = did.writes;
    status_is = did.status_is;
    undamaged = λ is. did.undamaged (premise is);
  })

module _ (at : At) (whole : Type 0) (start mid end : DiskState) (low between high : ℕ) (quiet : Tells start → Untouched start mid) (steady : between ≡ low) (premise : IsWhole start at → whole)
    (input out read left : SourceState) (old_out new_out old_trace new_trace : SinkState) (status : Status) (journals : Option Journals) (lists : Option RunLists) where
  -- a rewind that failed over a pool that was opened by reading alone
  pub unrewound_from : IsUnrewound whole at (world input old_out old_trace mid between) (world out new_out new_trace end high) status journals lists
      → IsUnrewound (IsWhole start at) at (world read old_out old_trace start low) (world left new_out new_trace end high) status journals lists
  unrewound_from was = record {
    status_is = was.status_is;
    failed = was.failed ∙ ap one_more steady;
    device = λ is. asked_from at start mid end (quiet is.tells) (was.device (premise is));
    spares = λ tells. let same = quiet tells in spared_from IsNoGate start mid end same (was.spares same.tells);
    out = was.out;
    trace = was.trace;
    no_journals = was.no_journals;
    no_lists = was.no_lists;
  }

  -- and lanes over one
  pub lanes_from : (commands : List Command) (layout : Layout) (o : Origin)
      → LanesEnd whole at commands (world input old_out old_trace mid between) (world out new_out new_trace end high) layout o status journals lists
      → LanesEnd (IsWhole start at) at commands (world read old_out old_trace start low) (world left new_out new_trace end high) layout o status journals lists
  lanes_from commands layout o ends = record {
    journal = ends.journal;
    some_journals = ends.some_journals;
    some_lists = ends.some_lists;
    journals_are = ends.journals_are;
    lists_are = ends.lists_are;
    shipped = ends.shipped;
    end = acts_from premise start mid end low between high steady input out read left old_out new_out old_trace new_trace commands o ends.journal ends.some_journals ends.some_lists status ends.end;
    device = λ is. stops_from at layout o ends.journal.notes start mid end (quiet is.tells) (ends.device (premise is));
    spares = λ tells. let same = quiet tells in spared_from (IsBeside layout) start mid end same (ends.spares same.tells);
  }

  -- so a run ends whose pool was opened
  pub run_ends : (commands : List Command) (layout : Layout) (o : Origin) → (IsSome read.left → IsFile (text_of read.left) commands) → IsRead read left → IsOrigin at start layout o
      → IsUnrewound whole at (world input old_out old_trace mid between) (world out new_out new_trace end high) status journals lists
      ⊎ LanesEnd whole at commands (world input old_out old_trace mid between) (world out new_out new_trace end high) layout o status journals lists
      → RunEnds at (world read old_out old_trace start low) (world left new_out new_trace end high) status journals lists
  run_ends commands layout o file is_read origin (inl failed) = RunEnds.unrewound commands file is_read layout o origin (unrewound_from failed)
  run_ends commands layout o file is_read origin (inr lanes) = RunEnds.began commands file is_read layout o origin (lanes_from commands layout o lanes)
