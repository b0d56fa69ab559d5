-- A sync, from what its parts say.
use Rattle.std.proofs.Common.{◌≡◌, ℕ, ◌+◌, ◌<◌, ◌≤◌, false, cond, Some, None, List, [], ◌∷◌, ◌++◌, zero, suc, refl, sym, ◌∙◌, ap, subst, arith}
use Rattle.std.specs.Prelude.{◌==◌, Result, Ok, Err, IfOk, OnErr}
use Rattle.std.specs.List.{Contains}
use Rattle.std.proofs.lemmas.List.{append-nil}
use Rattle.std.proofs.Math.Dec.{eqb-suc-zero}
use Rattle.std.proofs.lemmas.List.Elements.{Contains-append_right}
use Rattle.zms_units.specs.declared.faults.First.{First}
use Rattle.zms_units.specs.declared.faults.First.TheVariants.{Device as FirstDevice, Damaged as FirstDamaged}
use Rattle.zms_units.specs.declared.segments.Group.{Group}
use Rattle.ms_model.specs.Origin.{Origin}
use Rattle.ms_model.specs.Units.{settled_group, collected_group}
use Rattle.ms_model.specs.Gains.{is_gained, is_given}
use Rattle.ms_model.specs.Gates.{open_group, synced_group}
use Rattle.ms_model.specs.Steps.{look, noting, Quiet}
use Rattle.ms_model.specs.Parts.{right_of, gate_right}
use Rattle.ms_model.specs.Events.{Event, at_gate, at_metaslab}
use Rattle.ms_model.specs.declared.notes.Act.TheVariants.{Collect, Settle}
use Rattle.ms_model.specs.declared.notes.Noted.{Noted}
use Rattle.ms_model.specs.declared.notes.GateNote.{GateNote}
use Rattle.ms_model.specs.declared.notes.GateNote.TheVariants.{Closed, Settled}
use Rattle.ms_model.specs.Legal.{IsLegal}
use Rattle.ms_model.proofs.Histories.{settled_group-push, collected_group-push, is_gained-push, is_given-push, legal_push}
use Rattle.zms_units.specs.Runs.{AreMaximalRuns}
use Rattle.zms_units.proofs.Bools.{or_false}
use Rattle.vdev_map.specs.declared.layout.Batch.{Batch}
use Rattle.vdev_map.specs.declared.layout.Layout.{Layout}
use Rattle.vdev_map.specs.declared.table.Table.{Table}
use Rattle.meta_store.proofs.HeldRuns.{maximal_same}
use Rattle.lane_steps.proofs.Steps.{quiet_none, quiet_both}
use Rattle.ms_core.specs.State.{MsState, origin_of, settled_of, collected_of, StaysButNotes}
use Rattle.txg_gate.specs.Closings.{closings_of}
use Rattle.txg_gate.proofs.Journal.{closings_push, closings_settled}
use Rattle.txg_gate.specs.GateState.{GateState}
use Rattle.zms_top.specs.Sound.{IsSound, Grows, shape_of}
use Rattle.zms_top.specs.Answers.{first_with, synced_after}
use Rattle.cmd_text.specs.declared.script.What.TheVariants.{Sync}
use Rattle.zms_top.specs.Lines.{IsUnsettled, SyncLine, SeenSettled, NotedAtEach, Collects, AreIntervals}
use Rattle.zms_top.specs.Pools.{Acted, IsPool, IsStoreOf, IsClosed, IsDue, IsCommitted, LeavesSettled}
use Rattle.zms_top.specs.declared.replies.Answer.{Answer}
use Rattle.zms_top.specs.declared.pool.Pool.{Pool}
use Rattle.zms_top.specs.declared.replies.Answer.TheVariants.{Done, Device, Damaged, Suspended}
use Rattle.ms_model.proofs.GateGroups.{open_group-push, synced_group-push}
use Rattle.zms_top.proofs.SoundLemmas.{sound_collected, sound_settled}
use Rattle.zms_top.proofs.StepLemmas.{quiet_keeper, quiet_other, nothing_did}
use Rattle.zms_top.proofs.PoolLemmas.{pool_grows, store_leaves}
use Rattle.zms_top.proofs.Growing.{grows_none, grows_may}

-- nothing was done, and the kept fault is told
pub suspended_did : (p : Pool) (lane : ℕ) (fault : First) → IsPool p → p.first ≡ Some fault
    → Acted p p lane (SyncLine (shape_of (origin_of p.metaslab)) lane p.first (Suspended fault))
suspended_did p lane fault was is = nothing_did p lane (SyncLine (shape_of (origin_of p.metaslab)) lane p.first (Suspended fault)) was (rw is (refl, (refl, refl)))

-- a settling is quiet for a lane
settling_quiet : (lane : ℕ) (g : List GateNote) (group : Group) → 1 ≤ lane → Quiet gate_right lane g (g ++ Settled group ∷ [])
settling_quiet lane g group some = record { more = Settled group ∷ []; is = refl; none = ap (λ b. cond b (Settled group ∷ []) []) (other lane some) } where
  other : (lane : ℕ) → 1 ≤ lane → (lane == 0) ≡ false
  other zero some = absurd (omega arith)
  other (suc n) some = eqb-suc-zero n

pub contains_last : {A : Type 0} (xs : List A) (x : A) → Contains (xs ++ x ∷ []) x
contains_last xs x = Contains-append_right xs (x ∷ []) x (0, omega arith, refl)

-- the keeper's part of a closing, at the one metaslab
collects : (lane : ℕ) (group : Group) (g : List GateNote) (h : List Noted) → Contains g (Closed lane group)
    → Collects lane group 1 (at_gate (look g) ∷ (at_metaslab 0 (noting h (record { lane = lane; act = Collect group })) ∷ []))
collects lane group g h seen = record {
  seen = g;
  closed = seen;
  notes = at_metaslab 0 (noting h (record { lane = lane; act = Collect group })) ∷ [];
  noted = NotedAtEach.more 0 [] h NotedAtEach.none;
  whole = refl;
}

-- a group that was collected and not settled leaves what is settled
pub collected_leaves : (p q : Pool) (lane : ℕ) (group : Group) → IsPool p → group.0 ≡ open_group p.gate.opened p.gate.notes
    → q.metaslab.notes ≡ p.metaslab.notes ++ record { lane = lane; act = Collect group } ∷ [] → LeavesSettled p q
collected_leaves p q lane group was is notes =
    let o : Origin = origin_of p.metaslab in
    let is_open : group.0 ≡ open_group p.metaslab.opened p.gate.notes = rw (← was.opened) is in
    record {
      group = ap (settled_group o) notes ∙ settled_group-push o p.metaslab.notes (record { lane = lane; act = Collect group });
      grows = subst (Grows o p.metaslab.notes) (sym notes) (grows_may o p.metaslab.notes lane (Collect group) (is_open ∙ was.sound.next));
    }

-- what stands after a group was closed and collected
pub record ClosedFacts (p q : Pool) (group : Group) : Type 0 where
  pub next : group.0 ≡ settled_of q.metaslab + 1
  pub collected : collected_of q.metaslab ≡ group.0
  pub gate_next : group.0 ≡ synced_group q.gate.opened q.gate.notes + 1
  pub gate_closed : group.0 < open_group q.gate.opened q.gate.notes

pub closed_facts : (p q : Pool) (lane : ℕ) (group : Group) (batch : Batch) → IsPool p → p.first ≡ None → IsClosed p q lane group batch → ClosedFacts p q group
closed_facts p q lane group batch was idle is =
    let o : Origin = origin_of p.metaslab in
    let origin : origin_of q.metaslab ≡ o = ap origin_of is.stays in
    let opened : q.gate.opened ≡ p.metaslab.opened = ap (λ (g : GateState). g.opened) is.gate ∙ was.opened in
    let gate_notes : q.gate.notes ≡ p.gate.notes ++ Closed lane group ∷ [] = ap (λ (g : GateState). g.notes) is.gate in
    let is_open : group.0 ≡ open_group p.metaslab.opened p.gate.notes = rw (← was.opened) is.is_open in
    let settled : settled_of q.metaslab ≡ settled_group o p.metaslab.notes =
    ap (λ (x : Origin). settled_group x q.metaslab.notes) origin ∙ (ap (settled_group o) is.notes ∙ settled_group-push o p.metaslab.notes (record { lane = lane; act = Collect group })) in
    let collected : collected_of q.metaslab ≡ group.0 =
    ap (λ (x : Origin). collected_group x q.metaslab.notes) origin ∙ (ap (collected_group o) is.notes ∙ collected_group-push o p.metaslab.notes (record { lane = lane; act = Collect group })) in
    let synced : synced_group q.gate.opened q.gate.notes ≡ synced_group p.metaslab.opened p.gate.notes =
    ap (λ n. synced_group n q.gate.notes) opened ∙ (ap (synced_group p.metaslab.opened) gate_notes ∙ synced_group-push p.metaslab.opened p.gate.notes (Closed lane group)) in
    let open_now : open_group q.gate.opened q.gate.notes ≡ group.0 + 1 =
    ap (λ n. open_group n q.gate.notes) opened ∙ (ap (open_group p.metaslab.opened) gate_notes ∙ open_group-push p.metaslab.opened p.gate.notes (Closed lane group)) in
    let level = was.sound.level idle in
    record {
      next = omega (arith, is_open, was.sound.next, level, settled);
      collected = collected;
      gate_next = omega (arith, is_open, was.sound.next, was.sound.synced, level, synced);
      gate_closed = omega (arith, open_now);
    }

-- a fault is kept: the closed group stays behind
pub unsettled_did : (p q : Pool) (lane : ℕ) (group : Group) (fault : First) (answer : Answer)
    → IsPool p → p.first ≡ None → 1 ≤ lane → group.0 ≡ open_group p.gate.opened p.gate.notes
    → q.gate.opened ≡ p.gate.opened → q.gate.notes ≡ p.gate.notes ++ Closed lane group ∷ []
    → q.metaslab.notes ≡ p.metaslab.notes ++ record { lane = lane; act = Collect group } ∷ [] → StaysButNotes p.metaslab q.metaslab
    → q.base ≡ p.base → q.first ≡ Some fault
    → ((es kept : List Event) → IsUnsettled (shape_of (origin_of p.metaslab)) lane es kept → SyncLine (shape_of (origin_of p.metaslab)) lane None answer es kept)
    → Acted p q lane (SyncLine (shape_of (origin_of p.metaslab)) lane p.first answer)
unsettled_did p q lane group fault answer was idle some is opened gate notes stays base kept_is line =
    let o : Origin = origin_of p.metaslab in
    let is_open : group.0 ≡ open_group p.metaslab.opened p.gate.notes = rw (← was.opened) is in
    let sound_was : IsSound o p.metaslab.notes p.gate.notes None = subst (IsSound o p.metaslab.notes p.gate.notes) idle was.sound in
    let sound_now : IsSound o q.metaslab.notes q.gate.notes q.first =
    rw (kept_is, notes, gate) (sound_collected o p.metaslab.notes p.gate.notes lane group fault sound_was is_open) in
    let quiet : Quiet right_of lane p.metaslab.notes q.metaslab.notes = rw notes (quiet_keeper lane p.metaslab.notes lane (Collect group) refl some) in
    let after : Quiet gate_right lane (p.gate.notes ++ Closed lane group ∷ []) q.gate.notes = rw gate (quiet_none gate_right lane (p.gate.notes ++ Closed lane group ∷ [])) in
    let still : Quiet gate_right 0 (q.gate.notes ++ []) q.gate.notes = subst (λ l. Quiet gate_right 0 l q.gate.notes) (sym (append-nil q.gate.notes)) (quiet_none gate_right 0 q.gate.notes) in
    let seen : Contains q.gate.notes (Closed lane group) = rw gate (contains_last p.gate.notes (Closed lane group)) in
    let rises : closings_of lane q.gate.notes ≤ closings_of lane p.gate.notes + 1 = rw gate (closings_push lane p.gate.notes (Closed lane group)) in
    record {
      events = at_gate (noting p.gate.notes (Closed lane group)) ∷ [];
      kept = at_gate (look q.gate.notes) ∷ (at_metaslab 0 (noting p.metaslab.notes (record { lane = lane; act = Collect group })) ∷ []);
      tour = record {
        metaslab = quiet;
        gate = (quiet_none gate_right lane p.gate.notes, (refl, after));
        keeper = rw notes (quiet_none right_of 0 p.metaslab.notes, (refl, quiet_none right_of 0 (p.metaslab.notes ++ record { lane = lane; act = Collect group } ∷ [])));
        keeper_gate = (rw gate (quiet_other gate_right 0 p.gate.notes (Closed lane group) (λ e. omega (arith, some, e))), (tt, still));
        others = record {
          metaslab = λ other low apart. rw notes (quiet_keeper other p.metaslab.notes lane (Collect group) refl low);
          gate = λ other low apart. rw gate (quiet_other gate_right other p.gate.notes (Closed lane group) apart);
        };
      };
      line_is = rw idle (line _ _ (record { before = p.gate.notes; group = group; collected = collects lane group q.gate.notes p.metaslab.notes seen; is_open = is_open; whole = refl }));
      pool = pool_grows p q was stays opened base sound_now;
      stays = stays;
      rises = rises;
    }

-- the group is committed and settled
pub done_did : (p q : Pool) (lane : ℕ) (group : Group)
    → IsPool p → p.first ≡ None → 1 ≤ lane → group.0 ≡ open_group p.gate.opened p.gate.notes
    → q.gate.opened ≡ p.gate.opened → q.gate.notes ≡ (p.gate.notes ++ Closed lane group ∷ []) ++ Settled group ∷ []
    → q.metaslab.notes ≡ (p.metaslab.notes ++ record { lane = lane; act = Collect group } ∷ []) ++ record { lane = lane; act = Settle group } ∷ [] → StaysButNotes p.metaslab q.metaslab
    → q.base ≡ p.base → q.first ≡ None
    → Acted p q lane (SyncLine (shape_of (origin_of p.metaslab)) lane p.first (Done group))
done_did p q lane group was idle some is opened gate notes stays base first =
    let o : Origin = origin_of p.metaslab in
    let collect : Noted = record { lane = lane; act = Collect group } in
    let settle : Noted = record { lane = lane; act = Settle group } in
    let mid : List Noted = p.metaslab.notes ++ collect ∷ [] in
    let closed : List GateNote = p.gate.notes ++ Closed lane group ∷ [] in
    let is_open : group.0 ≡ open_group p.metaslab.opened p.gate.notes = rw (← was.opened) is in
    let sound_was : IsSound o p.metaslab.notes p.gate.notes None = subst (IsSound o p.metaslab.notes p.gate.notes) idle was.sound in
    let sound_now : IsSound o q.metaslab.notes q.gate.notes q.first =
    rw (first, notes, gate) (sound_settled o p.metaslab.notes p.gate.notes lane lane group sound_was is_open) in
    let quiet : Quiet right_of lane p.metaslab.notes q.metaslab.notes =
    rw notes (quiet_both right_of lane p.metaslab.notes mid (mid ++ settle ∷ []) (quiet_keeper lane p.metaslab.notes lane (Collect group) refl some) (quiet_keeper lane mid lane (Settle group) refl some)) in
    let still : Quiet right_of lane (q.metaslab.notes ++ []) q.metaslab.notes = subst (λ l. Quiet right_of lane l q.metaslab.notes) (sym (append-nil q.metaslab.notes)) (quiet_none right_of lane q.metaslab.notes) in
    let settling : Quiet gate_right lane closed q.gate.notes = rw gate (settling_quiet lane closed group some) in
    let gate_still : Quiet gate_right lane (q.gate.notes ++ []) q.gate.notes = subst (λ l. Quiet gate_right lane l q.gate.notes) (sym (append-nil q.gate.notes)) (quiet_none gate_right lane q.gate.notes) in
    let closed_still : Quiet gate_right 0 (closed ++ []) closed = subst (λ l. Quiet gate_right 0 l closed) (sym (append-nil closed)) (quiet_none gate_right 0 closed) in
    let seen : Contains q.metaslab.notes settle = rw notes (contains_last mid settle) in
    let gate_seen : Contains q.gate.notes (Settled group) = rw gate (contains_last closed (Settled group)) in
    let rises : closings_of lane q.gate.notes ≤ closings_of lane p.gate.notes + 1 =
    rw (gate, closings_settled lane closed group some) (closings_push lane p.gate.notes (Closed lane group)) in
    record {
      events = at_gate (noting p.gate.notes (Closed lane group)) ∷ ((at_metaslab 0 (look q.metaslab.notes) ∷ []) ++ (at_gate (look q.gate.notes) ∷ []));
      kept = at_gate (look closed) ∷ (at_metaslab 0 (noting p.metaslab.notes collect) ∷ (at_metaslab 0 (noting mid settle) ∷ (at_gate (noting closed (Settled group)) ∷ [])));
      tour = record {
        keeper = rw notes (quiet_none right_of 0 p.metaslab.notes, (refl, (quiet_none right_of 0 mid, (refl, quiet_none right_of 0 (mid ++ settle ∷ [])))));
        keeper_gate = rw gate (quiet_other gate_right 0 p.gate.notes (Closed lane group) (λ e. omega (arith, some, e)), (tt, (closed_still, (refl, quiet_none gate_right 0 (closed ++ Settled group ∷ [])))));
        metaslab = (quiet, (tt, still));
        gate = (quiet_none gate_right lane p.gate.notes, (refl, (settling, (tt, gate_still))));
        others = record {
          metaslab = λ other low apart.
              rw notes (quiet_both right_of other p.metaslab.notes mid (mid ++ settle ∷ []) (quiet_keeper other p.metaslab.notes lane (Collect group) refl low) (quiet_keeper other mid lane (Settle group) refl low));
          gate = λ other low apart.
              rw gate (quiet_both gate_right other p.gate.notes closed (closed ++ Settled group ∷ []) (quiet_other gate_right other p.gate.notes (Closed lane group) apart) (settling_quiet other closed group low));
        };
      };
      line_is = rw idle (record {
        before = p.gate.notes;
        is_open = is_open;
        seen = at_metaslab 0 (look q.metaslab.notes) ∷ [];
        settled = SeenSettled.more 0 [] q.metaslab.notes lane SeenSettled.none seen;
        after = q.gate.notes;
        gate_settled = gate_seen;
        whole = refl;
        collects = at_gate (look closed) ∷ (at_metaslab 0 (noting p.metaslab.notes collect) ∷ []);
        collected = collects lane group closed p.metaslab.notes (contains_last p.gate.notes (Closed lane group));
        settles = at_metaslab 0 (noting mid settle) ∷ [];
        settled_each = NotedAtEach.more 0 [] mid NotedAtEach.none;
        gate_before = closed;
        kept_is = refl;
      });
      pool = pool_grows p q was stays opened base sound_now;
      stays = stays;
      rises = rises;
    }

-- a sync that closed a group, whatever the device did
pub record SyncDid (p q : Pool) (lane low high : ℕ) (answer : Answer) : Type 0 where
  pub acted : Acted p q lane (SyncLine (shape_of (origin_of p.metaslab)) lane p.first answer)
  pub first : q.first ≡ first_with p.first answer
  pub intervals : AreIntervals low high (answer ∷ [])
  pub synced : settled_of q.metaslab ≡ synced_after (settled_of p.metaslab) Sync answer

pub stays_both : (a b c : MsState) → StaysButNotes a b → StaysButNotes b c → StaysButNotes a c
stays_both a b c first then = then ∙ ap (λ (m : MsState). let r : MsState = record m { notes = c.notes; room = c.room; memory = c.memory } in r) first

pub sync_did : (p mid q : Pool) (lane : ℕ) (group : Group) (batch : Batch) (low high : ℕ) (answer : Answer)
    → IsPool p → p.first ≡ None → 1 ≤ lane → IsClosed p mid lane group batch → IsCommitted mid q lane group low high answer → SyncDid p q lane low high answer
sync_did p mid q lane group batch low high answer was idle some closed (IsCommitted.settled is gate notes stays first base same) =
    let gate_notes : q.gate.notes ≡ (p.gate.notes ++ Closed lane group ∷ []) ++ Settled group ∷ [] =
    ap (λ (g : GateState). g.notes) gate ∙ ap (λ (g : GateState). g.notes ++ Settled group ∷ []) closed.gate in
    let idle_now : q.first ≡ None = first ∙ (closed.first ∙ idle) in
    rw is (record {
      acted = done_did p q lane group was idle some closed.is_open (ap (λ (g : GateState). g.opened) gate ∙ ap (λ (g : GateState). g.opened) closed.gate) gate_notes
          (notes ∙ ap (λ l. l ++ record { lane = lane; act = Settle group } ∷ []) closed.notes) (stays_both p.metaslab mid.metaslab q.metaslab closed.stays stays)
          (base ∙ closed.base) idle_now;
      first = rw idle idle_now;
      intervals = same;
      synced = ap (λ (x : Origin). settled_group x q.metaslab.notes) (ap origin_of (stays_both p.metaslab mid.metaslab q.metaslab closed.stays stays))
          ∙ (ap (settled_group (origin_of p.metaslab)) notes ∙ settled_group-push (origin_of p.metaslab) mid.metaslab.notes (record { lane = lane; act = Settle group }));
    })
sync_did p mid q lane group batch low high answer was idle some closed (IsCommitted.failed is once gate metaslab first base) =
    let gate_notes : q.gate.notes ≡ p.gate.notes ++ Closed lane group ∷ [] = ap (λ (g : GateState). g.notes) (gate ∙ closed.gate) in
    rw is (record {
      acted = unsettled_did p q lane group (FirstDevice low high) (Device low high) was idle some closed.is_open (ap (λ (g : GateState). g.opened) (gate ∙ closed.gate)) gate_notes
          (ap (λ (m : MsState). m.notes) metaslab ∙ closed.notes) (subst (StaysButNotes p.metaslab) (sym metaslab) closed.stays)
          (base ∙ closed.base) first (λ _ _ left. (once, left));
      first = rw idle first;
      intervals = (refl, (once, refl));
      synced = ap settled_of metaslab ∙ (ap (λ (x : Origin). settled_group x mid.metaslab.notes) (ap origin_of closed.stays)
          ∙ (ap (settled_group (origin_of p.metaslab)) closed.notes ∙ settled_group-push (origin_of p.metaslab) p.metaslab.notes (record { lane = lane; act = Collect group })));
    })
sync_did p mid q lane group batch low high answer was idle some closed (IsCommitted.damaged id damage is steady gate metaslab first base) =
    let gate_notes : q.gate.notes ≡ p.gate.notes ++ Closed lane group ∷ [] = ap (λ (g : GateState). g.notes) (gate ∙ closed.gate) in
    rw is (record {
      acted = unsettled_did p q lane group (FirstDamaged id damage) (Damaged id damage) was idle some closed.is_open (ap (λ (g : GateState). g.opened) (gate ∙ closed.gate)) gate_notes
          (ap (λ (m : MsState). m.notes) metaslab ∙ closed.notes) (subst (StaysButNotes p.metaslab) (sym metaslab) closed.stays)
          (base ∙ closed.base) first (λ _ _ left. left);
      first = rw idle first;
      intervals = steady;
      synced = ap settled_of metaslab ∙ (ap (λ (x : Origin). settled_group x mid.metaslab.notes) (ap origin_of closed.stays)
          ∙ (ap (settled_group (origin_of p.metaslab)) closed.notes ∙ settled_group-push (origin_of p.metaslab) p.metaslab.notes (record { lane = lane; act = Collect group })));
    })

-- the group that was closed is due

collect_gained : (t : ℕ) (h : List Noted) (lane : ℕ) (group : Group) (u : ℕ) → is_gained t (h ++ record { lane = lane; act = Collect group } ∷ []) u ≡ is_gained t h u
collect_gained t h lane group u = is_gained-push t h (record { lane = lane; act = Collect group }) u

collect_given : (t : ℕ) (h : List Noted) (lane : ℕ) (group : Group) (u : ℕ) → is_given t (h ++ record { lane = lane; act = Collect group } ∷ []) u ≡ is_given t h u
collect_given t h lane group u = is_given-push t h (record { lane = lane; act = Collect group }) u ∙ or_false (is_given t h u)

pub due_of : (p q : Pool) (lane : ℕ) (group : Group) (batch : Batch) (layout : Layout) (table : Table) → IsPool p → p.first ≡ None → IsClosed p q lane group batch → IsStoreOf p layout table
    → IsDue q layout table group batch
due_of p q lane group batch layout table was idle closed store =
    let facts = closed_facts p q lane group batch was idle closed in
    let o : Origin = origin_of p.metaslab in
    let origin : origin_of q.metaslab ≡ o = ap origin_of closed.stays in
    let units : q.metaslab.units ≡ p.metaslab.units = ap (λ (m : MsState). m.units) closed.stays in
    let leaves : LeavesSettled p q = collected_leaves p q lane group was closed.is_open closed.notes in
    let is_open : group.0 ≡ open_group p.metaslab.opened p.gate.notes = rw (← was.opened) closed.is_open in
    let legal : IsLegal o q.metaslab.notes = subst (IsLegal o) (sym closed.notes) (legal_push o p.metaslab.notes (record { lane = lane; act = Collect group }) was.sound.legal (is_open ∙ was.sound.next)) in
    let gained : (u : ℕ) → is_gained group.0 p.metaslab.notes u ≡ is_gained group.0 q.metaslab.notes u =
    λ u. sym (ap (λ (l : List Noted). is_gained group.0 l u) closed.notes ∙ collect_gained group.0 p.metaslab.notes lane group u) in
    let given : (u : ℕ) → is_given group.0 p.metaslab.notes u ≡ is_given group.0 q.metaslab.notes u =
    λ u. sym (ap (λ (l : List Noted). is_given group.0 l u) closed.notes ∙ collect_given group.0 p.metaslab.notes lane group u) in
    record {
      store = store_leaves p q layout table was store closed.stays leaves;
      legal = subst (λ (x : Origin). IsLegal x q.metaslab.notes) (sym origin) legal;
      next = facts.next;
      collected = facts.collected;
      idle = closed.first ∙ idle;
      id = closed.id;
      allocs = subst (λ (n : ℕ). AreMaximalRuns (is_gained group.0 q.metaslab.notes) n batch.allocs) (sym units) (maximal_same (is_gained group.0 p.metaslab.notes) (is_gained group.0 q.metaslab.notes) p.metaslab.units batch.allocs gained closed.allocs);
      frees = subst (λ (n : ℕ). AreMaximalRuns (is_given group.0 q.metaslab.notes) n batch.frees) (sym units) (maximal_same (is_given group.0 p.metaslab.notes) (is_given group.0 q.metaslab.notes) p.metaslab.units batch.frees given closed.frees);
    }

-- whatever became of its commit, the journal grew
pub committed_grows : {E : Type 0} (p q : Pool) (layout : Layout) (table : Table) (lane : ℕ) (group : Group) (batch : Batch) (low high : ℕ) (r : Result Answer E) → IsDue p layout table group batch
    → IfOk r (IsCommitted p q lane group low high) → OnErr r ((high ≡ low) × (q ≡ p)) → Grows (origin_of p.metaslab) p.metaslab.notes q.metaslab.notes
committed_grows p q layout table lane group batch low high (Ok answer) due (IsCommitted.settled is gate notes stays first base same) err =
    subst (Grows (origin_of p.metaslab) p.metaslab.notes) (sym notes) (grows_may (origin_of p.metaslab) p.metaslab.notes lane (Settle group) (due.next, omega (arith, due.collected)))
committed_grows p q layout table lane group batch low high (Ok answer) due (IsCommitted.failed is once gate metaslab first base) err =
    subst (Grows (origin_of p.metaslab) p.metaslab.notes) (sym (ap (λ (m : MsState). m.notes) metaslab)) (grows_none (origin_of p.metaslab) p.metaslab.notes)
committed_grows p q layout table lane group batch low high (Ok answer) due (IsCommitted.damaged id damage is steady gate metaslab first base) err =
    subst (Grows (origin_of p.metaslab) p.metaslab.notes) (sym (ap (λ (m : MsState). m.notes) metaslab)) (grows_none (origin_of p.metaslab) p.metaslab.notes)
committed_grows p q layout table lane group batch low high (Err e) due done err =
    subst (Grows (origin_of p.metaslab) p.metaslab.notes) (sym (ap (λ (x : Pool). x.metaslab.notes) err.1)) (grows_none (origin_of p.metaslab) p.metaslab.notes)

pub unsettled_leaves : (p mid q : Pool) → mid.first ≡ p.first → LeavesSettled p mid → q ≡ mid → (q.first ≡ p.first) × LeavesSettled p q
unsettled_leaves p mid q first leaves same = rw same (first, leaves)
