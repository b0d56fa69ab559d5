-- Commands one behind the other.
use Rattle.std.proofs.Common.{◌≡◌, ℕ, ◌+◌, ◌<◌, ◌≤◌, Bool, true, false, Option, Some, None, List, [], ◌∷◌, ◌++◌, length, take, get_or, refl, sym, ◌∙◌, ap, subst, add-one, arith}
use Rattle.std.specs.Prelude.{cond, IsSome}
use Rattle.std.proofs.lemmas.List.{length-append, length-take-le}
use Rattle.std.proofs.lemmas.List.Sums.{fold_push}
use Rattle.std.proofs.Math.Seq.{take-suc}
use Rattle.zms_units.specs.declared.faults.First.{First}
use Rattle.zms_units.specs.declared.faults.First.TheVariants.{Device as FirstDevice, Damaged as FirstDamaged}
use Rattle.ms_model.specs.Origin.{Origin}
use Rattle.ms_model.specs.Units.{settled_group}
use Rattle.ms_model.specs.Parts.{right_of, gate_right}
use Rattle.ms_model.specs.Events.{Event, gate_steps, metaslab_steps}
use Rattle.ms_model.specs.declared.notes.Noted.{Noted}
use Rattle.ms_model.specs.declared.notes.GateNote.{GateNote}
use Rattle.lane_steps.proofs.Steps.{quiet_both, follows_both, quiet_none}
use Rattle.ms_model.proofs.Events.{gate_steps-append, metaslab_steps-append}
use Rattle.ms_core.specs.State.{origin_of, settled_of, StaysButNotes}
use Rattle.txg_gate.specs.Closings.{closings_of}
use Rattle.zms_dev.specs.Causes.{one_more}
use Rattle.zms_dev.specs.Disk.{DiskState}
use Rattle.zms_dev.specs.Runs.{LeavesOnly}
use Rattle.zms_dev.proofs.Moments.{OnlyNow, started, joined, weaker}
use Rattle.vdev_map.specs.declared.layout.Layout.{Layout}
use Rattle.vdev_map.specs.declared.table.Table.{Table}
use Rattle.ms_model.proofs.Overlaps.{opened_le_settled}
use Rattle.zms_top.specs.Stored.{Remembers}
use Rattle.zms_top.proofs.Remembering.{remembers_grown, remembers_lower}
use Rattle.zms_top.specs.Answers.{Replied, paired, first_with, is_failure, synced_after, IsOfAlloc, IsOfFree}
use Rattle.zms_top.specs.Sound.{Grows, Tour, shape_of}
use Rattle.zms_top.specs.Lines.{Lines, WhatLine, AreIntervals}
use Rattle.zms_top.specs.Pools.{Acted, IsPool, IsRemembered, StaysRemembered, LeavesSettled}
use Rattle.zms_top.specs.Runs.{HasRun, answers_of}
use Rattle.meta_store.specs.declared.causes.OpenCause.{OpenCause}
use Rattle.zms_top.specs.Ends.{damage_in, first_of, first_damage}
use Rattle.cmd_text.specs.declared.script.Command.{Command}
use Rattle.zms_top.specs.declared.pool.Pool.{Pool}
use Rattle.zms_top.specs.declared.replies.Answer.{Answer}
use Rattle.zms_top.specs.declared.replies.Answer.TheVariants.{Granted, NoSpace, BadSize, Done, NoName, NotLive, Device, Damaged, Suspended}
use Rattle.zms_top.specs.declared.replies.Reply.{Reply}
use Rattle.zms_top.proofs.SyncSteps.{stays_both}

pub tour_both : (lane : ℕ) (es fs kept more : List Event) (h i j : List Noted) (g k l : List GateNote) → Tour lane es kept h i g k → Tour lane fs more i j k l → Tour lane (es ++ fs) (kept ++ more) h j g l
tour_both lane es fs kept more h i j g k l first then = record {
  keeper = rw (metaslab_steps-append 0 kept more) (follows_both right_of 0 h (metaslab_steps 0 kept) i (metaslab_steps 0 more) j first.keeper then.keeper);
  keeper_gate = rw (gate_steps-append kept more) (follows_both gate_right 0 g (gate_steps kept) k (gate_steps more) l first.keeper_gate then.keeper_gate);
  metaslab = rw (metaslab_steps-append 0 es fs) (follows_both right_of lane h (metaslab_steps 0 es) i (metaslab_steps 0 fs) j first.metaslab then.metaslab);
  gate = rw (gate_steps-append es fs) (follows_both gate_right lane g (gate_steps es) k (gate_steps fs) l first.gate then.gate);
  others = record {
    metaslab = λ other low apart. quiet_both right_of other h i j (first.others.metaslab other low apart) (then.others.metaslab other low apart);
    gate = λ other low apart. quiet_both gate_right other g k l (first.others.gate other low apart) (then.others.gate other low apart);
  };
}

-- intervals go on from call to call

pub intervals_push : (low mid high : ℕ) (xs : List Answer) (a : Answer) → AreIntervals low mid xs → AreIntervals mid high (a ∷ []) → AreIntervals low high (xs ++ a ∷ [])
intervals_push low mid high [] a is then = subst (λ n. AreIntervals n high (a ∷ [])) is then
intervals_push low mid high (Device b c ∷ rest) a is then = (is.0, (is.1.0, intervals_push c mid high rest a is.1.1 then))
intervals_push low mid high (Granted _ _ ∷ rest) a is then = intervals_push low mid high rest a is then
intervals_push low mid high (NoSpace _ ∷ rest) a is then = intervals_push low mid high rest a is then
intervals_push low mid high (BadSize ∷ rest) a is then = intervals_push low mid high rest a is then
intervals_push low mid high (Done _ ∷ rest) a is then = intervals_push low mid high rest a is then
intervals_push low mid high (NoName ∷ rest) a is then = intervals_push low mid high rest a is then
intervals_push low mid high (NotLive _ _ ∷ rest) a is then = intervals_push low mid high rest a is then
intervals_push low mid high (Suspended _ ∷ rest) a is then = intervals_push low mid high rest a is then
intervals_push low mid high (Damaged _ _ ∷ rest) a is then = intervals_push low mid high rest a is then

-- an alloc and a free name no fault

abbrev pub names_fault : Answer → Bool
names_fault (Device _ _) = true
names_fault (Damaged _ _) = true
names_fault _ = false

pub alloc_quiet : (a : Answer) → IsOfAlloc a → names_fault a ≡ false
alloc_quiet (Granted _ _) is = refl
alloc_quiet (NoSpace _) is = refl
alloc_quiet BadSize is = refl
alloc_quiet (Done _) is = absurd is
alloc_quiet NoName is = absurd is
alloc_quiet (NotLive _ _) is = absurd is
alloc_quiet (Device _ _) is = absurd is
alloc_quiet (Suspended _) is = absurd is
alloc_quiet (Damaged _ _) is = absurd is

pub free_quiet : (a : Answer) → IsOfFree a → names_fault a ≡ false
free_quiet (Done _) is = refl
free_quiet NoName is = refl
free_quiet (NotLive _ _) is = refl
free_quiet (Granted _ _) is = absurd is
free_quiet (NoSpace _) is = absurd is
free_quiet BadSize is = absurd is
free_quiet (Device _ _) is = absurd is
free_quiet (Suspended _) is = absurd is
free_quiet (Damaged _ _) is = absurd is

pub quiet_first : (first now : Option First) (a : Answer) → names_fault a ≡ false → now ≡ first → now ≡ first_with first a
quiet_first (Some f) now a is e = e
quiet_first None now (Granted _ _) is e = e
quiet_first None now (NoSpace _) is e = e
quiet_first None now BadSize is e = e
quiet_first None now (Done _) is e = e
quiet_first None now NoName is e = e
quiet_first None now (NotLive _ _) is e = e
quiet_first None now (Device _ _) is e = cc
quiet_first None now (Suspended _) is e = e
quiet_first None now (Damaged _ _) is e = cc

pub quiet_intervals : (low : ℕ) (a : Answer) → names_fault a ≡ false → AreIntervals low low (a ∷ [])
quiet_intervals low (Granted _ _) is = refl
quiet_intervals low (NoSpace _) is = refl
quiet_intervals low BadSize is = refl
quiet_intervals low (Done _) is = refl
quiet_intervals low NoName is = refl
quiet_intervals low (NotLive _ _) is = refl
quiet_intervals low (Device _ _) is = cc
quiet_intervals low (Suspended _) is = refl
quiet_intervals low (Damaged _ _) is = refl

-- the count of faults once one more command has its answer: only the first fault raised it
pub faults_after : (first now : Option First) (a : Answer) (start low high : ℕ) → now ≡ first_with first a → low ≡ cond (is_failure first) (one_more start) start
    → AreIntervals low high (a ∷ []) → (IsSome first → high ≡ low) → high ≡ cond (is_failure now) (one_more start) start
faults_after (Some (FirstDevice _ _)) now a start low high is was are same = rw is (same refl ∙ was)
faults_after (Some (FirstDamaged _ _)) now a start low high is was are same = rw is (same refl ∙ was)
faults_after None now (Device b c) start low high is was are same = rw is (are.1.1 ∙ (are.1.0 ∙ ap one_more was))
faults_after None now (Granted _ _) start low high is was are same = rw is (are ∙ was)
faults_after None now (NoSpace _) start low high is was are same = rw is (are ∙ was)
faults_after None now BadSize start low high is was are same = rw is (are ∙ was)
faults_after None now (Done _) start low high is was are same = rw is (are ∙ was)
faults_after None now NoName start low high is was are same = rw is (are ∙ was)
faults_after None now (NotLive _ _) start low high is was are same = rw is (are ∙ was)
faults_after None now (Suspended _) start low high is was are same = rw is (are ∙ was)
faults_after None now (Damaged _ _) start low high is was are same = rw is (are ∙ was)

-- what is kept of the device as a run goes on

-- the same, told of a pool with the same origin
remembered_as : (layout : Layout) (o x : Origin) (h : List Noted) (low : ℕ) (c : List ℕ) → o ≡ x → Remembers layout o h low c → Remembers layout x h low c
remembered_as layout o x h low c same = subst (λ (y : Origin). Remembers layout y h low c) same

-- a command that leaves what is settled, and does not touch the store
pub leaves_remembered : (p q : Pool) (layout : Layout) (table : Table) (disk : DiskState) → OnlyNow disk → IsPool p → StaysButNotes p.metaslab q.metaslab → LeavesSettled p q → q.first ≡ p.first
    → IsRemembered p layout table disk → StaysRemembered p q layout table disk disk
leaves_remembered p q layout table disk only pool stays leaves first was =
    let o : Origin = origin_of p.metaslab in
    let origin : o ≡ origin_of q.metaslab = sym (ap origin_of stays) in
    let grown : (c : List ℕ) → disk.may_leave c → Remembers layout o q.metaslab.notes (settled_of p.metaslab) c =
    λ c may. remembers_grown layout o p.metaslab.notes q.metaslab.notes (settled_of p.metaslab) c leaves.grows (was.left c may) in
    let group : settled_of q.metaslab ≡ settled_of p.metaslab = ap (λ (x : Origin). settled_group x q.metaslab.notes) (sym origin) ∙ leaves.group in
    record {
      run = started disk (Remembers layout o q.metaslab.notes o.opened)
          (λ c left. remembers_lower layout o q.metaslab.notes (settled_of p.metaslab) o.opened c (opened_le_settled o p.metaslab.notes pool.sound.legal) (grown c (only c left)));
      now = record {
        tells = was.tells;
        rests = λ none. was.rests (sym first ∙ none);
        left = λ c may. remembered_as layout o (origin_of q.metaslab) q.metaslab.notes (settled_of q.metaslab) c origin (rw group (grown c may));
      };
    }

-- two runs one behind the other
pub stays_then : (p q r : Pool) (mid_layout end_layout : Layout) (mid_table table : Table) (old mid new : DiskState) → end_layout ≡ mid_layout → StaysButNotes p.metaslab q.metaslab
    → Grows (origin_of q.metaslab) q.metaslab.notes r.metaslab.notes
    → StaysRemembered p q mid_layout mid_table old mid → StaysRemembered q r end_layout table mid new → StaysRemembered p r end_layout table old new
stays_then p q r mid_layout end_layout mid_table table old mid new next stays grows first then =
    let o : Origin = origin_of p.metaslab in
    let origin : origin_of q.metaslab ≡ o = ap origin_of stays in
    let grown : Grows o q.metaslab.notes r.metaslab.notes = subst (λ (x : Origin). Grows x q.metaslab.notes r.metaslab.notes) origin grows in
    let run : LeavesOnly old mid (Remembers end_layout o q.metaslab.notes o.opened) = subst (λ (l : Layout). LeavesOnly old mid (Remembers l o q.metaslab.notes o.opened)) (sym next) first.run in
    record {
      run = joined old mid new (Remembers end_layout o r.metaslab.notes o.opened)
          (weaker old mid (Remembers end_layout o q.metaslab.notes o.opened) (Remembers end_layout o r.metaslab.notes o.opened) (λ c was. remembers_grown end_layout o q.metaslab.notes r.metaslab.notes o.opened c grown was) run)
          (subst (λ (x : Origin). LeavesOnly mid new (Remembers end_layout x r.metaslab.notes x.opened)) origin then.run);
      now = then.now;
    }

-- one command more

paired_both : (cs : List Command) (rs : List Reply) (c : Command) (r : Reply) → length cs ≡ length rs → paired (cs ++ c ∷ []) (rs ++ r ∷ []) ≡ paired cs rs ++ record { command = c; reply = r } ∷ []
paired_both [] [] c r same = refl
paired_both [] (y ∷ rs) c r same = absurd (omega (arith, same))
paired_both (x ∷ cs) [] c r same = absurd (omega (arith, same))
paired_both (x ∷ cs) (y ∷ rs) c r same = ap (λ l. record { command = x; reply = y } ∷ l) (paired_both cs rs c r (omega (arith, same)))

pub paired-push : (cs : List Command) (rs : List Reply) (i : ℕ) (c : Command) (r : Reply) → i < length cs → length rs ≡ i → c ≡ get_or cs i c
    → paired (take (i + 1) cs) (rs ++ r ∷ []) ≡ paired (take i cs) rs ++ record { command = c; reply = r } ∷ []
paired-push cs rs i c r lt same at = rw (add-one, take-suc cs i c, ← at) (paired_both (take i cs) rs c r (length-take-le i cs (omega arith) ∙ sym same))

pub run_none : (p : Pool) → IsPool p → p.first ≡ None → HasRun p p []
run_none p was idle = record {
  events = [];
  kept = [];
  tour = record {
    keeper = quiet_none right_of 0 p.metaslab.notes;
    keeper_gate = quiet_none gate_right 0 p.gate.notes;
    metaslab = quiet_none right_of 1 p.metaslab.notes;
    gate = quiet_none gate_right 1 p.gate.notes;
    others = record { metaslab = λ other low apart. quiet_none right_of other p.metaslab.notes; gate = λ other low apart. quiet_none gate_right other p.gate.notes };
  };
  lines = Lines.none;
  pool = was;
  stays = refl;
  rises = omega arith;
  fault = sym idle;
  synced = refl;
}

pub run_more : (p q r : Pool) (done : List Replied) (c : Command) (answer : Answer) → HasRun p q done → c.lane ≡ 1
    → Acted q r c.lane (WhatLine (shape_of (origin_of q.metaslab)) c.lane done c.what answer) → r.first ≡ first_with q.first answer
    → settled_of r.metaslab ≡ synced_after (settled_of q.metaslab) c.what answer
    → HasRun p r (done ++ record { command = c; reply = record { lane = c.lane; answer = answer } } ∷ [])
run_more p q r done c answer run lane acted first synced =
    let next : Replied = record { command = c; reply = record { lane = c.lane; answer = answer } } in
    let origin : origin_of q.metaslab ≡ origin_of p.metaslab = ap origin_of run.stays in
    let what : WhatLine (shape_of (origin_of p.metaslab)) c.lane done c.what answer acted.events acted.kept =
    subst (λ (o : Origin). WhatLine (shape_of o) c.lane done c.what answer acted.events acted.kept) origin acted.line_is in
    let tour : Tour 1 acted.events acted.kept q.metaslab.notes r.metaslab.notes q.gate.notes r.gate.notes =
    subst (λ l. Tour l acted.events acted.kept q.metaslab.notes r.metaslab.notes q.gate.notes r.gate.notes) lane acted.tour in
    let rises : closings_of 1 r.gate.notes ≤ closings_of 1 q.gate.notes + 1 = subst (λ l. closings_of l r.gate.notes ≤ closings_of l q.gate.notes + 1) lane acted.rises in
    record {
      events = run.events ++ acted.events;
      kept = run.kept ++ acted.kept;
      tour = tour_both 1 run.events acted.events run.kept acted.kept p.metaslab.notes q.metaslab.notes r.metaslab.notes p.gate.notes q.gate.notes r.gate.notes run.tour tour;
      lines = Lines.more done run.events run.kept next acted.events acted.kept run.lines (record { lane = refl; what = what });
      pool = acted.pool;
      stays = stays_both p.metaslab q.metaslab r.metaslab run.stays acted.stays;
      rises = omega (arith, run.rises, rises, length-append done (next ∷ []));
      fault = fold_push (λ so_far (x : Replied). first_with so_far x.reply.answer) None done next ∙ (ap (λ f. first_with f answer) run.fault ∙ sym first);
      synced = synced ∙ (ap (λ n. synced_after n c.what answer) run.synced ∙ sym (fold_push (λ so_far (x : Replied). synced_after so_far x.command.what x.reply.answer) (settled_of p.metaslab) done next));
    }

-- no fault is kept after a command only where none was before
pub idle_before : (first now : Option First) (a : Answer) → now ≡ first_with first a → now ≡ None → first ≡ None
idle_before None now a e idle = refl
idle_before (Some f) now a e idle = cc

pub answers-push : (rs : List Reply) (r : Reply) → answers_of (rs ++ r ∷ []) ≡ answers_of rs ++ r.answer ∷ []
answers-push [] r = refl
answers-push (x ∷ rs) r = ap (λ l. x.answer ∷ l) (answers-push rs r)

-- no damage is named where none was, and the last answer names none
pub undamaged_push : (rs : List Reply) (r : Reply) → first_damage rs ≡ None → damage_in r.answer ≡ None → first_damage (rs ++ r ∷ []) ≡ None
undamaged_push [] r none last = ap (λ d. first_of d None) last
undamaged_push (x ∷ rs) r none last = by_first (damage_in x.answer) none (λ rest. undamaged_push rs r rest last) where
  by_first : (d : Option OpenCause) → first_of d (first_damage rs) ≡ None → (first_damage rs ≡ None → first_damage (rs ++ r ∷ []) ≡ None) → first_of d (first_damage (rs ++ r ∷ [])) ≡ None
  by_first None none rest = rest none
  by_first (Some cause) none rest = cc
