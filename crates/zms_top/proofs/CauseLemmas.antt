-- Each end of a call has its cause, and honest objects leave no other end than the one that was asked for.
use Rattle.std.proofs.Common.{◌≡◌, ℕ, ◌≤◌, Bool, true, false, Option, Some, None, List, [], ◌∷◌, Result, Ok, Err, refl, sym, ◌∙◌, ap, subst, inl, inr, arith}
use Rattle.std.specs.Prelude.{◌⊎◌, IfSome, IfNone, OnOk, ◌||◌}
use Rattle.zms_dev.specs.Causes.{Rose}
use Rattle.zms_dev.specs.declared.failed.Failed.{Failed}
use Rattle.ms_model.specs.Origin.{Origin}
use Rattle.ms_model.specs.declared.journals.MsJournal.{MsJournal}
use Rattle.ms_model.specs.declared.journals.Journals.{Journals}
use Rattle.zms_top.specs.Words.{Asks, AsksNothing}
use Rattle.zms_dev.specs.Prints.{HandsOn}
use Rattle.zms_dev.proofs.Counts.{rose, rose_more, no_fewer}
use Rattle.zms_top.specs.World.{World}
use Rattle.zms_top.specs.Writes.{WritesBoth}
use Rattle.zms_top.specs.Lines.{AreIntervals}
use Rattle.zms_top.specs.Runs.{answers_of}
use Rattle.zms_top.specs.Ends.{any_device, is_device, damage_in, first_of, first_damage, written_status, end_status, text_of, IsOfText, IsReadEnd, IsOpenEnd, IsOrigin, IsCutOff, LanesDid, RunEnds}
use Rattle.zms_top.specs.Creations.{CreateEnds}
use Rattle.zms_top.specs.PoolReports.{ReportEnds}
use Rattle.zms_top.specs.Stored.{IsSingle, IsWhole}
use Rattle.zms_top.specs.Causes.{Cause, HasFile, HasPool, IsDamage, IsHonestRun, IsHonestReport, IsHonestCreate, IsDone}
use Rattle.cmd_text.specs.declared.script.Command.{Command}
use Rattle.zms_top.specs.declared.replies.Answer.{Answer}
use Rattle.zms_top.specs.declared.replies.Answer.TheVariants.{Granted, NoSpace, BadSize, Done as AnswerDone, NoName, NotLive, Device, Damaged, Suspended}
use Rattle.zms_top.specs.declared.replies.Reply.{Reply}
use Rattle.zms_top.specs.declared.words.Asked.{Asked}
use Rattle.zms_top.specs.declared.words.Asked.TheVariants.{Create, Run, Report}
use Rattle.zms_top.specs.declared.status.RunLists.{RunLists}
use Rattle.zms_top.specs.declared.status.Status.{Status}
use Rattle.zms_top.specs.declared.status.Status.TheVariants.{Done, Usage, BadText, ReadFault, WriteFault, DeviceFault, NotAPool, Memory, Found}
use Rattle.zms_top.specs.declared.status.PoolCause.TheVariants.{Open, OtherLayout, AlreadyPool}
use Rattle.zms_units.specs.declared.faults.Damage.{Damage}
use Rattle.zms_units.specs.declared.places.MsId.{MsId}
use Rattle.zms_units.specs.declared.places.VdevRow.{VdevRow}
use Rattle.zms_dev.specs.Disk.{Tells, bytes_of}
use Rattle.vdev_map.specs.declared.layout.Layout.{Layout}
use Rattle.vdev_map.specs.declared.table.Table.{Table}
use Rattle.uber_ring.specs.Slots.{HasNone}
use Rattle.uber_ring.specs.declared.slot.Uber.{Uber}
use Rattle.meta_store.specs.Groups.{HasRows}
use Rattle.meta_store.specs.Heads.{head_of}
use Rattle.meta_store.specs.Stores.{Opens}
use Rattle.meta_store.specs.declared.causes.At.{At}
use Rattle.meta_store.specs.declared.causes.OpenCause.{OpenCause}
use Rattle.meta_store.specs.declared.causes.OpenCause.TheVariants.{MapDamaged}
use Rattle.meta_store.proofs.CauseOnce.{opens_no_cause}
use Rattle.meta_store.proofs.FoundOnce.{one_asked, one_table}
use Rattle.zms_top.proofs.FrontLemmas.{file_not_bad}
use Rattle.zms_top.proofs.WordLemmas.{asks_once}

-- a `device` reply means that the device's count rose

no_less : (low high : ℕ) (answers : List Answer) → AreIntervals low high answers → low ≤ high
no_less low high [] same = omega (arith, same)
no_less low high (Granted _ _ ∷ rest) are = no_less low high rest are
no_less low high (NoSpace _ ∷ rest) are = no_less low high rest are
no_less low high (BadSize ∷ rest) are = no_less low high rest are
no_less low high (AnswerDone _ ∷ rest) are = no_less low high rest are
no_less low high (NoName ∷ rest) are = no_less low high rest are
no_less low high (NotLive _ _ ∷ rest) are = no_less low high rest are
no_less low high (Suspended _ ∷ rest) are = no_less low high rest are
no_less low high (Damaged _ _ ∷ rest) are = no_less low high rest are
no_less low high (Device before after ∷ rest) are = let then = no_less after high rest are.1.1 in let first = are.1.0 in omega (arith, no_fewer low, first, then)

by_answer : (low high : ℕ) (rs : List Reply) (a : Answer) → (AreIntervals low high (answers_of rs) → any_device rs ≡ true → Rose low high)
    → AreIntervals low high (a ∷ answers_of rs) → (is_device a || any_device rs) ≡ true → Rose low high
by_answer low high rs (Granted _ _) again a e = again a e
by_answer low high rs (NoSpace _) again a e = again a e
by_answer low high rs BadSize again a e = again a e
by_answer low high rs (AnswerDone _) again a e = again a e
by_answer low high rs NoName again a e = again a e
by_answer low high rs (NotLive _ _) again a e = again a e
by_answer low high rs (Suspended _) again a e = again a e
by_answer low high rs (Damaged _ _) again a e = again a e
by_answer low high rs (Device before after) again a e =
    let then = no_less after high (answers_of rs) a.1.1 in let first = a.1.0 in let more = rose_more low in omega (arith, first, more, then)

rose_within : (low high : ℕ) (replies : List Reply) → AreIntervals low high (answers_of replies) → any_device replies ≡ true → Rose low high
rose_within low high [] are any = cc
rose_within low high (r ∷ rs) are any = by_answer low high rs r.answer (rose_within low high rs) are any

-- what a reply names as damage is damage

some_not_none : (cause : OpenCause) → Some cause ≡ None → ⊥
some_not_none cause e = cc

damage_named : (id : MsId) (damage : Damage) (cause : OpenCause) → Some (MapDamaged id damage) ≡ Some cause → IsDamage cause
damage_named id damage cause e = let same : MapDamaged id damage ≡ cause = cc in subst IsDamage same tt

damage_by_answer : (rest : Option OpenCause) (cause : OpenCause) (answer : Answer) → (rest ≡ Some cause → IsDamage cause) → first_of (damage_in answer) rest ≡ Some cause → IsDamage cause
damage_by_answer rest cause (Granted _ _) again e = again e
damage_by_answer rest cause (NoSpace _) again e = again e
damage_by_answer rest cause BadSize again e = again e
damage_by_answer rest cause (AnswerDone _) again e = again e
damage_by_answer rest cause NoName again e = again e
damage_by_answer rest cause (NotLive _ _) again e = again e
damage_by_answer rest cause (Device _ _) again e = again e
damage_by_answer rest cause (Suspended _) again e = again e
damage_by_answer rest cause (Damaged id damage) again e = damage_named id damage cause e

first_damaged : (replies : List Reply) (cause : OpenCause) → first_damage replies ≡ Some cause → IsDamage cause
first_damaged [] cause is = absurd (some_not_none cause (sym is))
first_damaged (r ∷ rs) cause is = damage_by_answer (first_damage rs) cause r.answer (first_damaged rs cause) is

-- an image opens with one layout
opens_single : (image : List ℕ) (at : At) (layout other : Layout) (table rows : Table) (units : ℕ) → Opens image at layout table → table.vdevs ≡ layout.vdevs → IsSingle layout units
    → Opens image at other rows → rows.vdevs ≡ other.vdevs → IsSingle other units
opens_single image at layout other table rows units first tied single second tied' =
    let uber : first.uber ≡ second.uber = one_asked image at first.uber second.uber first.asked second.asked in
    let again : HasRows image first.uber (head_of other) rows = subst (λ (u : Uber). HasRows image u (head_of other) rows) (sym uber) second.opened.has.rows in
    let same : table ≡ rows = one_table image first.uber (head_of layout) (head_of other) table rows first.opened.has.rows again in
    record { vdevs = sym tied' ∙ (ap (λ (t : Table). t.vdevs) (sym same) ∙ (tied ∙ single.vdevs)) }

-- the causes of a run and of a creation

module _ (words : List (List ℕ)) (old new : World) where
  abbrev To : Status → Type 0
  To status = Cause words old new status

  read_cause : (at : At) (status : Status) → Asks words (Run at) → IsReadEnd old.input new.input status → To status
  read_cause at ReadFault asks why = Cause.read_fault at asks (rose old.input.faults new.input.faults why)
  read_cause at (BadText line) asks why = Cause.bad_text at asks line why.0
  read_cause at Memory asks why = Cause.memory
  read_cause at Done asks why = absurd why
  read_cause at Usage asks why = absurd why
  read_cause at WriteFault asks why = absurd why
  read_cause at DeviceFault asks why = absurd why
  read_cause at (NotAPool _) asks why = absurd why
  read_cause at (Found _) asks why = absurd why

  open_cause : (at : At) (status : Status) → Asks words (Run at) → HasFile old.input.left → IsOpenEnd at old.disk old.faults new.faults status → To status
  open_cause at DeviceFault asks file why = Cause.device_fault (rose old.faults new.faults why)
  open_cause at (NotAPool (Open cause)) asks file why = Cause.unopened at asks file cause why.0
  open_cause at (NotAPool OtherLayout) asks file why = Cause.other_layout at asks file why.0
  open_cause at (NotAPool (AlreadyPool _)) asks file why = absurd why
  open_cause at Memory asks file why = Cause.memory
  open_cause at Done asks file why = absurd why
  open_cause at Usage asks file why = absurd why
  open_cause at (BadText _) asks file why = absurd why
  open_cause at ReadFault asks file why = absurd why
  open_cause at WriteFault asks file why = absurd why
  open_cause at (Found _) asks file why = absurd why

  fault_cause : (at : At) (first second : List ℕ) (e : Failed) (printed : Result (Unit {0}) Failed) → Asks words (Run at)
      → HandsOn old.out new.out first printed → OnOk printed (HandsOn {T = Unit {0}} old.trace new.trace second (Err e)) → To WriteFault
  fault_cause at first second e (Ok _) asks prints traces = Cause.trace_fault at asks (rose old.trace.faults new.trace.faults traces.prints.cause.failed)
  fault_cause at first second e (Err _) asks prints traces = Cause.write_fault (rose old.out.faults new.out.faults prints.prints.cause.failed)

  ran_cause : (at : At) (any : Bool) (damage : Option OpenCause) (first second : List ℕ) (written : Result (Unit {0}) Failed) → Asks words (Run at) → HasFile old.input.left
      → HasPool old.disk at → (any ≡ true → Rose old.faults new.faults) → ((cause : OpenCause) → damage ≡ Some cause → IsDamage cause) → (IsWhole old.disk at → damage ≡ None)
      → WritesBoth old.out new.out old.trace new.trace first second written → To (end_status any damage written)
  ran_cause at true damage first second written asks file pool risen is none writes = Cause.device_fault (risen refl)
  ran_cause at false (Some cause) first second written asks file pool risen is none writes = Cause.damaged at asks file cause (is cause refl) (λ whole. some_not_none cause (none whole))
  ran_cause at false None first second (Ok _) asks file pool risen is none writes = Cause.ran at asks file pool
  ran_cause at false None first second (Err e) asks file pool risen is none writes = fault_cause at first second e writes.printed asks writes.prints writes.traces

  end_cause : (at : At) (commands : List Command) (layout : Layout) (o : Origin) (journal : MsJournal) (j : Journals) (l : RunLists) (status : Status) → Asks words (Run at) → HasFile old.input.left
      → IsOrigin at old.disk layout o → IsCutOff old new l status ⊎ LanesDid (IsWhole old.disk at) commands old new o journal j l status → To status
  end_cause at commands layout o journal j l status asks file origin (inl cut) = subst To (sym cut.status_is) Cause.memory
  end_cause at commands layout o journal j l status asks file origin (inr did) =
      subst To (sym did.status_is)
      (ran_cause at (any_device l.replies) (first_damage l.replies) _ _ did.written asks file (record { layout = layout; opened = o; is = origin }) (rose_within old.faults new.faults l.replies did.intervals)
      (first_damaged l.replies) did.undamaged did.writes)

  pub run_cause : (at : At) (status : Status) (journals : Option Journals) (lists : Option RunLists) → Asks words (Run at) → RunEnds at old new status journals lists → To status
  run_cause at status journals lists asks (RunEnds.unread why _ _) = read_cause at status asks why
  run_cause at status journals lists asks (RunEnds.unopened commands file _ why _) = open_cause at status asks (commands, file) why
  run_cause at status journals lists asks (RunEnds.unrewound commands file _ layout o origin failed) =
      subst To (sym failed.status_is) (Cause.device_fault (rose old.faults new.faults failed.failed))
  run_cause at status journals lists asks (RunEnds.began commands file _ layout o origin ends) =
      end_cause at commands layout o ends.journal ends.some_journals ends.some_lists status asks (commands, file) origin ends.end

  made_cause : (vdevs : List VdevRow) (text : List ℕ) (printed : Result (Unit {0}) Failed) → Asks words (Create vdevs) → (Tells old.disk → HasNone (bytes_of old.disk))
      → HandsOn old.out new.out text printed → To (written_status printed)
  made_cause vdevs text (Ok _) asks none prints = Cause.created vdevs asks none
  made_cause vdevs text (Err _) asks none prints = Cause.write_fault (rose old.out.faults new.out.faults prints.prints.cause.failed)

  pub create_cause : (vdevs : List VdevRow) (status : Status) → Asks words (Create vdevs) → CreateEnds vdevs old.out new.out old.disk new.disk old.faults new.faults status → To status
  create_cause vdevs _ asks (CreateEnds.already group has _ _) = Cause.already vdevs asks group (λ tells. (has tells).0)
  create_cause vdevs _ asks (CreateEnds.device _ once _) = Cause.device_fault (rose old.faults new.faults once)
  create_cause vdevs _ asks (CreateEnds.memory _ _ _) = Cause.memory
  create_cause vdevs _ asks (CreateEnds.created made _ printed prints) = made_cause vdevs _ printed asks (λ tells. (made tells).none) prints

  pub report_cause : (at : At) (status : Status) → Asks words (Report at) → ReportEnds at old.out new.out old.disk old.faults new.faults status → To status
  report_cause at _ asks (ReportEnds.unopened cause shows _ _ _) = Cause.unreported at asks cause shows
  report_cause at _ asks (ReportEnds.device once _) = Cause.device_fault (rose old.faults new.faults once)
  report_cause at _ asks (ReportEnds.memory _ _) = Cause.memory
  report_cause at _ asks (ReportEnds.unprinted _ _ _ _ once) = Cause.write_fault (rose old.out.faults new.out.faults once)
  report_cause at _ asks (ReportEnds.reported layout table opens _ _ _ _) = Cause.reported at asks layout table opens

  -- what is left of a call that is no run, by what the words ask for
  pub still_cause : (status : Status) (asked : Option Asked) → IfSome asked (λ a. Asks words a) → IfNone asked (AsksNothing words)
      → ((at : At) → asked ≡ Some (Run at) → ⊥) → (AsksNothing words → status ≡ Usage)
      → ((vdevs : List VdevRow) → Asks words (Create vdevs) → CreateEnds vdevs old.out new.out old.disk new.disk old.faults new.faults status)
      → ((at : At) → Asks words (Report at) → ReportEnds at old.out new.out old.disk old.faults new.faults status) → To status
  still_cause status None some none other usage create report = subst To (sym (usage none)) (Cause.usage none)
  still_cause status (Some (Run at)) some none other usage create report = absurd (other at refl)
  still_cause status (Some (Create vdevs)) some none other usage create report = create_cause vdevs status some (create vdevs some)
  still_cause status (Some (Report at)) some none other usage create report = report_cause at status some (report at some)

  -- only a run reads a command file
  pub runs_of_text : (status : Status) → To status → IsOfText status → (at : At) × Asks words (Run at)
  runs_of_text ReadFault (Cause.read_fault at asks _) of_text = (at, asks)
  runs_of_text (BadText _) (Cause.bad_text at asks _ _) of_text = (at, asks)
  runs_of_text Done cause of_text = absurd of_text
  runs_of_text Usage cause of_text = absurd of_text
  runs_of_text WriteFault cause of_text = absurd of_text
  runs_of_text DeviceFault cause of_text = absurd of_text
  runs_of_text (NotAPool _) cause of_text = absurd of_text
  runs_of_text Memory cause of_text = absurd of_text
  runs_of_text (Found _) cause of_text = absurd of_text

  run_not_create : (at : At) (vdevs : List VdevRow) → Asks words (Run at) → Asks words (Create vdevs) → ⊥
  run_not_create at vdevs run create = absurd (let same = asks_once words (Run at) (Create vdevs) run create in cc)

  pub run_not_report : (at other : At) → Asks words (Run at) → Asks words (Report other) → ⊥
  run_not_report at other run report = absurd (let same = asks_once words (Run at) (Report other) run report in cc)

  create_not_report : (vdevs : List VdevRow) (at : At) → Asks words (Create vdevs) → Asks words (Report at) → ⊥
  create_not_report vdevs at create report = absurd (let same = asks_once words (Create vdevs) (Report at) create report in cc)

  one_report : (at other : At) → Asks words (Report at) → Asks words (Report other) → at ≡ other
  one_report at other one two = let same = asks_once words (Report at) (Report other) one two in cc

  same_at : (at other : At) → Asks words (Run at) → Asks words (Run other) → at ≡ other
  same_at at other one two = let same = asks_once words (Run at) (Run other) one two in cc

  -- words ask for a run at one group
  pub run_ends_at : (at other : At) (status : Status) (journals : Option Journals) (lists : Option RunLists) → Asks words (Run at) → Asks words (Run other)
      → RunEnds at old new status journals lists → RunEnds other old new status journals lists
  run_ends_at at other status journals lists one two ends = subst (λ (a : At). RunEnds a old new status journals lists) (same_at at other one two) ends

  pub run_is_done : (status : Status) → To status → IsHonestRun words old new → IsDone status
  run_is_done _ (Cause.usage none) run = absurd (none (Run run.at) run.asks)
  run_is_done _ (Cause.read_fault _ _ risen) run = absurd (run.source risen)
  run_is_done _ (Cause.bad_text _ _ line bad) run = absurd (file_not_bad (text_of old.input.left) run.commands line run.file (bad run.told_text))
  run_is_done _ (Cause.device_fault risen) run = absurd (run.device risen)
  run_is_done _ (Cause.write_fault risen) run = absurd (run.sink risen)
  run_is_done _ (Cause.trace_fault _ _ risen) run = absurd (run.trace risen)
  run_is_done _ (Cause.unopened at asks _ cause shows) run =
      absurd (opens_no_cause (bytes_of old.disk) at run.layout run.table cause (subst (λ a. Opens (bytes_of old.disk) a run.layout run.table) (same_at run.at at run.asks asks) run.opens) (shows run.whole.tells))
  run_is_done _ (Cause.other_layout at asks _ other) run =
      let has = other run.whole.tells in
      let opens : Opens (bytes_of old.disk) at run.layout run.table = subst (λ a. Opens (bytes_of old.disk) a run.layout run.table) (same_at run.at at run.asks asks) run.opens in
      absurd (has.other run.units (opens_single (bytes_of old.disk) at run.layout has.layout run.table has.table run.units opens run.vdevs run.single has.opens has.vdevs))
  run_is_done _ (Cause.damaged at asks _ cause _ not_whole) run = absurd (not_whole (subst (λ a. IsWhole old.disk a) (same_at run.at at run.asks asks) run.whole))
  run_is_done _ (Cause.already vdevs asks _ _) run = absurd (run_not_create run.at vdevs run.asks asks)
  run_is_done _ (Cause.unreported at asks _ _) run = absurd (run_not_report run.at at run.asks asks)
  run_is_done _ (Cause.reported _ _ _ _ _) run = inl refl
  run_is_done _ (Cause.ran _ _ _ _) run = inl refl
  run_is_done _ (Cause.created _ _ _) run = inl refl
  run_is_done _ Cause.memory run = inr refl

  pub create_is_done : (status : Status) → To status → IsHonestCreate words old new → IsDone status
  create_is_done _ (Cause.usage none) made = absurd (none (Create made.vdevs) made.asks)
  create_is_done _ (Cause.read_fault at asks _) made = absurd (run_not_create at made.vdevs asks made.asks)
  create_is_done _ (Cause.bad_text at asks _ _) made = absurd (run_not_create at made.vdevs asks made.asks)
  create_is_done _ (Cause.device_fault risen) made = absurd (made.device risen)
  create_is_done _ (Cause.write_fault risen) made = absurd (made.sink risen)
  create_is_done _ (Cause.trace_fault at asks _) made = absurd (run_not_create at made.vdevs asks made.asks)
  create_is_done _ (Cause.unopened at asks _ _ _) made = absurd (run_not_create at made.vdevs asks made.asks)
  create_is_done _ (Cause.other_layout at asks _ _) made = absurd (run_not_create at made.vdevs asks made.asks)
  create_is_done _ (Cause.damaged at asks _ _ _ _) made = absurd (run_not_create at made.vdevs asks made.asks)
  create_is_done _ (Cause.already _ _ group has) made = let has = has made.tells in absurd (made.none has.uber has.newest.valid)
  create_is_done _ (Cause.unreported at asks _ _) made = absurd (create_not_report made.vdevs at made.asks asks)
  create_is_done _ (Cause.reported _ _ _ _ _) made = inl refl
  create_is_done _ (Cause.ran _ _ _ _) made = inl refl
  create_is_done _ (Cause.created _ _ _) made = inl refl
  create_is_done _ Cause.memory made = inr refl

  pub report_is_done : (status : Status) → To status → IsHonestReport words old new → IsDone status
  report_is_done _ (Cause.usage none) told = absurd (none (Report told.at) told.asks)
  report_is_done _ (Cause.read_fault at asks _) told = absurd (run_not_report at told.at asks told.asks)
  report_is_done _ (Cause.bad_text at asks _ _) told = absurd (run_not_report at told.at asks told.asks)
  report_is_done _ (Cause.device_fault risen) told = absurd (told.device risen)
  report_is_done _ (Cause.write_fault risen) told = absurd (told.sink risen)
  report_is_done _ (Cause.trace_fault at asks _) told = absurd (run_not_report at told.at asks told.asks)
  report_is_done _ (Cause.unopened at asks _ _ _) told = absurd (run_not_report at told.at asks told.asks)
  report_is_done _ (Cause.other_layout at asks _ _) told = absurd (run_not_report at told.at asks told.asks)
  report_is_done _ (Cause.damaged at asks _ _ _ _) told = absurd (run_not_report at told.at asks told.asks)
  report_is_done _ (Cause.unreported at asks cause shows) told =
      absurd (opens_no_cause (bytes_of old.disk) at told.layout told.table cause (subst (λ a. Opens (bytes_of old.disk) a told.layout told.table) (one_report told.at at told.asks asks) told.opens) (shows told.tells))
  report_is_done _ (Cause.already vdevs asks _ _) told = absurd (create_not_report vdevs told.at asks told.asks)
  report_is_done _ (Cause.ran _ _ _ _) told = inl refl
  report_is_done _ (Cause.reported _ _ _ _ _) told = inl refl
  report_is_done _ (Cause.created _ _ _) told = inl refl
  report_is_done _ Cause.memory told = inr refl
