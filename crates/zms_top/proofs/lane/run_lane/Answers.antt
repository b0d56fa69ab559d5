use Rattle.std.proofs.Common.{◌≡◌, ◌+◌, ◌<◌, ◌++◌, ◌∷◌, [], length, take, refl, sym, ◌∙◌, ap, subst, arith, length-append}
use Rattle.std.proofs.lemmas.List.{take_all, length-take-le}
use Rattle.std.proofs.lemmas.List.Elements.{All-get_or}
use Rattle.ms_model.specs.Origin.{Origin}
use Rattle.ms_core.specs.State.{origin_of}
use Rattle.txg_gate.specs.Closings.{closings_of}
use Rattle.zms_dev.specs.Disk.{DiskState, Tells}
use Rattle.zms_dev.specs.Runs.{Spares}
use Rattle.zms_dev.proofs.Sparing.{spares_none, spares_then}
use Rattle.vdev_map.specs.declared.layout.Layout.{Layout}
use Rattle.meta_store.proofs.LastGroup.{adds_none, adds_then}
use Rattle.zms_top.specs.declared.replies.Reply.{Reply}
use Rattle.zms_top.specs.Answers.{paired}
use Rattle.zms_top.specs.Ends.{first_damage}
use Rattle.zms_top.specs.Lines.{AreIntervals}
use Rattle.zms_top.specs.Names.{Learns, AreNamed}
use Rattle.zms_top.specs.Script.{IsCommand}
use Rattle.zms_top.specs.Sound.{shape_of}
use Rattle.zms_top.specs.Stored.{IsBeside}
use Rattle.zms_top.specs.Runs.{HasRun, answers_of}
use Rattle.zms_top.proofs.Growing.{acted_grows}
use Rattle.zms_top.proofs.NameLemmas.{named_none, named_push}
use Rattle.zms_top.proofs.PairLemmas.{length-paired}
use Rattle.zms_top.proofs.StepLemmas.{same_leaves}
use Rattle.zms_top.proofs.SyncSteps.{stays_both}
use Rattle.zms_top.proofs.RunLemmas.{run_none, run_more, leaves_remembered, stays_then, faults_after, intervals_push, answers-push, paired-push, undamaged_push}
use Rattle.zms_top.proofs.lane.run_lane.Goals as goal

pub loop-command-init : goal.loop-command-init
loop-command-init g c =
    let empty = c.in_ok-replies.ensures.items in
    let p = c.args.pool.now in
    record {
      each = ap length empty;
      named = named_none (shape_of (origin_of p.metaslab)) c.new-blocks.result c.new-blocks.ensures.empty;
      ran = run_none p c.requires.pool c.requires.fresh;
      intervals = subst (λ l. AreIntervals (g.D.Disk.faults c.args.store.now.disk) (g.D.Disk.faults c.args.store.now.disk) (answers_of l)) (sym empty) refl;
      undamaged = λ _. ap first_damage empty;
      store = c.requires.store;
      layout = refl;
      remembered = λ was. leaves_remembered p p c.args.store.now.layout c.args.store.now.table (g.D.Disk.state c.args.store.now.disk) (g.met.D.Disk.only_now c.args.store.now.disk) c.requires.pool refl (same_leaves p p refl) refl was;
      stays = refl;
      gate = refl;
      faults = rw c.requires.fresh refl;
      spares = λ tells. spares_none (IsBeside c.args.store.now.layout) (g.D.Disk.state c.args.store.now.disk) tells (g.met.D.Disk.only_now c.args.store.now.disk);
      flushes = λ tells. adds_none (g.D.Disk.state c.args.store.now.disk) (g.D.Disk.state c.args.store.now.disk) refl;
    }

-- what one more command spared
all_spared : (layout later : Layout) (start mid end : DiskState) → later ≡ layout → Spares (IsBeside layout) start mid → (Tells mid → Spares (IsBeside later) mid end) → Spares (IsBeside layout) start end
all_spared layout later start mid end same first then = spares_then (IsBeside layout) start mid end first (subst (λ (l : Layout). Spares (IsBeside l) mid end) same (then first.tells))

pub loop-command-preserved : goal.loop-command-preserved
loop-command-preserved g c =
    let was = c.loop-command.invariant in
    let item = c.command-item.result in
    let i = c.loop-command.command-index in
    let rs = c.loop-command.replies.items in
    let done = paired (take i c.args.commands.now) rs in
    let reply : Reply = record { lane = c.command-item.result.lane; answer = c.in_ok-answer.answer } in
    let items : c.push.new.self.items ≡ c.loop-command.replies.items ++ reply ∷ [] = c.in_ok-push.ensures.items in
    let is_command : IsCommand c.command-item.result = subst IsCommand (sym c.command-item.is) (All-get_or IsCommand c.args.commands.now i item c.loop-command-test.true c.requires.commands) in
    let did = c.in_ok-answer.ensures in
    let origin : origin_of c.loop-command.pool.metaslab ≡ origin_of c.args.pool.now.metaslab = ap origin_of was.ran.stays in
    let named : AreNamed (shape_of (origin_of c.loop-command.pool.metaslab)) done c.loop-command.blocks = subst (λ (o : Origin). AreNamed (shape_of o) done c.loop-command.blocks) (sym origin) was.named in
    let learns : Learns (shape_of (origin_of c.args.pool.now.metaslab)) item.what c.in_ok-answer.answer c.loop-command.blocks c.run_command.new.blocks = subst (λ (o : Origin). Learns (shape_of o) item.what c.in_ok-answer.answer c.loop-command.blocks c.run_command.new.blocks) origin did.learns in
    let acted = did.acted done was.ran.fault named in
    let run = run_more c.args.pool.now c.loop-command.pool c.run_command.new.pool done item c.in_ok-answer.answer was.ran is_command.lane acted did.first did.synced in
    let pairs = ap (λ l. paired (take (i + 1) c.args.commands.now) l) items ∙ paired-push c.args.commands.now rs i item reply c.loop-command-test.true was.each c.command-item.is in
    record {
      each = ap length items ∙ (length-append rs (reply ∷ []) ∙ ap (λ n. n + 1) was.each);
      named = subst (λ l. AreNamed (shape_of (origin_of c.args.pool.now.metaslab)) l c.run_command.new.blocks) (sym pairs) (named_push (shape_of (origin_of c.args.pool.now.metaslab)) done item reply c.loop-command.blocks c.run_command.new.blocks was.named learns);
      ran = subst (λ l. HasRun c.args.pool.now c.run_command.new.pool l) (sym pairs) run;
      intervals = subst (λ l. AreIntervals (g.D.Disk.faults c.args.store.now.disk) (g.D.Disk.faults c.run_command.new.store.disk) l) (sym (ap answers_of items ∙ answers-push rs reply))
          (intervals_push _ _ _ (answers_of rs) c.in_ok-answer.answer was.intervals did.intervals);
      undamaged = λ whole. ap first_damage items ∙ undamaged_push rs reply (was.undamaged whole) (did.undamaged (was.remembered whole).now);
      store = did.store;
      layout = did.layout ∙ was.layout;
      remembered = λ whole.
          let first = was.remembered whole in
          stays_then c.args.pool.now c.loop-command.pool c.run_command.new.pool c.loop-command.store.layout c.run_command.new.store.layout c.loop-command.store.table c.run_command.new.store.table
          (g.D.Disk.state c.args.store.now.disk) (g.D.Disk.state c.loop-command.store.disk) (g.D.Disk.state c.run_command.new.store.disk) did.layout was.ran.stays
          (acted_grows c.loop-command.pool c.run_command.new.pool item.lane _ acted) first (did.remembered first.now);
      stays = stays_both c.args.pool.now.metaslab c.loop-command.pool.metaslab c.run_command.new.pool.metaslab was.stays did.stays;
      gate = did.gate ∙ was.gate;
      faults = faults_after c.loop-command.pool.first c.run_command.new.pool.first c.in_ok-answer.answer (g.D.Disk.faults c.args.store.now.disk) (g.D.Disk.faults c.loop-command.store.disk) (g.D.Disk.faults c.run_command.new.store.disk) did.first was.faults did.intervals (λ some. ap (λ s. g.D.Disk.faults s.disk) (did.suspended some));
      spares = λ tells.
          all_spared c.args.store.now.layout c.loop-command.store.layout (g.D.Disk.state c.args.store.now.disk) (g.D.Disk.state c.loop-command.store.disk) (g.D.Disk.state c.run_command.new.store.disk) was.layout (was.spares tells) did.spares;
      flushes = λ tells. adds_then (g.D.Disk.state c.args.store.now.disk) (g.D.Disk.state c.loop-command.store.disk) (g.D.Disk.state c.run_command.new.store.disk) (was.flushes tells) (did.flushes (was.spares tells).tells);
    }

pub returns : goal.returns
returns g c =
    let was = c.loop-command.invariant in
    let all : take c.loop-command.command-index c.args.commands.now ≡ c.args.commands.now = take_all c.loop-command.command-index c.args.commands.now c.loop-command-test.false in
    record {
      each = omega (arith, was.each, c.loop-command-test.false, c.loop-command.auto.command-index-end);
      ran = subst (λ l. HasRun c.args.pool.now c.loop-command.pool (paired l c.loop-command.replies.items)) all was.ran;
      intervals = was.intervals;
      undamaged = was.undamaged;
      layout = was.layout;
      remembered = was.remembered;
      faults = was.faults;
      spares = was.spares;
      flushes = was.flushes;
      stays = was.stays;
      gate = was.gate;
    }

pub run_command-requires-clause-few : goal.run_command-requires-clause-few
run_command-requires-clause-few g c =
    let was = c.loop-command.invariant in
    let i = c.loop-command.command-index in
    let item = c.command-item.result in
    let is_command : IsCommand item = subst IsCommand (sym c.command-item.is) (All-get_or IsCommand c.args.commands.now i item c.loop-command-test.true c.requires.commands) in
    let front = length-take-le i c.args.commands.now (omega (arith, c.loop-command-test.true)) in
    let pairs = length-paired (take i c.args.commands.now) c.loop-command.replies.items (front ∙ sym was.each) in
    subst (λ l. closings_of l c.loop-command.pool.gate.notes < 200000) (sym is_command.lane) (omega (arith, was.ran.rises, pairs, front, c.requires.few, c.loop-command-test.true))

pub returns-in_err-answer-clause-remembered : goal.returns-in_err-answer-clause-remembered
returns-in_err-answer-clause-remembered g c whole =
    let was = c.loop-command.invariant in
    let did = c.in_err-answer.ensures in
    let first = was.remembered whole in
    stays_then c.args.pool.now c.loop-command.pool c.run_command.new.pool c.loop-command.store.layout c.run_command.new.store.layout c.loop-command.store.table c.run_command.new.store.table
    (g.D.Disk.state c.args.store.now.disk) (g.D.Disk.state c.loop-command.store.disk) (g.D.Disk.state c.run_command.new.store.disk) did.layout was.ran.stays
    did.err.1.1.grows first (did.remembered first.now)

pub returns-in_err-answer-clause-faults : goal.returns-in_err-answer-clause-faults
returns-in_err-answer-clause-faults g c = let err = c.in_err-answer.ensures.err in rw err.1.0 (err.0 ∙ c.loop-command.invariant.faults)

pub returns-in_err-answer-clause-spares : goal.returns-in_err-answer-clause-spares
returns-in_err-answer-clause-spares g c tells =
    let was = c.loop-command.invariant in
    all_spared c.args.store.now.layout c.loop-command.store.layout (g.D.Disk.state c.args.store.now.disk) (g.D.Disk.state c.loop-command.store.disk) (g.D.Disk.state c.run_command.new.store.disk) was.layout (was.spares tells) c.in_err-answer.ensures.spares

pub returns-in_err-answer-clause-flushes : goal.returns-in_err-answer-clause-flushes
returns-in_err-answer-clause-flushes g c tells =
    let was = c.loop-command.invariant in
    adds_then (g.D.Disk.state c.args.store.now.disk) (g.D.Disk.state c.loop-command.store.disk) (g.D.Disk.state c.run_command.new.store.disk) (was.flushes tells) (c.in_err-answer.ensures.flushes (was.spares tells).tells)

pub returns-in_err-push-clause-remembered : goal.returns-in_err-push-clause-remembered
returns-in_err-push-clause-remembered g c whole =
    let was = c.loop-command.invariant in
    let did = c.in_ok-answer.ensures in
    let first = was.remembered whole in
    let done = paired (take c.loop-command.command-index c.args.commands.now) c.loop-command.replies.items in
    let origin : origin_of c.loop-command.pool.metaslab ≡ origin_of c.args.pool.now.metaslab = ap origin_of was.ran.stays in
    let named : AreNamed (shape_of (origin_of c.loop-command.pool.metaslab)) done c.loop-command.blocks = subst (λ (o : Origin). AreNamed (shape_of o) done c.loop-command.blocks) (sym origin) was.named in
    stays_then c.args.pool.now c.loop-command.pool c.run_command.new.pool c.loop-command.store.layout c.run_command.new.store.layout c.loop-command.store.table c.run_command.new.store.table
    (g.D.Disk.state c.args.store.now.disk) (g.D.Disk.state c.loop-command.store.disk) (g.D.Disk.state c.run_command.new.store.disk) did.layout was.ran.stays
    (acted_grows c.loop-command.pool c.run_command.new.pool c.command-item.result.lane _ (did.acted done was.ran.fault named)) first (did.remembered first.now)

pub returns-in_err-push-clause-spares : goal.returns-in_err-push-clause-spares
returns-in_err-push-clause-spares g c tells =
    let was = c.loop-command.invariant in
    all_spared c.args.store.now.layout c.loop-command.store.layout (g.D.Disk.state c.args.store.now.disk) (g.D.Disk.state c.loop-command.store.disk) (g.D.Disk.state c.run_command.new.store.disk) was.layout (was.spares tells) c.in_ok-answer.ensures.spares

pub returns-in_err-push-clause-flushes : goal.returns-in_err-push-clause-flushes
returns-in_err-push-clause-flushes g c tells =
    let was = c.loop-command.invariant in
    adds_then (g.D.Disk.state c.args.store.now.disk) (g.D.Disk.state c.loop-command.store.disk) (g.D.Disk.state c.run_command.new.store.disk) (was.flushes tells) (c.in_ok-answer.ensures.flushes (was.spares tells).tells)
