use Rattle.std.proofs.Common.{◌≡◌, ◌+◌, ◌++◌, ◌∷◌, [], length, take, sym, ◌∙◌, ap, subst, arith, length-append}
use Rattle.std.proofs.lemmas.List.{take_all}
use Rattle.std.proofs.lemmas.List.Elements.{All-nil, All-same, All-push}
use Rattle.lane_run.specs.Acts.{Anything}
use Rattle.lane_run.specs.Answers.{paired}
use Rattle.lane_run.specs.Names.{AreNamed}
use Rattle.lane_run.specs.Runs.{commands_of, LaneRan}
use Rattle.lane_run.specs.declared.replies.Reply.{Reply}
use Rattle.lane_run.proofs.Acting.{did_as, did_join, did_seated, did_serves}
use Rattle.lane_run.proofs.Commands.{next_is_own, next_is_anothers}
use Rattle.lane_run.proofs.Naming.{named_none, named_push}
use Rattle.lane_run.proofs.Running.{paired-push, ran_none, ran_more, spared_none, spared_still, spared_more}
use Rattle.lane_run.proofs.lane.run_lane.Goals as goal

pub loop-command-init : goal.loop-command-init
loop-command-init g c =
    let empty = c.new-replies.ensures.items in
    record {
      each = ap length empty;
      theirs = All-same (λ (r : Reply). r.lane ≡ c.args.passes.now.lane) c.new-replies.result.items [] empty (All-nil (λ (r : Reply). r.lane ≡ c.args.passes.now.lane));
      named = named_none c.new-blocks.result c.new-blocks.ensures.empty;
      ran = ran_none c.args.cells.now c.args.classes.now c.args.passes.now c.args.keeper.now c.requires.seated c.requires.serves;
      spared = spared_none c.args.passes.now c.args.keeper.now;
    }

pub run_command-requires-clause-seated : goal.run_command-requires-clause-seated
run_command-requires-clause-seated g c κs within = did_seated c.args.cells.now c.args.passes.now _ c.args.keeper.now _ c.args.classes.now _ c.requires.seated c.loop-command.invariant.ran

pub run_command-requires-clause-serves : goal.run_command-requires-clause-serves
run_command-requires-clause-serves g c κs within = did_serves c.args.cells.now c.args.passes.now _ c.args.keeper.now _ _ c.requires.serves c.loop-command.invariant.ran

pub run_command-requires-clause-few : goal.run_command-requires-clause-few
run_command-requires-clause-few g c κs within = omega (arith, c.loop-command.invariant.spared.closings, c.requires.few, c.loop-command-test.true)

pub run_command-requires-clause-low : goal.run_command-requires-clause-low
run_command-requires-clause-low g c κs within = omega (arith, c.loop-command.invariant.spared.refusals, c.requires.few, c.requires.unrefused, c.loop-command-test.true)

pub run_command-requires-clause-small : goal.run_command-requires-clause-small
run_command-requires-clause-small g c κs within = c.loop-command.invariant.named.small

pub loop-command-preserved : goal.loop-command-preserved
loop-command-preserved g c =
    let was = c.loop-command.invariant in
    let lane = c.args.passes.now.lane in
    let item = c.command-item.result in
    let i = c.loop-command.command-index in
    let rs = c.loop-command.replies.items in
    let own = commands_of lane (take i c.args.commands.now) in
    let done = paired own rs in
    let answer = c.in_ok-answer.answer in
    let reply : Reply = record { lane = item.lane; answer = answer } in
    let items : c.push.new.self.items ≡ rs ++ reply ∷ [] = c.in_ok-push.ensures.items in
    let is : item.lane ≡ lane = c.if-command-lane.false in
    let did = c.in_ok-answer.ensures in
    let next : commands_of lane (take (i + 1) c.args.commands.now) ≡ own ++ item ∷ [] = next_is_own lane c.args.commands.now i item c.loop-command-test.true c.command-item.is is in
    let pairs : paired (commands_of lane (take (i + 1) c.args.commands.now)) c.push.new.self.items ≡ done ++ record { command = item; reply = reply } ∷ [] =
    ap (λ l. paired (commands_of lane (take (i + 1) c.args.commands.now)) l) items ∙ (ap (λ l. paired l (rs ++ reply ∷ [])) next ∙ paired-push own rs item reply (sym was.each)) in
    record {
      each = ap length items ∙ (length-append rs (reply ∷ []) ∙ (ap (λ n. n + 1) was.each ∙ (sym (length-append own (item ∷ [])) ∙ sym (ap length next))));
      theirs = All-same (λ (r : Reply). r.lane ≡ lane) c.push.new.self.items (rs ++ reply ∷ []) items (All-push (λ (r : Reply). r.lane ≡ lane) rs reply was.theirs is);
      named = subst (λ l. AreNamed l c.run_command.new.blocks) (sym pairs) (named_push done item reply c.loop-command.blocks c.run_command.new.blocks was.named did.learns);
      ran = subst (λ l. LaneRan c.args.cells.now l c.args.passes.now c.run_command.new.passes c.args.keeper.now c.run_command.new.keeper) (sym pairs)
          (ran_more c.args.cells.now done item answer c.args.passes.now c.loop-command.passes c.run_command.new.passes c.args.keeper.now c.loop-command.keeper c.run_command.new.keeper is was.ran (did.line done was.named));
      spared = spared_more i c.args.passes.now c.loop-command.passes c.run_command.new.passes c.args.keeper.now c.loop-command.keeper c.run_command.new.keeper was.spared did.spared;
    }

pub loop-command-preserved-then-command-lane : goal.loop-command-preserved-then-command-lane
loop-command-preserved-then-command-lane g c =
    let was = c.loop-command.invariant in
    let lane = c.args.passes.now.lane in
    let item = c.command-item.result in
    let i = c.loop-command.command-index in
    let next : commands_of lane (take (i + 1) c.args.commands.now) ≡ commands_of lane (take i c.args.commands.now) =
    next_is_anothers lane c.args.commands.now i item c.loop-command-test.true c.command-item.is c.if-command-lane.true in
    record {
      each = was.each ∙ sym (ap length next);
      theirs = was.theirs;
      named = subst (λ l. AreNamed (paired l c.loop-command.replies.items) c.loop-command.blocks) (sym next) was.named;
      ran = subst (λ l. LaneRan c.args.cells.now (paired l c.loop-command.replies.items) c.args.passes.now c.loop-command.passes c.args.keeper.now c.loop-command.keeper) (sym next) was.ran;
      spared = spared_still i c.args.passes.now c.loop-command.passes c.args.keeper.now c.loop-command.keeper was.spared;
    }

-- the loop's part, and behind it that of a command

pub returns-in_err-answer-clause-did : goal.returns-in_err-answer-clause-did
returns-in_err-answer-clause-did g c =
    did_join c.args.cells.now _ Anything Anything c.args.passes.now c.loop-command.passes c.run_command.new.passes c.args.keeper.now c.loop-command.keeper c.run_command.new.keeper (λ es fs ks ls x y. tt)
    c.loop-command.invariant.ran c.run_command.ensures.did

pub returns-in_err-answer-clause-seated : goal.returns-in_err-answer-clause-seated
returns-in_err-answer-clause-seated g c =
    did_seated c.args.cells.now c.loop-command.passes _ c.loop-command.keeper _ c.args.classes.now _
    (did_seated c.args.cells.now c.args.passes.now _ c.args.keeper.now _ c.args.classes.now _ c.requires.seated c.loop-command.invariant.ran) c.run_command.ensures.did

pub returns-in_err-answer-clause-serves : goal.returns-in_err-answer-clause-serves
returns-in_err-answer-clause-serves g c =
    did_serves c.args.cells.now c.loop-command.passes _ c.loop-command.keeper _ _ (did_serves c.args.cells.now c.args.passes.now _ c.args.keeper.now _ _ c.requires.serves c.loop-command.invariant.ran) c.run_command.ensures.did

pub returns-in_err-push-clause-did : goal.returns-in_err-push-clause-did
returns-in_err-push-clause-did g c =
    did_join c.args.cells.now _ Anything Anything c.args.passes.now c.loop-command.passes c.run_command.new.passes c.args.keeper.now c.loop-command.keeper c.run_command.new.keeper (λ es fs ks ls x y. tt)
    c.loop-command.invariant.ran c.run_command.ensures.did

pub returns-in_err-push-clause-seated : goal.returns-in_err-push-clause-seated
returns-in_err-push-clause-seated g c =
    did_seated c.args.cells.now c.loop-command.passes _ c.loop-command.keeper _ c.args.classes.now _
    (did_seated c.args.cells.now c.args.passes.now _ c.args.keeper.now _ c.args.classes.now _ c.requires.seated c.loop-command.invariant.ran) c.run_command.ensures.did

pub returns-in_err-push-clause-serves : goal.returns-in_err-push-clause-serves
returns-in_err-push-clause-serves g c =
    did_serves c.args.cells.now c.loop-command.passes _ c.loop-command.keeper _ _ (did_serves c.args.cells.now c.args.passes.now _ c.args.keeper.now _ _ c.requires.serves c.loop-command.invariant.ran) c.run_command.ensures.did

pub returns-clause-each : goal.returns-clause-each
returns-clause-each g c =
    let all : take c.loop-command.command-index c.args.commands.now ≡ c.args.commands.now = take_all c.loop-command.command-index c.args.commands.now c.loop-command-test.false in
    c.loop-command.invariant.each ∙ ap (λ l. length (commands_of c.args.passes.now.lane l)) all

pub returns-clause-ran : goal.returns-clause-ran
returns-clause-ran g c =
    let was = c.loop-command.invariant in
    let all : take c.loop-command.command-index c.args.commands.now ≡ c.args.commands.now = take_all c.loop-command.command-index c.args.commands.now c.loop-command-test.false in
    subst (λ l. LaneRan c.args.cells.now (paired (commands_of c.args.passes.now.lane l) c.loop-command.replies.items) c.args.passes.now c.loop-command.passes c.args.keeper.now c.loop-command.keeper) all was.ran

pub returns-clause-did : goal.returns-clause-did
returns-clause-did g c = did_as c.args.cells.now c.args.passes.now _ c.args.keeper.now _ _ Anything (λ es ks x. tt) c.loop-command.invariant.ran

pub returns-clause-seated : goal.returns-clause-seated
returns-clause-seated g c = did_seated c.args.cells.now c.args.passes.now _ c.args.keeper.now _ c.args.classes.now _ c.requires.seated c.loop-command.invariant.ran

pub returns-clause-serves : goal.returns-clause-serves
returns-clause-serves g c = did_serves c.args.cells.now c.args.passes.now _ c.args.keeper.now _ _ c.requires.serves c.loop-command.invariant.ran
