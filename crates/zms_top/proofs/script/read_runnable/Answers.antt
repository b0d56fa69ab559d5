use Rattle.std.proofs.Common.{subst, rules}
use Rattle.cmd_text.specs.Files.{IsFile as IsText}
use Rattle.zms_top.specs.Script.{IsFirstBad, IsFirstUnbuilt}
use Rattle.zms_top.proofs.FrontLemmas.{unbuilt_front, make_front, bad_answer, no_some, runs}
use Rattle.zms_top.proofs.script.read_runnable.Goals as goal

pub returns-in-Some-clause-bad : goal.returns-in-Some-clause-bad
returns-in-Some-clause-bad c = λ line is.
    let unbuilt : IsFirstUnbuilt c.in_ok-front.front.script.commands c.in-Some.line = subst (λ cs. IsFirstUnbuilt cs c.in-Some.line) c.as_slice.ensures c.in-Some.ensures.some in
    let bad : IsFirstBad c.args.text.now c.in-Some.line =
    unbuilt_front c.args.text.now c.in_ok-front.front.script c.in_ok-front.front.bad c.in-Some.line c.in_ok-front.ensures.file c.in_ok-front.ensures.bad unbuilt in
    bad_answer c.args.text.now c.in-Some.line line bad is

pub returns-in-Some-make-clause-bad : goal.returns-in-Some-make-clause-bad
returns-in-Some-make-clause-bad c = λ line is.
    let bad : IsFirstBad c.args.text.now c.in-Some-make.make.line =
    make_front c.args.text.now c.in_ok-front.front.script c.in_ok-front.front.bad c.in-Some-make.make c.in_ok-front.ensures.file c.in_ok-front.ensures.bad c.in-Some-make.is in
    bad_answer c.args.text.now c.in-Some-make.make.line line bad is

pub returns-in-None-clause-file : goal.returns-in-None-clause-file
returns-in-None-clause-file c =
    let file : IsText c.args.text.now c.in_ok-front.front.script = rw c.in-None.is at c.in_ok-front.ensures.file in
    runs c.args.text.now c.in_ok-front.front.script file (search rules) (no_some c.in_ok-front.front.script.make c.in_default-make.not-Some)
