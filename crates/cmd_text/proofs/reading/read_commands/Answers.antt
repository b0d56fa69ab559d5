use Rattle.std.proofs.Common.{inl, ap}
use Rattle.std.specs.Prelude.{Ok}
use Rattle.cmd_text.specs.Files.{IsFile, Stops}
use Rattle.cmd_text.proofs.FileLemmas.{bad_only, file_not_bad, script_once}
use Rattle.cmd_text.proofs.reading.read_commands.Goals as goal

pub returns-in-Some-clause-only_file : goal.returns-in-Some-clause-only_file
returns-in-Some-clause-only_file c = λ script file.
    let stops : Stops c.args.text.now c.in_ok-front.front.script c.in-Some.line = rw c.in-Some.is at c.in_ok-front.ensures.bad in
    absurd (file_not_bad c.args.text.now script c.in-Some.line file stops.bad)

pub returns-in-Some-clause-only_bad : goal.returns-in-Some-clause-only_bad
returns-in-Some-clause-only_bad c = λ line other.
    let stops : Stops c.args.text.now c.in_ok-front.front.script c.in-Some.line = rw c.in-Some.is at c.in_ok-front.ensures.bad in
    bad_only c.args.text.now c.in-Some.line line stops.bad other

pub returns-in-None-clause-only_file : goal.returns-in-None-clause-only_file
returns-in-None-clause-only_file c = λ script file.
    let own : IsFile c.args.text.now c.in_ok-front.front.script = rw c.in-None.is at c.in_ok-front.ensures.file in
    inl (ap Ok (script_once c.args.text.now c.in_ok-front.front.script script own file))

pub returns-in-None-clause-only_bad : goal.returns-in-None-clause-only_bad
returns-in-None-clause-only_bad c = λ line bad.
    let own : IsFile c.args.text.now c.in_ok-front.front.script = rw c.in-None.is at c.in_ok-front.ensures.file in
    absurd (file_not_bad c.args.text.now c.in_ok-front.front.script line own bad)
