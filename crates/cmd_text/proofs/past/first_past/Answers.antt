use Rattle.std.proofs.Common.{◌≡◌, ◌/◌, Some, refl, subst, arith}
use Rattle.std.specs.Prelude.{slice_get}
use Rattle.std.proofs.lemmas.Option.{slice_get_read}
use Rattle.cmd_text.specs.Past.{IsFirstPast}
use Rattle.cmd_text.proofs.CommandLines.{command_past, make_past}
use Rattle.cmd_text.proofs.past.first_past.Goals as goal

pub returns-then-most-commands-clause-some : goal.returns-then-most-commands-clause-some
returns-then-most-commands-clause-some c =
    let at : slice_get c.as_slice-commands.result.now (4194304 / c.args.metaslabs) ≡ Some c.index-commands-most.result = slice_get_read c.as_slice-commands.result.now _ (4194304 / c.args.metaslabs) c.index-commands-most.result refl c.if-most-commands.true c.index-commands-most.is in
    subst (λ d. IsFirstPast c.args.script.now c.args.metaslabs d.line) c.index-commands-most.is
    (command_past c.args.script.now c.args.metaslabs c.index-commands-most.result (omega (arith, c.if-metaslabs-eq0.false))
    (subst (λ l. slice_get l (4194304 / c.args.metaslabs) ≡ Some c.index-commands-most.result) c.as_slice-commands.ensures at))

pub returns-then-most-commands-2-clause-some : goal.returns-then-most-commands-2-clause-some
returns-then-most-commands-2-clause-some c =
    make_past c.args.script.now c.args.metaslabs c.in-Some.make (omega (arith, c.if-metaslabs-eq0.false)) c.in-Some.is
    (rw c.as_slice-commands.ensures at c.if-most-commands.false) (rw c.as_slice-commands.ensures at c.if-most-commands-2.true)
