use Rattle.std.proofs.Common.{◌≡◌, sym, rules}
use Rattle.std.specs.Prelude.{codes}
use Rattle.cmd_text.proofs.Bytes.{if_none}
use Rattle.cmd_text.proofs.FieldLemmas.{behind_of}
use Rattle.cmd_text.proofs.lines.read_what.Goals as goal

pub returns-in_err-word-2-clause-none : goal.returns-in_err-word-2-clause-none
returns-in_err-word-2-clause-none c =
    if_none c.from_residual-in_err-word-2.result _ (λ w is text.
    let found = behind_of w c.in_ok-word.word.now c.in_ok-word.rest.now c.args.text.now is text (λ sync. let same : c.args.text.now ≡ codes "sync" = sym sync in search rules) c.in_ok-word.ensures.some.0 c.in_ok-word.ensures.some.1 in
    c.in_err-word-2.ensures.none found.0 found.1.0)
