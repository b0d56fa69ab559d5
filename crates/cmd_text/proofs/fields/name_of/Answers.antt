use Rattle.cmd_text.proofs.Bytes.{name_utf8}
use Rattle.cmd_text.proofs.fields.name_of.Goals as goal

pub returns-in_default-clause-none : goal.returns-in_default-clause-none
returns-in_default-clause-none c = λ is. c.in_default.ensures.cases.0 (name_utf8 c.args.bytes.now is)
