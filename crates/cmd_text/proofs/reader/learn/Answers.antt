use Rattle.cmd_text.proofs.Limits.{nameless_learns}
use Rattle.cmd_text.proofs.reader.learn.Goals as goal

pub returns-in-Nameless-clause-some : goal.returns-in-Nameless-clause-some
returns-in-Nameless-clause-some c =
    let text = rw c.in-Nameless.is at c.requires in
    nameless_learns c.args.names.now c.args.lane c.in-Nameless.what text
