use Rattle.cmd_text.proofs.Written.{read_again}
use Rattle.cmd_text.proofs.laws.scripts_are_read_again.Goals as goal

pub returns : goal.returns
returns c = read_again
