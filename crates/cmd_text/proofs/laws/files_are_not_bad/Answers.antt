use Rattle.cmd_text.proofs.FileLemmas.{file_not_bad}
use Rattle.cmd_text.proofs.laws.files_are_not_bad.Goals as goal

pub returns : goal.returns
returns c = file_not_bad
