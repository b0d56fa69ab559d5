use Rattle.cmd_text.proofs.FileLemmas.{script_once}
use Rattle.cmd_text.proofs.laws.files_have_one_script.Goals as goal

pub returns : goal.returns
returns c = script_once
