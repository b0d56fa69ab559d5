use Rattle.cmd_text.proofs.FileLemmas.{bad_once}
use Rattle.cmd_text.proofs.laws.bad_texts_have_one_line.Goals as goal

pub returns : goal.returns
returns c = bad_once
