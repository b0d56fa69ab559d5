use Rattle.cmd_text.proofs.CommandLines.{files_few}
use Rattle.cmd_text.proofs.laws.files_are_few_for_few_metaslabs.Goals as goal

pub returns : goal.returns
returns c = files_few
