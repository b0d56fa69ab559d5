use Rattle.zms_top.proofs.WordLemmas.{after_some, after_none}
use Rattle.zms_top.proofs.words.after.Goals as goal

pub returns-clause-some : goal.returns-clause-some
returns-clause-some c = after_some c.args.text.now c.args.head.now c.strip_prefix.result c.strip_prefix.ensures.cases

pub returns-clause-none : goal.returns-clause-none
returns-clause-none c = after_none c.args.text.now c.args.head.now c.strip_prefix.result c.strip_prefix.ensures.cases
