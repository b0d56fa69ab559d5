use Rattle.std.proofs.Common.{sym}
use Rattle.zms_top.specs.Sound.{loaded}
use Rattle.zms_top.proofs.LookLemmas.{load_is}
use Rattle.zms_top.proofs.look.load_first.Goals as goal

pub returns-then-loaded-clause-loads : goal.returns-then-loaded-clause-loads
returns-then-loaded-clause-loads c = loaded (sym c.if-loaded.ensures)

pub returns-clause-loads : goal.returns-clause-loads
returns-clause-loads c = load_is _ _ _ _ _ (sym c.if-loaded.ensures) c.in_ok-load.was (c.load.ensures.loads (sym c.if-loaded.ensures)) c.load.ensures.note
