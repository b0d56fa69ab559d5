use Rattle.std.proofs.Common.{List, subst}
use Rattle.std.specs.Prelude.{IfSome}
use Rattle.zms_units.specs.declared.places.VdevRow.{VdevRow}
use Rattle.class_core.specs.Classes.{HasClass}
use Rattle.lane_passes.proofs.Acting.{at_class_acted}
use Rattle.pool_alloc.proofs.turns.begin.Goals as goal

pub returns-clause-acted : goal.returns-clause-acted
returns-clause-acted g c = at_class_acted c.args.cells.now c.args.classes.now c.args.passes.now c.requires _ _ _ (c.begin.ensures.turned c.args.passes.now.lane c.requires.classes)

pub returns-clause-some : goal.returns-clause-some
returns-clause-some g c = subst (λ (rows : List VdevRow). IfSome c.begin.result (HasClass rows c.args.class)) c.requires.one c.begin.ensures.some
