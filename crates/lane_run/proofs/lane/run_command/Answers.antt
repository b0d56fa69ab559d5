use Rattle.std.proofs.Common.{Option, sym, subst, ap, ◌∙◌}
use Rattle.std.specs.Prelude.{List, IfOk}
use Rattle.zms_units.specs.declared.blocks.Dva.{Dva}
use Rattle.cmd_text.specs.declared.script.What.{What}
use Rattle.lane_run.specs.Acts.{LaneDid}
use Rattle.lane_run.specs.Lines.{FreeNamed, WhatLine}
use Rattle.lane_run.specs.Names.{block_named, copies_in}
use Rattle.lane_run.proofs.lane.run_command.Goals as goal

pub returns-in-Alloc-clause-line : goal.returns-in-Alloc-clause-line
returns-in-Alloc-clause-line g c done named =
    subst (λ (w : What). IfOk c.alloc_line.result (λ answer. LaneDid c.args.cells.now (WhatLine c.args.passes.now.lane done w answer) c.args.passes.now c.alloc_line.new.passes c.args.keeper.now c.alloc_line.new.keeper))
    (sym c.in-Alloc.is) c.alloc_line.ensures.line

pub returns-in-Free-clause-line : goal.returns-in-Free-clause-line
returns-in-Free-clause-line g c done named =
    subst (λ (w : What). IfOk c.free_line.result (λ answer. LaneDid c.args.cells.now (WhatLine c.args.passes.now.lane done w answer) c.args.passes.now c.free_line.new.passes c.args.keeper.now c.free_line.new.keeper))
    (sym c.in-Free.is)
    (subst (λ (x : Option (List Dva)). IfOk c.free_line.result (λ answer. LaneDid c.args.cells.now (FreeNamed c.args.passes.now.lane x answer) c.args.passes.now c.free_line.new.passes c.args.keeper.now c.free_line.new.keeper))
    (ap (λ name. copies_in (block_named c.args.blocks.now name)) c.as_str-in-Free.ensures ∙ named.known c.in-Free.name) c.free_line.ensures.line)

pub returns-in-FreeSeg-clause-line : goal.returns-in-FreeSeg-clause-line
returns-in-FreeSeg-clause-line g c done named =
    subst (λ (w : What). IfOk c.free_seg_line.result (λ answer. LaneDid c.args.cells.now (WhatLine c.args.passes.now.lane done w answer) c.args.passes.now c.free_seg_line.new.passes c.args.keeper.now c.free_seg_line.new.keeper))
    (sym c.in-FreeSeg.is) c.free_seg_line.ensures.line

pub returns-in-Sync-clause-line : goal.returns-in-Sync-clause-line
returns-in-Sync-clause-line g c done named =
    subst (λ (w : What). IfOk c.sync_line.result (λ answer. LaneDid c.args.cells.now (WhatLine c.args.passes.now.lane done w answer) c.args.passes.now c.sync_line.new.passes c.args.keeper.now c.sync_line.new.keeper))
    (sym c.in-Sync.is) c.sync_line.ensures.line

pub returns-in-Load-clause-line : goal.returns-in-Load-clause-line
returns-in-Load-clause-line g c done named =
    subst (λ (w : What). IfOk c.load_line.result (λ answer. LaneDid c.args.cells.now (WhatLine c.args.passes.now.lane done w answer) c.args.passes.now c.load_line.new.passes c.args.keeper.now c.load_line.new.keeper))
    (sym c.in-Load.is) c.load_line.ensures.line
