use Rattle.std.proofs.Common.{◌∙◌, ap}
use Rattle.ms_core.specs.State.{MsState, origin_of}
use Rattle.zms_top.specs.Sound.{Loads}
use Rattle.zms_top.proofs.LookLemmas.{look_is}
use Rattle.zms_top.proofs.look.look.Goals as goal

pub returns-clause-look : goal.returns-clause-look
returns-clause-look c =
    let same = ap (λ (m : MsState). m.notes) c.ready.ensures.stays in
    let origin = ap origin_of c.ready.ensures.stays ∙ ap origin_of c.load_first.ensures.stays in
    let loads : Loads c.args.lane c.args.metaslab.now.notes c.ready.new.self.notes = rw same c.in_ok-load_first.ensures.loads in
    let g = c.in-Ok.ensures in
    look_is _ _ _ _ _ _ _ _ _ origin loads g.count g.granted g.missed g.grant_note g.miss_note
