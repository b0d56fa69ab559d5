use Rattle.std.proofs.Common.{rules, ◌≡◌, ℕ, sym, ◌∙◌, ap}
use Rattle.ms_core.specs.State.{MsState, origin_of}
use Rattle.ms_core.specs.declared.faults.MsFault.TheVariants.{NotLive}
use Rattle.zms_top.specs.Sound.{Loads}
use Rattle.zms_top.proofs.FreeSteps.{refused, not_live_given}
use Rattle.zms_top.proofs.frees.give_back.Goals as goal

pub unreachable-requires : goal.unreachable-requires
unreachable-requires c =
    let loads : Loads c.args.lane c.args.metaslab.now.notes c.ready.new.self.notes = rw (ap (λ (m : MsState). m.notes) c.ready.ensures.stays) c.in_ok-load_first.ensures.loads in
    let origin = ap origin_of c.ready.ensures.stays ∙ ap origin_of c.load_first.ensures.stays in
    let other : (unit : ℕ) → c.in-Err.field-0 ≡ NotLive unit → ⊥ = search rules in
    let r = refused c.args.metaslab.now c.ready.new.self c.args.lane c.args.hold.now.group c.args.seg c.free.result c.in-Err.field-0 origin loads c.requires.above c.in-Err.is c.free.ensures.not_live c.free.ensures.taken in
    other r.0 r.1.0

pub returns-in-Err-NotLive-clause-given : goal.returns-in-Err-NotLive-clause-given
returns-in-Err-NotLive-clause-given c =
    let loads : Loads c.args.lane c.args.metaslab.now.notes c.ready.new.self.notes = rw (ap (λ (m : MsState). m.notes) c.ready.ensures.stays) c.in_ok-load_first.ensures.loads in
    let origin = ap origin_of c.ready.ensures.stays ∙ ap origin_of c.load_first.ensures.stays in
    let r = refused c.args.metaslab.now c.ready.new.self c.args.lane c.args.hold.now.group c.args.seg c.free.result c.in-Err-NotLive.field-0 origin loads c.requires.above c.in-Err-NotLive.is c.free.ensures.not_live c.free.ensures.taken in
    let told : NotLive c.in-Err-NotLive.unit ≡ NotLive r.0 = sym c.in-Err-NotLive.field-0-is ∙ r.1.0 in
    not_live_given c.args.metaslab.now c.ready.new.self c.free.new.self c.args.lane c.args.hold.now.group c.args.seg r.0 c.in-Err-NotLive.unit loads c.in-Err-NotLive.ensures.err told r.1.1
