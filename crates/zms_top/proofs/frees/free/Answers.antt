use Rattle.std.proofs.Common.{refl}
use Rattle.ms_core.specs.State.{origin_of}
use Rattle.zms_top.specs.declared.replies.Answer.TheVariants.{Done, NotLive}
use Rattle.zms_top.specs.Lines.{FreeLine}
use Rattle.zms_top.specs.Names.{copies_at}
use Rattle.zms_top.specs.Sound.{shape_of}
use Rattle.zms_top.proofs.StepLemmas.{StepDid, may_load_leaves, stays_held, nothing_did, base_held}
use Rattle.zms_top.proofs.FreeSteps.{freed_did, not_live_did}
use Rattle.zms_top.proofs.frees.free.Goals as goal

pub give_back-refused-requires-clause-held : goal.give_back-refused-requires-clause-held
give_back-refused-requires-clause-held c = λ off u lt. base_held c.args.pool.now _ u c.requires.pool c.deref.ensures.value off

pub returns-in_default-clause-acted : goal.returns-in_default-clause-acted
returns-in_default-clause-acted c = nothing_did c.args.pool.now c.args.lane _ c.requires.pool (rw c.in_default.is (refl, refl))

done : (c : goal.In-None) → StepDid c.args.pool.now c.args.lane (FreeLine (shape_of (origin_of c.args.pool.now.metaslab)) c.args.lane (copies_at (shape_of (origin_of c.args.pool.now.metaslab)) c.args.placed) (Done c.hold-hold.result.group)) c.give_back-refused.new.metaslab c.release.new.self
done c =
    rw c.in-Some.is (freed_did c.args.pool.now c.give_back-refused.new.metaslab c.release.new.self c.args.lane c.hold-hold.result.group c.in-Some.seg c.requires.pool c.requires.lane.0 c.hold-hold.ensures.group c.give_back-refused.ensures.stays (stays_held c.args.pool.now.gate c.hold-hold.new.self c.release.new.self c.hold-hold.ensures.stays c.release.ensures.stays)
    (rw c.in-None.is at c.in_ok-refused.ensures.given))

pub returns-in-None-clause-acted : goal.returns-in-None-clause-acted
returns-in-None-clause-acted c = (done c).acted

pub returns-in-None-clause-leaves : goal.returns-in-None-clause-leaves
returns-in-None-clause-leaves c = (done c).leaves

not_live : (c : goal.After-bytes_of) → StepDid c.args.pool.now c.args.lane (FreeLine (shape_of (origin_of c.args.pool.now.metaslab)) c.args.lane (copies_at (shape_of (origin_of c.args.pool.now.metaslab)) c.args.placed) (NotLive 0 c.bytes_of.result)) c.give_back-refused.new.metaslab c.release.new.self
not_live c =
    rw c.in-Some.is (not_live_did c.args.pool.now c.give_back-refused.new.metaslab c.release.new.self c.args.lane c.hold-hold.result.group c.in-Some.seg c.in-Some-2.unit 0 c.bytes_of.result
    c.requires.pool c.requires.lane.0 c.hold-hold.ensures.group c.give_back-refused.ensures.stays (stays_held c.args.pool.now.gate c.hold-hold.new.self c.release.new.self c.hold-hold.ensures.stays c.release.ensures.stays) (rw c.in-Some.is at c.requires.within)
    (rw c.in-Some-2.is at c.in_ok-refused.ensures.given) refl c.bytes_of.ensures)

pub returns-in-Some-2-clause-acted : goal.returns-in-Some-2-clause-acted
returns-in-Some-2-clause-acted c = (not_live c).acted

pub returns-in-Some-2-clause-leaves : goal.returns-in-Some-2-clause-leaves
returns-in-Some-2-clause-leaves c = (not_live c).leaves

pub returns-in_err-refused-clause-leaves : goal.returns-in_err-refused-clause-leaves
returns-in_err-refused-clause-leaves c = may_load_leaves c.args.pool.now _ c.args.lane c.in_err-refused.ensures.err
