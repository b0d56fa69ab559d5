use Rattle.std.proofs.Common.{◌≡◌, ◌++◌, ◌∷◌, [], refl, ◌∙◌, ap}
use Rattle.ms_core.specs.State.{origin_of}
use Rattle.txg_gate.specs.GateState.{GateState}
use Rattle.zms_top.specs.declared.replies.Answer.TheVariants.{NoSpace}
use Rattle.zms_top.specs.Lines.{AllocLine, dva_at}
use Rattle.zms_top.specs.Sound.{shape_of}
use Rattle.zms_top.proofs.StepLemmas.{StepDid, may_load_leaves, stays_held, base_held}
use Rattle.zms_top.proofs.AllocSteps.{granted_did, missed_did, block_size}
use Rattle.zms_top.proofs.NameLemmas.{learns_granted}
use Rattle.zms_top.proofs.allocs.alloc.Goals as goal

pub look-found-requires-clause-held : goal.look-found-requires-clause-held
look-found-requires-clause-held c = λ off u lt. base_held c.args.pool.now _ u c.requires.pool c.deref.ensures.value off

missed : (c : goal.In_default-2) → StepDid c.args.pool.now c.args.lane (AllocLine (shape_of (origin_of c.args.pool.now.metaslab)) c.args.lane c.args.size (NoSpace 1)) c.look-found.new.metaslab c.release.new.self
missed c =
    let size = block_size c.units_of.result c.args.size c.in-Ok.count c.in-Ok.is c.units_of.ensures.bad in
    let looked = rw c.in_default-2.is at c.in_ok-seg.ensures.look in
    missed_did c.args.pool.now c.look-found.new.metaslab c.release.new.self c.args.lane c.args.size c.hold-hold.result.group c.in-Ok.count
    c.requires.pool c.requires.lane.0 size.0 size.1 c.in-Ok.ensures.units c.hold-hold.ensures.group c.look-found.ensures.stays (stays_held c.args.pool.now.gate c.hold-hold.new.self c.release.new.self c.hold-hold.ensures.stays c.release.ensures.stays) looked

pub returns-in_default-2-clause-acted : goal.returns-in_default-2-clause-acted
returns-in_default-2-clause-acted c = (missed c).acted

pub returns-in_default-2-clause-leaves : goal.returns-in_default-2-clause-leaves
returns-in_default-2-clause-leaves c = (missed c).leaves

pub returns : goal.returns
returns c =
    let size = block_size c.units_of.result c.args.size c.in-Ok.count c.in-Ok.is c.units_of.ensures.bad in
    let looked = rw c.in-Some.is at c.in_ok-seg.ensures.look in
    let place : c.place_of.result ≡ dva_at (shape_of (origin_of c.args.pool.now.metaslab)) 0 c.in-Some.seg = c.place_of.ensures (shape_of (origin_of c.args.pool.now.metaslab)) c.requires.pool.shift in
    let copies : c.push.new.self ≡ dva_at (shape_of (origin_of c.args.pool.now.metaslab)) 0 c.in-Some.seg ∷ [] =
    c.push.ensures ∙ (ap (λ l. l ++ (c.place_of.result ∷ [])) c.new-copies.ensures ∙ ap (λ d. d ∷ []) place) in
    let did = granted_did c.args.pool.now c.look-found.new.metaslab c.release.new.self c.args.lane c.args.size c.hold-hold.result.group c.in-Ok.count c.in-Some.seg c.push.new.self
    c.requires.pool c.requires.lane.0 size.0 size.1 c.in-Ok.ensures.units c.hold-hold.ensures.group c.look-found.ensures.stays (stays_held c.args.pool.now.gate c.hold-hold.new.self c.release.new.self c.hold-hold.ensures.stays c.release.ensures.stays) looked copies in
    record {
      acted = did.acted;
      leaves = did.leaves;
      answer = tt;
      learns = λ class copies_asked.
          learns_granted (shape_of (origin_of c.args.pool.now.metaslab)) c.args.name.now c.args.size class copies_asked c.hold-hold.result.group c.in-Some.seg c.push.new.self c.args.blocks.now c.add_block.new.blocks
          copies looked.may.within c.in_ok-add_block.ensures;
      first = refl;
      stays = did.acted.stays;
      gate = ap (λ (g : GateState). g.opened) (stays_held c.args.pool.now.gate c.hold-hold.new.self c.release.new.self c.hold-hold.ensures.stays c.release.ensures.stays);
    }

pub returns-in_err-seg-clause-leaves : goal.returns-in_err-seg-clause-leaves
returns-in_err-seg-clause-leaves c = may_load_leaves c.args.pool.now _ c.args.lane c.in_err-seg.ensures.err

pub returns-in_err-add_block-clause-leaves : goal.returns-in_err-add_block-clause-leaves
returns-in_err-add_block-clause-leaves c =
    let size = block_size c.units_of.result c.args.size c.in-Ok.count c.in-Ok.is c.units_of.ensures.bad in
    let looked = rw c.in-Some.is at c.in_ok-seg.ensures.look in
    (granted_did c.args.pool.now c.look-found.new.metaslab c.release.new.self c.args.lane c.args.size c.hold-hold.result.group c.in-Ok.count c.in-Some.seg _
    c.requires.pool c.requires.lane.0 size.0 size.1 c.in-Ok.ensures.units c.hold-hold.ensures.group c.look-found.ensures.stays (stays_held c.args.pool.now.gate c.hold-hold.new.self c.release.new.self c.hold-hold.ensures.stays c.release.ensures.stays) looked refl).leaves
