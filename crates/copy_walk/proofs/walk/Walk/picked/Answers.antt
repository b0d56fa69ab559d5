use Rattle.copy_walk.specs.Walked.{walk_state}
use Rattle.copy_walk.proofs.Keeping.{place_below, picked_sound, may_from, picked_from}
use Rattle.copy_walk.proofs.walk.Walk.picked.Goals as goal

pub place_after-self-inside-requires : goal.place_after-self-inside-requires
place_after-self-inside-requires c =
    let w = walk_state c.self.inside in
    place_below w c.self.invariant c.args.got (may_from w c.args.self.now c.self.view_is c.self.invariant c.args.got c.requires)

pub invariant_of-self : goal.invariant_of-self
invariant_of-self c =
    let w = walk_state c.self.inside in
    rw (c.place_after-self-inside.ensures, c.start_from-self-inside.ensures, c.look_of-self-inside.ensures)
    (picked_sound w c.self.invariant c.args.got c.args.was_active (may_from w c.args.self.now c.self.view_is c.self.invariant c.args.got c.requires))

pub returns-clause-told : goal.returns-clause-told
returns-clause-told c = λ steps v start told asks.
    let w = walk_state c.self.inside in
    rw (c.place_after-self-inside.ensures, c.start_from-self-inside.ensures, c.look_of-self-inside.ensures)
    (picked_from w c.args.self.now c.self.view_is c.self.invariant c.args.got c.args.was_active c.requires steps v start told asks)
