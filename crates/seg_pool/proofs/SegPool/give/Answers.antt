use Rattle.std.proofs.Common.{arith}
use Rattle.std.proofs.lemmas.List.{map-set}
use Rattle.seg_pool.proofs.Places.{used_at, used_within, IsSound-give}
use Rattle.seg_pool.proofs.SegPool.give.Goals as goal

pub index_mut-requires : goal.index_mut-requires
index_mut-requires g c = omega (arith, used_within c.self.inside.slots.items c.args.no.0 (rw (← c.self.view_is) at c.requires))

pub invariant_of-self : goal.invariant_of-self
invariant_of-self g c =
    let found = used_at c.self.inside.slots.items c.args.no.0 (rw (← c.self.view_is) at c.requires) in
    rw c.replace.ensures.after (IsSound-give _ _ _ c.args.no.0 found.0 c.self.invariant found.1)

pub returns-clause-given : goal.returns-clause-given
returns-clause-given g c = rw (← c.self.view_is, c.replace.ensures.after, map-set)
