use Rattle.std.proofs.Common.{Some, sym, ap, ◌∙◌, ◌≤◌, arith}
use Rattle.std.proofs.lemmas.List.{map-set, length-map}
use Rattle.seg_pool.specs.Slots.{node_of}
use Rattle.seg_pool.proofs.Places.{head_within, read_head, IsSound-take}
use Rattle.seg_pool.proofs.SegPool.take.Goals as goal

pub index_mut-requires : goal.index_mut-requires
index_mut-requires g c = omega (arith, head_within c.self.inside.slots.items c.self.inside.spare c.self.inside.head (rw (← c.self.view_is) at c.requires) c.self.invariant)

pub invariant_of-self : goal.invariant_of-self
invariant_of-self g c =
    let some : 1 ≤ c.self.inside.spare = rw (← c.self.view_is) at c.requires in
    let found = read_head _ _ _ _ some c.self.invariant c.index_mut.ensures.value in
    rw c.replace.ensures.after (IsSound-take _ _ _ c.in-Vacant.next c.args.node some c.self.invariant (found ∙ ap Some (sym c.replace.ensures.value ∙ c.in-Vacant.is)))

pub returns-clause-place : goal.returns-clause-place
returns-clause-place g c =
    let some : 1 ≤ c.self.inside.spare = rw (← c.self.view_is) at c.requires in
    rw (← c.self.view_is) (omega (arith, head_within _ _ _ some c.self.invariant, length-map c.self.inside.slots.items node_of))

pub returns-clause-taken : goal.returns-clause-taken
returns-clause-taken g c = rw (← c.self.view_is, c.replace.ensures.after, map-set)
