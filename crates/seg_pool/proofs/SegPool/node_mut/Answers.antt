use Rattle.std.proofs.Common.{None, refl, sym, ap, ◌∙◌}
use Rattle.std.proofs.lemmas.List.{map-set, get_or-map}
use Rattle.std.proofs.lemmas.Option.{slice_get_within}
use Rattle.seg_pool.specs.Slots.{node_of}
use Rattle.seg_pool.proofs.Places.{used_at, IsSound-rewrite}
use Rattle.seg_pool.proofs.SegPool.node_mut.Goals as goal

pub invariant_of-self-lent : goal.invariant_of-self-lent
invariant_of-self-lent g c w =
    let found = used_at c.self.inside.slots.items c.args.no.0 (rw (← c.self.view_is) at c.requires) in
    IsSound-rewrite _ _ _ c.args.no.0 found.0 w c.self.invariant found.1

pub returns : goal.returns
returns g c =
    let found = used_at c.self.inside.slots.items c.args.no.0 (rw (← c.self.view_is) at c.requires) in
    let within = slice_get_within c.self.inside.slots.items c.args.no.0 _ found.1 in
    let value = get_or-map node_of c.self.inside.slots.items c.args.no.0 c.index_mut.result.now None within in (
      (refl, λ w. rw (← c.self.view_is, map-set)),
      record { lends = tt; node = rw (← c.self.view_is) (value ∙ ap node_of (sym c.index_mut.ensures.value) ∙ c.node_mut.ensures.node) },
    )
