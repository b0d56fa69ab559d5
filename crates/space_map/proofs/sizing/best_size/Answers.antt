use Rattle.sm_entry.specs.declared.SmType.TheVariants.{Alloc, Free}
use Rattle.space_map.proofs.Batching.{sizes-condensed}
use Rattle.space_map.proofs.sizing.best_size.Goals as goal

pub returns : goal.returns
returns c = λ group. sizes-condensed group c.args.units c.args.free.now c.batch_size-allocated.result c.batch_size.result
    (c.batch_size-allocated.ensures.size 0 group Alloc) (c.batch_size.ensures.size 0 group Free)
