-- What a pool ends as, where a `&mut` to one of its nodes is returned.
use Rattle.std.specs.Prelude.{ℕ}
use Rattle.std.specs.Borrow.{Lends, Fml, RattleType, MutBor}
use Rattle.seg_pool.specs.Pool.{Pool, with_node}
use Rattle.seg_pool.specs.contracts.SegPool.{the_row}

-- once the borrow r ends, the place has the last node written through r
abbrev pub lends_node : (N : RattleType) → MutBor (Pool N.Denot) → ℕ → MutBor N.Denot → Fml
lends_node N s at r = Lends (the_row N) N s r (with_node s.now at)
