-- When the loader of the rows serves, and that it goes on to.
use Rattle.std.specs.Prelude.{ℕ}
use Rattle.ms_cell.specs.Turns.{Turns}
use Rattle.alloc_rows.specs.Serving.{IsServing}
use Rattle.alloc_rows.specs.declared.loading.RowLoader.{RowLoader}

abbrev pub Serves : RowLoader → ℕ → Turns → Type 0
Serves l lane t = IsServing t l.keeper l.other l.collected

abbrev pub Follows : RowLoader → RowLoader → Type 0
Follows l m = (t : Turns) → IsServing t l.keeper l.other l.collected → IsServing t m.keeper m.other m.collected

pub serves_along : (l m : RowLoader) (lane : ℕ) (t : Turns) → Serves l lane t → Follows l m → Serves m lane t
serves_along l m lane t serves follows = follows t serves

pub follows_itself : (l : RowLoader) → Follows l l
follows_itself l t serves = serves

pub follows_along : (l m n : RowLoader) → Follows l m → Follows m n → Follows l n
follows_along l m n first second t serves = second t (first t serves)
