use Rattle.std.proofs.Common.{arith}
use Rattle.ms_core.proofs.Words.{totals, book_in, origin_in}
use Rattle.ms_core.proofs.metaslab.Metaslab.vacant.Goals as goal

pub overflow_sub-result : goal.overflow_sub-result
overflow_sub-result g c = let k = c.self.invariant.kept in omega (arith, k.live, totals (origin_in (book_in c.self.inside)) c.self.inside.notes.items)

pub overflow_sub-result-2 : goal.overflow_sub-result-2
overflow_sub-result-2 g c =
    let k = c.self.invariant.kept in
    omega (arith, k.live, k.deferred, totals (origin_in (book_in c.self.inside)) c.self.inside.notes.items)

pub returns : goal.returns
returns g c =
    let m = c.self.inside in
    let k = c.self.invariant.kept in
    rw (← c.self.view_is) (omega (arith, k.live, k.deferred, totals (origin_in (book_in m)) m.notes.items))
