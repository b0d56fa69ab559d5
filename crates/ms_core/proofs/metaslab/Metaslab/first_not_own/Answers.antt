use Rattle.std.proofs.Common.{sym, subst, arith}
use Rattle.ms_core.proofs.Words.{IsLegal, book_in, origin_in}
use Rattle.ms_core.proofs.metaslab.Metaslab.first_not_own.Goals as goal

pub first_foreign-requires : goal.first_foreign-requires
first_foreign-requires g c =
    let within = rw (← c.self.view_is) at c.requires in
    record { some = within.some; within = omega (arith, within.within, c.self.invariant.kept.most) }

pub returns : goal.returns
returns g c =
    let o = origin_in (book_in c.self.inside) in
    let legal = subst (IsLegal o) (sym c.deref.ensures.value) c.self.invariant.kept.legal in
    record {
      found = rw (← c.self.view_is) (rw c.deref.ensures.value at (c.first_foreign.ensures.found o legal));
      none = rw (← c.self.view_is) (rw c.deref.ensures.value at (c.first_foreign.ensures.none o legal));
    }
