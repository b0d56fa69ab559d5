use Rattle.std.proofs.Common.{ℕ, List, sym, ap, subst, Result, Ok, Err}
use Rattle.std.specs.Prelude.{IfOk}
use Rattle.ms_core.proofs.Words.{covered, held, MsState, Noted, origin_of, settled_of, origin_in, book_in}
use Rattle.ms_core.specs.Differences.{DiffersFirst}
use Rattle.ms_core.proofs.metaslab.Metaslab.differs.Goals as goal

ok_map : {A E : Type 0} (P Q : A → Type 0) (r : Result A E) → IfOk r P → ((x : A) → P x → Q x) → IfOk r Q
ok_map P Q (Ok x) p f = f x p
ok_map P Q (Err e) p f = p

pub returns : goal.returns
returns g c =
    let o = origin_in (book_in c.self.inside) in
    let segs = c.args.held.now in
    subst (λ (s : MsState). IfOk c.differs_at.result (DiffersFirst (covered segs) (held (origin_of s) s.notes (settled_of s)) s.units)) c.self.view_is
    (ok_map _ _ c.differs_at.result c.differs_at.ensures
    (λ found f.
    subst (λ (s : ℕ). DiffersFirst (covered segs) (held o c.self.inside.notes.items s) c.self.inside.units found) c.self.invariant.kept.settled
    (subst (λ (h : List Noted). DiffersFirst (covered segs) (held o h c.self.inside.settled.0) c.self.inside.units found) c.deref-2.ensures.value
    (f o (ap covered (sym c.deref.ensures.value))))))
