-- A legal journal that grows leaves what the groups hold that were collected.
use Rattle.std.proofs.Common.{ℕ, ◌≤◌, List, [], ◌∷◌, ◌++◌, refl, sym, ◌∙◌, subst, arith}
use Rattle.std.proofs.lemmas.List.{append-nil, append_assoc}
use Rattle.turn_cell.specs.Notes.{IsPrefix}
use Rattle.ms_model.specs.Origin.{Origin}
use Rattle.ms_model.specs.Units.{collected_by, collected_group}
use Rattle.ms_model.specs.Legal.{IsLegal, MayDo}
use Rattle.ms_model.specs.declared.notes.Act.{Act}
use Rattle.ms_model.specs.declared.notes.Act.TheVariants.{Grant, Free, Unalloc, Collect}
use Rattle.ms_model.specs.declared.notes.Noted.{Noted}
use Rattle.ms_model.proofs.Lists.{by_snoc}
use Rattle.ms_model.proofs.Held.{ChangesUpTo, held-quiet}
use Rattle.ms_model.proofs.Histories.{collected_group-push, legal_before, legal_last}
use Rattle.pool_keeper.specs.History.{Grows}

pub grows_none : (o : Origin) (h : List Noted) → Grows o h h
grows_none o h = record { collected = omega arith; holds = λ t u le. refl }

pub grows_then : (o : Origin) (h i j : List Noted) → Grows o h i → Grows o i j → Grows o h j
grows_then o h i j first then = record {
  collected = omega (arith, first.collected, then.collected);
  holds = λ t u le. then.holds t u (omega (arith, le, first.collected)) ∙ first.holds t u le;
}

may_rise : (o : Origin) (h : List Noted) (lane : ℕ) (act : Act) → MayDo o h lane act → collected_group o h ≤ collected_by (collected_group o h) act
may_rise o h lane (Collect group) may = omega (arith, may)
may_rise o h lane _ may = omega arith

may_spare : (o : Origin) (h : List Noted) (lane : ℕ) (act : Act) (t : ℕ) → MayDo o h lane act → t ≤ collected_group o h → ChangesUpTo t act → ⊥
may_spare o h lane (Grant group seg) t may le up = omega (arith, may.open_group.above, le, up)
may_spare o h lane (Free group seg) t may le up = omega (arith, may.open_group.above, le, up)
may_spare o h lane (Unalloc group seg) t may le up = omega (arith, may.open_group.above, le, up)
may_spare o h lane _ t may le up = up

-- by one note that may follow
pub grows_may : (o : Origin) (h : List Noted) (lane : ℕ) (act : Act) → MayDo o h lane act → Grows o h (h ++ record { lane = lane; act = act } ∷ [])
grows_may o h lane act may =
    let note : Noted = record { lane = lane; act = act } in
    record {
      collected = omega (arith, collected_group-push o h note, may_rise o h lane act may);
      holds = λ t u le. held-quiet o h note t u (may_spare o h lane act t may le);
    }

-- by notes after which it is legal
pub grows_rest : (o : Origin) (h rest : List Noted) → IsLegal o (h ++ rest) → Grows o h (h ++ rest)
grows_rest o h rest legal =
    by_snoc (λ l. IsLegal o (h ++ l) → Grows o h (h ++ l))
    (λ _. subst (Grows o h) (sym (append-nil h)) (grows_none o h))
    (λ l note before all.
    let whole : IsLegal o ((h ++ l) ++ note ∷ []) = subst (IsLegal o) (sym (append_assoc h l (note ∷ []))) all in
    subst (Grows o h) (append_assoc h l (note ∷ []))
    (grows_then o h (h ++ l) ((h ++ l) ++ note ∷ []) (before (legal_before o (h ++ l) (note ∷ []) whole))
    (grows_may o (h ++ l) note.lane note.act (legal_last o (h ++ l) note [] whole))))
    rest legal

pub grows_along : (o : Origin) (h j : List Noted) → IsPrefix h j → IsLegal o j → Grows o h j
grows_along o h j begins legal = subst (Grows o h) begins.1 (grows_rest o h begins.0 (subst (IsLegal o) (sym begins.1) legal))
