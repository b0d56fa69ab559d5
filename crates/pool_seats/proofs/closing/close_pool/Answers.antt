use Rattle.std.proofs.Common.{◌≡◌, Option, Some, None, sym, ap, ◌∙◌, subst}
use Rattle.ms_cell.specs.Passes.{AreIdle, AreFresh, HaveAll}
use Rattle.ms_cell.proofs.Gathering.{fresh_seated, seated_idle}
use Rattle.ms_cell.proofs.JournalLaws.{stays_seated}
use Rattle.pool_seats.proofs.closing.close_pool.Goals as goal

abbrev some_or : {A : Type 0} → A → Option A → A
some_or a None = a
some_or a (Some b) = b

pub join_cells-requires-clause-second : goal.join_cells-requires-clause-second
join_cells-requires-clause-second g c =
    let t = c.args.pool.cells in
    let k = c.close_keeper-keeper.result in
    let kept = c.close_keeper-keeper.ensures in
    let starts = c.requires.starts in
    let same : k.start ≡ starts.0 = ap (some_or k.start) (sym kept.start ∙ starts.1.0) in
    let fresh : AreFresh 0 t k.start.passes.value = subst (λ s. AreFresh 0 t s.passes.value) (sym same) starts.1.1.fresh in
    let idle : AreIdle t k.passes = seated_idle 0 t k.passes (stays_seated 0 t kept.sound.events k.start.passes.value k.passes (fresh_seated 0 t k.start.passes.value fresh) kept.sound.journey) in
    subst (AreIdle t) (sym c.into_parts-store.ensures.passes) idle

pub returns : goal.returns
returns g c =
    let k = c.close_keeper-keeper.result in
    record {
      keeper = k;
      kept = c.close_keeper-keeper.ensures;
      store = sym c.into_parts-store.ensures.store;
      notes = sym (ap (λ v. v.items) c.into_parts-store.ensures.notes);
      last = c.join_cells.new.first;
      has = c.join_cells.ensures.first;
      has_keeper = subst (HaveAll c.join_cells.new.first) c.into_parts-store.ensures.passes c.join_cells.ensures.second;
      alike = c.join_cells.ensures.alike;
      cells = c.close_cells-gate.ensures;
      classes = c.close_classes-classes.ensures;
    }
