use Rattle.std.proofs.Common.{◌≡◌, ◌++◌, [], None, refl, sym, subst}
use Rattle.std.proofs.lemmas.List.{append-nil}
use Rattle.ms_core.specs.State.{MsState}
use Rattle.ms_cell.proofs.Turning.{turned_by}
use Rattle.ms_cell.proofs.turns.look.Goals as goal

pub returns : goal.returns
returns g c = λ right ready.
    let took = c.take-held in
    let m = c.value-metaslab.result.now in
    turned_by right c.args.cell.now _ c.args.pass.now took.new.pass c.give.new.pass took.result m took.result None c.value-metaslab.ensures
    ready took.ensures.pass took.ensures.seen took.ensures.whole took.ensures.stands c.give.ensures.pass
    (subst (λ (y : MsState). took.result.notes ≡ y.notes ++ []) (sym c.value-metaslab.ensures) (sym (append-nil took.result.notes))) tt
    (record {
      quiet = refl;
      live = c.counts.ensures.live;
      deferred = c.counts.ensures.deferred;
      vacant = c.counts.ensures.vacant;
      weighs = c.weight.ensures.loaded;
      weighs_unloaded = c.weight.ensures.unloaded;
      in_memory = c.loaded.ensures;
    })
