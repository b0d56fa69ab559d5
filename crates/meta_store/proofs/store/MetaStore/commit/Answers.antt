use Rattle.meta_store.proofs.store.MetaStore.commit.Goals as goal

pub returns-clause-at_rest : goal.returns-clause-at_rest
returns-clause-at_rest g c = rw (← c.self.view_is) (λ at_rest contents found backed. c.in_ok-table.ensures.at_rest at_rest contents found backed)
