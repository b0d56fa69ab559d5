use Rattle.std.proofs.Common.{◌∙◌, [], List, sym, subst}
use Rattle.std.specs.Prelude.{IfOk}
use Rattle.zms_dev.specs.Disk.{bytes_of}
use Rattle.zms_units.specs.declared.segments.Seg.{Seg}
use Rattle.meta_store.specs.NextWords.{frees_of, IsNextRow, HasNextWords}
use Rattle.meta_store.proofs.BatchOrder.{no_runs}
use Rattle.meta_store.proofs.laying.write_next.Goals as goal

pub returns-else-is_next-clause-row : goal.returns-else-is_next-clause-row
returns-else-is_next-clause-row g c =
    let table = c.args.table.now in
    let batches = c.args.batches.now in
    let id = c.args.id in
    let none = no_runs table batches c.args.next id c.requires.id c.requires.next c.requires.batches.each (sym c.is_next.ensures ∙ c.if-is_next.false) in
    subst (λ (a : List Seg). IfOk c.write_side-else-is_next.result (IsNextRow table c.args.group.0 id a (frees_of batches id))) (sym none.0)
    (subst (λ (f : List Seg). IfOk c.write_side-else-is_next.result (IsNextRow table c.args.group.0 id [] f)) (sym none.1) c.write_side-else-is_next.ensures.row)

pub returns-else-is_next-clause-words : goal.returns-else-is_next-clause-words
returns-else-is_next-clause-words g c tells =
    let table = c.args.table.now in
    let batches = c.args.batches.now in
    let id = c.args.id in
    let old = bytes_of (g.D.Disk.state c.args.disk.now) in
    let new = bytes_of (g.D.Disk.state c.write_side-else-is_next.new.disk) in
    let none = no_runs table batches c.args.next id c.requires.id c.requires.next c.requires.batches.each (sym c.is_next.ensures ∙ c.if-is_next.false) in
    subst (λ (a : List Seg). IfOk c.write_side-else-is_next.result (λ row. HasNextWords old new c.args.head.now table c.args.group id a (frees_of batches id) row.words)) (sym none.0)
    (subst (λ (f : List Seg). IfOk c.write_side-else-is_next.result (λ row. HasNextWords old new c.args.head.now table c.args.group id [] f row.words)) (sym none.1) (c.write_side-else-is_next.ensures.words tells))
