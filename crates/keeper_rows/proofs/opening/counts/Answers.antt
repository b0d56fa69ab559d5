use Rattle.std.proofs.Common.{ap, sym, ◌∙◌, arith}
use Rattle.keeper_rows.proofs.Bases.{counts_more}
use Rattle.keeper_rows.proofs.opening.counts.Goals as goal

pub loop-number-preserved : goal.loop-number-preserved
loop-number-preserved c =
    counts_more c.args.cells.now.vdevs c.args.held.now c.args.store.now.table c.loop-number.number c.id_at.result c.loop-number.invariant (omega (arith, c.loop-number-test.true, c.count_of-number-end.ensures, c.requires.count)) c.id_at.ensures.id
    c.id_at.ensures.number (sym (ap (λ r. r.held) c.row.ensures) ∙ c.if-row-held.false)
