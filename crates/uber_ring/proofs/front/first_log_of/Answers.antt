use Rattle.std.proofs.Common.{◌+◌, ◌∙◌, sym, arith, min, fold, map}
use Rattle.std.proofs.lemmas.List.{take_all}
use Rattle.vdev_map.specs.declared.table.MsRow.{MsRow}
use Rattle.uber_ring.specs.Numbers.{number_at}
use Rattle.uber_ring.specs.TableBytes.{rows_in, row_at}
use Rattle.uber_ring.proofs.TableRows.{least_more, length-rows_in}
use Rattle.uber_ring.proofs.front.first_log_of.Goals as goal

pub loop-m-preserved : goal.loop-m-preserved
loop-m-preserved c = record {
  least =
      c.min-first.ensures
      ∙ (λ i. min (c.loop-m.invariant.least i) ((c.u64_at.ensures ∙ (λ j. number_at c.args.bytes.now (row_at (c.requires.counts.vdevs j) (c.requires.counts.logs j) c.loop-m.m + 16) 8)) i))
      ∙ sym (least_more c.args.bytes.now (c.args.group + 1) c.loop-m.m (omega (arith, c.requires.counts.metaslabs)));
  bound = omega (arith, c.loop-m.invariant.bound, c.min-first.ensures);
}

pub returns-clause-value : goal.returns-clause-value
returns-clause-value c =
    let bytes = c.args.bytes.now in
    c.loop-m.invariant.least
    ∙ (λ i. fold min (sym c.requires.group i + 1) (map (λ (row : MsRow). row.unflushed.0) (take_all c.loop-m.m (rows_in bytes) (omega (arith, length-rows_in bytes, c.requires.counts.metaslabs)) i)))
