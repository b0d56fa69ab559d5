use Rattle.std.proofs.Common.{◌≡◌, ◌≤◌, List, length, get_or, sym, ◌∙◌, ap, arith}
use Rattle.std.specs.List.{sum_by}
use Rattle.std.proofs.lemmas.List.{take_all}
use Rattle.std.proofs.lemmas.List.Sums.{sum_by_more}
use Rattle.zms_units.specs.declared.places.VdevRow.{VdevRow}
use Rattle.vdev_map.specs.Numbers.{metaslabs_in}
use Rattle.vdev_map.specs.declared.layout.Layout.{Layout}
use Rattle.zdb_report.specs.Texts.{if_asked, live_bytes, vacant_bytes}
use Rattle.zdb_report.proofs.Showing.{no_stats}
use Rattle.zdb_report.proofs.classes.sums_of.Goals as goal

pub loop-number-preserved : goal.loop-number-preserved
loop-number-preserved g c =
    let many : c.metaslab_count-count.result ≡ metaslabs_in c.args.store.now.table.vdevs =
    c.metaslab_count-count.ensures ∙ ap (λ (v : List VdevRow). metaslabs_in v) (c.as_slice.ensures ∙ ap (λ (l : Layout). l.vdevs) c.layout.ensures.layout ∙ sym c.layout.ensures.table.vdevs) in
    let was = c.loop-number.invariant in
    let n = c.loop-number.number in
    record {
      live = λ stats rows.
          omega (
            arith,
            was.live stats rows,
            c.bytes_at-here.ensures.live (get_or stats n no_stats) (rows.each n no_stats (omega (arith, many, c.loop-number-test.true))),
            sum_by_more (if_asked c.args.asked live_bytes) stats n no_stats (omega (arith, many, c.loop-number-test.true, rows.many)),
          );
      vacant = λ stats rows.
          omega (
            arith,
            was.vacant stats rows,
            c.bytes_at-here.ensures.vacant (get_or stats n no_stats) (rows.each n no_stats (omega (arith, many, c.loop-number-test.true))),
            sum_by_more (if_asked c.args.asked vacant_bytes) stats n no_stats (omega (arith, many, c.loop-number-test.true, rows.many)),
          );
      few_live = let few = c.bytes_at-here.ensures.few.0 in omega (arith, was.few_live, few);
      few_vacant = let few = c.bytes_at-here.ensures.few.1 in omega (arith, was.few_vacant, few);
    }

pub returns-clause-live : goal.returns-clause-live
returns-clause-live g c = λ stats rows.
    let many : c.metaslab_count-count.result ≡ metaslabs_in c.args.store.now.table.vdevs =
    c.metaslab_count-count.ensures ∙ ap (λ (v : List VdevRow). metaslabs_in v) (c.as_slice.ensures ∙ ap (λ (l : Layout). l.vdevs) c.layout.ensures.layout ∙ sym c.layout.ensures.table.vdevs) in
    let past : length stats ≤ c.loop-number.number = omega (arith, many, rows.many, c.loop-number-test.false) in
    c.loop-number.invariant.live stats rows ∙ ap (sum_by (if_asked c.args.asked live_bytes)) (take_all c.loop-number.number stats past)

pub returns-clause-vacant : goal.returns-clause-vacant
returns-clause-vacant g c = λ stats rows.
    let many : c.metaslab_count-count.result ≡ metaslabs_in c.args.store.now.table.vdevs =
    c.metaslab_count-count.ensures ∙ ap (λ (v : List VdevRow). metaslabs_in v) (c.as_slice.ensures ∙ ap (λ (l : Layout). l.vdevs) c.layout.ensures.layout ∙ sym c.layout.ensures.table.vdevs) in
    let past : length stats ≤ c.loop-number.number = omega (arith, many, rows.many, c.loop-number-test.false) in
    c.loop-number.invariant.vacant stats rows ∙ ap (sum_by (if_asked c.args.asked vacant_bytes)) (take_all c.loop-number.number stats past)
