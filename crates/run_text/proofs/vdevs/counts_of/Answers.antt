use Rattle.std.proofs.Common.{◌≡◌, ℕ, List, take, drop, sym, ◌∙◌, ap, arith}
use Rattle.ms_core.specs.declared.faults.Counts.{Counts}
use Rattle.vdev_map.specs.Numbers.{row_at, metaslabs_in}
use Rattle.run_text.proofs.ByVdev.{by_vdev_at, within}
use Rattle.run_text.proofs.vdevs.counts_of.Goals as goal

pub part-requires : goal.part-requires
part-requires c = omega (arith, within c.args.vdevs.now c.args.vdev c.requires.vdev, c.number_of-from.ensures.number, c.from.ensures, c.requires.one_each)

pub returns-clause-value : goal.returns-clause-value
returns-clause-value c = λ none.
    let from : metaslabs_in (take c.args.vdev c.args.vdevs.now) ≡ c.number_of-from.result = omega (arith, c.number_of-from.ensures.number) in
    let here : take (row_at c.args.vdevs.now c.args.vdev).metaslabs (drop (metaslabs_in (take c.args.vdev c.args.vdevs.now)) c.args.counts.now) ≡ c.part.result.now =
    ap (λ (n : ℕ). take (row_at c.args.vdevs.now c.args.vdev).metaslabs (drop n c.args.counts.now)) from
    ∙ ap (λ (n : ℕ). take n (drop c.number_of-from.result c.args.counts.now)) (sym c.from.ensures)
    ∙ sym c.part.ensures in
    by_vdev_at c.args.vdevs.now c.args.counts.now c.args.vdev none c.requires.vdev
    ∙ ap (λ (l : List Counts). record { row = row_at c.args.vdevs.now c.args.vdev; counts = l }) here
