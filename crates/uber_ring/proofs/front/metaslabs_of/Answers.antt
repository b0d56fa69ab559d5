use Rattle.std.proofs.Common.{◌∙◌, ap, arith, List}
use Rattle.std.proofs.lemmas.List.{take_all}
use Rattle.zms_units.specs.declared.places.VdevRow.{VdevRow}
use Rattle.vdev_map.specs.Numbers.{metaslabs_in}
use Rattle.uber_ring.specs.TableBytes.{vdevs_in}
use Rattle.uber_ring.proofs.TableRows.{metaslabs_more, length-vdevs_in}
use Rattle.uber_ring.proofs.front.metaslabs_of.Goals as goal

pub loop-v-preserved : goal.loop-v-preserved
loop-v-preserved c = record {
  sum = omega (arith, c.loop-v.invariant.sum, metaslabs_more c.args.bytes.now c.loop-v.v (omega arith), c.from-metaslabs.ensures, c.u32_at.ensures);
  bound = omega (arith, c.loop-v.invariant.bound, c.from-metaslabs.ensures, c.u32_at.type_inv);
}

pub returns : goal.returns
returns c = c.loop-v.invariant.sum ∙ ap (λ (xs : List VdevRow). metaslabs_in xs) (take_all c.loop-v.v (vdevs_in c.args.bytes.now) (omega (arith, length-vdevs_in c.args.bytes.now)))
