use Rattle.std.proofs.Common.{◌≡◌, ℕ, ◌+◌, ◌*◌, ◌≤◌, List, length, length-drop, take, drop, get_or, ◌∙◌, ap, arith}
use Rattle.std.proofs.lemmas.List.{get_or-take, get_or-drop, drop-drop}
use Rattle.std.proofs.lemmas.List.Sums.{sum_by_more, sum_by_more_le}
use Rattle.zms_units.specs.declared.places.Class.TheVariants.{Normal}
use Rattle.zms_units.specs.declared.places.VdevRow.{VdevRow}
use Rattle.vdev_map.specs.Numbers.{row_at, metaslabs_in}
use Rattle.class_core.proofs.Opening.{groups_step}
use Rattle.class_core.proofs.making.groups_of.Goals as goal

no_row : VdevRow
no_row = record { class = Normal; ashift = 0; units = 0; metaslabs = 0 }

pub split_at-requires : goal.split_at-requires
unfolding no_row
split_at-requires c =
    let rows = c.args.rows.now in
    let n = c.loop-vdev.vdev in
    let inner : metaslabs_in (take n rows) + (row_at rows n).metaslabs * 1 ≤ metaslabs_in rows = sum_by_more_le (λ (row : VdevRow). row.metaslabs * 1) rows n no_row c.loop-vdev-test.true in
    let rest : length c.loop-vdev.rest.now ≡ length (drop (metaslabs_in (take n rows)) c.args.weights.now) = ap length c.loop-vdev.invariant.1 in
    omega (arith, inner, rest, length-drop (metaslabs_in (take n rows)) c.args.weights.now, c.requires.weights)

pub loop-vdev-preserved : goal.loop-vdev-preserved
unfolding no_row
loop-vdev-preserved c =
    let rows = c.args.rows.now in
    let n = c.loop-vdev.vdev in
    let weights = c.args.weights.now in
    let own = c.split_at.result.0.now in
    let m = (row_at rows n).metaslabs in
    let b = metaslabs_in (take n rows) in
    let next : metaslabs_in (take (n + 1) rows) ≡ b + m * 1 = sum_by_more (λ (row : VdevRow). row.metaslabs * 1) rows n no_row c.loop-vdev-test.true in (
      groups_step rows c.args.class weights n c.loop-vdev.groups.items c.add_group.new.groups.items own c.is_same.result c.loop-vdev.invariant.0 c.is_same.ensures c.split_at.ensures.front_len
          (λ i lt. ap (λ (l : List ℕ). get_or l i 0) c.split_at.ensures.front
          ∙ (get_or-take m c.loop-vdev.rest.now i 0 (omega (arith, lt, c.split_at.ensures.front_len))
          ∙ (ap (λ (l : List ℕ). get_or l i 0) c.loop-vdev.invariant.1 ∙ get_or-drop b weights i 0)))
          c.in_ok-add_group.ensures,
      c.split_at.ensures.back ∙ (ap (drop m) c.loop-vdev.invariant.1 ∙ (drop-drop m b weights ∙ ap (λ (k : ℕ). drop k weights) (let sum : b + m ≡ metaslabs_in (take (n + 1) rows) = omega (arith, next) in sum))),
    )
