use Rattle.std.proofs.Common.{◌≡◌, ◌+◌, [], ◌∷◌, length, ◌∙◌, ap, arith, length-append}
use Rattle.vdev_text.proofs.spec.add.Goals as goal

pub push-requires : goal.push-requires
push-requires c = omega (arith, c.len.ensures.count, c.len.ensures.few, c.if-len-eq-MAX_VDEVS.false)

pub returns-clause-added : goal.returns-clause-added
returns-clause-added c =
    let count : length c.push.new.self ≡ length c.args.vdevs.now + 1 = ap length c.push.ensures ∙ length-append c.args.vdevs.now (c.in-Some.row ∷ []) in
    record {
      row = c.in-Some.row;
      is = c.in-Some.ensures.some.0;
      text_is = c.in-Some.ensures.some.1;
      new_is = c.push.ensures;
      few = omega (arith, count, c.len.ensures.count, c.len.ensures.few, c.if-len-eq-MAX_VDEVS.false);
    }
