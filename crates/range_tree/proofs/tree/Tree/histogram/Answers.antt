use Rattle.std.proofs.Common.{◌≡◌, ◌+◌, ◌<◌, ◌∙◌, inl, inr, length, length-set, arith}
use Rattle.range_tree.proofs.Counts.{written_done, written_rest, histogram_is}
use Rattle.range_tree.proofs.tree.Tree.histogram.Goals as goal

pub loop-bit-preserved : goal.loop-bit-preserved
loop-bit-preserved c =
    let within : c.args.ashift + c.loop-bit.bit < length c.loop-bit.hist.runs = omega (arith, c.loop-bit.invariant.long, c.requires) in
    record {
      long = length-set c.loop-bit.hist.runs (c.args.ashift + c.loop-bit.bit) _ ∙ c.loop-bit.invariant.long;
      done = written_done c.loop-bit.hist.runs c.args.self.now.lengths c.args.ashift c.loop-bit.bit within c.loop-bit.invariant.done;
      rest = written_rest c.loop-bit.hist.runs c.args.self.now.lengths c.args.ashift c.loop-bit.bit within c.loop-bit.invariant.rest;
    }

pub returns : goal.returns
returns c pool t =
    let all : c.loop-bit.bit ≡ 18 = omega arith in
    histogram_is t c.args.ashift c.loop-bit.hist (λ bit l. c.loop-bit.invariant.done bit (omega (arith, l, all)))
    (λ b o. c.loop-bit.invariant.rest b (elim o [ inl under ↦ inl under | inr over ↦ inr (omega (arith, over, all)) ]))
