use Rattle.std.proofs.Common.{arith, inl, inr}
use Rattle.std.proofs.Math.Pow.{pow_mono}
use Rattle.std.proofs.lemmas.Bool.{cases_lt}
use Rattle.range_tree.proofs.tree.length_bit.Goals as goal

pub returns-clause-below : goal.returns-clause-below
returns-clause-below c =
    elim (cases_lt c.ilog2.result 18) [
      | inl low ↦ low
      | inr high ↦ absurd (omega (arith, pow_mono {i = 18} {j = c.ilog2.result} high, c.ilog2.ensures.power_le, c.requires.most))
    ]
