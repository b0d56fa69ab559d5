use Rattle.std.proofs.Common.{◌≡◌, ◌≤◌, ◌++◌, drop, length}
use Rattle.trace_text.specs.Numbers.{hex_digits, weight_text}
use Rattle.trace_text.proofs.pieces.weight_digits.Given as goal

abbrev pub invariant-loop-at : goal.invariant-loop-at
invariant-loop-at l = record { within : l.at ≤ 16; long : length l.text ≡ 16; digits : weight_text l.weight ≡ hex_digits l.at l.rest ++ drop l.at l.text }

abbrev pub decreases-loop-at : goal.decreases-loop-at
decreases-loop-at l = l.at
