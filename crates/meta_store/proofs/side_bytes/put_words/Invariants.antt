use Rattle.std.proofs.Common.{◌≡◌, ◌*◌, ◌<◌, ℕ, length, get_or}
use Rattle.uber_ring.specs.Numbers.{number_at}
use Rattle.meta_store.proofs.side_bytes.put_words.Given as goal

abbrev pub invariant-loop-k : goal.invariant-loop-k
invariant-loop-k l = record {
  len : length l.bytes ≡ 8 * length l.words;
  each : (j : ℕ) → j < l.k → number_at l.bytes (8 * j) 8 ≡ get_or l.words j 0;
}
