use Rattle.std.proofs.Common.{◌≡◌}
use Rattle.meta_store.specs.Words.{words_at}
use Rattle.meta_store.proofs.words.words_of.Given as goal

abbrev pub invariant-loop-k : goal.invariant-loop-k
invariant-loop-k l = l.words.items ≡ words_at l.bytes 0 l.k
