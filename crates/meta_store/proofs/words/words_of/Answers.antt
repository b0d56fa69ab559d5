use Rattle.std.proofs.Common.{◌*◌, refl, ◌∙◌, arith}
use Rattle.meta_store.proofs.WordsAt.{words_at_from, words_at_more}
use Rattle.meta_store.proofs.words.words_of.Goals as goal

pub loop-k-init : goal.loop-k-init
loop-k-init c = c.in_ok-words.ensures.items ∙ words_at_from c.args.bytes.now 0 0 _ refl (λ k lt. absurd (omega arith))

pub loop-k-preserved : goal.loop-k-preserved
loop-k-preserved c =
    c.in_ok-push.ensures.items
    ∙ words_at_more c.args.bytes.now c.loop-k.words.items c.loop-k.k c.word_in.result (8 * c.loop-k.k) c.loop-k.invariant refl c.word_in.ensures
