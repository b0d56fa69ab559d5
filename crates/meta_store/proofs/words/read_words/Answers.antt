use Rattle.std.proofs.Common.{◌*◌, List, ℕ, ap, ◌∙◌, arith}
use Rattle.zms_dev.specs.Disk.{bytes_of}
use Rattle.meta_store.specs.Words.{words_at}
use Rattle.meta_store.proofs.WordsAt.{words_in_piece}
use Rattle.meta_store.proofs.words.read_words.Goals as goal

pub returns-clause-words : goal.returns-clause-words
returns-clause-words g c tells =
    let image = bytes_of (g.D.Disk.state c.args.disk.now) in
    c.in_ok-words.ensures ∙ ap (λ (bytes : List ℕ). words_at bytes 0 c.args.n) (c.deref.ensures.value ∙ c.in_ok-bytes.ensures.bytes tells)
    ∙ words_in_piece image c.args.at c.args.n (8 * c.args.n) (omega arith)
