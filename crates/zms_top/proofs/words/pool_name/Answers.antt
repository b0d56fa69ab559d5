use Rattle.zms_top.proofs.WordLemmas.{name_is_third}
use Rattle.zms_top.proofs.words.pool_name.Goals as goal

pub returns-in_err-read_words-clause-asked : goal.returns-in_err-read_words-clause-asked
returns-in_err-read_words-clause-asked c = (λ some. absurd (let none = rw c.from_residual.ensures at some in cc), λ asked. absurd (c.in_err-read_words.ensures.nothing asked.0 asked.1))

pub returns-clause-some : goal.returns-clause-some
returns-clause-some c =
    rw c.as_str.ensures.value
    (name_is_third c.args.words.now c.index-words-1.result c.index-words-2.result c.in_ok-read_words.field-0 c.index-words-1.is c.index-words-2.is c.in_ok-read_words.ensures.asks
    (λ name. let is = c.is_pool_name.ensures.1 (rw (c.as_bytes.ensures.value, c.as_str-second.ensures.value) name) in let no = c.if-is_pool_name.false in cc))
