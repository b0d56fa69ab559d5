use Rattle.std.proofs.Common.{◌≡◌, [], ◌∷◌}
use Rattle.std.specs.Prelude.{map, string_bytes}
use Rattle.zms_top.proofs.WordLemmas.{two_words, three_words, only_answer}
use Rattle.zms_top.proofs.words.read_words.Goals as goal
use Rattle.zms_top.proofs.words.read_words.Goals.{After-read_two, After-read_three}

two : (c : After-read_two) → map string_bytes c.args.words.now ≡ c.as_str.result.now ∷ (c.as_bytes.result.now ∷ [])
two c =
    let words = two_words c.args.words.now c.command-item.result c.pool-item.result c.in-len2.len_at_least c.in-len2.len_below c.command-item.is c.pool-item.is in
    rw (words, ← c.as_str.ensures.value, ← c.as_bytes.ensures.value)

pub returns-in-len2-clause-asks : goal.returns-in-len2-clause-asks
returns-in-len2-clause-asks c = rw (two c) c.read_two.ensures.asks

pub returns-in-len2-clause-nothing : goal.returns-in-len2-clause-nothing
returns-in-len2-clause-nothing c = rw (two c) c.read_two.ensures.nothing

pub returns-in-len2-clause-only : goal.returns-in-len2-clause-only
returns-in-len2-clause-only c = rw (two c) (only_answer _ c.read_two.result c.read_two.ensures.asks c.read_two.ensures.nothing)

three : (c : After-read_three) → map string_bytes c.args.words.now ≡ c.as_str-in-len3.result.now ∷ (c.as_bytes-in-len3.result.now ∷ (c.as_bytes-in-len3-2.result.now ∷ []))
three c =
    let words = three_words c.args.words.now c.command-item-then-words-lt4.result c.one-item.result c.two-item.result c.in-len3.len_at_least c.in-len3.len_below c.command-item-then-words-lt4.is c.one-item.is c.two-item.is in
    rw (words, ← c.as_str-in-len3.ensures.value, ← c.as_bytes-in-len3.ensures.value, ← c.as_bytes-in-len3-2.ensures.value)

pub returns-in-len3-clause-nothing : goal.returns-in-len3-clause-nothing
returns-in-len3-clause-nothing c = rw (three c) c.read_three.ensures.nothing

pub returns-in-len3-clause-only : goal.returns-in-len3-clause-only
returns-in-len3-clause-only c = rw (three c) (only_answer _ c.read_three.result c.read_three.ensures.asks c.read_three.ensures.nothing)
