use Rattle.std.proofs.Common.{[], ◌∷◌, ◌∙◌, ap, arith}
use Rattle.sm_entry.proofs.Fields.{or_three_below}
use Rattle.sm_entry.proofs.words.encode_debug.Goals as goal

pub returns : goal.returns
returns c =
    ap (λ word. word ∷ [])
    (or_three_below 62 60 50 c.encode.result c.encode-2.result c.encode-3.result c.encode-4.result
    (omega arith) (omega arith) (omega arith) (omega arith) (omega arith) (omega arith) ∙ omega arith)
