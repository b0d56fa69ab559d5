use Rattle.std.proofs.Common.{[], ◌∷◌, ◌∙◌, ap, arith}
use Rattle.sm_entry.proofs.Entries.{type_bit_fits}
use Rattle.sm_entry.proofs.Fields.{or_two_below}
use Rattle.sm_entry.proofs.words.encode_one.Goals as goal

pub returns : goal.returns
returns c =
    let bit = type_bit_fits c.args.kind in
    ap (λ word. word ∷ []) (or_two_below 16 15 c.encode.result c.encode-2.result c.encode-3.result (omega arith) (omega arith) (omega arith) (omega arith) ∙ omega arith)
