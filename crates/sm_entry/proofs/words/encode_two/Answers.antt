use Rattle.std.proofs.Common.{◌∙◌, arith}
use Rattle.sm_entry.proofs.Entries.{type_bit_fits}
use Rattle.sm_entry.proofs.Fields.{or_below, or_two_below, both_same}
use Rattle.sm_entry.proofs.words.encode_two.Goals as goal

pub returns : goal.returns
returns c =
    let bit = type_bit_fits c.args.kind in
    both_same _ _ _ _
    (or_two_below 60 24 c.encode.result c.encode-2.result c.encode-3.result (omega arith) (omega arith) (omega arith) (omega arith) ∙ omega arith)
    (or_below 63 c.encode-4.result c.encode-5.result (omega arith) (omega arith) ∙ omega arith)
