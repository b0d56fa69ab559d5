use Rattle.std.proofs.Common.{◌≡◌, take, sym, ◌∙◌, arith}
use Rattle.uber_ring.specs.Numbers.{bytes_at}
use Rattle.uber_ring.proofs.Pieces.{slice_is}
use Rattle.uber_ring.proofs.head.has_head_text.Goals as goal

pub returns : goal.returns
returns c =
    let piece : take 8 c.args.bytes.now ≡ bytes_at c.args.bytes.now 0 8 = slice_is c.args.bytes.now 0 8 (omega arith) in
    (λ yes. sym piece ∙ c.is_head_text.ensures.0 yes, λ is. c.is_head_text.ensures.1 (piece ∙ is))
