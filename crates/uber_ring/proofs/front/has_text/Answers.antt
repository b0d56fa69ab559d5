use Rattle.std.proofs.Common.{◌≡◌, take, sym, ◌∙◌, arith}
use Rattle.uber_ring.specs.Numbers.{bytes_at}
use Rattle.uber_ring.proofs.Pieces.{slice_is}
use Rattle.uber_ring.proofs.front.has_text.Goals as goal

pub returns-then-bytes-ge-FRONT_LEN : goal.returns-then-bytes-ge-FRONT_LEN
returns-then-bytes-ge-FRONT_LEN c =
    let piece : take 8 c.args.bytes.now ≡ bytes_at c.args.bytes.now 0 8 = slice_is c.args.bytes.now 0 8 (omega arith) in
    (λ yes. (omega arith, sym piece ∙ c.is_text.ensures.0 yes), λ both. c.is_text.ensures.1 (piece ∙ both.1))
