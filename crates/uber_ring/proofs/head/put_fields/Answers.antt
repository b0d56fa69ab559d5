use Rattle.std.proofs.Common.{◌∙◌, refl, arith}
use Rattle.std.specs.Prelude.{codes}
use Rattle.uber_ring.proofs.Pieces.{put_is, number_keeps_piece, number_keeps_number}
use Rattle.uber_ring.proofs.head.put_fields.Goals as goal

pub returns-clause-text : goal.returns-clause-text
returns-clause-text c =
    number_keeps_piece c.put_u32-2.new.bytes c.put_u32-3.new.bytes 16 4 _ 0 8 c.put_u32-3.ensures (λ p low high le. absurd (omega arith))
    ∙ number_keeps_piece c.put_u32.new.bytes c.put_u32-2.new.bytes 12 4 _ 0 8 c.put_u32-2.ensures (λ p low high le. absurd (omega arith))
    ∙ number_keeps_piece c.put_bytes.new.bytes c.put_u32.new.bytes 8 4 _ 0 8 c.put_u32.ensures (λ p low high le. absurd (omega arith))
    ∙ put_is c.args.bytes.now c.put_bytes.new.bytes 0 (codes "ZMSPOOL1") 8 c.put_bytes.ensures refl

pub returns-clause-version : goal.returns-clause-version
returns-clause-version c =
    number_keeps_number c.put_u32-2.new.bytes c.put_u32-3.new.bytes 16 4 _ 8 4 c.put_u32-3.ensures (λ p low high le. absurd (omega arith))
    ∙ number_keeps_number c.put_u32.new.bytes c.put_u32-2.new.bytes 12 4 _ 8 4 c.put_u32-2.ensures (λ p low high le. absurd (omega arith))
    ∙ c.put_u32.ensures.is ∙ c.version_for.ensures

pub returns-clause-flush : goal.returns-clause-flush
returns-clause-flush c =
    number_keeps_number c.put_u32-2.new.bytes c.put_u32-3.new.bytes 16 4 _ 12 4 c.put_u32-3.ensures (λ p low high le. absurd (omega arith)) ∙ c.put_u32-2.ensures.is
