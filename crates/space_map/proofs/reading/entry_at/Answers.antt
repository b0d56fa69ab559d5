use Rattle.std.proofs.Common.{◌≡◌, ◌-◌, List, ℕ, length, take, drop, sym, ◌∙◌, arith}
use Rattle.std.proofs.lemmas.List.{length-drop, take_all}
use Rattle.space_map.specs.Reading.{IsFault}
use Rattle.space_map.proofs.reading.entry_at.Goals as goal

-- the slice from a word on
from : (words : List ℕ) (at : ℕ) → take (length words - at) (drop at words) ≡ drop at words
from words at = take_all (length words - at) (drop at words) (omega (arith, length-drop at words))

pub returns-in-Some-clause-fault : goal.returns-in-Some-clause-fault
returns-in-Some-clause-fault c =
    let says = rw (from c.args.words.now c.args.at) at c.in-Ok.ensures.says.0 in
    IsFault.refused c.in-Ok.entry c.in-Some.cause says (sym c.in-Some.ensures)

pub returns-in-Err-BadPad-clause-fault : goal.returns-in-Err-BadPad-clause-fault
returns-in-Err-BadPad-clause-fault c =
    let bad = c.read.ensures.bad_pad.0 (cc (c.in-Err-BadPad.is, c.in-Err-BadPad.field-0-is)) in
    IsFault.padded (rw (from c.args.words.now c.args.at) at bad)

pub returns-then-ends_block-clause-fault : goal.returns-then-ends_block-clause-fault
returns-then-ends_block-clause-fault c =
    let short = c.read.ensures.short.0 (cc (c.in-Err-Short.is, c.in-Err-Short.field-0-is)) in
    IsFault.cut_across (rw (from c.args.words.now c.args.at) at short) (sym c.ends_block.ensures ∙ c.if-ends_block.true)

pub returns-else-ends_block-clause-fault : goal.returns-else-ends_block-clause-fault
returns-else-ends_block-clause-fault c =
    let short = c.read.ensures.short.0 (cc (c.in-Err-Short.is, c.in-Err-Short.field-0-is)) in
    IsFault.cut (rw (from c.args.words.now c.args.at) at short) (sym c.ends_block.ensures ∙ c.if-ends_block.false)
