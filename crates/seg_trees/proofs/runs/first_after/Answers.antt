use Rattle.std.proofs.Common.{◌+◌, ◌-◌, ◌<◌, length, arith}
use Rattle.zms_units.specs.declared.segments.Seg.{Seg}
use Rattle.seg_trees.proofs.Searches.{first_found, none_found, tail_long, tail_short, tail_length}
use Rattle.seg_trees.proofs.runs.first_after.Goals as goal

pub returns-clause-first : goal.returns-clause-first
returns-clause-first c =
    let d : Seg = record { start = 0; count = 0 } in
    let runs = c.args.runs.now in
    let from = c.begun-from.result in
    let h = c.in-Some.ensures.found in
    let l : from + c.in-Some.index < length runs = omega (arith, h.0, tail_length runs from) in
    first_found runs c.requires c.args.count c.args.at from d (λ k d l m. c.begun-from.ensures.below k d (omega arith) l) (from + c.in-Some.index) l (omega arith)
    (c.begun-from.ensures.above _ d (omega arith) l) (tail_long runs from c.in-Some.index c.args.count d (h.1.0 d))
    (tail_short runs from c.in-Some.index c.args.count d (λ k m. h.1.1 k d (omega arith) m))

pub returns-in_default-clause-none : goal.returns-in_default-clause-none
returns-in_default-clause-none c =
    let d : Seg = record { start = 0; count = 0 } in
    let runs = c.args.runs.now in
    let from = c.begun-from.result in
    none_found runs c.requires c.args.count c.args.at from d (λ k d l m. c.begun-from.ensures.below k d (omega arith) l)
    (λ k le l. tail_short runs from (length runs - from) c.args.count d (λ j m. c.in_default.ensures.none j d (omega (arith, tail_length runs from))) k le (omega (arith, c.begun-from.ensures.bound)))
