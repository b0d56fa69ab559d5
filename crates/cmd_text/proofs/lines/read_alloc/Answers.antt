use Rattle.std.proofs.Common.{arith}
use Rattle.std.specs.Prelude.{codes}
use Rattle.cmd_text.specs.declared.script.What.{What}
use Rattle.cmd_text.specs.Reading.{IsBehind}
use Rattle.cmd_text.proofs.Bytes.{if_none}
use Rattle.cmd_text.proofs.FieldLemmas.{no_second, no_third, AllocFields, alloc_fields}
use Rattle.cmd_text.proofs.lines.read_alloc.Goals as goal
use Rattle.cmd_text.proofs.lines.read_alloc.Goals.{In_ok-class}

fields_read : (c : In_ok-class) (w : What) → IsBehind (codes "alloc") c.args.text.now w → AllocFields c.in_ok-name.name.now c.in_ok-size.size.now c.in_ok-class.class.now c.in_ok-class.copies.now
fields_read c w b =
    alloc_fields c.args.text.now c.in_ok-name.name.now c.in_ok-name.rest.now c.in_ok-size.size.now c.in_ok-size.rest.now c.in_ok-class.class.now c.in_ok-class.copies.now w b
    c.in_ok-name.ensures.some.0 c.in_ok-name.ensures.some.1 c.in_ok-size.ensures.some.0 c.in_ok-size.ensures.some.1 c.in_ok-class.ensures.some.0 c.in_ok-class.ensures.some.1

pub returns-in_err-size-clause-none : goal.returns-in_err-size-clause-none
returns-in_err-size-clause-none c =
    if_none c.from_residual-in_err-size.result _ (λ w b. no_second c.args.text.now c.in_ok-name.name.now c.in_ok-name.rest.now w b c.in_ok-name.ensures.some.0 c.in_ok-name.ensures.some.1 c.in_err-size.ensures.none)

pub returns-in_err-class-clause-none : goal.returns-in_err-class-clause-none
returns-in_err-class-clause-none c =
    if_none c.from_residual-in_err-class.result _ (λ w b. no_third c.args.text.now c.in_ok-name.name.now c.in_ok-name.rest.now c.in_ok-size.size.now c.in_ok-size.rest.now w b c.in_ok-name.ensures.some.0 c.in_ok-name.ensures.some.1 c.in_ok-size.ensures.some.0 c.in_ok-size.ensures.some.1 c.in_err-class.ensures.none)

pub returns-in_err-name-2-clause-none : goal.returns-in_err-name-2-clause-none
returns-in_err-name-2-clause-none c =
    if_none c.from_residual-in_err-name-2.result _ (λ w b. c.in_err-name-2.ensures.none (fields_read (goal.at.returns-in_err-name-2-clause-none c).In_ok-class w b).is_name)

pub returns-in_err-size-2-clause-none : goal.returns-in_err-size-2-clause-none
returns-in_err-size-2-clause-none c =
    if_none c.from_residual-in_err-size-2.result _ (λ w b.
    let f = fields_read (goal.at.returns-in_err-size-2-clause-none c).In_ok-class w b in
    c.in_err-size-2.ensures.none f.number (omega (arith, f.fits)) f.size_is)

pub returns-in_err-class-2-clause-none : goal.returns-in_err-class-2-clause-none
returns-in_err-class-2-clause-none c =
    if_none c.from_residual-in_err-class-2.result _ (λ w b.
    let f = fields_read (goal.at.returns-in_err-class-2-clause-none c).In_ok-class w b in
    c.in_err-class-2.ensures.none f.kind f.class_is)

pub returns-in_err-copies-clause-none : goal.returns-in_err-copies-clause-none
returns-in_err-copies-clause-none c =
    if_none c.from_residual-in_err-copies.result _ (λ w b.
    let f = fields_read (goal.at.returns-in_err-copies-clause-none c).In_ok-class w b in
    c.in_err-copies.ensures.none f.count f.few f.copies_is)
