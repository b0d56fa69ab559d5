use Rattle.std.proofs.Common.{◌≡◌, true}
use Rattle.std.specs.Prelude.{Ok}
use Rattle.std.specs.Str.Parse.{ParsesUnsigned}
use Rattle.cmd_text.proofs.Bytes.{plain_of, plain_utf8, plain_number, number_read}
use Rattle.cmd_text.proofs.fields.numeral.Goals as goal

pub returns-then-not-is_plain-clause-none : goal.returns-then-not-is_plain-clause-none
returns-then-not-is_plain-clause-none c = λ n fits is.
    let yes : c.is_plain.result ≡ true = c.is_plain.ensures.1 (plain_of c.args.digits.now n fits is) in cc

pub returns-in_default-clause-none : goal.returns-in_default-clause-none
returns-in_default-clause-none c = λ n fits is. c.in_default.ensures.cases.0 (plain_utf8 c.args.digits.now n fits is)

pub returns-in_default-parse-clause-none : goal.returns-in_default-parse-clause-none
returns-in_default-parse-clause-none c = λ n fits is.
    let parses : ParsesUnsigned 64 10 c.args.digits.now c.parse.result = rw c.in-Ok.ensures.cases.0 at c.parse.ensures.value.0 in
    let read : c.parse.result ≡ Ok n = number_read c.args.digits.now c.parse.result n parses fits is in cc

pub returns-clause-some : goal.returns-clause-some
returns-clause-some c =
    let parses : ParsesUnsigned 64 10 c.args.digits.now c.parse.result = rw c.in-Ok.ensures.cases.0 at c.parse.ensures.value.0 in
    plain_number c.args.digits.now c.parse.result c.in-Ok-parse.number (c.is_plain.ensures.0 c.if-not-is_plain.false) parses c.in-Ok-parse.is
