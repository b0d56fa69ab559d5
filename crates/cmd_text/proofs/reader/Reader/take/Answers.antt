use Rattle.cmd_text.specs.Grammar.Reading.{Passed, Asked, Made}
use Rattle.cmd_text.specs.Reading.{what_of, command_of}
use Rattle.cmd_text.proofs.Taking.{on_true, on_false, ok_true, ok_false, passed_adds, takes_of, refuses_of}
use Rattle.cmd_text.proofs.reader.Reader.take.Goals as goal

pub ask-requires-clause-lane : goal.ask-requires-clause-lane
ask-requires-clause-lane c =
    let says = rw c.in-Some-LaneLine.field-0-is at (c.in-Some-LaneLine.ensures.some c.args.number) in says.0.first

pub returns-in-Some-PassedLine-clause-taken : goal.returns-in-Some-PassedLine-clause-taken
returns-in-Some-PassedLine-clause-taken c =
    let says = rw c.in-Some-PassedLine.field-0-is at (c.in-Some-PassedLine.ensures.some c.args.number) in
    takes_of c.args.self.now c.args.self.now c.args.number c.args.line.now Passed c.if-line-gt-MAX_LINE_BYTES.false says (passed_adds c.args.self.now c.requires)

pub returns-in-Some-LaneLine-clause-taken : goal.returns-in-Some-LaneLine-clause-taken
returns-in-Some-LaneLine-clause-taken c =
    let says = rw c.in-Some-LaneLine.field-0-is at (c.in-Some-LaneLine.ensures.some c.args.number) in
    ok_true c.ask.result _ _
    (takes_of c.args.self.now c.ask.new.self c.args.number c.args.line.now (Asked (command_of c.in-Some-LaneLine.lane c.args.number (what_of c.in-Some-LaneLine.asks))) c.if-line-gt-MAX_LINE_BYTES.false says)
    c.ask.ensures.taken

pub returns-in-Some-LaneLine-clause-refused : goal.returns-in-Some-LaneLine-clause-refused
returns-in-Some-LaneLine-clause-refused c =
    let says = rw c.in-Some-LaneLine.field-0-is at (c.in-Some-LaneLine.ensures.some c.args.number) in
    ok_false c.ask.result _ _
    (refuses_of c.args.self.now c.args.number c.args.line.now (Asked (command_of c.in-Some-LaneLine.lane c.args.number (what_of c.in-Some-LaneLine.asks))) says)
    c.ask.ensures.refused

pub returns-in-Some-MakeLine-clause-taken : goal.returns-in-Some-MakeLine-clause-taken
returns-in-Some-MakeLine-clause-taken c =
    let says = rw c.in-Some-MakeLine.field-0-is at (c.in-Some-MakeLine.ensures.some c.args.number) in
    on_true c.make.result _ _
    (takes_of c.args.self.now c.make.new.self c.args.number c.args.line.now (Made (record { number = c.in-Some-MakeLine.given; count = c.in-Some-MakeLine.count; line = c.args.number })) c.if-line-gt-MAX_LINE_BYTES.false says)
    c.make.ensures.taken

pub returns-in-Some-MakeLine-clause-refused : goal.returns-in-Some-MakeLine-clause-refused
returns-in-Some-MakeLine-clause-refused c =
    let says = rw c.in-Some-MakeLine.field-0-is at (c.in-Some-MakeLine.ensures.some c.args.number) in
    on_false c.make.result _ _
    (refuses_of c.args.self.now c.args.number c.args.line.now (Made (record { number = c.in-Some-MakeLine.given; count = c.in-Some-MakeLine.count; line = c.args.number })) says)
    c.make.ensures.refused
