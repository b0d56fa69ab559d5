use Rattle.std.proofs.Common.{◌≡◌, None, arith, rules, refl}
use Rattle.cmd_text.specs.Reading.{what_of, Learns, IsTwice}
use Rattle.cmd_text.proofs.Limits.{asked_adds, twice_bars, one_worker}
use Rattle.cmd_text.proofs.reader.Reader.ask.Goals as goal

pub returns-in_default-clause-refused : goal.returns-in_default-clause-refused
returns-in_default-clause-refused c =
    let twice : IsTwice c.args.self.now.names c.args.lane (what_of c.args.asks) = rw c.in_default.is at c.in_ok-what.ensures.none in
    twice_bars c.args.self.now c.args.lane c.args.line (what_of c.args.asks) c.requires.reader twice

pub returns-clause-taken : goal.returns-clause-taken
returns-clause-taken c =
    let same : c.in-Some.what ≡ what_of c.args.asks = rw c.in-Some.is at c.in_ok-what.ensures.what in
    let learns : Learns c.args.self.now.names c.learn.new.names c.args.lane c.in-Some.what = rw c.in-Some.is at c.in_ok-what.ensures.some in
    let none : c.args.self.now.make ≡ None = search rules in
    let count : c.workers_of.result ≡ one_worker c.in-Some.what = c.workers_of.ensures in
    rw (← same)
    (asked_adds c.args.self.now _ c.args.lane c.args.line c.in-Some.what c.requires.reader none (omega (arith, c.requires.reader.within.few)) c.requires.lane
    learns (omega arith) c.in_ok-push.ensures.items refl c.max-self.ensures (omega arith))
