use Rattle.std.proofs.Common.{◌≡◌, ◌+◌, arith}
use Rattle.std.proofs.lemmas.Bool.Decides.{nat_tests}
use Rattle.uber_ring.specs.TableBytes.{HasItsLength}
use Rattle.uber_ring.proofs.TableRows.{length-logs_in}
use Rattle.uber_ring.proofs.front.has_logs.Goals as goal

pub returns-then-counts : goal.returns-then-counts
returns-then-counts c =
    let whole : HasItsLength c.args.bytes.now = c.requires.counts.whole.0 c.if-counts.true in (
      λ yes. (
        whole,
        let e : c.args.counts.logs + c.first_log_of.result ≡ c.args.group + 1 = grind (arith, nat_tests) in
            omega (arith, e, length-logs_in c.args.bytes.now, c.requires.counts.logs, c.first_log_of.ensures.value, c.requires.group),
      ),
      λ both. let e : c.args.counts.logs + c.first_log_of.result ≡ c.args.group + 1 = omega (arith, both.1, length-logs_in c.args.bytes.now, c.requires.counts.logs, c.first_log_of.ensures.value, c.requires.group) in
          grind (arith, nat_tests),
    )
