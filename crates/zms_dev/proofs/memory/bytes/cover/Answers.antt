use Rattle.std.proofs.Common.{◌-◌, ◌+◌, ◌≤◌, ◌<◌, length, arith}
use Rattle.zms_dev.proofs.Covering.{byte_covered, length_covered}
use Rattle.zms_dev.proofs.memory.bytes.cover.Goals as goal

pub returns-clause-inside : goal.returns-clause-inside
returns-clause-inside c p low high inside =
    let a = c.min-from.result in
    let e = c.min-end.result in
    let within : a + (e - a) ≤ length c.args.file.now = grind arith in
    let filled = c.fill.ensures.after (λ y e. e) in
    let lt : p < length c.args.file.now = omega (arith, length_covered c.args.file.now a (e - a) c.args.fill c.fill.new.self filled within) in
    byte_covered c.args.file.now a (e - a) c.args.fill c.fill.new.self filled within p (grind arith) (grind arith)
