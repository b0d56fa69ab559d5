use Rattle.std.proofs.Common.{◌+◌, ◌≤◌, arith}
use Rattle.ms_core.proofs.Words.{vec_len, vec_capacity, waiting_nodes, may_reserve}
use Rattle.ms_core.proofs.Sparing.{on_ok, waiting_same}
use Rattle.ms_core.proofs.metaslab.reserve.Goals as goal

pub reserve-requires-2 : goal.reserve-requires-2
reserve-requires-2 g c =
    record { most = may_reserve (g.R.SegTrees.set c.args.trees.now) (c.waiting_nodes-waiting.result + c.args.nodes) (omega (arith, c.waiting_nodes-waiting.ensures.few)) }

pub returns-clause-enough : goal.returns-clause-enough
returns-clause-enough g c =
    let new = g.R.SegTrees.set c.reserve-2.new.self in
    let spare = g.R.SegTrees.spare c.reserve-2.new.self in
    let notes = c.reserve.new.self in
    let same = waiting_same (g.R.SegTrees.set c.args.trees.now) new (λ tree u from to. c.reserve-2.ensures.stay tree u) in
    on_ok {P = c.waiting_nodes-waiting.result + c.args.nodes ≤ spare} {Q = (vec_len notes + c.args.further ≤ vec_capacity notes) × (waiting_nodes new + c.args.nodes ≤ spare)} c.reserve-2.result
    (λ ok. (omega (arith, c.in_ok-reserve.ensures.ok, c.reserve.ensures.len), omega (arith, same, ok, c.waiting_nodes-waiting.ensures.nodes))) c.reserve-2.ensures.enough
