use Rattle.std.proofs.Common.{◌≡◌, ◌<◌, length, arith, rules, refl}
use Rattle.cmd_text.proofs.FileLemmas.{so_far_none, so_far_push, past_limit, past_saying, stops_at}
use Rattle.cmd_text.proofs.reading.read_front.Goals as goal
use Rattle.cmd_text.proofs.reading.read_front.Goals.{then-text-next-gt-MAX_TEXT_BYTES-via-then-text-next-gt-MAX_TEXT_BYTES, then-text-next-gt-MAX_TEXT_BYTES-via-else-text-next-gt-MAX_TEXT_BYTES+in_ok-take+then-not-branch}

pub returns-then-text-next-gt-MAX_TEXT_BYTES-clause-bad : goal.returns-then-text-next-gt-MAX_TEXT_BYTES-clause-bad
returns-then-text-next-gt-MAX_TEXT_BYTES-clause-bad c =
    let some : 0 < length c.loop-rest.rest.now = search rules in
    elim c.then-text-next-gt-MAX_TEXT_BYTES.branch [
      | then-text-next-gt-MAX_TEXT_BYTES-via-then-text-next-gt-MAX_TEXT_BYTES w ↦
          stops_at c.args.text.now c.loop-rest.rest.now c.first_line.result.0.now c.first_line.result.1.now c.loop-rest.number c.loop-rest.reader c.then-text-next-gt-MAX_TEXT_BYTES.reader c.into_script.result
          c.loop-rest.invariant some c.first_line.ensures
          (past_limit c.args.text.now c.loop-rest.rest.now c.first_line.result.0.now c.first_line.result.1.now c.loop-rest.number c.loop-rest.reader c.loop-rest.invariant some c.first_line.ensures (omega arith))
          (let same : c.then-text-next-gt-MAX_TEXT_BYTES.reader ≡ c.loop-rest.reader = w.reader-is in rw same (record { commands = refl; make = refl; lanes = refl }))
          c.into_script.ensures.commands c.into_script.ensures.make c.into_script.ensures.lanes
      | then-text-next-gt-MAX_TEXT_BYTES-via-else-text-next-gt-MAX_TEXT_BYTES+in_ok-take+then-not-branch w ↦
          stops_at c.args.text.now c.loop-rest.rest.now c.first_line.result.0.now c.first_line.result.1.now c.loop-rest.number c.loop-rest.reader c.then-text-next-gt-MAX_TEXT_BYTES.reader c.into_script.result
          c.loop-rest.invariant some c.first_line.ensures
          (past_saying c.args.text.now c.loop-rest.rest.now c.first_line.result.0.now c.loop-rest.number c.loop-rest.reader c.loop-rest.invariant (rw w.if-not-branch.true at w.in_ok-take.ensures.refused))
          (rw w.reader-is (rw w.if-not-branch.true at w.in_ok-take.ensures.keeps))
          c.into_script.ensures.commands c.into_script.ensures.make c.into_script.ensures.lanes
    ]

pub loop-rest-init : goal.loop-rest-init
loop-rest-init c = so_far_none c.args.text.now c.new-reader.result c.new-reader.ensures.is c.new-reader.ensures.commands c.new-reader.ensures.make

pub loop-rest-preserved : goal.loop-rest-preserved
loop-rest-preserved c =
    let some : 0 < length c.loop-rest.rest.now = search rules in
    let takes = rw c.if-not-branch.false at c.in_ok-take.ensures.taken in
    so_far_push c.args.text.now c.loop-rest.rest.now c.first_line.result.0.now c.first_line.result.1.now c.loop-rest.number c.loop-rest.reader c.take.new.self
    c.loop-rest.invariant some c.first_line.ensures (omega arith) takes
