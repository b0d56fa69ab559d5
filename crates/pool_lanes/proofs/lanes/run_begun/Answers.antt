use Rattle.std.proofs.Common.{◌+◌, List, ◌∙◌, subst}
use Rattle.std.specs.Prelude.{IfOk}
use Rattle.cmd_text.specs.declared.script.Command.{Command}
use Rattle.turn_passes.specs.Parts.{IsRest}
use Rattle.pool_seats.specs.declared.opening.Prepared.{Prepared}
use Rattle.pool_lanes.specs.Returning.{AreReplied}
use Rattle.pool_lanes.proofs.Endings.{ended}
use Rattle.pool_lanes.proofs.Seating.{idle_rest, is_of, numbered, all_can}
use Rattle.pool_lanes.proofs.lanes.run_begun.Goals as goal

pub run_seats-replies-requires-clause-rest : goal.run_seats-replies-requires-clause-rest
run_seats-replies-requires-clause-rest g c κs within =
    let h = c.requires.begun.1.1 in
    let b = c.args.begun in
    idle_rest c.requires.begun.0 c.requires.begun.1.0 c.args.script.now.lanes (record { pool = b.pool; rest = b.rest; keeper = h.passes; lanes = b.lanes }) h.prepared

pub run_seats-replies-requires-clause-can : goal.run_seats-replies-requires-clause-can
run_seats-replies-requires-clause-can g c κs within =
    let h = c.requires.begun.1.1 in
    let b = c.args.begun in
    all_can c.requires.begun.0 c.requires.begun.1.0 c.args.script.now.lanes (record { pool = b.pool; rest = b.rest; keeper = h.passes; lanes = b.lanes }) h.prepared b.kept.turn b.kept.rest h.starts c.take_seats-seats.result.items
    c.take_seats-seats.ensures.seated c.requires.script.lanes

pub run_seats-replies-requires-clause-numbered : goal.run_seats-replies-requires-clause-numbered
run_seats-replies-requires-clause-numbered g c κs within =
    let h = c.requires.begun.1.1 in
    let b = c.args.begun in
    numbered c.requires.begun.0 c.requires.begun.1.0 c.args.script.now.lanes (record { pool = b.pool; rest = b.rest; keeper = h.passes; lanes = b.lanes }) h.prepared b.kept.turn b.kept.rest h.starts c.take_seats-seats.result.items
    c.take_seats-seats.ensures.seated

pub close_pool-closed-requires-clause-starts : goal.close_pool-closed-requires-clause-starts
close_pool-closed-requires-clause-starts g c κs within =
    let h = c.requires.begun.1.1 in
    let b = c.args.begun in (
      h.starts.start,
      (
        c.run_seats-replies.ensures.keeps.fixed ∙ (c.take_seats-seats.ensures.fixed ∙ h.starts.is),
        is_of c.requires.begun.0 c.requires.begun.1.0 c.args.script.now.lanes (record { pool = b.pool; rest = b.rest; keeper = h.passes; lanes = b.lanes }) h.prepared h.starts.start h.starts.store_is h.starts.passes_are,
      ),
    )

pub returns-clause-ended : goal.returns-clause-ended
returns-clause-ended g c = λ store bases h.
    let b = c.args.begun in
    let seats = c.take_seats-seats in
    let ran = c.run_seats-replies in
    let p : Prepared = record { pool = b.pool; rest = b.rest; keeper = h.passes; lanes = b.lanes } in
    let rights = subst (λ n. IsRest (n + 1) b.kept.turn seats.new.rest) h.prepared.count seats.ensures.rest in
    ended g.D.Disk.state g.D.Disk.faults store bases c.args.script.now p h.prepared b.kept.turn b.kept.rest seats.new.rest ran.new.keeper b.kept.zero h.starts seats.ensures.fixed rights h.zero
    ran.new.rest ran.ensures.keeps ran.ensures.rest c.close_pool-closed.result c.close_pool-closed.ensures seats.result.items ran.result (seats.ensures.count ∙ h.prepared.count) seats.ensures.seated
    (subst (λ (l : List Command). IfOk ran.result (λ r. AreReplied b.pool b.kept.turn l seats.result.items ran.new.rest ran.new.keeper r.items)) c.as_slice-commands.ensures ran.ensures.replied)
