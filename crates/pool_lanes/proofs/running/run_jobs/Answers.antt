use Rattle.std.proofs.Common.{◌≡◌, sym, ◌∙◌, subst, get_or}
use Rattle.std.proofs.lemmas.Option.{get_or_from_slice_get, slice_get_within}
use Rattle.std.proofs.lemmas.Result.{IfOk-weaker}
use denote.Param.{param}
use denote.Param.Send.{sendable, param_send, arg_send, param_sync, arg_sync}
use Rattle.pool_lanes.specs.Running.{CanRun, RanFrom}
use Rattle.pool_lanes.proofs.Crossing.{shared_sync, seat_row_send, ran_send}
use Rattle.pool_lanes.proofs.running.run_jobs.Goals as goal

pub map_vec-requires-send-J : goal.map_vec-requires-send-J
map_vec-requires-send-J g c κs within = search (sendable, seat_row_send) depth 20

pub map_vec-requires-send-X : goal.map_vec-requires-send-X
map_vec-requires-send-X g c κs within = search (sendable, ran_send) depth 20

pub map_vec-requires-sync-F : goal.map_vec-requires-sync-F
map_vec-requires-sync-F g c κs within = let shared = shared_sync (param 0 g.row.D) g.D.Disk c.type_bounds.send-D (param 2 g.row.W) (param 1 g.row.M) c.type_bounds.sync-W c.type_bounds.sync-M in search (param_sync, arg_sync, shared) depth 20

pub map_vec-requires-after_bounds : goal.map_vec-requires-after_bounds
map_vec-requires-after_bounds g c κs within =
    let d = c.type_bounds.send-D in
    let m = c.type_bounds.sync-M in
    let w = c.type_bounds.sync-W in
    λ i s lt is. (
      (c.requires.commands, c.requires.few, subst (CanRun c.args.pool.now c.args.turn.now) (sym is) (c.requires.can i s lt)),
      (search (param_send, arg_send) depth 5, search (param_sync, arg_sync) depth 5, search (param_sync, arg_sync) depth 5),
    )

pub returns-clause-each : goal.returns-clause-each
returns-clause-each g c =
    let seats = c.args.seats.items in
    IfOk-weaker c.map_vec.result _ _
    (λ rans gives k s r seat_is ran_is.
    let job = (gives k r (slice_get_within seats k s seat_is)).1 in
    let seat : job.job ≡ s = sym (job.job_is s) ∙ get_or_from_slice_get seats k s s seat_is in
    let ran = get_or_from_slice_get rans.items k r r ran_is in
    subst (λ x. RanFrom c.args.pool.now c.args.turn.now c.args.commands.now s x) ran (subst (λ x. RanFrom c.args.pool.now c.args.turn.now c.args.commands.now x (get_or rans.items k r)) seat job.call.met)) c.map_vec.ensures.each
