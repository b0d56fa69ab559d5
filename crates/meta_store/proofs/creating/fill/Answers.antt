use Rattle.uber_ring.proofs.Stages.{flushes_then}
use Rattle.meta_store.proofs.MakingPools.{flushes_fewer}
use Rattle.meta_store.proofs.NewPools.{moments_laying, slot_flushed, moments_filling, is_made, laying_left, filling_left}
use Rattle.meta_store.proofs.creating.fill.Goals as goal

pub returns-in_err-uber-clause-filling : goal.returns-in_err-uber-clause-filling
returns-in_err-uber-clause-filling g c tells =
    let old = g.D.Disk.state c.args.disk.now in
    let mid = g.D.Disk.state c.lay_first.new.disk in
    let run = c.lay_first.ensures.spares tells in
    record {
      any_moment = λ wiped. moments_laying c.args.layout.now c.args.table.now c.requires.table old mid wiped run;
      spares = laying_left old mid run;
      flushes = flushes_fewer 1 3 old mid (c.lay_first.ensures.flushes tells);
    }

pub returns-in_err-write_slot-clause-filling : goal.returns-in_err-write_slot-clause-filling
returns-in_err-write_slot-clause-filling g c tells =
    let layout = c.args.layout.now in
    let table = c.args.table.now in
    let old = g.D.Disk.state c.args.disk.now in
    let mid = g.D.Disk.state c.lay_first.new.disk in
    let new = g.D.Disk.state c.write_slot.new.disk in
    let uber = c.in_ok-uber.uber in
    let run = c.lay_first.ensures.spares tells in
    let laid = c.in_ok-uber.ensures.laid tells in
    let flushed = c.in_ok-uber.ensures.durable tells in
    let opened = c.write_slot.ensures.spares run.tells in
    record {
      any_moment = λ wiped.
          moments_filling layout table c.requires.table old mid wiped run new uber c.in_ok-uber.ensures.limits c.in_ok-uber.ensures.group laid flushed opened
          (c.write_slot.ensures.any_moment run.tells (slot_flushed layout table c.requires.table old mid wiped run new uber c.in_ok-uber.ensures.limits c.in_ok-uber.ensures.group laid flushed opened));
      spares = filling_left old mid new uber.group.0 run opened;
      flushes = flushes_then 1 3 old mid new (c.lay_first.ensures.flushes tells) (c.write_slot.ensures.flushes run.tells);
    }

pub returns-clause-filling : goal.returns-clause-filling
returns-clause-filling g c tells =
    let layout = c.args.layout.now in
    let table = c.args.table.now in
    let old = g.D.Disk.state c.args.disk.now in
    let mid = g.D.Disk.state c.lay_first.new.disk in
    let new = g.D.Disk.state c.write_slot.new.disk in
    let uber = c.in_ok-uber.uber in
    let run = c.lay_first.ensures.spares tells in
    let laid = c.in_ok-uber.ensures.laid tells in
    let flushed = c.in_ok-uber.ensures.durable tells in
    let opened = c.write_slot.ensures.spares run.tells in
    record {
      any_moment = λ wiped.
          moments_filling layout table c.requires.table old mid wiped run new uber c.in_ok-uber.ensures.limits c.in_ok-uber.ensures.group laid flushed opened
          (c.write_slot.ensures.any_moment run.tells (slot_flushed layout table c.requires.table old mid wiped run new uber c.in_ok-uber.ensures.limits c.in_ok-uber.ensures.group laid flushed opened));
      spares = filling_left old mid new uber.group.0 run opened;
      flushes = flushes_then 1 3 old mid new (c.lay_first.ensures.flushes tells) (c.write_slot.ensures.flushes run.tells);
    }

pub returns-clause-done : goal.returns-clause-done
returns-clause-done g c tells wiped =
    let run = c.lay_first.ensures.spares tells in
    is_made c.args.layout.now c.args.table.now c.requires.table (g.D.Disk.state c.args.disk.now) (g.D.Disk.state c.lay_first.new.disk) wiped run (g.D.Disk.state c.write_slot.new.disk)
    c.in_ok-uber.uber c.in_ok-uber.ensures.limits c.in_ok-uber.ensures.group (c.in_ok-uber.ensures.laid tells) (c.in_ok-uber.ensures.durable tells) (c.write_slot.ensures.spares run.tells)
    (c.in_ok-write_slot.ensures.written run.tells) (c.in_ok-write_slot.ensures.durable run.tells)
