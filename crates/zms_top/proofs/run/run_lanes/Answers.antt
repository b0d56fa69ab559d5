use Rattle.std.proofs.Common.{inl, inr, refl}
use Rattle.zms_top.specs.Answers.{is_failure}
use Rattle.zms_top.specs.World.{world}
use Rattle.zms_top.specs.Pools.{IsRemembered}
use Rattle.zms_top.proofs.EndLemmas.{shipped_of, lanes_did, left_run, left_now, cut_faults}
use Rattle.zms_top.proofs.run.run_lanes.Goals as goal

pub returns-in-Err-clause-ends : goal.returns-in-Err-clause-ends
returns-in-Err-clause-ends g c read left =
    let handed = c.cut_off.ensures.handed in
    let all = c.run_lane.ensures in
    let p = c.args.opened in
    let q = c.run_lane.new.pool in
    let layout = c.args.store.now.layout in
    let old = g.D.Disk.state c.args.store.now.disk in
    let new = g.D.Disk.state c.run_lane.new.store.disk in
    record {
      journal = handed.handed.journal;
      some_journals = handed.some_journals;
      some_lists = handed.some_lists;
      journals_are = handed.journals_are;
      lists_are = handed.lists_are;
      shipped = shipped_of p q _ handed.some_journals handed.some_lists c.requires.opened all.stays all.gate handed.handed;
      end = inl (record { faults = cut_faults _ _ (is_failure q.first) all.faults; none = handed.handed.replies_are; status_is = c.cut_off.ensures.status; out = refl; trace = refl });
      run = λ was. left_run p q layout c.run_lane.new.store.layout c.run_lane.new.store.table handed.handed.journal.notes old new all.layout handed.handed.notes (all.remembered was);
      left = λ was. left_now p q layout c.run_lane.new.store.layout c.run_lane.new.store.table handed.handed.journal.notes old new all.layout all.stays handed.handed.notes (all.remembered was);
      spares = all.spares;
      flushes = all.flushes;
    }

pub returns-in-Ok-clause-ends : goal.returns-in-Ok-clause-ends
returns-in-Ok-clause-ends g c read left =
    let report = c.reported.ensures in
    let all = c.in-Ok.ensures in
    let p = c.args.opened in
    let q = c.run_lane.new.pool in
    let layout = c.args.store.now.layout in
    let old = g.D.Disk.state c.args.store.now.disk in
    let new = g.D.Disk.state c.run_lane.new.store.disk in
    record {
      journal = report.handed.journal;
      some_journals = report.some_journals;
      some_lists = report.some_lists;
      journals_are = report.journals_are;
      lists_are = report.lists_are;
      shipped = shipped_of p q c.in-Ok.replies.items report.some_journals report.some_lists c.requires.opened all.stays all.gate report.handed;
      end = inr (lanes_did (IsRemembered p layout c.args.store.now.table old) p q c.args.commands.now c.in-Ok.replies.items c.reported.result.journals c.reported.result.lists
          (world read (g.K.Sink.state c.args.out.now) (g.T.Sink.state c.args.trace.now) old (g.D.Disk.faults c.args.store.now.disk))
          (world left (g.K.Sink.state c.reported.new.out) (g.T.Sink.state c.reported.new.trace) new (g.D.Disk.faults c.run_lane.new.store.disk))
          c.reported.result.status c.requires.opened all.stays all.each all.ran all.intervals all.undamaged report);
      run = λ was. left_run p q layout c.run_lane.new.store.layout c.run_lane.new.store.table report.handed.journal.notes old new all.layout report.handed.notes (all.remembered was);
      left = λ was. left_now p q layout c.run_lane.new.store.layout c.run_lane.new.store.table report.handed.journal.notes old new all.layout all.stays report.handed.notes (all.remembered was);
      spares = all.spares;
      flushes = all.flushes;
    }
