use Rattle.std.proofs.Common.{◌≤◌, length, arith}
use Rattle.zms_dev.specs.Disk.{bytes_of}
use Rattle.uber_ring.proofs.Stages.{on_ok}
use Rattle.meta_store.specs.Heads.{head_of}
use Rattle.meta_store.specs.Rewinds.{IsRewound, IsTurnedLast}
use Rattle.meta_store.specs.Stores.{IsAtRest}
use Rattle.meta_store.proofs.KeptPlaces.{group_of_table, ring_lies}
use Rattle.meta_store.proofs.LastGroup.{at_rest}
use Rattle.meta_store.proofs.store.MetaStore.rewind.Goals as goal

pub returns-clause-after_first : goal.returns-clause-after_first
returns-clause-after_first g c =
    rw (← c.self.view_is)
    (λ uber tells has lies t rest flushes d left.
    let s = c.self.inside in
    let b = bytes_of (g.D.Disk.state s.disk) in
    let long : 135168 ≤ length b = omega (arith, ring_lies b uber (head_of s.layout) s.table has.rows lies) in
    c.rewind_disk.ensures.after_first uber (group_of_table b uber (head_of s.layout) s.table has.rows.has_table) tells has.valid long t rest flushes d left)

pub returns-clause-done : goal.returns-clause-done
returns-clause-done g c =
    rw (← c.self.view_is)
    (λ uber tells has lies.
    let s = c.self.inside in
    let b = bytes_of (g.D.Disk.state s.disk) in
    let new = g.D.Disk.state c.rewind_disk.new.disk in
    let long : 135168 ≤ length b = omega (arith, ring_lies b uber (head_of s.layout) s.table has.rows lies) in
    on_ok c.rewind_disk.result (IsTurnedLast uber b new) (IsRewound uber b (bytes_of new)) (λ last. last.rewound)
    (c.rewind_disk.ensures.done uber (group_of_table b uber (head_of s.layout) s.table has.rows.has_table) tells has.valid long))

pub returns-clause-at_rest : goal.returns-clause-at_rest
returns-clause-at_rest g c =
    rw (← c.self.view_is)
    (λ uber tells has lies.
    let s = c.self.inside in
    let b = bytes_of (g.D.Disk.state s.disk) in
    let new = g.D.Disk.state c.rewind_disk.new.disk in
    let long : 135168 ≤ length b = omega (arith, ring_lies b uber (head_of s.layout) s.table has.rows lies) in
    on_ok c.rewind_disk.result (IsTurnedLast uber b new) (IsAtRest new s.layout s.table) (λ last. at_rest uber b new s.layout s.table c.self.invariant.vdevs (c.rewind_disk.ensures.tells tells) has lies last)
    (c.rewind_disk.ensures.done uber (group_of_table b uber (head_of s.layout) s.table has.rows.has_table) tells has.valid long))

pub returns-clause-ends : goal.returns-clause-ends
returns-clause-ends g c =
    rw (← c.self.view_is)
    (λ uber tells has lies.
    let s = c.self.inside in
    let b = bytes_of (g.D.Disk.state s.disk) in
    let long : 135168 ≤ length b = omega (arith, ring_lies b uber (head_of s.layout) s.table has.rows lies) in
    c.rewind_disk.ensures.ends uber (group_of_table b uber (head_of s.layout) s.table has.rows.has_table) tells has.valid long)
