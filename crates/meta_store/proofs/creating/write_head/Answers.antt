use Rattle.std.proofs.Common.{rules, ◌≡◌, List, length, subst}
use Rattle.zms_dev.specs.Bytes.{Holds}
use Rattle.zms_dev.specs.Disk.{bytes_of}
use Rattle.uber_ring.specs.Heads.{IsHeadOf}
use Rattle.uber_ring.proofs.Stages.{on_ok}
use Rattle.meta_store.specs.Heads.{head_bytes, IsWholeHead}
use Rattle.meta_store.proofs.NewPools.{head_written}
use Rattle.meta_store.proofs.creating.write_head.Goals as goal

pub returns-clause-head : goal.returns-clause-head
returns-clause-head g c tells =
    let old = bytes_of (g.D.Disk.state c.args.disk.now) in
    let new = bytes_of (g.D.Disk.state c.put.new.disk) in
    let head = c.args.head.now in
    let bytes = c.head_bytes.result in
    let len : length bytes ≡ 64 = search rules in
    on_ok c.put.result (Holds old 0 bytes new) (IsWholeHead (head_bytes new) head)
    (λ holds. record { is = subst (λ (b : List _). IsHeadOf b head) (head_written old bytes new holds len) c.head_bytes.ensures; whole = c.requires.whole })
    (c.put.ensures.written tells)
