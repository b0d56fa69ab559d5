use Rattle.std.proofs.Common.{subst}
use Rattle.zms_dev.specs.Disk.{bytes_of}
use Rattle.vdev_map.specs.declared.layout.Head.{Head}
use Rattle.meta_store.specs.Heads.{head_bytes, head_of, IsWholeHead}
use Rattle.meta_store.proofs.NewPools.{laid_first}
use Rattle.meta_store.proofs.creating.lay_first.Goals as goal

pub returns-clause-laid : goal.returns-clause-laid
returns-clause-laid g c tells =
    let layout = c.args.layout.now in
    let first = c.requires.table in
    let mid = bytes_of (g.D.Disk.state c.write_table.new.disk) in
    let new = bytes_of (g.D.Disk.state c.write_head.new.disk) in
    let run = c.write_table.ensures.spares tells in
    laid_first layout c.args.table.now first c.in_ok-uber.uber c.in_ok-uber.ensures.names mid new (c.in_ok-uber.ensures.lies tells) (c.write_head.ensures.spares run.tells).contents
    (c.in_ok-uber.ensures.written tells (head_of layout) first.fits)
    (subst (λ (h : Head). IsWholeHead (head_bytes new) h) c.head_for.ensures (c.in_ok-write_head.ensures.head run.tells))
