use Rattle.cmd_text.proofs.Bytes.{if_none}
use Rattle.cmd_text.proofs.FieldLemmas.{seg_parts, seg_second}
use Rattle.cmd_text.proofs.lines.read_seg.Goals as goal

pub returns-in_err-vdev-2-clause-none : goal.returns-in_err-vdev-2-clause-none
returns-in_err-vdev-2-clause-none c =
    if_none c.from_residual-in_err-vdev-2.result _ (λ w b.
    let p = seg_parts c.args.text.now w b in
    c.in_err-vdev-2.ensures.none p.vdev p.low (seg_second c.args.text.now c.in_ok-vdev.vdev.now c.in_ok-vdev.rest.now w p c.in_ok-vdev.ensures.some.0 c.in_ok-vdev.ensures.some.1).0)

pub returns-in_err-offset-clause-none : goal.returns-in_err-offset-clause-none
returns-in_err-offset-clause-none c =
    if_none c.from_residual-in_err-offset.result _ (λ w b.
    let p = seg_parts c.args.text.now w b in
    c.in_err-offset.ensures.none p.offset p.size (seg_second c.args.text.now c.in_ok-vdev.vdev.now c.in_ok-vdev.rest.now w p c.in_ok-vdev.ensures.some.0 c.in_ok-vdev.ensures.some.1).1)
