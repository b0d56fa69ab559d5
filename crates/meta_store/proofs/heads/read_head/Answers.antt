use Rattle.std.proofs.Common.{List, ℕ, subst, sym, ◌∙◌}
use Rattle.zms_dev.specs.Disk.{bytes_of}
use Rattle.uber_ring.proofs.Pieces.{bytes_at_is_part}
use Rattle.meta_store.specs.Causes.{ShowsOf}
use Rattle.meta_store.specs.declared.causes.OpenCause.{OpenCause}
use Rattle.meta_store.specs.Heads.{IsWholeHead}
use Rattle.meta_store.proofs.HeadFaults.{head_cause}
use Rattle.meta_store.proofs.heads.read_head.Goals as goal

pub returns-in-Ok-clause-head : goal.returns-in-Ok-clause-head
returns-in-Ok-clause-head g c tells =
    let image = bytes_of (g.D.Disk.state c.args.disk.now) in
    subst (λ (bytes : List ℕ). IsWholeHead bytes c.in-Ok.head) (c.in_ok-read_part.ensures.part tells ∙ sym (bytes_at_is_part image 0 64)) c.in-Ok.ensures.ok

pub returns-in-Err-clause-err : goal.returns-in-Err-clause-err
returns-in-Err-clause-err g c tells uber early =
    let image = bytes_of (g.D.Disk.state c.args.disk.now) in
    subst (λ (cause : OpenCause). ShowsOf image uber cause) (sym c.cause_of.ensures)
    (head_cause image c.read_part.new.buf uber c.in-Err.fault (c.in_ok-read_part.ensures.part tells ∙ sym (bytes_at_is_part image 0 64)) early c.in-Err.ensures.err)
