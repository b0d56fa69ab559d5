use Rattle.std.proofs.Common.{◌<◌, refl, sym, subst, arith, None, Err}
use Rattle.ms_core.specs.Buffers.{run_room}
use Rattle.ms_core.specs.State.{MsState, origin_of}
use Rattle.ms_core.specs.declared.faults.MsFault.{MsFault}
use Rattle.ms_cell.specs.declared.answers.CellFault.TheVariants.{Ms}
use Rattle.ms_cell.specs.Answers.{CollectAnswer, IsGathered, IsShort}
use Rattle.ms_cell.proofs.Refusals.{gathered, too_short}
use Rattle.ms_cell.proofs.acts.collect.Goals as goal

pub returns-in-Ok-clause-answer : goal.returns-in-Ok-clause-answer
returns-in-Ok-clause-answer g c =
    let m = c.ready.new.self in
    let some : 0 < c.args.group.0 = omega (arith, c.requires.group) in (
      refl,
      subst (λ (s : MsState). IsGathered c.args.group c.collect.new.buf.allocs.items c.collect.new.buf.frees.items (origin_of s) s.notes) c.ready.ensures.stays
          (gathered c.args.group c.collect.new.buf.allocs.items c.collect.new.buf.frees.items (origin_of m) m.notes c.settled.ensures.legal some c.in-Ok.ensures.allocs c.in-Ok.ensures.frees),
    )

pub returns-in-Err-clause-answer : goal.returns-in-Err-clause-answer
returns-in-Err-clause-answer g c =
    let m = c.ready.new.self in
    let lists = c.in-Err.ensures.err.1 in
    let why = too_short c.args.group (run_room c.args.buf.now) (origin_of m) m.notes _ c.in-Err.fault refl c.in-Err.ensures.short c.in-Err.ensures.fits in
    subst (λ (f : MsFault). CollectAnswer c.args.lane c.args.group (run_room c.args.buf.now) c.collect.new.buf.allocs.items c.collect.new.buf.frees.items (Err (Ms f)) (origin_of c.args.metaslab.now) c.args.metaslab.now.notes None) (sym why.1.0)
    (refl, (subst (λ (s : MsState). IsShort c.args.group (run_room c.args.buf.now) why.0 (origin_of s) s.notes) c.ready.ensures.stays why.1.1, lists))
