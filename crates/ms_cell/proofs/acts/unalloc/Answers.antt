use Rattle.std.proofs.Common.{◌≡◌, Some, refl, subst}
use Rattle.ms_model.specs.Units.{last_act, granted}
use Rattle.ms_core.specs.State.{MsState, origin_of}
use Rattle.ms_cell.specs.declared.answers.CellFault.TheVariants.{Ms}
use Rattle.ms_cell.specs.Answers.{GiveBackFault}
use Rattle.ms_cell.proofs.Refusals.{refused, own_or_not}
use Rattle.ms_cell.proofs.acts.unalloc.Goals as goal

pub returns-in-Err-clause-answer : goal.returns-in-Err-clause-answer
returns-in-Err-clause-answer g c =
    let group = c.args.group in
    let lane = c.args.lane in
    let m = c.ready.new.self in (
      refl,
      subst (λ (s : MsState). GiveBackFault group (λ u. last_act (origin_of s) s.notes u ≡ granted (Some lane) group.0) c.args.seg (Ms c.in-Err.fault) (origin_of s) s.notes) c.ready.ensures.stays
          (refused group (λ u. last_act (origin_of m) m.notes u ≡ granted (Some lane) group.0) c.args.seg (origin_of m) m.notes _ c.in-Err.fault (λ u. own_or_not lane group.0 (last_act (origin_of m) m.notes u)) refl
          c.in-Err.ensures.late c.in-Err.ensures.not_loaded c.in-Err.ensures.not_live c.in-Err.ensures.taken),
    )
