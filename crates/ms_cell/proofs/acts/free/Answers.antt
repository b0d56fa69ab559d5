use Rattle.std.proofs.Common.{refl, subst}
use Rattle.ms_model.specs.Units.{last_act}
use Rattle.ms_model.specs.Legal.{IsGrantedBy}
use Rattle.ms_core.specs.State.{MsState, origin_of}
use Rattle.ms_cell.specs.declared.answers.CellFault.TheVariants.{Ms}
use Rattle.ms_cell.specs.Answers.{GiveBackFault}
use Rattle.ms_core.proofs.Searching.{granted_or_not}
use Rattle.ms_cell.proofs.Refusals.{refused}
use Rattle.ms_cell.proofs.acts.free.Goals as goal

pub returns-in-Err-clause-answer : goal.returns-in-Err-clause-answer
returns-in-Err-clause-answer g c =
    let group = c.args.group in
    let m = c.ready.new.self in (
      refl,
      subst (λ (s : MsState). GiveBackFault group (λ u. IsGrantedBy group.0 (last_act (origin_of s) s.notes u)) c.args.seg (Ms c.in-Err.fault) (origin_of s) s.notes) c.ready.ensures.stays
          (refused group (λ u. IsGrantedBy group.0 (last_act (origin_of m) m.notes u)) c.args.seg (origin_of m) m.notes _ c.in-Err.fault (λ u. granted_or_not group.0 (last_act (origin_of m) m.notes u)) refl
          c.in-Err.ensures.late c.in-Err.ensures.not_loaded c.in-Err.ensures.not_live c.in-Err.ensures.taken),
    )
