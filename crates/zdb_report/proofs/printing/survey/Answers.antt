use Rattle.std.proofs.Common.{sym, subst}
use Rattle.zms_dev.specs.Disk.{bytes_of}
use Rattle.zms_units.specs.declared.places.MsId.{MsId}
use Rattle.meta_store.specs.Groups.{IsSound}
use Rattle.meta_store.specs.Words.{row_of, units_of, words_in}
use Rattle.meta_store.proofs.PartByPart.{runs_sound}
use Rattle.zdb_report.proofs.printing.survey.Goals as goal

pub returns-clause-sound : goal.returns-clause-sound
returns-clause-sound g c = λ tells.
    let table = c.args.store.now.table in
    let image = bytes_of (g.D.Disk.state c.args.store.now.disk) in
    let id = c.id_of-id.result in
    subst (λ (i : MsId). IsSound image table i) (sym c.stats_of.ensures.id)
    (runs_sound (words_in image table id) (units_of table id) (row_of table id).held c.in_ok-held.held.items (c.in_ok-held.ensures.runs tells) c.in_ok-held.ensures.count)
