use Rattle.std.proofs.Common.{List, ℕ, sym, ◌∙◌, ap, subst, arith}
use Rattle.zms_dev.specs.Disk.{bytes_of}
use Rattle.zms_dev.proofs.Resting.{rests_then}
use Rattle.zms_units.specs.declared.places.VdevRow.{VdevRow}
use Rattle.vdev_map.specs.Numbers.{IsIn, number_of}
use Rattle.meta_store.specs.Words.{row_of, units_of, words_in, AreHeldRuns}
use Rattle.meta_store.proofs.PartByPart.{sound_more, runs_sound}
use Rattle.meta_store.proofs.RowPlaces.{has_row}
use Rattle.meta_store.proofs.opening.check_metaslabs.Goals as goal

pub loop-number-preserved : goal.loop-number-preserved
loop-number-preserved g c =
    let table = c.args.table.now in
    let id = c.id_of-id.result in
    let old = g.D.Disk.state c.args.disk.now in
    let mid = g.D.Disk.state c.loop-number.disk in
    let was = c.loop-number.invariant in
    let in_ = subst (λ (vdevs : List VdevRow). IsIn vdevs id) c.as_slice.ensures c.id_of-id.ensures.id in
    let number = ap (λ (vdevs : List VdevRow). number_of vdevs id) (sym c.as_slice.ensures) ∙ c.id_of-id.ensures.number in
    record {
      sound = λ tells.
          let rests = was.rests tells in
          let runs = c.in_ok-_runs._runs.items in
          let held : AreHeldRuns (words_in (bytes_of old) table id) (units_of table id) runs =
          subst (λ (b : List ℕ). AreHeldRuns (words_in b table id) (units_of table id) runs) rests.contents (c.in_ok-_runs.ensures.runs rests.tells) in
          sound_more (bytes_of old) table c.loop-number.number id in_ number
          (runs_sound (words_in (bytes_of old) table id) (units_of table id) (row_of table id).held runs held c.in_ok-_runs.ensures.count) (was.sound tells);
      rests = λ tells. let rests = was.rests tells in rests_then old mid (g.D.Disk.state c.find.new.disk) rests (c.in_ok-_runs.ensures.rests rests.tells);
      steady = c.in_ok-_runs.ensures.steady (λ e. absurd (cc)) ∙ was.steady;
    }

pub returns-clause-sound : goal.returns-clause-sound
returns-clause-sound g c tells id in_ =
    c.loop-number.invariant.sound tells id in_ (omega (arith, has_row c.args.head.now c.args.table.now c.requires.table id in_, c.len-number-end.ensures, c.loop-number-test.false))
