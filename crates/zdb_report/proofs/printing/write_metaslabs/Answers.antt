use Rattle.std.proofs.Common.{◌≡◌, ◌<◌, ℕ, List, [], ◌∷◌, ◌++◌, refl, sym, ◌∙◌, ap, subst, arith}
use Rattle.std.specs.List.{flat_map}
use Rattle.std.proofs.lemmas.Grind.{flat_map-append}
use Rattle.std.proofs.lemmas.List.{append-nil}
use Rattle.zms_dev.specs.Disk.{bytes_of}
use Rattle.zms_dev.proofs.Prints.{took_none, took_more, prints_all}
use Rattle.zms_dev.proofs.Resting.{rests_none, rests_then}
use Rattle.zms_units.specs.declared.places.VdevRow.{VdevRow}
use Rattle.vdev_map.specs.Numbers.{metaslabs_in}
use Rattle.vdev_map.specs.declared.layout.Layout.{Layout}
use Rattle.vdev_map.specs.declared.table.Table.{Table}
use Rattle.meta_store.proofs.PartByPart.{sound_none}
use Rattle.zdb_report.specs.Stats.{IsShown, AreShown}
use Rattle.zdb_report.specs.Texts.{metaslab_text}
use Rattle.zdb_report.proofs.Showing.{none_shown, more_shown, shown_before}
use Rattle.zdb_report.proofs.Telling.{at_ok, no_err, part_sound, part_damaged, part_faulted, none_faulted}
use Rattle.zdb_report.proofs.printing.write_metaslabs.Goals as goal

pub loop-number-init : goal.loop-number-init
loop-number-init g c = record {
  shown = ([], none_shown (g.D.Disk.state c.args.store.now.disk) c.args.store.now.table, took_none _);
  sound = λ tells. sound_none (bytes_of (g.D.Disk.state c.args.store.now.disk)) c.args.store.now.table;
  layout = refl;
  table = refl;
  rests = λ tells. rests_none (g.D.Disk.state c.args.store.now.disk) tells (g.met.D.Disk.only_now c.args.store.now.disk);
  steady = refl;
}

pub write_metaslab-requires : goal.write_metaslab-requires
write_metaslab-requires g c =
    let many : c.metaslab_count-count.result ≡ metaslabs_in c.args.store.now.table.vdevs =
    c.metaslab_count-count.ensures ∙ ap (λ (v : List VdevRow). metaslabs_in v) (c.as_slice.ensures ∙ ap (λ (l : Layout). l.vdevs) c.layout.ensures.layout ∙ sym c.layout.ensures.table.vdevs) in
    subst (λ (t : Table). c.loop-number.number < metaslabs_in t.vdevs) (sym c.loop-number.invariant.table) (omega (arith, many, c.loop-number-test.true))

pub returns-in_err-write_metaslab-clause-damaged : goal.returns-in_err-write_metaslab-clause-damaged
returns-in_err-write_metaslab-clause-damaged g c = λ tells.
    let was = c.loop-number.invariant in
    part_damaged _ _ _ _ _ _ _ _ was.table was.rests c.write_metaslab.ensures.damaged was.sound c.in_err-write_metaslab.was c.from_residual.ensures.1 tells

pub returns-in_err-write_metaslab-clause-rests : goal.returns-in_err-write_metaslab-clause-rests
returns-in_err-write_metaslab-clause-rests g c = λ tells. let quiet = c.loop-number.invariant.rests tells in rests_then _ _ _ quiet (c.write_metaslab.ensures.rests quiet.tells)

pub returns-in_err-write_metaslab-clause-faults : goal.returns-in_err-write_metaslab-clause-faults
returns-in_err-write_metaslab-clause-faults g c =
    let was = c.loop-number.invariant in
    part_faulted _ _ _ _ _ _ _ _ _ was.steady was.shown.2.steady c.write_metaslab.ensures.faults c.in_err-write_metaslab.was c.from_residual.ensures.1

pub loop-number-preserved : goal.loop-number-preserved
loop-number-preserved g c =
    let was = c.loop-number.invariant in
    let table = c.args.store.now.table in
    let old = g.D.Disk.state c.args.store.now.disk in
    let mid = g.D.Disk.state c.loop-number.store.disk in
    let number = c.loop-number.number in
    let one = at_ok _ _ c.in_ok-write_metaslab.was c.write_metaslab.ensures.shown in
    let here : IsShown mid table number one.0 = subst (λ (t : Table). IsShown mid t number one.0) was.table one.1 in
    let faults = c.write_metaslab.ensures.faults in
    record {
      shown = (
        was.shown.0 ++ one.0 ∷ [],
        more_shown old table number was.shown.0 one.0 was.shown.1 (shown_before old mid table number one.0 was.rests here),
        took_more _ _ _ _ _ _ _ _ was.shown.2 one.2 c.in_ok-write_metaslab.was
            (flat_map-append metaslab_text was.shown.0 (one.0 ∷ []) ∙ ap (λ (l : List ℕ). flat_map metaslab_text was.shown.0 ++ l) (append-nil (metaslab_text one.0))),
      );
      sound = part_sound old mid table c.loop-number.store.table number was.table was.rests (λ tells. at_ok _ _ c.in_ok-write_metaslab.was (c.write_metaslab.ensures.sound tells)) was.sound;
      layout = c.write_metaslab.ensures.layout ∙ was.layout;
      table = c.write_metaslab.ensures.table ∙ was.table;
      rests = λ tells. let quiet = was.rests tells in rests_then old mid _ quiet (c.write_metaslab.ensures.rests quiet.tells);
      steady = faults.device_steady (λ e. no_err _ _ _ c.in_ok-write_metaslab.was e) ∙ was.steady;
    }

pub returns-clause-shown : goal.returns-clause-shown
returns-clause-shown g c =
    let many : c.metaslab_count-count.result ≡ metaslabs_in c.args.store.now.table.vdevs =
    c.metaslab_count-count.ensures ∙ ap (λ (v : List VdevRow). metaslabs_in v) (c.as_slice.ensures ∙ ap (λ (l : Layout). l.vdevs) c.layout.ensures.layout ∙ sym c.layout.ensures.table.vdevs) in
    let all : c.loop-number.number ≡ metaslabs_in c.args.store.now.table.vdevs = omega (arith, many, c.loop-number-test.false, c.loop-number.auto.number-end) in
    let was = c.loop-number.invariant in (
      was.shown.0,
      subst (λ (n : ℕ). AreShown (g.D.Disk.state c.args.store.now.disk) c.args.store.now.table n was.shown.0) all was.shown.1,
      prints_all _ _ _ _ tt was.shown.2 refl,
    )

pub returns-clause-faults : goal.returns-clause-faults
returns-clause-faults g c = let was = c.loop-number.invariant in none_faulted _ _ _ _ was.steady was.shown.2.steady
