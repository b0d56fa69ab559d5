use Rattle.std.proofs.Common.{◌≡◌, [], None, refl}
use Rattle.std.specs.Prelude.{false, true}
use Rattle.ms_model.specs.Units.{is_loaded}
use Rattle.vdev_map.specs.Numbers.{number_of}
use Rattle.pool_alloc.specs.Loads.{of_result}
use Rattle.lane_passes.specs.Turns.{AtMetaslab}
use Rattle.pool_keeper.proofs.SyncActs.{at_cells_alone}
use Rattle.lane_run.specs.Acts.{Anything}
use Rattle.lane_run.specs.Answers.{load_answer, load_of, is_done}
use Rattle.lane_run.specs.Lines.{IsLoad, no_such, tried}
use Rattle.lane_run.specs.declared.replies.Answer.TheVariants.{NoSuch}
use Rattle.lane_run.proofs.Acting.{did_along, did_loads, did_nothing, where_told}
use Rattle.lane_run.proofs.Seeing.{placed_acted}
use Rattle.lane_run.proofs.Telling.{placed_told, load_counted}
use Rattle.lane_run.proofs.loads.load_line.Goals as goal

not_so : false ≡ true → ⊥
not_so e = cc

pub returns-then-not-is_in-clause-did : goal.returns-then-not-is_in-clause-did
returns-then-not-is_in-clause-did g c = did_nothing c.args.cells.now c.args._classes.now c.args.passes.now c.args.keeper.now Anything c.requires.seated c.requires.serves tt

pub returns-then-not-is_in-clause-line : goal.returns-then-not-is_in-clause-line
returns-then-not-is_in-clause-line g c =
    did_nothing c.args.cells.now c.args._classes.now c.args.passes.now c.args.keeper.now (λ x es ks. IsLoad c.args.passes.now.lane c.args.id x NoSuch es ks) c.requires.seated c.requires.serves
    (no_such (λ is. not_so (c.if-not-is_in.ensures.1 is)))

pub returns-clause-did : goal.returns-clause-did
returns-clause-did g c =
    let p = c.args.passes.now in
    did_along c.args.cells.now p _ c.args.keeper.now _ c.requires.serves c.load.ensures.follows []
    (at_cells_alone c.args.cells.now c.args._classes.now p c.requires.seated c.load.new.passes c.load.ensures.passes)

pub returns-clause-line : goal.returns-clause-line
returns-clause-line g c =
    let t = c.args.cells.now in
    let p = c.args.passes.now in
    let id = c.args.id in
    let result = c.load.result in
    where_told _ (load_answer result) c.answer_of.result c.answer_of.ensures
    (λ answer told.
    did_loads t p _ c.args.keeper.now _ c.requires.serves c.load.ensures.follows c.requires.low (of_result load_of result) (load_counted result _ _ _ _ c.load.ensures.counts)
    (AtMetaslab (number_of t.vdevs id) (λ o h note. (note ≡ None) × (is_loaded h ≡ is_done result))) (λ x es ks. IsLoad p.lane id x answer es ks)
    (λ es ks x loads. tried result answer es ks told (c.if-not-is_in.ensures.0 refl) x loads)
    (placed_acted t c.args._classes.now p c.requires.seated (is_done result) (number_of t.vdevs id) c.load.new.passes c.load.ensures.passes
    (placed_told result answer (number_of t.vdevs id) p.cells c.load.new.passes told c.load.ensures.loaded)))
