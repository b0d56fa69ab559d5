use Rattle.std.proofs.Common.{arith, refl}
use Rattle.pool_keeper.specs.Syncs.{SyncLine}
use Rattle.lane_run.specs.Acts.{LaneDid}
use Rattle.lane_run.specs.Answers.{sync_answer}
use Rattle.lane_run.specs.Lines.{IsSync, SeenLine}
use Rattle.lane_run.proofs.Acting.{did_seated, did_then, spared, where_told}
use Rattle.lane_run.proofs.Seeing.{seen_acted}
use Rattle.lane_run.proofs.SyncClosings.{one_sync}
use Rattle.lane_run.proofs.syncs.sync_line.Goals as goal

pub returns-clause-line : goal.returns-clause-line
returns-clause-line g c =
    let t = c.args.cells.now in
    let p = c.args.passes.now in
    let q = c.sync.new.passes in
    let result = c.sync.result in
    let done = c.sync.ensures.done in
    let did : LaneDid t (λ x es ks. SyncLine p.lane x result es ks) p q c.args.keeper.now c.sync.new.keeper =
    record { steps = done.steps; acted = done.acted; went = done.went; turn = done.turn; lane_is = done.lane_is } in
    let seated = did_seated t p q c.args.keeper.now c.sync.new.keeper c.args.classes.now _ c.requires.seated did in
    where_told _ (sync_answer result) c.answer_of.result c.answer_of.ensures
    (λ answer told.
    did_then t (λ x es ks. SyncLine p.lane x result es ks) (IsSync p.lane answer) (SeenLine result) p q q c.args.keeper.now c.sync.new.keeper
    (λ es fs ks x y. record { result = result; told = told; turns = record { one = es; two = fs; whole = refl; first = x; second = y } })
    did (seen_acted t c.args.classes.now q seated result c.requires.serves.of.count c.sync.ensures.settled))

pub returns-clause-spared : goal.returns-clause-spared
returns-clause-spared g c =
    let done = c.sync.ensures.done in
    where_told _ (sync_answer c.sync.result) c.answer_of.result c.answer_of.ensures
    (λ answer told.
    spared c.args.cells.now c.args.passes.now c.sync.new.passes c.args.keeper.now c.sync.new.keeper done.acted.events done.acted.journey (one_sync _ _ c.sync.result done.acted.events done.steps done.acted.fact)
    (omega (arith, done.count)))
