use Rattle.std.proofs.Common.{◌<◌, ℕ, [], length, refl, sym, ◌∙◌, subst, arith}
use Rattle.turn_cell.specs.Notes.{IsPrefix}
use Rattle.vdev_map.specs.Numbers.{number_of}
use Rattle.ms_cell.specs.Passes.{Passes, Seated, seen_in}
use Rattle.ms_cell.proofs.JournalLaws.{no_journey, journeys_join, stays_seated}
use Rattle.pool_keeper.proofs.Told.{told_more, grows_calm}
use Rattle.pool_keeper.proofs.telling.tell_metaslabs.Goals as goal

pub loop-number-init : goal.loop-number-init
loop-number-init g c = record { from = refl; to = λ right seated. no_journey right c.args.cells.now c.args.to.now seated; knows = λ k lt. absurd (omega arith) }

pub id_at-requires : goal.id_at-requires
id_at-requires g c = omega (arith, c.loop-number-test.true, c.count_of-number-end.ensures.count)

pub tell_at-requires-clause-from : goal.tell_at-requires-clause-from
tell_at-requires-clause-from g c = (c.requires.from.0, subst (λ (p : Passes). Seated c.requires.from.0 c.args.cells.now p) (sym c.loop-number.invariant.from) c.requires.from.1)

pub tell_at-requires-clause-to : goal.tell_at-requires-clause-to
tell_at-requires-clause-to g c = (c.requires.to.0, stays_seated c.requires.to.0 c.args.cells.now [] c.args.to.now c.loop-number.to c.requires.to.1 (c.loop-number.invariant.to c.requires.to.0 c.requires.to.1))

pub loop-number-preserved : goal.loop-number-preserved
loop-number-preserved g c =
    let seat = stays_seated c.requires.to.0 c.args.cells.now [] c.args.to.now c.loop-number.to c.requires.to.1 (c.loop-number.invariant.to c.requires.to.0 c.requires.to.1) in
    let less : c.loop-number.number < length c.loop-number.to.metaslabs = omega (arith, c.loop-number-test.true, c.count_of-number-end.ensures.count, seat.know.count) in
    let here : ℕ = number_of c.args.cells.now.vdevs c.id_at.result in
    let knows : IsPrefix (seen_in c.args.from.now here) (seen_in c.tell_at.new.to here) = subst (λ (p : Passes). IsPrefix (seen_in p here) (seen_in c.tell_at.new.to here)) c.loop-number.invariant.from c.tell_at.ensures.knows in
    record {
      from = c.tell_at.ensures.from ∙ c.loop-number.invariant.from;
      to = λ right seated.
          journeys_join right [] [] c.args.to.now c.loop-number.to c.tell_at.new.to (c.loop-number.invariant.to right seated)
          (c.tell_at.ensures.to right (stays_seated right c.args.cells.now [] c.args.to.now c.loop-number.to seated (c.loop-number.invariant.to right seated)));
      knows = told_more c.args.from.now c.loop-number.to c.tell_at.new.to c.loop-number.number here c.id_at.ensures.number c.loop-number.invariant.knows (grows_calm c.requires.to.0 _ _ (c.tell_at.ensures.to c.requires.to.0 seat)) less knows;
    }

pub returns-clause-knows : goal.returns-clause-knows
returns-clause-knows g c = λ k lt. c.loop-number.invariant.knows k (omega (arith, c.loop-number-test.false, c.count_of-number-end.ensures.count))
