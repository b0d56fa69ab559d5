use Rattle.std.proofs.Common.{◌≡◌, take, refl, subst}
use Rattle.std.proofs.lemmas.List.{take_all}
use Rattle.ms_model.specs.Legal.{IsLegal}
use Rattle.ms_model.proofs.Histories.{legal_none}
use Rattle.ms_model.proofs.Overlaps.{overlaps_nothing}
use Rattle.ms_model.proofs.Reflecting.{illegal_at, not_legal, next_legal, next_reflects, lies_at}
use Rattle.ms_model.proofs.checking.legal.Goals as goal

pub loop-index-init : goal.loop-index-init
loop-index-init c = record { reflects = c.in_ok-checker.ensures; legal = legal_none _ }

pub returns-then-not-allows-clause-first : goal.returns-then-not-allows-clause-first
returns-then-not-allows-clause-first c =
    illegal_at _ c.args.notes.now c.loop-index.index _ c.loop-index-test.true c.loop-index.invariant.legal
    ((c.if-not-allows.ensures _ _ c.loop-index.invariant.reflects).fails refl)

pub returns-then-not-allows-clause-complete : goal.returns-then-not-allows-clause-complete
returns-then-not-allows-clause-complete c = λ legal.
    absurd (not_legal _ c.args.notes.now c.loop-index.index _ c.loop-index-test.true legal
    ((c.if-not-allows.ensures _ _ c.loop-index.invariant.reflects).fails refl))

pub take_in-requires-clause-within : goal.take_in-requires-clause-within
take_in-requires-clause-within c =
    lies_at _ _ c.loop-index.checker _ _ c.loop-index.invariant.reflects
    ((c.if-not-allows.ensures _ _ c.loop-index.invariant.reflects).holds refl)

pub loop-index-preserved : goal.loop-index-preserved
loop-index-preserved c =
    record {
      reflects = next_reflects _ c.args.notes.now c.loop-index.index _ c.loop-index-test.true c.loop-index.checker c.take_in.new.self c.loop-index.invariant.reflects c.take_in.ensures;
      legal = next_legal _ c.args.notes.now c.loop-index.index _ c.loop-index-test.true c.loop-index.invariant.legal
          ((c.if-not-allows.ensures _ _ c.loop-index.invariant.reflects).holds refl);
    }

pub returns-clause-free : goal.returns-clause-free
returns-clause-free c =
    let all : take c.loop-index.index c.args.notes.now ≡ c.args.notes.now = take_all c.loop-index.index c.args.notes.now c.loop-index-test.false in
    overlaps_nothing _ c.args.notes.now (subst (IsLegal _) all c.loop-index.invariant.legal)
