use Rattle.std.proofs.Common.{◌≡◌, ◌+◌, ◌∙◌, ℕ, length, refl, sym, ap, subst, arith}
use Rattle.lane_steps.proofs.Steps.{prefix_whole, prefix_trans}
use Rattle.ms_cell.specs.GateAnswers.{IsClosedBefore}
use Rattle.pool_keeper.specs.Keeper.{IsOf}
use Rattle.pool_keeper.proofs.Sound.{places, closed_later}
use Rattle.pool_keeper.proofs.keeper.Keeper.gather.Goals as goal

pub loop-number-init : goal.loop-number-init
loop-number-init g c =
    let at : length c.args.self.now.gathered.items ≡ c.len-number.result = sym (c.len-number.ensures ∙ c.args.self.now.gathered.ok.0) in
    let all = places g.D.Disk.state g.D.Disk.faults c.args.cells.now c.args.self.now c.requires.of c.requires.sound in
    record {
      sound = c.requires.sound;
      start = refl;
      store = refl;
      first = refl;
      notes = refl;
      later = prefix_whole c.args.self.now.passes.gate.seen;
      at = at;
      few = omega (arith, at, all, c.requires.sound.gathered.few);
    }

pub gather_one-requires-clause-some : goal.gather_one-requires-clause-some
gather_one-requires-clause-some g c = omega (arith, c.loop-number.invariant.at, c.loop-number-test.true, c.count_of-number-end.ensures.count)

pub gather_one-requires-clause-of : goal.gather_one-requires-clause-of
gather_one-requires-clause-of g c = subst (λ s. IsOf c.args.cells.now s) (sym c.loop-number.invariant.start) c.requires.of

pub gather_one-requires-clause-closed : goal.gather_one-requires-clause-closed
gather_one-requires-clause-closed g c =
    let group : c.loop-number.self.store.table.group.0 ≡ c.args.self.now.store.table.group.0 = ap (λ s. s.table.group.0) c.loop-number.invariant.store in
    subst (λ (n : ℕ). IsClosedBefore c.args.cells.now.opened (n + 1) c.loop-number.self.passes.gate.seen) (sym group)
    (closed_later c.args.cells.now.opened _ c.args.self.now.passes.gate.seen c.loop-number.self.passes.gate.seen c.loop-number.invariant.later c.requires.closed)

pub loop-number-preserved : goal.loop-number-preserved
loop-number-preserved g c =
    let did = c.gather_one.ensures in
    record {
      sound = did.sound;
      start = did.start ∙ c.loop-number.invariant.start;
      store = did.store ∙ c.loop-number.invariant.store;
      first = did.first ∙ c.loop-number.invariant.first;
      notes = did.notes ∙ c.loop-number.invariant.notes;
      later = prefix_trans _ _ _ c.loop-number.invariant.later did.later;
      at = c.in_ok-gather_one.ensures.gathered ∙ ap (λ (n : ℕ). n + 1) c.loop-number.invariant.at;
      few = omega (arith, c.loop-number-test.true, c.count_of-number-end.ensures.count);
    }

pub returns-clause-gathered : goal.returns-clause-gathered
returns-clause-gathered g c = omega (arith, c.loop-number.invariant.at, c.loop-number.invariant.few, c.loop-number-test.false, c.count_of-number-end.ensures.count)
