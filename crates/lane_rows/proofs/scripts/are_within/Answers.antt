use Rattle.std.proofs.Common.{◌≡◌, ℕ, ◌<◌, get_or, sym, subst, arith, ⊎_elim}
use Rattle.std.proofs.Math.Nat.{eq-or-lt_of_le}
use Rattle.std.proofs.lemmas.Option.{get_or_from_slice_get}
use Rattle.turn_passes.proofs.Pairs.{read_at}
use Rattle.pool_lanes.specs.Lanes.{IsCommandWithin}
use Rattle.lane_rows.proofs.scripts.are_within.Goals as goal

pub loop-command-preserved : goal.loop-command-preserved
loop-command-preserved c = λ k d lt.
    let commands = c.args.commands.now in
    let item = c.command-item.result in
    let is : IsCommandWithin c.args.lanes item = record { least = omega (arith, c.if-command-lt1.false); most = omega (arith, c.if-command-lanes.false); what = c.is_run.ensures c.if-not-is_run.false } in
    let at = read_at commands c.loop-command.command-index item c.loop-command-test.true c.command-item.is in
    ⊎_elim
    (λ (t : k ≡ c.loop-command.command-index).
    subst (λ (n : ℕ). IsCommandWithin c.args.lanes (get_or commands n d)) (sym t)
    (subst (IsCommandWithin c.args.lanes) (sym (get_or_from_slice_get commands c.loop-command.command-index item d at)) is))
    (λ (t : k < c.loop-command.command-index). c.loop-command.invariant k d t)
    (eq-or-lt_of_le (omega (arith, lt)))

pub returns : goal.returns
returns c = λ yes k d lt. c.loop-command.invariant k d (omega (arith, lt, c.loop-command.auto.command-index-end, c.loop-command-test.false))
