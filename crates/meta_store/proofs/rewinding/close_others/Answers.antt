use Rattle.std.proofs.Common.{◌≡◌, ◌+◌, ◌%◌, ◌<◌, ◌≤◌, inl, ℕ, List, Option, Some, None, length, get_or, refl, sym, ◌∙◌, ap, subst, arith}
use Rattle.std.specs.Prelude.{is_some, count_by}
use Rattle.zms_dev.proofs.Moments.{joined}
use Rattle.zms_dev.proofs.Sparing.{spares_none, spares_then}
use Rattle.zms_units.specs.declared.segments.Group.{Group}
use Rattle.uber_ring.specs.declared.slot.Uber.{Uber}
use Rattle.meta_store.specs.Rewinds.{IsRewinding, IsTurned, IsTurning, ArePlaced, HasClosed, IsNoGate, others_in}
use Rattle.meta_store.proofs.LastGroup.{adds_none, adds_then, turned_started, turned_last}
use Rattle.meta_store.proofs.SlotGroups.{entry_placed, placed_struck, struck_fewer}
use Rattle.meta_store.proofs.RewindEnds.{others_struck, no_others, closed_more}
use Rattle.meta_store.proofs.rewinding.close_others.Goals as goal

pub loop-group-init : goal.loop-group-init
loop-group-init g c =
    let disk = g.D.Disk.state c.args.disk.now in
    record {
      len = c.requires.len;
      placed = c.requires.placed;
      run = λ uber start is long turned. turned_started uber start disk c.args.groups.now (g.met.D.Disk.only_now c.args.disk.now) turned;
      turned = λ uber start is long turned. turned;
      tells = λ tells. tells;
      flushes = λ tells. adds_none disk disk refl;
      closed = λ tells. (0, (omega arith, inl (refl, refl)));
      spares = λ tells. spares_none IsNoGate disk tells (g.met.D.Disk.only_now c.args.disk.now);
      steady = refl;
    }

pub loop-group-preserved : goal.loop-group-preserved
loop-group-preserved g c =
    let was = c.loop-group.invariant in
    let groups = c.loop-group.groups in
    let group = c.in-Some.group in
    let some = c.in-Some.ensures.some in
    let old = g.D.Disk.state c.args.disk.now in
    let mid = g.D.Disk.state c.loop-group.disk in
    let new = g.D.Disk.state c.turn.new.disk in
    let entry : get_or groups (group.0 % 128) None ≡ Some group = entry_placed groups 128 some.1.0 group was.placed (omega (arith, was.len, some.1.1.0)) some.1.1.1 in
    let struck = c.in_ok-turn.ensures.struck in
    let turning : (uber : Uber) (start : List ℕ) → uber.group ≡ c.args.opened → 135168 ≤ length start → IsTurned uber start old c.args.groups.now → IsTurning uber start mid groups group =
    λ uber start is long turned. record { turned = was.turned uber start is long turned; long = long; other = λ e. some.0 (e ∙ is); entry = entry } in
    record {
      len = c.turn.auto.groups ∙ was.len;
      placed = subst (λ (gs : List (Option Group)). ArePlaced gs 128) (sym struck) (placed_struck groups (group.0 % 128) 128 (omega (arith, was.len)) was.placed);
      run = λ uber start is long turned. joined old mid new (IsRewinding uber start) (was.run uber start is long turned) (c.turn.ensures.any_moment uber start (turning uber start is long turned));
      turned = λ uber start is long turned. c.in_ok-turn.ensures.turned uber start (turning uber start is long turned);
      tells = λ tells. c.turn.ensures.tells (was.tells tells);
      flushes = λ tells. adds_then old mid new (was.flushes tells) (c.turn.ensures.flushes (was.tells tells));
      closed = λ tells.
          let so_far = was.closed tells in
          let fewer : others_in c.turn.new.groups c.args.opened + 1 ≡ others_in groups c.args.opened =
          ap (λ (gs : List (Option Group)). others_in gs c.args.opened + 1) struck ∙ others_struck c.args.opened groups (group.0 % 128) group some.0 (omega (arith, was.len)) entry in
          (so_far.0 + 1, (omega (arith, fewer, so_far.1.0), closed_more so_far.0 old mid new so_far.1.1 (c.in_ok-turn.ensures.noted (was.tells tells))));
      spares = λ tells. spares_then IsNoGate old mid new (was.spares tells) (c.turn.ensures.spares (was.tells tells));
      steady = c.in_ok-turn.ensures.cause.steady ∙ was.steady;
    }

pub loop-group-smaller : goal.loop-group-smaller
loop-group-smaller g c =
    let was = c.loop-group.invariant in
    let groups = c.loop-group.groups in
    let group = c.in-Some.group in
    let some = c.in-Some.ensures.some in
    let entry : get_or groups (group.0 % 128) None ≡ Some group = entry_placed groups 128 some.1.0 group was.placed (omega (arith, was.len, some.1.1.0)) some.1.1.1 in
    subst (λ (gs : List (Option Group)). count_by is_some gs < count_by is_some groups) (sym c.in_ok-turn.ensures.struck) (struck_fewer groups (group.0 % 128) group (omega (arith, was.len)) entry)

pub returns-in_err-turn-clause-any_moment : goal.returns-in_err-turn-clause-any_moment
returns-in_err-turn-clause-any_moment g c uber start is long turned =
    let was = c.loop-group.invariant in
    let groups = c.loop-group.groups in
    let group = c.in-Some.group in
    let some = c.in-Some.ensures.some in
    let entry : get_or groups (group.0 % 128) None ≡ Some group = entry_placed groups 128 some.1.0 group was.placed (omega (arith, was.len, some.1.1.0)) some.1.1.1 in
    joined (g.D.Disk.state c.args.disk.now) (g.D.Disk.state c.loop-group.disk) (g.D.Disk.state c.turn.new.disk) (IsRewinding uber start) (was.run uber start is long turned)
    (c.turn.ensures.any_moment uber start (record { turned = was.turned uber start is long turned; long = long; other = λ e. some.0 (e ∙ is); entry = entry }))

pub returns-in_err-turn-clause-flushes : goal.returns-in_err-turn-clause-flushes
returns-in_err-turn-clause-flushes g c tells =
    let was = c.loop-group.invariant in
    adds_then (g.D.Disk.state c.args.disk.now) (g.D.Disk.state c.loop-group.disk) (g.D.Disk.state c.turn.new.disk) (was.flushes tells) (c.turn.ensures.flushes (was.tells tells))

pub returns-clause-done : goal.returns-clause-done
returns-clause-done g c uber start is long turned =
    let was = c.loop-group.invariant in
    turned_last uber start (g.D.Disk.state c.loop-group.disk) c.loop-group.groups was.len (was.turned uber start is long turned) (λ k group lt entry. c.in_default.ensures.none k group lt entry ∙ sym is)

pub returns-in_err-turn-clause-spares : goal.returns-in_err-turn-clause-spares
returns-in_err-turn-clause-spares g c tells =
    let was = c.loop-group.invariant in
    spares_then IsNoGate (g.D.Disk.state c.args.disk.now) (g.D.Disk.state c.loop-group.disk) (g.D.Disk.state c.turn.new.disk) (was.spares tells) (c.turn.ensures.spares (was.tells tells))

pub returns-clause-closed : goal.returns-clause-closed
returns-clause-closed g c tells =
    let was = c.loop-group.invariant in
    let so_far = was.closed tells in
    let none : others_in c.loop-group.groups c.args.opened ≡ 0 = no_others c.args.opened c.loop-group.groups c.in_default.ensures.none in
    subst (λ (n : ℕ). HasClosed n (g.D.Disk.state c.args.disk.now) (g.D.Disk.state c.loop-group.disk)) (omega (arith, none, so_far.1.0)) so_far.1.1
