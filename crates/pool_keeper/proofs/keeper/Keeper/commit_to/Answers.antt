use Rattle.std.proofs.Common.{◌≡◌, ◌+◌, ◌<◌, ◌++◌, Some, refl, sym, ap, ◌∙◌, subst, arith}
use Rattle.std.specs.Prelude.{vec_len, vec_capacity}
use Rattle.lane_steps.proofs.Steps.{prefix_whole, prefix_trans}
use Rattle.zms_units.specs.declared.segments.Group.{Group}
use Rattle.std.proofs.lemmas.List.{append-nil}
use Rattle.pool_keeper.specs.Notes.{noted}
use Rattle.pool_keeper.specs.Keeper.{IsOf}
use Rattle.pool_keeper.proofs.Sound.{closed_later, closed_lower}
use Rattle.pool_keeper.proofs.keeper.Keeper.commit_to.Goals as goal

pub groups-init : goal.groups-init
groups-init g c = record { sound = c.requires.sound; start = refl; idle = c.requires.idle; notes = refl; later = prefix_whole c.args.self.now.passes.gate.seen }

pub commit_next-requires-clause-of : goal.commit_next-requires-clause-of
commit_next-requires-clause-of g c = subst (λ s. IsOf c.args.cells.now s) (sym c.groups.invariant.start) c.requires.of

pub commit_next-requires-clause-closed : goal.commit_next-requires-clause-closed
commit_next-requires-clause-closed g c =
    let is : c.group.result.0 ≡ c.groups.self.store.table.group.0 = ap (λ (x : Group). x.0) c.group.ensures.group in
    closed_lower c.args.cells.now.opened (c.groups.self.store.table.group.0 + 1) c.args.group.0 c.groups.self.passes.gate.seen (omega (arith, is, c.groups-test.true))
    (closed_later c.args.cells.now.opened c.args.group.0 c.args.self.now.passes.gate.seen c.groups.self.passes.gate.seen c.groups.invariant.later c.requires.closed)

pub commit_next-requires-clause-small : goal.commit_next-requires-clause-small
commit_next-requires-clause-small g c =
    let is : c.group.result.0 ≡ c.groups.self.store.table.group.0 = ap (λ (x : Group). x.0) c.group.ensures.group in
    omega (arith, is, c.groups-test.true, c.requires.small)

pub commit_next-requires-clause-room : goal.commit_next-requires-clause-room
commit_next-requires-clause-room g c = subst (λ v. vec_len v < vec_capacity v) (sym c.groups.invariant.notes) c.requires.room

pub groups-preserved : goal.groups-preserved
groups-preserved g c =
    let did = c.in-Ok-None.ensures in
    let idle = did.first ∙ c.in-Ok-None.field-0-is in
    record {
      sound = did.sound;
      start = did.start ∙ c.groups.invariant.start;
      idle = idle;
      notes = did.room idle ∙ c.groups.invariant.notes;
      later = prefix_trans _ _ _ c.groups.invariant.later did.later;
    }

pub groups-smaller : goal.groups-smaller
groups-smaller g c =
    let next = rw c.in-Ok-None.field-0-is at c.in-Ok-None.ensures.group in
    let is : c.group.result.0 ≡ c.groups.self.store.table.group.0 = ap (λ (x : Group). x.0) c.group.ensures.group in
    omega (arith, is, next, c.groups-test.true)

pub returns-in-Ok-Some-clause-start : goal.returns-in-Ok-Some-clause-start
returns-in-Ok-Some-clause-start g c = c.in-Ok-Some.ensures.start ∙ c.groups.invariant.start

pub returns-in-Ok-Some-clause-notes : goal.returns-in-Ok-Some-clause-notes
returns-in-Ok-Some-clause-notes g c =
    let did = rw c.in-Ok-Some.field-0-is at c.in-Ok-Some.ensures.notes in
    did ∙ ap (λ v. v.items ++ noted c.args.lane (Some c.in-Ok-Some.first)) c.groups.invariant.notes

pub returns-in-Ok-Some-clause-later : goal.returns-in-Ok-Some-clause-later
returns-in-Ok-Some-clause-later g c = prefix_trans _ _ _ c.groups.invariant.later c.in-Ok-Some.ensures.later

pub returns-in-Err-clause-start : goal.returns-in-Err-clause-start
returns-in-Err-clause-start g c = c.in-Err.ensures.start ∙ c.groups.invariant.start

pub returns-in-Err-clause-later : goal.returns-in-Err-clause-later
returns-in-Err-clause-later g c = prefix_trans _ _ _ c.groups.invariant.later c.in-Err.ensures.later

pub returns-in-Err-clause-err : goal.returns-in-Err-clause-err
returns-in-Err-clause-err g c = (c.in-Err.ensures.err.0, c.in-Err.ensures.err.1.0 ∙ c.groups.invariant.notes)

pub returns-clause-notes : goal.returns-clause-notes
returns-clause-notes g c = ap (λ v. v.items) c.groups.invariant.notes ∙ sym (append-nil c.args.self.now.notes.items)

pub returns-clause-reached : goal.returns-clause-reached
returns-clause-reached g c = λ none.
    let is : c.group.result.0 ≡ c.groups.self.store.table.group.0 = ap (λ (x : Group). x.0) c.group.ensures.group in
    omega (arith, is, c.groups-test.false)
