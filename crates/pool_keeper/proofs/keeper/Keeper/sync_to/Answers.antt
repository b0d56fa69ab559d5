use Rattle.std.proofs.Common.{◌≤◌, [], ℕ, sym, ◌∙◌, ap, subst}
use Rattle.ms_cell.specs.Passes.{Passes}
use Rattle.ms_cell.specs.Journey.{Journey}
use Rattle.ms_cell.proofs.JournalLaws.{no_journey}
use Rattle.pool_keeper.proofs.Told.{settled_lower}
use Rattle.pool_keeper.specs.Keeper.{IsOf}
use Rattle.pool_keeper.proofs.Sound.{closed_later}
use Rattle.pool_keeper.proofs.keeper.Keeper.sync_to.Goals as goal

pub hear_all-requires-clause-of : goal.hear_all-requires-clause-of
hear_all-requires-clause-of g c = subst (λ x. IsOf c.args.cells.now x.start) (sym c.make_room.ensures.rest) c.requires.of

pub commit_to-requires-clause-of : goal.commit_to-requires-clause-of
commit_to-requires-clause-of g c = subst (λ s. IsOf c.args.cells.now s) (sym (ap (λ x. x.start) c.hear_all.ensures.rest ∙ ap (λ x. x.start) c.make_room.ensures.rest)) c.requires.of

pub commit_to-requires-clause-closed : goal.commit_to-requires-clause-closed
commit_to-requires-clause-closed g c = closed_later c.args.cells.now.opened c.args.group.0 c.args.passes.now.gate.seen c.hear_all.new.self.passes.gate.seen c.hear_all.ensures.gate c.requires.closed

pub returns-in-Some-clause-passes : goal.returns-in-Some-clause-passes
returns-in-Some-clause-passes g c = no_journey c.args.lane c.args.cells.now c.args.passes.now c.requires.seated

pub returns-then-is_err-clause-passes : goal.returns-then-is_err-clause-passes
returns-then-is_err-clause-passes g c = no_journey c.args.lane c.args.cells.now c.args.passes.now c.requires.seated

pub returns-in-Ok-None-clause-settled : goal.returns-in-Ok-None-clause-settled
returns-in-Ok-None-clause-settled g c =
    let reached = c.in-Ok-None.ensures.reached c.in-Ok-None.field-0-is in
    let same = ap (λ x. x.store.table.group.0) c.note_synced-note.ensures.rest in
    settled_lower c.args.cells.now c.args.group.0 c.note_synced-note.new.self.store.table.group.0 c.tell_all.new.passes (subst (λ (n : ℕ). c.args.group.0 ≤ n) (sym same) reached) c.tell_all.ensures.settled

pub returns-in-Ok-Some-clause-passes : goal.returns-in-Ok-Some-clause-passes
returns-in-Ok-Some-clause-passes g c = subst (λ (p : Passes). Journey c.args.lane [] c.args.passes.now p) (sym c.hear_all.ensures.passes) (no_journey c.args.lane c.args.cells.now c.args.passes.now c.requires.seated)

pub returns-in-Err-clause-passes : goal.returns-in-Err-clause-passes
returns-in-Err-clause-passes g c = subst (λ (p : Passes). Journey c.args.lane [] c.args.passes.now p) (sym c.hear_all.ensures.passes) (no_journey c.args.lane c.args.cells.now c.args.passes.now c.requires.seated)
