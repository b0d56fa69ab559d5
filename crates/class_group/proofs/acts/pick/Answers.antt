use Rattle.std.proofs.Common.{ℕ, Option, Some, ◌++◌, sym, ap, ◌∙◌}
use Rattle.std.specs.Option.{option_to_list}
use Rattle.ms_model.specs.declared.notes.ClassNote.TheVariants.{Pick}
use Rattle.ms_model.specs.declared.notes.Got.{Got}
use Rattle.class_model.specs.Replay.{LaneNote}
use Rattle.class_model.specs.Legal.{allocator_of}
use Rattle.class_core.specs.Classes.{ClassState}
use Rattle.class_group.proofs.acts.pick.Goals as goal

pub returns-in-Ok-clause-answer : goal.returns-in-Ok-clause-answer
returns-in-Ok-clause-answer c = record {
  noted =
      ap (λ (a : ℕ). Some (c.args.lane, Pick a c.args.kind c.args.vdev c.args.bytes c.args.start c.got_of.result)) c.allocator.ensures.value
      ∙ ap (λ (g : Option Got). Some (c.args.lane, Pick (allocator_of c.args.lane) c.args.kind c.args.vdev c.args.bytes c.args.start g)) c.got_of.ensures;
  answer = c.in-Ok.ensures.picked;
}

pub returns-in-Ok-clause-notes : goal.returns-in-Ok-clause-notes
returns-in-Ok-clause-notes c =
    let same =
    ap (λ (a : ℕ). Some (c.args.lane, Pick a c.args.kind c.args.vdev c.args.bytes c.args.start c.got_of.result)) c.allocator.ensures.value
    ∙ ap (λ (g : Option Got). Some (c.args.lane, Pick (allocator_of c.args.lane) c.args.kind c.args.vdev c.args.bytes c.args.start g)) c.got_of.ensures in
    ap (λ (s : ClassState). s.notes) c.in-Ok.ensures.noted ∙ ap (λ (o : Option LaneNote). c.args.cell.now.notes ++ option_to_list o) (sym same)

pub returns-in-Ok-clause-origin : goal.returns-in-Ok-clause-origin
returns-in-Ok-clause-origin c = ap (λ (s : ClassState). s.origin) c.in-Ok.ensures.noted
