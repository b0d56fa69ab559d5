use Rattle.std.proofs.Common.{◌≤◌, List, sym, ap, subst, ◌∙◌}
use Rattle.std.specs.List.{All}
use Rattle.turn_cell.specs.Notes.{Ends}
use Rattle.turn_cell.specs.declared.kept.TheConstants.{MAX_RIGHT}
use Rattle.class_model.specs.Replay.{LaneNote}
use Rattle.class_model.specs.Legal.{IsClassLegal}
use Rattle.class_model.specs.declared.origin.ClassOrigin.{ClassOrigin}
use Rattle.class_group.specs.Passes.{right_of}
use Rattle.class_group.proofs.Turning.{origin_is}
use Rattle.class_group.proofs.closing.close_class.Goals as goal

pub returns : goal.returns
returns g c =
    let x = c.close_turn.result in
    let closed = c.close_turn.ensures in
    let journal = c.into_journal.ensures in
    let is = origin_is c.args.pass.fixed x closed.stands in
    let same = sym journal.notes in
    record {
      class = journal.class ∙ ap (λ (o : ClassOrigin). o.class) is;
      legal = subst (λ (o : ClassOrigin). IsClassLegal o c.into_journal.result.notes) is (subst (λ (h : List LaneNote). IsClassLegal x.origin h) same journal.legal);
      ends = subst (λ (h : List LaneNote). Ends right_of c.args.pass.own c.args.pass.seen h) same closed.ends;
      rights = subst (λ (h : List LaneNote). All (λ n. right_of n ≤ MAX_RIGHT) h) same closed.rights;
    }
