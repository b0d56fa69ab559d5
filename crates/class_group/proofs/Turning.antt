-- One turn over one pass: what was taken, what was given back, and what the pass then knows.
use Rattle.std.proofs.Common.{◌≡◌, ℕ, true, false, ◌++◌, sym, ap, ◌∙◌, subst, Option, Some, None}
use Rattle.std.specs.Prelude.{IfSome}
use Rattle.std.specs.Option.{option_to_list}
use Rattle.turn_cell.specs.Notes.{Owns, IsPrefix, StandsFor, with_notes}
use Rattle.turn_cell.specs.Known.{TableId}
use Rattle.turn_cell.specs.Lanes.{Ready}
use Rattle.turn_cell.proofs.Lanes.{turned}
use Rattle.class_model.specs.Replay.{LaneNote}
use Rattle.class_model.specs.declared.origin.ClassOrigin.{ClassOrigin}
use Rattle.class_core.specs.Classes.{ClassState}
use Rattle.class_group.specs.Turns.{origin_from}
use Rattle.class_group.specs.Passes.{ClassKnown, right_of}
use Rattle.class_group.specs.Journey.{TurnedOne}

-- a class stands for what its pass says
abbrev pub Stands : ClassOrigin → ClassState → Type 0
Stands f c = c.origin ≡ f

pub origin_is : (fixed : Option ClassOrigin) (c : ClassState) → StandsFor Stands fixed c → c.origin ≡ origin_from fixed
origin_is None c s = absurd s
origin_is (Some f) c s = s

-- a holder took the turn, changed the class through a loan of it as the note says, and gave it back
pub turned_by : (right : ℕ) (turn : TableId) (Answer : ClassState → Option LaneNote → Type 0) (p took q : ClassKnown) (m x n : ClassState) (note : Option LaneNote) → x ≡ m
    → Ready right_of right turn p → took ≡ record p { seen = m.notes; out = true; tries = took.tries } → IsPrefix p.seen m.notes → Owns right_of took.own took.seen
    → StandsFor Stands p.fixed m → q ≡ record took { seen = n.notes; own = with_notes right_of (option_to_list note) took.own; out = false }
    → n.notes ≡ x.notes ++ option_to_list note → IfSome note (λ y. right_of y ≡ right) → Answer x note → TurnedOne right Answer p q
turned_by right turn Answer p took q m x n note same r takes begins owns stands gives is own answer =
    let was : x ≡ record { origin = origin_from p.fixed; notes = m.notes } = same ∙ ap (λ (o : ClassOrigin). record { origin = o; notes = m.notes }) (origin_is p.fixed m stands) in
    record {
      before = m.notes;
      note = note;
      went = turned right_of right turn p took q m.notes n.notes took.tries note r takes begins owns gives (is ∙ ap (λ (c : ClassState). c.notes ++ option_to_list note) same) own;
      answer = subst (λ (c : ClassState). Answer c note) was answer;
    }

-- what the pass says of the class holds of the class that was taken
pub told_of : (P : ClassOrigin → Type 0) (fixed : Option ClassOrigin) (m x : ClassState) → x ≡ m → StandsFor Stands fixed m → P (origin_from fixed) → P x.origin
told_of P fixed m x same stands p = subst (λ (c : ClassState). P c.origin) (sym same) (subst P (sym (origin_is fixed m stands)) p)
