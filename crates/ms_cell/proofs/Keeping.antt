-- The keeper's pass, over a turn that it takes.
use Rattle.std.proofs.Common.{◌≡◌, true, List, sym, ap, ◌∙◌, subst}
use Rattle.turn_cell.specs.Notes.{Owns, StandsFor, notes_at}
use Rattle.turn_cell.specs.Known.{Known, TableId}
use Rattle.turn_cell.specs.Lanes.{Ready}
use Rattle.ms_model.specs.Origin.{Origin}
use Rattle.ms_model.specs.Units.{settled_group, collected_group}
use Rattle.ms_model.specs.Parts.{right_of}
use Rattle.ms_model.specs.declared.notes.Noted.{Noted}
use Rattle.ms_core.specs.State.{MsState, settled_of, collected_of}
use Rattle.ms_cell.specs.Turns.{origin_from}
use Rattle.ms_cell.proofs.Turning.{Stands, origin_is}
use Rattle.ms_core.specs.declared.kept.Standing.{Standing}
use Rattle.ms_cell.proofs.Groups.{owned_same, settled_told, collected_told}

keeper_same : (turn : TableId) (p took : Known Noted Standing) (m : MsState) → Ready right_of 0 turn p → took ≡ record p { seen = m.notes; out = true; tries = took.tries } → Owns right_of took.own took.seen
    → notes_at right_of 0 p.seen ≡ notes_at right_of 0 m.notes
keeper_same turn p took m r takes owns =
    owned_same right_of 0 p.own took.own p.seen m.notes (ap (λ (k : Known Noted Standing). k.own) takes) r.own
    (subst (λ (h : List Noted). Owns right_of took.own h) (ap (λ (k : Known Noted Standing). k.seen) takes) owns)

-- so the groups that it knows are those of the journal
pub keeper_collected : (turn : TableId) (p took : Known Noted Standing) (m : MsState) (o : Origin) → Ready right_of 0 turn p → took ≡ record p { seen = m.notes; out = true; tries = took.tries }
    → Owns right_of took.own took.seen → collected_group o p.seen ≡ collected_group o m.notes
keeper_collected turn p took m o r takes owns = collected_told o p.seen m.notes (keeper_same turn p took m r takes owns)

pub keeper_settled : (turn : TableId) (p took : Known Noted Standing) (m : MsState) (o : Origin) → Ready right_of 0 turn p → took ≡ record p { seen = m.notes; out = true; tries = took.tries }
    → Owns right_of took.own took.seen → settled_group o p.seen ≡ settled_group o m.notes
keeper_settled turn p took m o r takes owns = settled_told o p.seen m.notes (keeper_same turn p took m r takes owns)

module _ (turn : TableId) (p took : Known Noted Standing) (m x : MsState) (same : x ≡ m) (r : Ready right_of 0 turn p) (takes : took ≡ record p { seen = m.notes; out = true; tries = took.tries })
    (owns : Owns right_of took.own took.seen) (stands : StandsFor Stands p.fixed m) where
  pub collected_at : collected_group (origin_from p.fixed) p.seen ≡ collected_of x
  collected_at =
      keeper_collected turn p took m (origin_from p.fixed) r takes owns
      ∙ (ap (λ o. collected_group o m.notes) (sym (origin_is p.fixed m stands)) ∙ ap collected_of (sym same))

  pub settled_at : settled_group (origin_from p.fixed) p.seen ≡ settled_of x
  settled_at =
      keeper_settled turn p took m (origin_from p.fixed) r takes owns
      ∙ (ap (λ o. settled_group o m.notes) (sym (origin_is p.fixed m stands)) ∙ ap settled_of (sym same))
