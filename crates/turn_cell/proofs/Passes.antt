-- What a pass is between two steps.
use Rattle.std.proofs.Common.{◌≡◌, ℕ, zero, suc, true, false, not, List, [], ◌∷◌, ◌++◌, replicate, refl, ap, ◌∙◌, append_assoc, Option, None}
use Rattle.atomic_table.specs.Table.{Me}
use Rattle.turn_cell.specs.Notes.{among}
use Rattle.turn_cell.specs.Known.{Known}
use Rattle.turn_cell.specs.Rule.{is_holding, Carries, IsPass}
use Rattle.turn_cell.specs.Moves.{added, left_of, part_of}
use Rattle.turn_cell.specs.declared.view.View.{View}
use Rattle.turn_cell.specs.declared.view.Stage.{Stage}
use Rattle.turn_cell.specs.declared.view.Stage.TheVariants.{Idle, Holding, Closing}
use Rattle.turn_cell.proofs.Notes.{not_false, Owns-more, Owns-filter}

pub holding : (stage : Stage) → is_holding stage ≡ true → stage ≡ Holding
holding Idle e = absurd (not_false e)
holding Holding e = refl
holding Closing e = absurd (not_false e)

module _ {T : Type 0} where
  pub holds_slot : (stage : Stage) (slots : List (ℕ × Option T)) → is_holding stage ≡ true → Carries stage slots → slots ≡ (0, None) ∷ []
  holds_slot Idle slots e c = absurd (not_false e)
  holds_slot Holding slots e c = c
  holds_slot Closing slots e c = absurd (not_false e)

  pub holds_none : (stage : Stage) (slots : List (ℕ × Option T)) → is_holding stage ≡ false → Carries stage slots → slots ≡ []
  holds_none Idle slots e c = c
  holds_none Holding slots e c = cc
  holds_none Closing slots e c = absurd c

module _ {N F T : Type 0} (right : N → ℕ) (me : Me (Option T) (View N F)) (p : IsPass right me) where
  pub pass_added : (notes : List N) → IsPass {T = T} right (added right notes me.0, me.1)
  pass_added notes = record { live = p.live; whole = Owns-more right me.0.own me.0.seen notes p.whole; carries = p.carries }

  pub pass_left : (gone : List ℕ) → IsPass {T = T} right (left_of gone me.0, me.1)
  pass_left gone = record { live = p.live; whole = Owns-filter right (λ e. not (among gone e.0)) me.0.own me.0.seen p.whole; carries = p.carries }

  pub pass_part : (gone : List ℕ) → IsPass {T = T} right (part_of gone me.0, [])
  pass_part gone = record { live = p.live; whole = Owns-filter right (λ e. among gone e.0) me.0.own me.0.seen p.whole; carries = refl }

replicate-last : (k : ℕ) → ◌++◌ {A = ℕ} (replicate k 1) (1 ∷ []) ≡ replicate (suc k) 1
replicate-last zero = refl
replicate-last (suc k) = ap (λ (l : List ℕ). 1 ∷ l) (replicate-last k)

-- one more try that found the lock taken
pub one_more_miss : {N F : Type 0} (p q r : Known N F) (k : ℕ) → q ≡ record p { tries = p.tries ++ replicate k 1 } → r ≡ record q { tries = q.tries ++ 1 ∷ [] } → r ≡ record p { tries = p.tries ++ replicate (suc k) 1 }
one_more_miss {N} {F} p q r k before now =
    now ∙ (ap (λ (x : Known N F). record x { tries = x.tries ++ 1 ∷ [] }) before ∙ ap (λ (l : List ℕ). record p { tries = l }) (append_assoc p.tries (replicate k 1) (1 ∷ []) ∙ ap (λ (l : List ℕ). p.tries ++ l) (replicate-last k)))
