-- What a holder that has seen a beginning of a journal knows of its groups: the keeper the settled and the collected one, each
-- holder that the settled one never falls.
use Rattle.std.proofs.Common.{◌≡◌, ℕ, ◌≤◌, ◌+◌, true, false, Bool, cond, List, [], ◌∷◌, ◌++◌, refl, sym, ap, ◌∙◌, subst, append_assoc, arith}
use Rattle.std.specs.Prelude.{◌==◌}
use Rattle.std.specs.List.{fold}
use Rattle.std.proofs.lemmas.List.{append-nil}
use Rattle.turn_cell.specs.Notes.{Own, Owns, notes_at, IsPrefix}
use Rattle.ms_model.specs.Origin.{Origin}
use Rattle.ms_model.specs.Units.{settled_by, settled_group, collected_by, collected_group}
use Rattle.ms_model.specs.Parts.{right_of, is_keepers}
use Rattle.ms_model.specs.Legal.{IsLegal}
use Rattle.ms_model.specs.declared.notes.Act.{Act}
use Rattle.ms_model.specs.declared.notes.Act.TheVariants.{Collect, Settle}
use Rattle.ms_model.specs.declared.notes.Noted.{Noted}
use Rattle.ms_model.proofs.Histories.{settled_group-push, legal_before, legal_last}
use Rattle.ms_model.proofs.Held.{settled_by_grows}
use Rattle.ms_model.proofs.Lists.{by_snoc}

module _ {A : Type 0} (f : A → Act → A) (leaves : (x : A) (act : Act) → is_keepers act ≡ false → f x act ≡ x) where
  told_step : (b : Bool) (x : A) (note : Noted) (h : List Noted) → (b ≡ false → is_keepers note.act ≡ false)
      → ((y : A) → fold (λ z n. f z n.act) y (notes_at right_of 0 h) ≡ fold (λ z n. f z n.act) y h)
      → fold (λ z n. f z n.act) x (cond b (note ∷ notes_at right_of 0 h) (notes_at right_of 0 h)) ≡ fold (λ z n. f z n.act) (f x note.act) h
  told_step true x note h other below = below (f x note.act)
  told_step false x note h other below = below x ∙ ap (λ y. fold (λ z n. f z n.act) y h) (sym (leaves x note.act (other refl)))

  not_keepers : (b : Bool) (lane : ℕ) → (0 == cond b 0 lane) ≡ false → b ≡ false
  not_keepers true lane e = absurd (cc)
  not_keepers false lane e = refl

  -- what acts that are not the keeper's leave as it is, its notes alone tell
  told : (x : A) (h : List Noted) → fold (λ z n. f z n.act) x (notes_at right_of 0 h) ≡ fold (λ z n. f z n.act) x h
  told x [] = refl
  told x (note ∷ h) = told_step (0 == right_of note) x note h (not_keepers (is_keepers note.act) note.lane) (λ y. told y h)

settled_leaves : (s : ℕ) (act : Act) → is_keepers act ≡ false → settled_by s act ≡ s
settled_leaves s (Settle _) e = absurd (cc)
settled_leaves s _ e = refl

collected_leaves : (s : ℕ) (act : Act) → is_keepers act ≡ false → collected_by s act ≡ s
collected_leaves s (Collect _) e = absurd (cc)
collected_leaves s _ e = refl

-- so the keeper's notes tell the groups
pub settled_notes : (o : Origin) (h : List Noted) → fold (λ x (n : Noted). settled_by x n.act) o.opened (notes_at right_of 0 h) ≡ settled_group o h
settled_notes o h = told settled_by settled_leaves o.opened h

pub collected_notes : (o : Origin) (h : List Noted) → fold (λ x (n : Noted). collected_by x n.act) o.opened (notes_at right_of 0 h) ≡ collected_group o h
collected_notes o h = told collected_by collected_leaves o.opened h

pub settled_told : (o : Origin) (h j : List Noted) → notes_at right_of 0 h ≡ notes_at right_of 0 j → settled_group o h ≡ settled_group o j
settled_told o h j e =
    sym (told settled_by settled_leaves o.opened h) ∙ (ap (λ l. fold (λ z (n : Noted). settled_by z n.act) o.opened l) e ∙ told settled_by settled_leaves o.opened j)

pub collected_told : (o : Origin) (h j : List Noted) → notes_at right_of 0 h ≡ notes_at right_of 0 j → collected_group o h ≡ collected_group o j
collected_told o h j e =
    sym (told collected_by collected_leaves o.opened h) ∙ (ap (λ l. fold (λ z (n : Noted). collected_by z n.act) o.opened l) e ∙ told collected_by collected_leaves o.opened j)

-- who has a right has all its notes
pub owned_same : {N : Type 0} (right : N → ℕ) (lane : ℕ) (own took : Own N) (h j : List N) → took ≡ own → own ≡ (lane, notes_at right lane h) ∷ [] → Owns right took j
    → notes_at right lane h ≡ notes_at right lane j
owned_same right lane own took h j same is w = let v : Owns right ((lane, notes_at right lane h) ∷ []) j = subst (λ o. Owns right o j) (same ∙ is) w in v.0

pub settled_grows : (o : Origin) (h rest : List Noted) → IsLegal o (h ++ rest) → settled_group o h ≤ settled_group o (h ++ rest)
settled_grows o h rest legal =
    by_snoc (λ l. IsLegal o (h ++ l) → settled_group o h ≤ settled_group o (h ++ l))
    (λ _. omega (arith, ap (settled_group o) (append-nil h)))
    (λ l n before both.
    let longer : h ++ (l ++ n ∷ []) ≡ (h ++ l) ++ n ∷ [] = sym (append_assoc h l (n ∷ [])) in
    let whole : IsLegal o ((h ++ l) ++ n ∷ []) = subst (IsLegal o) longer both in
    let first : settled_group o h ≤ settled_group o (h ++ l) = before (legal_before o (h ++ l) (n ∷ []) whole) in
    let grows : settled_group o (h ++ l) ≤ settled_by (settled_group o (h ++ l)) n.act = settled_by_grows o (h ++ l) n.lane n.act (legal_last o (h ++ l) n [] whole) in
    omega (arith, settled_group-push o (h ++ l) n, ap (settled_group o) longer))
    rest legal

-- a group that was near the settled one is near it still
pub near_still : (o : Origin) (h j : List Noted) (group : ℕ) → IsPrefix h j → IsLegal o j → group ≤ settled_group o h + 3 → group ≤ settled_group o j + 3
near_still o h j group begins legal near =
    let whole : IsLegal o (h ++ begins.0) = subst (IsLegal o) (sym begins.1) legal in
    omega (arith, settled_grows o h begins.0 whole, ap (settled_group o) begins.1)
