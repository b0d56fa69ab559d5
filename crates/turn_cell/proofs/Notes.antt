-- Notes, and what a holder of rights knows of them.
use Rattle.std.proofs.Common.{◌≡◌, ℕ, eqb, ◌≤◌, ◌||◌, ◌&&◌, ◌++◌, Bool, true, false, not, cond, List, [], ◌∷◌, refl, sym, ap, ◌∙◌, subst, eqb-true, ⊎_elim}
use Rattle.std.proofs.lemmas.Bool.{or_parts, or_cases}
use Rattle.std.proofs.lemmas.Bool.Decides.{eqb_tells}
use Rattle.std.proofs.lemmas.List.{append-nil}
use Rattle.std.specs.List.{filter}
use Rattle.lane_steps.proofs.Steps.{notes_at-append}
use Rattle.turn_cell.specs.Notes.{notes_at, Own, Owns, Low, has, own_at, with_notes}
use Rattle.turn_cell.specs.declared.kept.TheConstants.{MAX_RIGHT}

-- of Bool

pub not_true : (b : Bool) → (b ≡ true → ⊥) → b ≡ false
not_true true no_way = absurd (no_way refl)
not_true false no_way = refl

pub not_false : false ≡ true → ⊥
not_false e = cc

pub not_both : (b : Bool) → b ≡ true → not b ≡ true → ⊥
not_both true e n = not_false n
not_both false e n = not_false e

kept_or : (b k h : Bool) → (k ≡ true → true ≡ b) → (k || (b && h)) ≡ (b && (k || h))
kept_or b true h e = subst (λ x. true ≡ (x && true)) (e refl) refl
kept_or b false h e = refl

gone_or : (b k h : Bool) → (k ≡ true → false ≡ b) → (b && h) ≡ (b && (k || h))
gone_or b true h e = subst (λ x. (x && h) ≡ (x && true)) (e refl) refl
gone_or b false h e = refl

or_assoc : (a b c : Bool) → (a || (b || c)) ≡ ((a || b) || c)
or_assoc true b c = refl
or_assoc false b c = refl

-- of rights

module _ {N : Type 0} (right : N → ℕ) where
  -- a note that needs another right
  pub notes_at-other : (r : ℕ) (n : N) → eqb r (right n) ≡ false → notes_at right r (n ∷ []) ≡ []
  notes_at-other r n e = ap (λ b. cond b (n ∷ []) []) e

  -- a note that needs this right
  pub notes_at-this : (r : ℕ) (n : N) → eqb r (right n) ≡ true → notes_at right r (n ∷ []) ≡ n ∷ []
  notes_at-this r n e = ap (λ b. cond b (n ∷ []) []) e

  pub with_notes-none : (own : Own N) → with_notes right [] own ≡ own
  with_notes-none [] = refl
  with_notes-none (e ∷ own) = λ k. (e.0, append-nil e.1 k) ∷ with_notes-none own k

  -- the notes are more
  pub Owns-more : (own : Own N) (log notes : List N) → Owns right own log → Owns right (with_notes right notes own) (log ++ notes)
  Owns-more [] log notes w = tt
  Owns-more (e ∷ own) log notes w =
      (ap (λ l. l ++ notes_at right e.0 notes) w.0 ∙ sym (notes_at-append right e.0 log notes), Owns-more own log notes w.1)

  -- a note is added that needs none of the rights
  pub Owns-other : (own : Own N) (log : List N) (n : N) → has own (right n) ≡ false → Owns right own log → Owns right own (log ++ n ∷ [])
  Owns-other [] log n none w = tt
  Owns-other (e ∷ own) log n none w =
      let parts = or_parts (eqb e.0 (right n)) (has own (right n)) none in (
        w.0 ∙ (sym (append-nil (notes_at right e.0 log)) ∙ (ap (λ l. notes_at right e.0 log ++ l) (sym (notes_at-other e.0 n parts.0)) ∙ sym (notes_at-append right e.0 log (n ∷ [])))),
        Owns-other own log n parts.1 w.1,
      )

  pub Owns-filter : (p : ℕ × List N → Bool) (own : Own N) (log : List N) → Owns right own log → Owns right (filter p own) log
  Owns-filter p [] log w = tt
  Owns-filter p (e ∷ own) log w =
      elim (p e) as (λ b. Owns right (cond b (e ∷ filter p own) (filter p own)) log) [
        | true ↦ (w.0, Owns-filter p own log w.1)
        | false ↦ Owns-filter p own log w.1
      ]

  pub Owns-append : (a b : Own N) (log : List N) → Owns right a log → Owns right b log → Owns right (a ++ b) log
  Owns-append [] b log v w = w
  Owns-append (e ∷ a) b log v w = (v.0, Owns-append a b log v.1 w)

  pub has-with_notes : (notes : List N) (own : Own N) (r : ℕ) → has (with_notes right notes own) r ≡ has own r
  has-with_notes notes [] r = refl
  has-with_notes notes (e ∷ own) r = ap (λ b. eqb e.0 r || b) (has-with_notes notes own r)

  -- who has a right has all notes that need it
  pub owned_at : (own : Own N) (log : List N) (r : ℕ) → Owns right own log → has own r ≡ true → own_at own r ≡ notes_at right r log
  owned_at [] log r w h = absurd (not_false h)
  owned_at (e ∷ own) log r w h =
      ⊎_elim
      (λ (t : (eqb e.0 r ≡ true) × (e.0 ≡ r)). ap (λ b. cond b e.1 (own_at own r)) t.0 ∙ (w.0 ∙ ap (λ (x : ℕ). notes_at right x log) t.1))
      (λ (t : (eqb e.0 r ≡ false) × (e.0 ≡ r → ⊥)). ap (λ b. cond b e.1 (own_at own r)) t.0 ∙ owned_at own log r w.1 (sym (ap (λ b. b || has own r) t.0) ∙ h))
      (eqb_tells e.0 r)

  pub own_at-with_notes : (notes : List N) (own : Own N) (r : ℕ) → has own r ≡ true → own_at (with_notes right notes own) r ≡ own_at own r ++ notes_at right r notes
  own_at-with_notes notes [] r h = absurd (not_false h)
  own_at-with_notes notes (e ∷ own) r h =
      ⊎_elim
      (λ (t : (eqb e.0 r ≡ true) × (e.0 ≡ r)).
      ap (λ b. cond b (e.1 ++ notes_at right e.0 notes) (own_at (with_notes right notes own) r)) t.0
      ∙ (ap (λ (x : ℕ). e.1 ++ notes_at right x notes) t.1 ∙ ap (λ b. cond b e.1 (own_at own r) ++ notes_at right r notes) (sym t.0)))
      (λ (t : (eqb e.0 r ≡ false) × (e.0 ≡ r → ⊥)).
      ap (λ b. cond b (e.1 ++ notes_at right e.0 notes) (own_at (with_notes right notes own) r)) t.0
      ∙ (own_at-with_notes notes own r (sym (ap (λ b. b || has own r) t.0) ∙ h) ∙ ap (λ b. cond b e.1 (own_at own r) ++ notes_at right r notes) (sym t.0)))
      (eqb_tells e.0 r)

module _ {N : Type 0} where
  pub Low-filter : (p : ℕ × List N → Bool) (own : Own N) → Low own → Low (filter p own)
  Low-filter p [] w = tt
  Low-filter p (e ∷ own) w =
      elim (p e) as (λ b. Low (cond b (e ∷ filter p own) (filter p own))) [
        | true ↦ (w.0, Low-filter p own w.1)
        | false ↦ Low-filter p own w.1
      ]

  pub Low-append : (a b : Own N) → Low a → Low b → Low (a ++ b)
  Low-append [] b v w = w
  Low-append (e ∷ a) b v w = (v.0, Low-append a b v.1 w)

  pub Low-more : (right : N → ℕ) (notes : List N) (own : Own N) → Low own → Low (with_notes right notes own)
  Low-more right notes [] w = tt
  Low-more right notes (e ∷ own) w = (w.0, Low-more right notes own w.1)

  pub low_at : (own : Own N) (r : ℕ) → Low own → has own r ≡ true → r ≤ MAX_RIGHT
  low_at [] r w h = absurd (not_false h)
  low_at (e ∷ own) r w h =
      ⊎_elim
      (λ (t : eqb e.0 r ≡ true). subst (λ (x : ℕ). x ≤ MAX_RIGHT) (eqb-true e.0 r t) w.0)
      (λ (t : has own r ≡ true). low_at own r w.1 t)
      (or_cases (eqb e.0 r) (has own r) h)

  pub has-append : (a b : Own N) (r : ℕ) → has (a ++ b) r ≡ (has a r || has b r)
  has-append [] b r = refl
  has-append (e ∷ a) b r = ap (λ x. eqb e.0 r || x) (has-append a b r) ∙ or_assoc (eqb e.0 r) (has a r) (has b r)

  -- a filter that looks at the right alone
  pub has-filter : (q : ℕ → Bool) (own : Own N) (r : ℕ) → has (filter (λ e. q e.0) own) r ≡ (q r && has own r)
  has-filter q [] r = elim (q r) as (λ b. false ≡ (b && false)) [ true ↦ refl | false ↦ refl ]
  has-filter q (e ∷ own) r = split (q e.0) (λ k. ap q (eqb-true e.0 r k)) (has-filter q own r)
    where
      split : (b : Bool) → (eqb e.0 r ≡ true → b ≡ q r) → has (filter (λ e. q e.0) own) r ≡ (q r && has own r)
          → has (cond b (e ∷ filter (λ e. q e.0) own) (filter (λ e. q e.0) own)) r ≡ (q r && (eqb e.0 r || has own r))
      split true same below = ap (λ x. eqb e.0 r || x) below ∙ kept_or (q r) (eqb e.0 r) (has own r) same
      split false same below = below ∙ gone_or (q r) (eqb e.0 r) (has own r) same

  pub own_at-append : (a b : Own N) (r : ℕ) → has a r ≡ true → own_at (a ++ b) r ≡ own_at a r
  own_at-append [] b r h = absurd (not_false h)
  own_at-append (e ∷ a) b r h = at (eqb e.0 r) h (own_at-append a b r)
    where
      at : (k : Bool) → (k || has a r) ≡ true → (has a r ≡ true → own_at (a ++ b) r ≡ own_at a r) → cond k e.1 (own_at (a ++ b) r) ≡ cond k e.1 (own_at a r)
      at true h below = refl
      at false h below = below h

  pub own_at-append_right : (a b : Own N) (r : ℕ) → has a r ≡ false → own_at (a ++ b) r ≡ own_at b r
  own_at-append_right [] b r h = refl
  own_at-append_right (e ∷ a) b r h = let parts = or_parts (eqb e.0 r) (has a r) h in ap (λ x. cond x e.1 (own_at (a ++ b) r)) parts.0 ∙ own_at-append_right a b r parts.1
