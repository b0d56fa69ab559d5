-- Cells as they are made, each from its base.
use Rattle.std.proofs.Common.{◌≡◌, ℕ, suc, List, [], ◌∷◌, ◌++◌, length, refl, sym, ap, ◌∙◌, subst, arith, Some, ⊎_elim}
use Rattle.std.specs.Prelude.{slice_get}
use Rattle.std.proofs.lemmas.Option.{slice_get_within}
use Rattle.zms_units.specs.declared.segments.Seg.{Seg}
use Rattle.zms_units.specs.declared.places.VdevRow.{VdevRow}
use Rattle.turn_passes.specs.Parts.{IsRest}
use Rattle.turn_passes.specs.Pairs.{Each}
use Rattle.turn_passes.proofs.Pairs.{get_push}
use Rattle.ms_cell.specs.Turns.{Turns}
use Rattle.ms_cell.specs.Passes.{Passes, AreRests}
use Rattle.ms_cell.specs.Closed.{BasesStand, StandsBy}
use Rattle.ms_cell.proofs.Lifting.{some_at}

one_more : {A : Type 0} (xs : List A) (x : A) → length (xs ++ x ∷ []) ≡ suc (length xs)
one_more [] x = refl
one_more (y ∷ xs) x = ap suc (one_more xs x)

pub longer : {A : Type 0} (xs ys : List A) (x : A) → ys ≡ xs ++ x ∷ [] → length ys ≡ suc (length xs)
longer xs ys x is = ap length is ∙ one_more xs x

-- two lists of one length, each with one item more
pub each_pushed : {A B : Type 0} (P : ℕ → A → B → Type 0) (xs more : List A) (ys extra : List B) (x : A) (y : B) → length ys ≡ length xs → Each P xs ys → more ≡ xs ++ x ∷ [] → extra ≡ ys ++ y ∷ []
    → P (length xs) x y → Each P more extra
each_pushed {A} {B} P xs more ys extra x y level each grows follows last = record {
  at = λ k a b e f.
      let there = get_push ys y k b (subst (λ (l : List B). slice_get l k ≡ Some b) follows f) in
      ⊎_elim
      (λ (t : slice_get xs k ≡ Some a).
      ⊎_elim
      (λ (u : slice_get ys k ≡ Some b). each.at k a b t u)
      (λ (u : (k ≡ length ys) × (y ≡ b)). absurd (omega (arith, slice_get_within xs k a t, u.0, level)))
      there)
      (λ (t : (k ≡ length xs) × (x ≡ a)).
      ⊎_elim
      (λ (u : slice_get ys k ≡ Some b). absurd (omega (arith, slice_get_within ys k b u, t.0, level)))
      (λ (u : (k ≡ length ys) × (y ≡ b)).
      subst (λ (n : ℕ). P n a b) (sym t.0) (subst (λ (z : A). P (length xs) z b) t.1 (subst (λ (z : B). P (length xs) x z) u.1 last)))
      there)
      (get_push xs x k a (subst (λ (l : List A). slice_get l k ≡ Some a) grows e));
}

pub made_rests : (t : Turns) (p : Passes) (bases : List (List Seg)) → IsRest 0 t.gate p.gate → p.gate.fixed ≡ Some (record { 0 = t.opened }) → length t.metaslabs ≡ length bases → length p.metaslabs ≡ length bases
    → Each (λ k turn c. IsRest 0 turn c) t.metaslabs p.metaslabs → Each (λ k base c. StandsBy t.vdevs t.opened k base c) bases p.metaslabs → AreRests 0 t p
made_rests t p bases gate opened turns passes rests stand = record {
  gate = gate;
  each = rests;
  know = record {
    count = turns ∙ sym passes;
    opened = opened;
    each = λ k c e.
        let base = some_at bases k (omega (arith, slice_get_within p.metaslabs k c e, passes)) in
        let by = stand.at k base.0 c base.1 e in
        record { standing = by.standing; is = by.is; stands = by.stands };
  };
}

pub made_bases : (vdevs : List VdevRow) (opened : ℕ) (p : Passes) (bases : List (List Seg)) → Each (λ k base c. StandsBy vdevs opened k base c) bases p.metaslabs → BasesStand bases p
made_bases vdevs opened p bases stand = record {
  each = record { at = λ k base c e f. let by = stand.at k base c e f in (by.standing, (by.is, by.base_is)) };
}
