-- The four classes, one after the other.
use Rattle.std.proofs.Common.{◌≡◌, ℕ, zero, suc, ◌+◌, List, [], ◌∷◌, ◌++◌, length, length-append, sym, ap, ◌∙◌, subst, arith, Some, refl, ⊎_elim}
use Rattle.std.specs.Prelude.{slice_get}
use Rattle.zms_units.specs.declared.places.Class.{Class}
use Rattle.zms_units.specs.declared.places.Class.TheVariants.{Normal, Log, Special, Dedup}
use Rattle.zms_units.specs.declared.places.VdevRow.{VdevRow}
use Rattle.std.proofs.lemmas.Option.{slice_get_within}
use Rattle.turn_cell.specs.Known.{TableId}
use Rattle.turn_passes.specs.Parts.{IsRest}
use Rattle.turn_passes.proofs.Pairs.{get_push}
use Rattle.class_model.specs.declared.origin.ClassOrigin.{ClassOrigin}
use Rattle.class_core.specs.Classes.{IsOriginOf}
use Rattle.class_group.specs.Turns.{ClassTurns, StandsAt, place_of}
use Rattle.class_group.specs.Passes.{ClassKnown, KnowsAt, AreRests}
use Rattle.class_group.specs.Opening.{AreFirst}

-- no two classes have one place
abbrev class_of : ℕ → Class
class_of zero = Normal
class_of (suc zero) = Log
class_of (suc (suc zero)) = Special
class_of (suc (suc (suc k))) = Dedup

place_back : (class : Class) → class_of (place_of class) ≡ class
place_back Normal = refl
place_back Log = refl
place_back Special = refl
place_back Dedup = refl

pub same_class : (a b : Class) → place_of a ≡ place_of b → a ≡ b
same_class a b e = sym (place_back a) ∙ (ap class_of e ∙ place_back b)

pub stands_of : (vdevs : List VdevRow) (weights : List ℕ) (class : Class) (o : ClassOrigin) → IsOriginOf vdevs class weights o → StandsAt vdevs weights (place_of class) o
stands_of vdevs weights class o is other same = subst (λ (c : Class). IsOriginOf vdevs c weights o) (sym (same_class other class same)) is

pub first_none : (vdevs : List VdevRow) (weights : List ℕ) (turns : List TableId) (passes : List ClassKnown) → turns ≡ [] → passes ≡ [] → AreFirst vdevs weights 0 turns passes
first_none vdevs weights turns passes none none_too = record {
  all_turns = ap length none;
  all_passes = ap length none_too;
  rests = record { at = λ k x y e f. absurd (omega (arith, ap length none, slice_get_within turns k x e)) };
  know = λ k y f. absurd (omega (arith, ap length none_too, slice_get_within passes k y f));
}

-- one more
pub first_more : (vdevs : List VdevRow) (weights : List ℕ) (n : ℕ) (turns more : List TableId) (passes rest : List ClassKnown) (turn : TableId) (c : ClassKnown)
    → AreFirst vdevs weights n turns passes → more ≡ turns ++ turn ∷ [] → rest ≡ passes ++ c ∷ [] → IsRest 0 turn c → KnowsAt vdevs weights n c → AreFirst vdevs weights (n + 1) more rest
first_more vdevs weights n turns more passes rest turn c first longer longer_too is knows = record {
  all_turns = ap length longer ∙ (length-append turns (turn ∷ []) ∙ ap (λ k. k + 1) first.all_turns);
  all_passes = ap length longer_too ∙ (length-append passes (c ∷ []) ∙ ap (λ k. k + 1) first.all_passes);
  rests = record {
    at = λ k x y e f.
        ⊎_elim
        (λ (a : slice_get turns k ≡ Some x).
        ⊎_elim
        (λ (b : slice_get passes k ≡ Some y). first.rests.at k x y a b)
        (λ (b : (k ≡ length passes) × (c ≡ y)). absurd (omega (arith, first.all_turns, first.all_passes, b.0, slice_get_within turns k x a)))
        (get_push passes c k y (subst (λ (l : List ClassKnown). slice_get l k ≡ Some y) longer_too f)))
        (λ (a : (k ≡ length turns) × (turn ≡ x)).
        ⊎_elim
        (λ (b : slice_get passes k ≡ Some y). absurd (omega (arith, first.all_turns, first.all_passes, a.0, slice_get_within passes k y b)))
        (λ (b : (k ≡ length passes) × (c ≡ y)). subst (λ (u : TableId). IsRest 0 u y) a.1 (subst (λ (d : ClassKnown). IsRest 0 turn d) b.1 is))
        (get_push passes c k y (subst (λ (l : List ClassKnown). slice_get l k ≡ Some y) longer_too f)))
        (get_push turns turn k x (subst (λ (l : List TableId). slice_get l k ≡ Some x) longer e));
  };
  know = λ k y f.
      ⊎_elim
      (λ (b : slice_get passes k ≡ Some y). first.know k y b)
      (λ (b : (k ≡ length passes) × (c ≡ y)).
      subst (λ (m : ℕ). KnowsAt vdevs weights m y) (sym (b.0 ∙ first.all_passes)) (subst (λ (d : ClassKnown). KnowsAt vdevs weights n d) b.1 knows))
      (get_push passes c k y (subst (λ (l : List ClassKnown). slice_get l k ≡ Some y) longer_too f));
}

pub rests_of : (t : ClassTurns) (p : List ClassKnown) → AreFirst t.vdevs t.weights 4 t.cells p → AreRests 0 t p
rests_of t p first = record { each = first.rests; know = record { count = first.all_turns ∙ sym first.all_passes; each = first.know } }
