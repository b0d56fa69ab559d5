-- What closed classes have.
use Rattle.std.proofs.Common.{◌≡◌, ℕ, zero, suc, ◌<◌, List, length, sym, ap, ◌∙◌, subst, arith, refl, Option}
use Rattle.std.proofs.lemmas.Option.{slice_get_within}
use Rattle.turn_passes.specs.Pairs.{Each}
use Rattle.zms_units.specs.declared.places.Class.{Class}
use Rattle.zms_units.specs.declared.places.Class.TheVariants.{Normal, Log, Special, Dedup}
use Rattle.ms_model.specs.declared.journals.ClassJournal.{ClassJournal}
use Rattle.class_model.specs.declared.origin.ClassOrigin.{ClassOrigin}
use Rattle.class_group.specs.Turns.{ClassTurns, AreClasses, StandsAt, place_of, origin_from}
use Rattle.class_group.specs.Passes.{ClassKnown, KnowsAt, AreIdle}
use Rattle.class_group.specs.Closed.{IsHandedBack, IsClosed, AreClosed}

-- each place is that of a class
class_at : (k : ℕ) → k < 4 → (class : Class) × (place_of class ≡ k)
class_at zero lt = (Normal, refl)
class_at (suc zero) lt = (Log, refl)
class_at (suc (suc zero)) lt = (Special, refl)
class_at (suc (suc (suc zero))) lt = (Dedup, refl)
class_at (suc (suc (suc (suc k)))) lt = absurd (omega arith)

closed_one : (t : ClassTurns) (k : ℕ) (c : ClassKnown) (j : ClassJournal) → k < 4 → KnowsAt t.vdevs t.weights k c → IsHandedBack c j → IsClosed t k c j
closed_one t k c j lt knows back =
    let stands : StandsAt t.vdevs t.weights k (origin_from c.fixed) = subst (λ (f : Option ClassOrigin). StandsAt t.vdevs t.weights k (origin_from f)) (sym knows.is) knows.stands in
    let class = class_at k lt in
    record { class = ap place_of (back.class ∙ (stands class.0 class.1).class) ∙ class.1; stands = stands; back = back }

pub closed : (t : ClassTurns) (p : List ClassKnown) (journals : List ClassJournal) → AreClasses t → AreIdle t p → length journals ≡ length t.cells → Each (λ k c j. IsHandedBack c j) p journals
    → AreClosed t p journals
closed t p journals are idle count backs = record {
  count = count;
  passes = sym idle.know.count;
  each = record {
    at = λ k c j e f.
        closed_one t k c j (omega (arith, are.count, count, slice_get_within journals k j f)) (idle.know.each k c e) (backs.at k c j e f);
  };
}
