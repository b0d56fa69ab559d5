-- What rights say of parts: a lane's, and the keeper's.
use Rattle.std.proofs.Common.{◌≡◌, ℕ, suc, ◌≤◌, Bool, true, false, cond, List, [], ◌∷◌, length, get_or, refl, sym, ◌∙◌, arith, ◌<◌}
use Rattle.std.specs.Prelude.{◌==◌, ◌&&◌, not, if◌then◌else◌}
use Rattle.std.specs.List.{filter}
use Rattle.std.proofs.lemmas.Bool.{ne_eqb}
use Rattle.zms_units.proofs.Bools.{and_false, and_true}
use Rattle.ms_model.specs.Parts.{gate_right, closes_for, is_settling, IsByLane}
use Rattle.ms_model.specs.Places.{PartsAreOfRights, GatePartsAreOfRights}
use Rattle.ms_model.specs.declared.notes.GateNote.{GateNote}
use Rattle.ms_model.specs.declared.notes.GateNote.TheVariants.{Closed, Settled}

-- tests that agree on each item choose the same items
chosen : {A : Type 0} (p q : A → Bool) (xs : List A) → ((k : ℕ) (d : A) → k < length xs → p (get_or xs k d) ≡ q (get_or xs k d)) → filter p xs ≡ filter q xs
chosen p q [] same = refl
chosen p q (x ∷ xs) same = (λ i. cond (same 0 x (omega arith) i) (x ∷ chosen p q xs (λ k d l. same (suc k) d (omega arith)) i) (chosen p q xs (λ k d l. same (suc k) d (omega arith)) i))

-- no lane has the number 0
no_zero : (lane : ℕ) → 1 ≤ lane → (lane == 0) ≡ false
no_zero lane some = ne_eqb lane 0 (λ e. omega arith)

not_zero : (lane : ℕ) → 1 ≤ lane → (0 == lane) ≡ false
not_zero lane some = ne_eqb 0 lane (λ e. omega arith)

of_lane : (lane by : ℕ) (keepers : Bool) → 1 ≤ lane → (lane == (if keepers then 0 else by)) ≡ ((lane == by) && not keepers)
of_lane lane by true some = no_zero lane some ∙ sym (and_false (lane == by))
of_lane lane by false some = sym (and_true (lane == by))

of_keeper : (by : ℕ) (keepers : Bool) → 1 ≤ by → (0 == (if keepers then 0 else by)) ≡ keepers
of_keeper by true some = refl
of_keeper by false some = not_zero by some

pub parts : PartsAreOfRights
parts h = (
  (λ lane some. chosen _ _ h (λ k d l. of_lane lane _ _ some)),
  (λ lanes. chosen _ _ h (λ k d l. of_keeper _ _ (lanes k d l).0)),
)

gate_of_lane : (lane : ℕ) (n : GateNote) → 1 ≤ lane → (lane == gate_right n) ≡ closes_for lane n
gate_of_lane lane (Closed by group) some = refl
gate_of_lane lane (Settled group) some = no_zero lane some

gate_of_keeper : (n : GateNote) → IsByLane n → (0 == gate_right n) ≡ is_settling n
gate_of_keeper (Closed by group) own = not_zero by own.0
gate_of_keeper (Settled group) own = refl

pub gate_parts : GatePartsAreOfRights
gate_parts g = (
  (λ lane some. chosen _ _ g (λ k d l. gate_of_lane lane _ some)),
  (λ lanes. chosen _ _ g (λ k d l. gate_of_keeper _ (lanes k d l))),
)
