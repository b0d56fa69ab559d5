-- The three totals of a metaslab.
use Rattle.std.proofs.Common.{◌≡◌, ℕ, ◌+◌, Bool, true, false, cond, List, [], ◌∷◌, length, refl, ◌∙◌, arith}
use Rattle.std.specs.Prelude.{not, ◌&&◌}
use Rattle.std.specs.List.{count_by, range_with_len}
use Rattle.std.proofs.lemmas.List.FromFn.{length-range_with_len}
use Rattle.zms_units.proofs.Counting.{count_cons}
use Rattle.ms_model.specs.Origin.{Origin}
use Rattle.ms_model.specs.Units.{LastAct, granted, freed, taken_back, untouched, is_grant, last_act, settled_group}
use Rattle.ms_model.specs.Spaces.{keeps_busy, is_live, is_deferred, is_vacant}
use Rattle.ms_model.specs.Counts.{live_units, deferred_units, vacant_units}
use Rattle.ms_model.specs.declared.notes.Noted.{Noted}

-- three tests, of which each item passes exactly one
pub count_by_three : {A : Type 0} (p q r : A → Bool) → ((x : A) → cond (p x) 1 0 + cond (q x) 1 0 + cond (r x) 1 0 ≡ 1)
    → (xs : List A) → count_by p xs + count_by q xs + count_by r xs ≡ length xs
count_by_three p q r one [] = refl
count_by_three p q r one (x ∷ xs) =
    omega (arith, count_cons p x xs, count_cons q x xs, count_cons r x xs, one x, count_by_three p q r one xs)

one_state : (s : ℕ) (last : LastAct) → cond (is_grant last) 1 0 + cond (keeps_busy s last && not (is_grant last)) 1 0 + cond (not (keeps_busy s last)) 1 0 ≡ 1
one_state s (granted lane g) = refl
one_state s (freed g) = one_of (keeps_busy s (freed g)) where
  one_of : (b : Bool) → 0 + cond (b && true) 1 0 + cond (not b) 1 0 ≡ 1
  one_of true = refl
  one_of false = refl
one_state s taken_back = refl
one_state s untouched = refl

pub totals : (o : Origin) (h : List Noted) → live_units o h + deferred_units o h + vacant_units o h ≡ o.units
totals o h =
    count_by_three (is_live o h) (is_deferred o h) (is_vacant o h) (λ u. one_state (settled_group o h) (last_act o h u)) (range_with_len 0 o.units)
    ∙ length-range_with_len 0 o.units
