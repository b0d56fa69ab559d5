-- What holds of an answer or an error, by what holds of it already.
use Rattle.std.proofs.Common.{◌≡◌, ℕ, Option, None, List, ◌++◌, sym, ◌∙◌, ap}
use Rattle.zms_units.specs.declared.faults.First.{First}
use Rattle.pool_keeper.specs.Notes.{KeeperNoted, noted}
use Rattle.std.specs.Prelude.{Result, Ok, Err, IfOk, OnErr, IsErrOf}

pub if_ok : {T E : Type 0} {P Q : T → Type 0} (r : Result T E) → ((x : T) → P x → Q x) → IfOk r P → IfOk r Q
if_ok (Ok x) f p = f x p
if_ok (Err e) f p = tt

pub on_err : {T E A B : Type 0} (r : Result T E) → (A → B) → OnErr r A → OnErr r B
on_err (Ok x) f a = tt
on_err (Err e) f a = f a

pub err_of : {T E : Type 0} (r : Result T E) (x e : E) → r ≡ Err x → x ≡ e → IsErrOf r e
err_of r x e is same = is ∙ ap Err same

pub same_err : {T E : Type 0} (x e : E) → ◌≡◌ {A = Result T E} (Err x) (Err e) → x ≡ e
same_err x e same = cc

pub not_err_of : {T E : Type 0} (r : Result T E) (x e : E) → r ≡ Err x → (x ≡ e → ⊥) → IsErrOf r e → ⊥
not_err_of r x e is apart err = apart (same_err x e (sym is ∙ err))

pub ok_no_err : {T E : Type 0} (x : T) (e : E) → IsErrOf (Ok x) e → ⊥
ok_no_err x e bad = cc

-- what a call answers that met something

pub met_notes : {E : Type 0} (r : Result (Option First) E) (met : Option First) (lane : ℕ) (was now : List KeeperNoted) → now ≡ was ++ noted lane met → IfOk r (λ first. (first ≡ met) × (first ≡ None → ⊥))
    → IfOk r (λ first. now ≡ was ++ noted lane first)
met_notes (Ok first) met lane was now is told = is ∙ ap (λ x. was ++ noted lane x) (sym told.0)
met_notes (Err e) met lane was now is told = tt

pub met_some : {E : Type 0} (r : Result (Option First) E) (met : Option First) → IfOk r (λ first. (first ≡ met) × (first ≡ None → ⊥)) → r ≡ Ok None → ⊥
met_some (Ok first) met told is = told.1 (let e : ◌≡◌ {A = Result (Option First) _} (Ok first) (Ok None) = is in cc)
met_some (Err e) met told is = cc

pub met_first : {E : Type 0} (r : Result (Option First) E) (met kept : Option First) → kept ≡ met → IfOk r (λ first. (first ≡ met) × (first ≡ None → ⊥)) → IfOk r (λ first. kept ≡ first)
met_first (Ok first) met kept is told = is ∙ sym told.0
met_first (Err e) met kept is told = tt
