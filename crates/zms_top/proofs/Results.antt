-- What holds of an answer or an error, by what holds of it already.
use Rattle.std.proofs.Common.{◌≡◌, sym, ◌∙◌, ap}
use Rattle.std.specs.Prelude.{Result, Ok, Err, IfOk, OnErr, IsErrOf}

pub if_ok : {T E : Type 0} {P Q : T → Type 0} (r : Result T E) → ((x : T) → P x → Q x) → IfOk r P → IfOk r Q
if_ok (Ok x) f p = f x p
if_ok (Err e) f p = tt

pub on_err : {T E A B : Type 0} (r : Result T E) → (A → B) → OnErr r A → OnErr r B
on_err (Ok x) f a = tt
on_err (Err e) f a = f a

pub err_of : {T E : Type 0} (r : Result T E) (x e : E) → r ≡ Err x → x ≡ e → IsErrOf r e
err_of r x e is same = is ∙ ap Err same

pub same_err : {T E : Type 0} (x e : E) → ◌≡◌ {A = Result T E} (Err x) (Err e) → x ≡ e
same_err x e same = cc

pub not_err_of : {T E : Type 0} (r : Result T E) (x e : E) → r ≡ Err x → (x ≡ e → ⊥) → IsErrOf r e → ⊥
not_err_of r x e is apart err = apart (same_err x e (sym is ∙ err))
