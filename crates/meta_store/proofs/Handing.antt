-- What an answer hands on.
use Rattle.std.proofs.Common.{◌≡◌, Result, Ok, Err, sym, subst}
use Rattle.std.specs.Prelude.{IfOk, IfErr, IsErrAnd}

pub handed_on : {T E : Type 0} (r : Result T E) (fault : E) (W : E → Type 0) → IsErrAnd r (λ given. given ≡ fault) → W fault → IfErr r W
handed_on (Ok x) fault W given wrong = tt
handed_on (Err e) fault W given wrong = subst W (sym given) wrong

-- what follows of a value follows of the value that is answered
pub if_ok : {T E : Type 0} (r : Result T E) (P Q : T → Type 0) → ((x : T) → P x → Q x) → IfOk r P → IfOk r Q
if_ok (Ok x) P Q more holds = more x holds
if_ok (Err e) P Q more holds = tt
