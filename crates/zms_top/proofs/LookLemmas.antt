-- A look, from what its calls say.
use Rattle.std.proofs.Common.{◌≡◌, ℕ, Bool, true, false, Option, Some, None, List, sym, ◌∙◌, ap, subst}
use Rattle.std.specs.Prelude.{IfSome, IfNone, IfOk, Result, Ok}
use Rattle.std.proofs.lemmas.Result.{IfOk-at_ok}
use Rattle.zms_units.specs.declared.segments.Group.{Group}
use Rattle.zms_units.specs.declared.segments.Seg.{Seg}
use Rattle.ms_model.specs.Origin.{Origin}
use Rattle.ms_model.specs.Units.{is_loaded}
use Rattle.ms_model.specs.Legal.{MayGrant, MayMiss}
use Rattle.ms_model.specs.declared.notes.Act.TheVariants.{Grant, Miss, Load}
use Rattle.ms_model.specs.declared.notes.Noted.{Noted}
use Rattle.ms_model.proofs.Histories.{is_loaded-push}
use Rattle.ms_core.specs.State.{MsState, origin_of, noted, StaysButNotes}
use Rattle.zms_top.specs.Sound.{Loads, loaded, loads}
use Rattle.zms_top.specs.Looks.{IsLook}

pub stays_origin : (old new : MsState) → StaysButNotes old new → origin_of new ≡ origin_of old
stays_origin old new e = ap origin_of e

pub loads_loaded : (lane : ℕ) (h j : List Noted) → Loads lane h j → is_loaded j ≡ true
loads_loaded lane h j (loaded is) = is
loads_loaded lane h j (loads is) = is_loaded-push h (record { lane = lane; act = Load })

pub look_is : (o p : Origin) (lane : ℕ) (group : Group) (count : ℕ) (h mid new : List Noted) (found : Option Seg)
    → p ≡ o → Loads lane h mid
    → IfSome found (λ seg. seg.count ≡ count) → IfSome found (λ seg. MayGrant p mid group.0 seg) → IfNone found (MayMiss p mid count)
    → IfSome found (λ seg. new ≡ noted mid lane (Grant group seg)) → IfNone found (new ≡ noted mid lane (Miss count))
    → IsLook o lane group count h new found
look_is o p lane group count h mid new None same in_memory counts grants misses granted missed =
    record { before = mid; loads = in_memory; note = missed; may = subst (λ q. MayMiss q mid count) same misses; counts = tt }
look_is o p lane group count h mid new (Some seg) same in_memory counts grants misses granted missed =
    record { before = mid; loads = in_memory; note = granted; may = subst (λ q. MayGrant q mid group.0 seg) same grants; counts = counts }

-- what a load leaves, where it answers at all
pub load_is : (lane : ℕ) (h new : List Noted) {E : Type 0} (r : Result Bool E) (b : Bool) → is_loaded h ≡ false → r ≡ Ok b → IfOk r (λ x. x ≡ true)
    → (r ≡ Ok true → new ≡ noted h lane Load) → Loads lane h new
load_is lane h new r b off is only note =
    let b_is : b ≡ true = IfOk-at_ok (λ x. x ≡ true) is only in
    let r_is : r ≡ Ok true = is ∙ ap (λ x. Ok x) b_is in
    subst (Loads lane h) (sym (note r_is)) (loads off)
