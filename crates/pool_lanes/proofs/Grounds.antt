-- What lanes stand on is what the closed metaslabs stand for.
use Rattle.std.proofs.Common.{◌≡◌, ℕ, zero, suc, List, [], ◌∷◌, Option, Some, None, map, length, refl, sym, ap, ◌∙◌, arith}
use Rattle.std.specs.Prelude.{slice_get}
use Rattle.std.proofs.Math.Path.{fun_ext}
use Rattle.turn_cell.specs.Known.{Known}
use Rattle.ms_model.specs.declared.notes.Noted.{Noted}
use Rattle.ms_core.specs.State.{MsState}
use Rattle.ms_core.specs.Standing.{standing_of}
use Rattle.ms_core.specs.declared.kept.Standing.{Standing}
use Rattle.ms_cell.specs.Turns.{Turns, origin_from}
use Rattle.ms_cell.specs.Passes.{Passes, StandAlike, fixed_of, origin_in}
use Rattle.ms_cell.specs.Closed.{AreClosed}
use Rattle.class_group.specs.Passes.{ClassKnown, StandAlike as ClassesStandAlike, fixed_of as class_fixed_of}
use Rattle.txg_gate.specs.GateState.{GateState}
use Rattle.lane_passes.specs.Lanes.{Ground, origin_at, fixed_at}
use Rattle.lane_passes.proofs.Journeys.{fixed_same, fixed_there, fixed_in}

-- of two lists with the same image at each place
pub same_maps : {A B C : Type 0} (f : A → C) (g : B → C) (xs : List A) (ys : List B) → length xs ≡ length ys → ((k : ℕ) (x : A) (y : B) → slice_get xs k ≡ Some x → slice_get ys k ≡ Some y → f x ≡ g y) → map f xs ≡ map g ys
same_maps f g [] [] e each = refl
same_maps f g [] (y ∷ ys) e each = absurd (omega (arith, e))
same_maps f g (x ∷ xs) [] e each = absurd (omega (arith, e))
same_maps {C = C} f g (x ∷ xs) (y ∷ ys) e each =
    ap (λ (z : C). z ∷ map f xs) (each zero x y refl refl)
    ∙ ap (λ (l : List C). g y ∷ l) (same_maps f g xs ys (omega (arith, e)) (λ k a b u v. each (suc k) a b u v))

-- what each closed metaslab stands for
abbrev pub stands_of : List MsState → List (Option Standing)
stands_of metaslabs = map (λ (m : MsState). Some (standing_of m)) metaslabs

pub last_stands : (t : Turns) (last : Passes) (gate : GateState) (metaslabs : List MsState) → AreClosed t last gate metaslabs → map (λ (c : Known Noted Standing). c.fixed) last.metaslabs ≡ stands_of metaslabs
last_stands t last gate metaslabs closed =
    same_maps (λ (c : Known Noted Standing). c.fixed) (λ (m : MsState). Some (standing_of m)) last.metaslabs metaslabs (closed.passes ∙ sym closed.count) (λ k c m e f. closed.stand.at k c m e f)

-- and passes that stand for what the closing ones do
pub alike_stands : (t : Turns) (p last : Passes) (gate : GateState) (metaslabs : List MsState) → StandAlike last p → AreClosed t last gate metaslabs → map (λ (c : Known Noted Standing). c.fixed) p.metaslabs ≡ stands_of metaslabs
alike_stands t p last gate metaslabs alike closed =
    sym (fixed_same p.metaslabs last.metaslabs alike.count (λ k c d e f. alike.each.at k c d e f)) ∙ last_stands t last gate metaslabs closed

pub classes_stand : (p q : List ClassKnown) → ClassesStandAlike q p → map (λ (c : ClassKnown). c.fixed) q ≡ map (λ (c : ClassKnown). c.fixed) p
classes_stand p q alike = fixed_same p q alike.count (λ k c d e f. alike.each.at k c d e f)

same_fixed : (x : Option (Known Noted Standing)) → fixed_of x ≡ fixed_in x
same_fixed None = refl
same_fixed (Some c) = refl

class_same_fixed : (x : Option ClassKnown) → class_fixed_of x ≡ fixed_in x
class_same_fixed None = refl
class_same_fixed (Some c) = refl

-- what a metaslab was, by passes and by the ground that they give
pub origin_there : (p : Passes) (g : Ground) (k : ℕ) → map (λ (c : Known Noted Standing). c.fixed) p.metaslabs ≡ g.metaslabs → origin_in p k ≡ origin_at g k
origin_there p g k is =
    ap origin_from (same_fixed (slice_get p.metaslabs k) ∙ (sym (fixed_there p.metaslabs k) ∙ ap (λ (l : List (Option Standing)). fixed_at (slice_get l k)) is))

pub origins_there : (p : Passes) (g : Ground) → map (λ (c : Known Noted Standing). c.fixed) p.metaslabs ≡ g.metaslabs → origin_in p ≡ origin_at g
origins_there p g is = fun_ext (λ k. origin_there p g k is)
