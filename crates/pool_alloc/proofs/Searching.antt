-- Where a copy is placed: on the class that was asked for, or on normal behind it.
use Rattle.std.proofs.Common.{◌≡◌, ℕ, ◌+◌, List, ◌++◌, refl, subst, Result, Ok, Err}
use Rattle.zms_units.specs.declared.blocks.Dva.{Dva}
use Rattle.zms_units.specs.declared.places.Class.{Class}
use Rattle.zms_units.specs.declared.places.Class.TheVariants.{Normal}
use Rattle.copy_walk.specs.Plans.{Plan}
use Rattle.ms_cell.specs.Turns.{Turns}
use Rattle.lane_passes.specs.Lanes.{LaneEvent, Ground, ground_of, Acted}
use Rattle.lane_passes.specs.declared.passes.LanePasses.{LanePasses}
use Rattle.lane_passes.proofs.Acting.{acted_as, acted_join}
use Rattle.pool_alloc.specs.Asks.{Ask}
use Rattle.pool_alloc.specs.Places.{IsOn, IsFull, IsOnEither, on_class, on_normal, not_on_normal, on_neither}
use Rattle.pool_alloc.specs.Cuts.{IsCutOn, ClassLine, CopyLine}
use Rattle.pool_alloc.specs.declared.looks.Cut.{Cut}
use Rattle.pool_alloc.specs.declared.looks.Cut.TheVariants.{Late, Device, Damaged, Suspended, Memory, Unposted}
use Rattle.pool_alloc.specs.declared.placing.Found.{Found}
use Rattle.pool_alloc.specs.declared.placing.Found.TheVariants.{Placed as PlacedCopy, Full}

-- how a search ends on one class, and so on one of two
module _ (a : Ask) (earlier : List Dva) (class on : Class) (g : Ground) (es fs : List LaneEvent) (lifts : (Ends : Plan → Ground → List LaneEvent → Type 0) → IsOn earlier on Ends g es → IsOnEither a earlier class Ends g fs) where
  cut_lifted : (cut : Cut) → IsCutOn a earlier (IsOn earlier on) cut g es → IsCutOn a earlier (IsOnEither a earlier class) cut g fs
  cut_lifted (Late _ _) x = (x.0, lifts _ x.1)
  cut_lifted (Device _ _) x = (x.0, lifts _ x.1)
  cut_lifted (Damaged _ _) x = (x.0, lifts _ x.1)
  cut_lifted (Suspended _) x = (x.0, lifts _ x.1)
  cut_lifted Memory x = lifts _ x
  cut_lifted (Unposted dva) x = (x.0, (x.1.0, (x.1.1.0, lifts _ x.1.1.1)))

  line_lifted : (result : Result Found Cut) → ((looked : ℕ) → result ≡ Ok (Full looked) → ⊥) → ClassLine a earlier on result g es → CopyLine a earlier class result g fs
  line_lifted (Ok (PlacedCopy dva)) ended x = record { id = x.0; seg = x.1.0; dva_is = x.1.1.0; on = lifts _ x.1.1.1 }
  line_lifted (Ok (Full looked)) ended x = absurd (ended looked refl)
  line_lifted (Err cut) ended x = cut_lifted cut x

module _ {R : Type 0} (t : Turns) (a : Ask) (earlier : List Dva) (class : Class) where
  -- it ended on the class that was asked for
  pub ended_on_class : (result ended : Result Found Cut) (p q : LanePasses R) → result ≡ ended → ((looked : ℕ) → ended ≡ Ok (Full looked) → ⊥) → Acted t (ClassLine a earlier class result) p q
      → Acted t (CopyLine a earlier class ended) p q
  ended_on_class result ended p q is not x =
      acted_as t (ClassLine a earlier class result) (CopyLine a earlier class ended) p q
      (λ es line. line_lifted a earlier class class (ground_of t p) es es (λ Ends on. on_class on) ended not (subst (λ (r : Result Found Cut). ClassLine a earlier class r (ground_of t p) es) is line)) x

  -- it has no space
  module _ (result : Result Found Cut) (first : ℕ) (none : result ≡ Ok (Full first)) (p q : LanePasses R) (x : Acted t (ClassLine a earlier class result) p q) where
    full : Acted t (ClassLine a earlier class (Ok (Full first))) p q
    full = subst (λ (r : Result Found Cut). Acted t (ClassLine a earlier class r) p q) none x

    -- and is normal
    pub normal_is_full : class ≡ Normal → Acted t (CopyLine a earlier class (Ok (Full first))) p q
    normal_is_full is =
        acted_as t (ClassLine a earlier class (Ok (Full first))) (CopyLine a earlier class (Ok (Full first))) p q
        (λ es line. not_on_normal first is (subst (λ (c : Class). IsFull a earlier c (ground_of t p) es first) is line)) full

    module _ (other : class ≡ Normal → ⊥) (r : LanePasses R) (behind ended : Result Found Cut) (is : behind ≡ ended) (own : q.lane ≡ a.lane) (y : Acted t (ClassLine (record a { lane = q.lane }) earlier Normal behind) q r) where
      on_other : Acted t (ClassLine a earlier Normal ended) q r
      on_other =
          subst (λ (n : ℕ). Acted t (ClassLine (record a { lane = n }) earlier Normal ended) q r) own
          (subst (λ (e : Result Found Cut). Acted t (ClassLine (record a { lane = q.lane }) earlier Normal e) q r) is y)

      -- and the search ended on normal
      pub ended_on_normal : ((looked : ℕ) → ended ≡ Ok (Full looked) → ⊥) → Acted t (CopyLine a earlier class ended) p r
      ended_on_normal not =
          acted_join t (ClassLine a earlier class (Ok (Full first))) (ClassLine a earlier Normal ended) (CopyLine a earlier class ended) p q r
          (λ es fs before line. line_lifted a earlier class Normal (ground_of t p) fs (es ++ fs)
          (λ Ends on. on_normal first other (record { one = es; two = fs; whole = refl; first = before; second = on })) ended not line) full on_other

    -- which has no space either
    pub neither_has : (other : class ≡ Normal → ⊥) (r : LanePasses R) (behind : Result Found Cut) (second : ℕ) → behind ≡ Ok (Full second) → q.lane ≡ a.lane
        → Acted t (ClassLine (record a { lane = q.lane }) earlier Normal behind) q r → Acted t (CopyLine a earlier class (Ok (Full (first + second)))) p r
    neither_has other r behind second is own y =
        acted_join t (ClassLine a earlier class (Ok (Full first))) (ClassLine a earlier Normal (Ok (Full second))) (CopyLine a earlier class (Ok (Full (first + second)))) p q r
        (λ es fs before line. on_neither first second other (record { one = es; two = fs; whole = refl; first = before; second = line })) full (on_other other r behind (Ok (Full second)) is own y)
