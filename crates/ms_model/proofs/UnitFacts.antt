-- What a legal history keeps true of one unit and of two neighbouring groups, t and t + 1. The facts speak of plain values:
-- the opened, settled and collected group, the last act over all notes, over those of groups up to t and up to t + 1, and
-- what t + 1 gained and gave.
use Rattle.std.proofs.Common.{◌≡◌, ℕ, ◌+◌, ◌-◌, ◌≤◌, ◌<◌, Bool, true, false, cond, Some, None, refl, sym, ◌∙◌, arith}
use Rattle.std.specs.Prelude.{◌||◌, ◌&&◌, not, max, nat_le, ◌==◌}
use Rattle.std.proofs.lemmas.Bool.{ltb-false}
use Rattle.std.proofs.lemmas.Bool.Decides.{nat_tests}
use Rattle.zms_units.proofs.Bools.{and_false, or_false}
use Rattle.ms_model.specs.Units.{LastAct, granted, freed, taken_back, untouched, is_grant}
use Rattle.ms_model.specs.Spaces.{keeps_busy}
use Rattle.ms_model.specs.Legal.{IsGrantedBy}

-- where a group stands to t and t + 1, with the answers of the three tests
pub data Sits (g t : ℕ) : Bool → Bool → Bool → Type 0 where
  below : g ≤ t → Sits g t true true false
  at : g ≡ t + 1 → Sits g t false true true
  above : t + 1 < g → Sits g t false false false

sits_by : (g t : ℕ) (x y z : Bool) → nat_le g t ≡ x → nat_le g (t + 1) ≡ y → (g == (t + 1)) ≡ z → Sits g t x y z
sits_by g t true true true e f h = absurd (grind (arith, nat_tests))
sits_by g t true true false e f h = below (grind (arith, nat_tests))
sits_by g t true false z e f h = absurd (grind (arith, nat_tests))
sits_by g t false true true e f h = at (grind (arith, nat_tests))
sits_by g t false true false e f h = absurd (grind (arith, nat_tests))
sits_by g t false false true e f h = absurd (grind (arith, nat_tests))
sits_by g t false false false e f h = above (grind (arith, nat_tests))

pub sits : (g t : ℕ) → Sits g t (nat_le g t) (nat_le g (t + 1)) (g == (t + 1))
sits g t = sits_by g t _ _ _ refl refl refl

-- a group t from m on does not hold a unit that is vacant, nor one that this journal granted in a later group
abbrev pub Apart : ℕ → ℕ → LastAct → LastAct → Type 0
Apart t m (granted None g) now = Unit {0}
Apart t m (granted (Some lane) g) now = m ≤ t → t < g → is_grant now ≡ false
Apart t m (freed g) now = g ≤ t → is_grant now ≡ false
Apart t m taken_back now = m ≤ t → is_grant now ≡ false
Apart t m untouched now = m ≤ t → is_grant now ≡ false

-- what the last act is where t + 1 gained the unit, and is not two groups old
abbrev pub IsGainOf : ℕ → LastAct → Type 0
IsGainOf t (granted lane g) = g ≡ t + 1
IsGainOf t (freed g) = t + 1 ≤ g
IsGainOf t taken_back = ⊥
IsGainOf t untouched = ⊥

-- what the last act is where t + 1 gave the unit, and is not two groups old
abbrev pub IsGiftOf : ℕ → LastAct → Type 0
IsGiftOf t (granted lane g) = ⊥
IsGiftOf t (freed g) = g ≡ t + 1
IsGiftOf t taken_back = ⊥
IsGiftOf t untouched = ⊥

pub record Facts (t opened s c : ℕ) (last low upto : LastAct) (gained given : Bool) : Type 0 where
  pub from : opened ≤ s
  pub order : s ≤ c
  pub apart : Apart t (max opened (s - 2)) last low
  pub gains : s < t + 3 → gained ≡ true → IsGainOf t last
  pub gifts : s < t + 3 → given ≡ true → IsGiftOf t last
  pub adds : is_grant upto ≡ (not given && (gained || is_grant low))

-- tests

pub is_false : (b : Bool) → (b ≡ true → ⊥) → b ≡ false
is_false true f = absurd (f refl)
is_false false f = refl

or-true : (b : Bool) → (b || true) ≡ true
or-true true = refl
or-true false = refl

-- what a vacant unit's last act is

pub vacant_apart : (t opened s : ℕ) (last now : LastAct) → keeps_busy s last ≡ false → Apart t (max opened (s - 2)) last now → max opened (s - 2) ≤ t → is_grant now ≡ false
vacant_apart t opened s (granted lane g) now e a m = cc
vacant_apart t opened s (freed g) now e a m = let old : g + 2 ≤ s = ltb-false _ _ e in a (omega arith)
vacant_apart t opened s taken_back now e a m = a m
vacant_apart t opened s untouched now e a m = a m

pub vacant_gain : (t s : ℕ) (last : LastAct) → keeps_busy s last ≡ false → IsGainOf t last → t + 3 ≤ s
vacant_gain t s (granted lane g) e h = absurd (cc)
vacant_gain t s (freed g) e h = let old : g + 2 ≤ s = ltb-false _ _ e in omega arith
vacant_gain t s taken_back e h = absurd h
vacant_gain t s untouched e h = absurd h

pub vacant_gift : (t s : ℕ) (last : LastAct) → keeps_busy s last ≡ false → IsGiftOf t last → t + 3 ≤ s
vacant_gift t s (granted lane g) e h = absurd h
vacant_gift t s (freed g) e h = let old : g + 2 ≤ s = ltb-false _ _ e in omega arith
vacant_gift t s taken_back e h = absurd h
vacant_gift t s untouched e h = absurd h

-- a grant

grant_adds : (t g : ℕ) (x y z : Bool) → Sits g t x y z → (lane : ℕ) (low upto : LastAct) (gained given : Bool)
    → (g ≤ t + 1 → given ≡ false) → is_grant upto ≡ (not given && (gained || is_grant low))
    → is_grant (cond y (granted (Some lane) g) upto) ≡ (not given && (cond (z && true) true gained || is_grant (cond x (granted (Some lane) g) low)))
grant_adds t g x y z (below h) lane low upto gained given none adds = rw (none (omega arith)) (sym (or-true gained))
grant_adds t g x y z (at h) lane low upto gained given none adds = rw (none (omega arith)) refl
grant_adds t g x y z (above h) lane low upto gained given none adds = adds

grant_apart : (t g m : ℕ) (x y z : Bool) → Sits g t x y z → (lane : ℕ) (low : LastAct) → (m ≤ t → is_grant low ≡ false)
    → Apart t m (granted (Some lane) g) (cond x (granted (Some lane) g) low)
grant_apart t g m x y z (below h) lane low none from lt = absurd (omega arith)
grant_apart t g m x y z (at h) lane low none from lt = none from
grant_apart t g m x y z (above h) lane low none from lt = none from

grant_gains : (t g s : ℕ) (x y z : Bool) → Sits g t x y z → (lane : ℕ) (last : LastAct) (gained : Bool) → (gained ≡ true → t + 3 ≤ s)
    → s < t + 3 → cond (z && true) true gained ≡ true → IsGainOf t (granted (Some lane) g)
grant_gains t g s x y z (below h) lane last gained none near is = absurd (let old : t + 3 ≤ s = none is in omega arith)
grant_gains t g s x y z (at h) lane last gained none near is = h
grant_gains t g s x y z (above h) lane last gained none near is = absurd (let old : t + 3 ≤ s = none is in omega arith)

-- a free

free_adds : (t g : ℕ) (x y z : Bool) → Sits g t x y z → (low upto : LastAct) (gained given : Bool)
    → (g ≤ t → gained ≡ false) → is_grant upto ≡ (not given && (gained || is_grant low))
    → is_grant (cond y (freed g) upto) ≡ (not (given || (z && true)) && (gained || is_grant (cond x (freed g) low)))
free_adds t g x y z (below h) low upto gained given none adds = rw (none h) (sym (and_false (not (given || false))))
free_adds t g x y z (at h) low upto gained given none adds = rw (or-true given) refl
free_adds t g x y z (above h) low upto gained given none adds = rw (or_false given) adds

free_apart : (t g : ℕ) (x y z : Bool) → Sits g t x y z → (low : LastAct) → g ≤ t → is_grant (cond x (freed g) low) ≡ false
free_apart t g x y z (below h) low le = refl
free_apart t g x y z (at h) low le = absurd (omega arith)
free_apart t g x y z (above h) low le = absurd (omega arith)

free_gifts : (t g : ℕ) (x y z : Bool) → Sits g t x y z → (given : Bool) → (given ≡ true → ⊥) → (given || (z && true)) ≡ true → g ≡ t + 1
free_gifts t g x y z (below h) given none is = absurd (none (sym (or_false given) ∙ is))
free_gifts t g x y z (at h) given none is = h
free_gifts t g x y z (above h) given none is = absurd (none (sym (or_false given) ∙ is))

-- a take-back

unalloc_adds : (t g : ℕ) (x y z : Bool) → Sits g t x y z → (low upto : LastAct) (gained given : Bool)
    → (g ≤ t → gained ≡ false) → (g ≡ t + 1 → is_grant low ≡ false) → is_grant upto ≡ (not given && (gained || is_grant low))
    → is_grant (cond y taken_back upto) ≡ (not given && (cond (z && true) false gained || is_grant (cond x taken_back low)))
unalloc_adds t g x y z (below h) low upto gained given none apart adds = rw (none h) (sym (and_false (not given)))
unalloc_adds t g x y z (at h) low upto gained given none apart adds = rw (apart h) (sym (and_false (not given)))
unalloc_adds t g x y z (above h) low upto gained given none apart adds = adds

unalloc_apart : (t g m : ℕ) (x y z : Bool) → Sits g t x y z → (low : LastAct) → (m ≤ t → t < g → is_grant low ≡ false)
    → m ≤ t → is_grant (cond x taken_back low) ≡ false
unalloc_apart t g m x y z (below h) low own from = refl
unalloc_apart t g m x y z (at h) low own from = own from (omega arith)
unalloc_apart t g m x y z (above h) low own from = own from (omega arith)

unalloc_gains : (t g : ℕ) (x y z : Bool) → Sits g t x y z → (gained : Bool) → (gained ≡ true → g ≡ t + 1) → cond (z && true) false gained ≡ true → ⊥
unalloc_gains t g x y z (below h) gained own is = let same : g ≡ t + 1 = own is in omega arith
unalloc_gains t g x y z (at h) gained own is = cc
unalloc_gains t g x y z (above h) gained own is = let same : g ≡ t + 1 = own is in omega arith

-- one step of the facts

pub facts_grant : (t opened s c g lane : ℕ) (x y z : Bool) → Sits g t x y z → (last low upto : LastAct) (gained given : Bool)
    → c < g → keeps_busy s last ≡ false → Facts t opened s c last low upto gained given
    → Facts t opened s c (granted (Some lane) g) (cond x (granted (Some lane) g) low) (cond y (granted (Some lane) g) upto) (cond (z && true) true gained) given
facts_grant t opened s c g lane x y z sit last low upto gained given fresh vacant f =
    let near : g ≤ t + 1 → s < t + 3 = λ le. omega (arith, f.order) in
    let late : s < t + 3 → given ≡ true → ⊥ = λ lt is. omega (arith, vacant_gift t s last vacant (f.gifts lt is)) in
    let far : s < t + 3 → gained ≡ true → t + 3 ≤ s = λ lt is. vacant_gain t s last vacant (f.gains lt is) in
    record {
      from = f.from;
      order = f.order;
      apart = grant_apart t g (max opened (s - 2)) x y z sit lane low (vacant_apart t opened s last low vacant f.apart);
      gains = λ lt. grant_gains t g s x y z sit lane last gained (far lt) lt;
      gifts = λ lt is. late lt is;
      adds = grant_adds t g x y z sit lane low upto gained given (λ le. is_false given (late (near le))) f.adds;
    }

pub facts_free : (t opened s c g : ℕ) (x y z : Bool) → Sits g t x y z → (last low upto : LastAct) (gained given : Bool)
    → c < g → IsGrantedBy g last → Facts t opened s c last low upto gained given
    → Facts t opened s c (freed g) (cond x (freed g) low) (cond y (freed g) upto) gained (given || (z && true))
facts_free t opened s c g x y z sit (granted lane g₀) low upto gained given fresh live f =
    record {
      from = f.from;
      order = f.order;
      apart = free_apart t g x y z sit low;
      gains = λ lt is. let own : g₀ ≡ t + 1 = f.gains lt is in omega arith;
      gifts = λ lt. free_gifts t g x y z sit given (f.gifts lt);
      adds = free_adds t g x y z sit low upto gained given
          (λ le. is_false gained (λ is. let own : g₀ ≡ t + 1 = f.gains (omega (arith, f.order)) is in omega arith)) f.adds;
    }
facts_free t opened s c g x y z sit (freed g₀) low upto gained given fresh live f = absurd live
facts_free t opened s c g x y z sit taken_back low upto gained given fresh live f = absurd live
facts_free t opened s c g x y z sit untouched low upto gained given fresh live f = absurd live

pub facts_unalloc : (t opened s c g lane : ℕ) (x y z : Bool) → Sits g t x y z → (low upto : LastAct) (gained given : Bool)
    → c < g → Facts t opened s c (granted (Some lane) g) low upto gained given
    → Facts t opened s c taken_back (cond x taken_back low) (cond y taken_back upto) (cond (z && true) false gained) given
facts_unalloc t opened s c g lane x y z sit low upto gained given fresh f =
    record {
      from = f.from;
      order = f.order;
      apart = unalloc_apart t g (max opened (s - 2)) x y z sit low f.apart;
      gains = λ lt is. unalloc_gains t g x y z sit gained (f.gains lt) is;
      gifts = λ lt is. f.gifts lt is;
      adds = unalloc_adds t g x y z sit low upto gained given
          (λ le. is_false gained (λ is. let own : g ≡ t + 1 = f.gains (omega (arith, f.order)) is in omega arith))
          (λ same. f.apart (omega (arith, f.order, f.from)) (omega arith)) f.adds;
    }

apart_later : (t m m' : ℕ) (last now : LastAct) → m ≤ m' → Apart t m last now → Apart t m' last now
apart_later t m m' (granted None g) now le a = tt
apart_later t m m' (granted (Some lane) g) now le a = λ from lt. a (omega arith) lt
apart_later t m m' (freed g) now le a = a
apart_later t m m' taken_back now le a = λ from. a (omega arith)
apart_later t m m' untouched now le a = λ from. a (omega arith)

pub facts_settle : (t opened s c : ℕ) (last low upto : LastAct) (gained given : Bool) (s' c' : ℕ) → s ≤ s' → s' ≤ c'
    → Facts t opened s c last low upto gained given → Facts t opened s' c' last low upto gained given
facts_settle t opened s c last low upto gained given s' c' le order f =
    record {
      from = omega (arith, f.from);
      order = order;
      apart = apart_later t (max opened (s - 2)) (max opened (s' - 2)) last low (omega arith) f.apart;
      gains = λ lt. f.gains (omega arith);
      gifts = λ lt. f.gifts (omega arith);
      adds = f.adds;
    }
