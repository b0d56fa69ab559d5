-- The order of ranks is the order in which metaslabs are looked at.
use Rattle.std.proofs.Common.{◌≡◌, ℕ, ◌<◌, Bool, true, false, Option, Some, None, List, ◌∷◌, Bor, refl, sym, ◌∙◌, ap, subst, ◌⊎◌, inl, inr, arith}
use Rattle.std.specs.Prelude.{◌&&◌, ◌==◌}
use Rattle.std.specs.Bool.{Decides}
use Rattle.std.specs.declared.cmp.Ordering.{Ordering}
use Rattle.std.specs.declared.cmp.Ordering.TheVariants.{Less, Equal, Greater}
use Rattle.std.specs.Ordering.{MatchOrdering, nat_cmp, ordering_then, is_eq, is_gt}
use Rattle.std.proofs.lemmas.Cmp.{ranked}
use Rattle.std.proofs.lemmas.Bool.Decides.{same_from_decides, Decides-eqb, Decides-like}
use Rattle.ms_model.specs.declared.notes.Got.{Got}
use Rattle.class_model.specs.Picks.{ComesBefore}
use Rattle.class_core.specs.Rankings.{rank_cmp, rank_of, is_same, has, from_of, IsLeastFrom, IsFirstIn}
use Rattle.class_core.specs.declared.ranking.Rank.{Rank}
use Rattle.class_core.specs.declared.ranking.Ranking.{Ranking}
use Rattle.std.specs.declared.ops.Bound.{Bound}
use Rattle.std.specs.declared.ops.Bound.TheVariants.{Unbounded}
use Rattle.std.specs.BTreeSet.{IsKeyRangeOf, contains}
use Rattle.std.specs.BTreeMap.Range.{IsInRange}
use Rattle.std.specs.Map.Iter.{TakesFirst, deref}
use Rattle.std.specs.Option.{option_copied}
use Rattle.ms_model.specs.declared.notes.Start.{Start}
use Rattle.ms_model.specs.declared.notes.Start.TheVariants.{Active, Top, After}
use Rattle.class_model.specs.Picks.{IsBehind, IsFirstOf, IsFirst}

is_eq_nat : (r : Ordering) (x y : ℕ) → MatchOrdering r (x < y) (x ≡ y) (y < x) → Decides (is_eq r) (x ≡ y)
is_eq_nat Less x y m = (λ e. cc, λ e. absurd (omega arith))
is_eq_nat Equal x y m = (λ e. m, λ e. refl)
is_eq_nat Greater x y m = (λ e. cc, λ e. absurd (omega arith))

nat_same : (x y : ℕ) → is_eq (nat_cmp x y) ≡ (x == y)
nat_same x y = same_from_decides (is_eq (nat_cmp x y)) (x == y) (is_eq_nat (nat_cmp x y) x y (ranked x y (nat_cmp x y) refl)) (Decides-eqb x y)

nat_back : (x y : ℕ) → is_eq (nat_cmp x y) ≡ (y == x)
nat_back x y = same_from_decides (is_eq (nat_cmp x y)) (y == x) (is_eq_nat (nat_cmp x y) x y (ranked x y (nat_cmp x y) refl)) (Decides-like (y == x) (λ e. sym e) (λ e. sym e) (Decides-eqb y x))

both_equal : (r s : Ordering) (x y : Bool) → is_eq r ≡ x → is_eq s ≡ y → is_eq (ordering_then r s) ≡ (x && y)
both_equal Less s x y e f = ap (λ b. b && y) e
both_equal Equal s x y e f = f ∙ ap (λ b. b && y) e
both_equal Greater s x y e f = ap (λ b. b && y) e

-- ranks are equal just where weight and index are
pub rank_same : (a b : Got) → is_eq (rank_cmp (rank_of a) (rank_of b)) ≡ is_same a b
rank_same a b = both_equal (nat_cmp b.weight a.weight) (nat_cmp a.index b.index) (a.weight == b.weight) (a.index == b.index) (nat_back b.weight a.weight) (nat_same a.index b.index)

less_then : (r s : Ordering) (wa wb ia ib : ℕ) → MatchOrdering r (wb < wa) (wb ≡ wa) (wa < wb) → MatchOrdering s (ia < ib) (ia ≡ ib) (ib < ia) → ordering_then r s ≡ Less
    → (wb < wa) ⊎ ((wa ≡ wb) × (ia < ib))
less_then Less s wa wb ia ib m n e = inl m
less_then Equal Less wa wb ia ib m n e = inr (sym m, n)
less_then Equal Equal wa wb ia ib m n e = cc
less_then Equal Greater wa wb ia ib m n e = cc
less_then Greater s wa wb ia ib m n e = cc

then_less : (r s : Ordering) (wa wb ia ib : ℕ) → MatchOrdering r (wb < wa) (wb ≡ wa) (wa < wb) → MatchOrdering s (ia < ib) (ia ≡ ib) (ib < ia)
    → (wb < wa) ⊎ ((wa ≡ wb) × (ia < ib)) → ordering_then r s ≡ Less
then_less Less s wa wb ia ib m n before = refl
then_less Equal Less wa wb ia ib m n before = refl
then_less Equal Equal wa wb ia ib m n (inl lt) = absurd (omega arith)
then_less Equal Equal wa wb ia ib m n (inr both) = absurd (omega (arith, both.1))
then_less Equal Greater wa wb ia ib m n (inl lt) = absurd (omega arith)
then_less Equal Greater wa wb ia ib m n (inr both) = absurd (omega (arith, both.1))
then_less Greater s wa wb ia ib m n (inl lt) = absurd (omega arith)
then_less Greater s wa wb ia ib m n (inr both) = absurd (omega (arith, both.0))

pub before_less : (a b : Got) → rank_cmp (rank_of a) (rank_of b) ≡ Less → ComesBefore a b
before_less a b e =
    less_then (nat_cmp b.weight a.weight) (nat_cmp a.index b.index) a.weight b.weight a.index b.index
    (ranked b.weight a.weight (nat_cmp b.weight a.weight) refl) (ranked a.index b.index (nat_cmp a.index b.index) refl) e

pub less_before : (a b : Got) → ComesBefore a b → rank_cmp (rank_of a) (rank_of b) ≡ Less
less_before a b before =
    then_less (nat_cmp b.weight a.weight) (nat_cmp a.index b.index) a.weight b.weight a.index b.index
    (ranked b.weight a.weight (nat_cmp b.weight a.weight) refl) (ranked a.index b.index (nat_cmp a.index b.index) refl) before

-- what does not come after comes not behind
pub not_behind : (a b : Got) → is_gt (rank_cmp (rank_of a) (rank_of b)) ≡ false → ComesBefore b a → ⊥
not_behind a b e before = at (nat_cmp b.weight a.weight) (nat_cmp a.index b.index) (ranked b.weight a.weight (nat_cmp b.weight a.weight) refl) (ranked a.index b.index (nat_cmp a.index b.index) refl) e before where
  at : (r s : Ordering) → MatchOrdering r (b.weight < a.weight) (b.weight ≡ a.weight) (a.weight < b.weight) → MatchOrdering s (a.index < b.index) (a.index ≡ b.index) (b.index < a.index)
      → is_gt (ordering_then r s) ≡ false → ComesBefore b a → ⊥
  at Less s m n e (inl lt) = omega arith
  at Less s m n e (inr both) = omega (arith, both.0)
  at Equal Less m n e (inl lt) = omega arith
  at Equal Less m n e (inr both) = omega (arith, both.1)
  at Equal Equal m n e (inl lt) = omega arith
  at Equal Equal m n e (inr both) = omega (arith, both.1)
  at Equal Greater m n e before = cc
  at Greater s m n e before = cc

true_false : (b : Bool) → b ≡ true → b ≡ false → ⊥
true_false true e f = cc
true_false false e f = cc

-- the first of what a range holds
some_shown : (r : Ranking) (from : Bound Rank) (k : Rank) (t : List Rank) → IsKeyRangeOf rank_cmp from Unbounded r.set (k ∷ t) → IsLeastFrom r from k
some_shown r from k t range = record {
  is = record { inside = range.1.0; has = range.1.1 };
  least = λ other is. range.2 other is.inside is.has;
}

pub first_shown : (r : Ranking) (from : Bound Rank) (s t : List Rank) (x : Option (Bor Rank)) → IsKeyRangeOf rank_cmp from Unbounded r.set s → TakesFirst deref s x t → IsFirstIn r from (option_copied x)
first_shown r from s t None range steps = λ k is. true_false (contains rank_cmp r.set k) is.has (range.5 steps.0 k is.inside)
first_shown r from s t (Some x) range steps = some_shown r from x.now t (subst (λ (l : List Rank). IsKeyRangeOf rank_cmp from Unbounded r.set l) steps range)

behind_in : (start : Start) (g : Got) → IsBehind start g → IsInRange rank_cmp (from_of start) Unbounded (rank_of g)
behind_in Active g is = (tt, tt)
behind_in Top g is = (tt, tt)
behind_in (After weight index) g is = (less_before (record { index = index; weight = weight }) g is, tt)

in_behind : (start : Start) (g : Got) → IsInRange rank_cmp (from_of start) Unbounded (rank_of g) → IsBehind start g
in_behind Active g is = tt
in_behind Top g is = tt
in_behind (After weight index) g is = before_less (record { index = index; weight = weight }) g is.0

pub none_first : (r : Ranking) (start : Start) → IsFirstIn r (from_of start) None → IsFirstOf (λ g. (has r g ≡ true) × IsBehind start g) None
none_first r start none = λ g is. none (rank_of g) (record { inside = behind_in start g is.1; has = is.0 })

own_first : (r : Ranking) (start : Start) (got : Got) → IsLeastFrom r (from_of start) (rank_of got) → IsFirst (λ g. (has r g ≡ true) × IsBehind start g) got
own_first r start got least = record {
  is = (least.is.has, in_behind start got least.is.inside);
  first = λ other is before. not_behind got other (least.least (rank_of other) (record { inside = behind_in start other is.1; has = is.0 })) before;
}

pub some_first : (r : Ranking) (start : Start) (k : Rank) (got : Got) → k ≡ rank_of got → IsLeastFrom r (from_of start) k → IsFirst (λ g. (has r g ≡ true) × IsBehind start g) got
some_first r start k got same least = own_first r start got (subst (λ (x : Rank). IsLeastFrom r (from_of start) x) same least)
