-- Sorted lists of places.
use Rattle.std.proofs.Common.{◌≡◌, ◌≢◌, ℕ, zero, suc, ◌<◌, ◌⊎◌, inl, inr, Bool, true, false, cond, Option, Some, None, List, [], ◌∷◌, ◌++◌, length, get_or, refl, sym, ap, subst, ◌∙◌, append_assoc, arith, Contains}
use Rattle.std.proofs.lemmas.Bool.{false≢true}
use Rattle.std.proofs.lemmas.List.Elements.{Contains-append_cases}
use Rattle.seg_pool.specs.Pool.{Pool, node_at}
use Rattle.seg_order.specs.declared.links.Side.{Side}
use Rattle.seg_order.specs.declared.links.Side.TheVariants.{Left, Right}
use Rattle.seg_order.specs.Rules.{Rules, IsLawful}
use Rattle.seg_order.specs.Lists.{Each, IsApart, AreApart, IsDistinct, PutIn, Parts}
use Rattle.seg_order.specs.Sides.{between, comes_before, IsBefore, side_of}
use Rattle.seg_order.specs.Trees.{IsSorted}
use Rattle.seg_order.proofs.Apart.{Each-append, Each-front, Each-back, Each-weaker, Each-in, AreApart-sym, parts_from}

-- what holds of a list with a place more
pub each_put : (P : ℕ → Type 0) {rest list : List ℕ} {at : ℕ} → PutIn rest at list → Each P rest → P at → Each P list
each_put P {rest} {list} {at} p h here =
    let both = subst (Each P) p.without h in
    subst (Each P) (sym p.with_it) (Each-append P p.front (at ∷ p.back) (Each-front P p.front p.back both) (here, Each-back P p.front p.back both))

pub each_rest : (P : ℕ → Type 0) {rest list : List ℕ} {at : ℕ} → PutIn rest at list → Each P list → Each P rest
each_rest P {rest} {list} {at} p h =
    let both = subst (Each P) p.with_it h in
    subst (Each P) (sym p.without) (Each-append P p.front p.back (Each-front P p.front (at ∷ p.back) both) (Each-back P p.front (at ∷ p.back) both).1)

pub each_taken : (P : ℕ → Type 0) {rest list : List ℕ} {at : ℕ} → PutIn rest at list → Each P list → P at
each_taken P {rest} {list} {at} p h = (Each-back P p.front (at ∷ p.back) (subst (Each P) p.with_it h)).0

distinct_without : (front back : List ℕ) (at : ℕ) → IsDistinct (front ++ at ∷ back) → IsDistinct (front ++ back)
distinct_without [] back at d = d.1
distinct_without (x ∷ xs) back at d =
    (Each-append (λ j. j ≡ x → ⊥) xs back (Each-front (λ j. j ≡ x → ⊥) xs (at ∷ back) d.0) (Each-back (λ j. j ≡ x → ⊥) xs (at ∷ back) d.0).1, distinct_without xs back at d.1)

pub distinct_rest : {rest list : List ℕ} {at : ℕ} → PutIn rest at list → IsDistinct list → IsDistinct rest
distinct_rest p d = subst IsDistinct (sym p.without) (distinct_without p.front p.back _ (subst IsDistinct p.with_it d))

-- fewer places stay apart
pub parts_less : {rest xs ys : List ℕ} {no at : ℕ} → PutIn rest no xs → Parts xs at ys → Parts rest at ys
parts_less {rest} {xs} {ys} {no} {at} p q =
    let across : AreApart rest ys = each_rest (λ k. IsApart k ys) p q.across in
    record {
      near_distinct = distinct_rest p q.near_distinct;
      far_distinct = q.far_distinct;
      at_near = each_rest (λ j. j ≡ at → ⊥) p q.at_near;
      at_far = q.at_far;
      across = across;
      back = AreApart-sym rest ys across;
    }

-- a place that comes into one side, or leaves it
pub put_near : (side : Side) {xs more : List ℕ} {no : ℕ} (at : ℕ) (ys : List ℕ) → PutIn xs no more → PutIn (between side xs at ys) no (between side more at ys)
put_near Left at ys p =
    record {
      front = p.front;
      back = p.back ++ at ∷ ys;
      without = ap (λ q. q ++ at ∷ ys) p.without ∙ append_assoc p.front p.back (at ∷ ys);
      with_it = ap (λ q. q ++ at ∷ ys) p.with_it ∙ append_assoc p.front (_ ∷ p.back) (at ∷ ys);
    }
put_near Right at ys p =
    record {
      front = ys ++ at ∷ p.front;
      back = p.back;
      without = ap (λ q. ys ++ at ∷ q) p.without ∙ sym (append_assoc ys (at ∷ p.front) p.back);
      with_it = ap (λ q. ys ++ at ∷ q) p.with_it ∙ sym (append_assoc ys (at ∷ p.front) (_ ∷ p.back));
    }

contains_rest : (x y : ℕ) (ys : List ℕ) → Contains (y ∷ ys) x → (x ≡ y) ⊎ Contains ys x
contains_rest x y ys c = by_place c.0 c.1 c.2
  where
    by_place : (k : ℕ) → k < suc (length ys) → get_or (y ∷ ys) k x ≡ x → (x ≡ y) ⊎ Contains ys x
    by_place zero within found = inl (sym found)
    by_place (suc k) within found = inr (k, omega arith, found)

pub contains_between : (side : Side) (xs : List ℕ) (at : ℕ) (ys : List ℕ) (x : ℕ) → Contains (between side xs at ys) x → (x ≡ at) ⊎ (Contains xs x ⊎ Contains ys x)
contains_between Left xs at ys x c =
    elim (Contains-append_cases xs (at ∷ ys) x c) [
      | inl front ↦ inr (inl front)
      | inr back ↦ elim (contains_rest x at ys back) [ inl same ↦ inl same | inr later ↦ inr (inr later) ]
    ]
contains_between Right xs at ys x c =
    elim (Contains-append_cases ys (at ∷ xs) x c) [
      | inl front ↦ inr (inr front)
      | inr back ↦ elim (contains_rest x at xs back) [ inl same ↦ inl same | inr later ↦ inr (inl later) ]
    ]

pub none_contained : (x : ℕ) → Contains [] x → ⊥
none_contained x c = omega (arith, c.1)

module _ {N : Type 0} (rules : Rules N) (lawful : IsLawful rules) (pool : Pool N) where
  never_itself : (x : Option N) → comes_before rules x x ≡ false
  never_itself None = refl
  never_itself (Some x) = lawful.irreflexive x

  passed_on : (x y z : Option N) → comes_before rules x y ≡ true → comes_before rules y z ≡ true → comes_before rules x z ≡ true
  passed_on None y z p q = absurd (false≢true p)
  passed_on (Some x) None z p q = absurd (false≢true p)
  passed_on (Some x) (Some y) None p q = absurd (false≢true q)
  passed_on (Some x) (Some y) (Some z) p q = lawful.transitive x y z p q

  pub before_itself : (k : ℕ) → IsBefore rules pool k k → ⊥
  before_itself k h = false≢true (sym (never_itself (node_at pool k)) ∙ h)

  pub before_apart : (j k : ℕ) → IsBefore rules pool j k → k ≢ j
  before_apart j k h e = before_itself j (subst (IsBefore rules pool j) e h)

  pub before_then : (i j k : ℕ) → IsBefore rules pool i j → IsBefore rules pool j k → IsBefore rules pool i k
  before_then i j k p q = passed_on _ _ _ p q

  pub sorted_distinct : (xs : List ℕ) → IsSorted rules pool xs → IsDistinct xs
  sorted_distinct [] s = tt
  sorted_distinct (x ∷ xs) s = (Each-weaker (IsBefore rules pool x) (λ j. j ≡ x → ⊥) (λ j. before_apart x j) xs s.0, sorted_distinct xs s.1)

  -- on one side of a node means before it or after it
  abbrev pub comes : Side → ℕ → ℕ → Type 0
  comes Left first second = IsBefore rules pool first second
  comes Right first second = IsBefore rules pool second first

  pub comes_then : (side : Side) (i j k : ℕ) → comes side i j → comes side j k → comes side i k
  comes_then Left i j k p q = before_then i j k p q
  comes_then Right i j k p q = before_then k j i q p

  pub record Sorted (side : Side) (xs : List ℕ) (at : ℕ) (ys : List ℕ) : Type 0 where
    pub near_sorted : IsSorted rules pool xs
    pub far_sorted : IsSorted rules pool ys
    pub near_comes : Each (λ j. comes side j at) xs
    pub far_comes : Each (λ j. comes side at j) ys

  split : (xs : List ℕ) (at : ℕ) (ys : List ℕ) → IsSorted rules pool (xs ++ at ∷ ys) → Sorted Left xs at ys
  split [] at ys s = record { near_sorted = tt; far_sorted = s.1; near_comes = tt; far_comes = s.0 }
  split (x ∷ xs) at ys s =
      let rest = split xs at ys s.1 in
      record {
        near_sorted = (Each-front (IsBefore rules pool x) xs (at ∷ ys) s.0, rest.near_sorted);
        far_sorted = rest.far_sorted;
        near_comes = ((Each-back (IsBefore rules pool x) xs (at ∷ ys) s.0).0, rest.near_comes);
        far_comes = rest.far_comes;
      }

  join : (xs : List ℕ) (at : ℕ) (ys : List ℕ) → Sorted Left xs at ys → IsSorted rules pool (xs ++ at ∷ ys)
  join [] at ys s = (s.far_comes, s.far_sorted)
  join (x ∷ xs) at ys s =
      let here = s.near_comes.0 in (
        Each-append (IsBefore rules pool x) xs (at ∷ ys) s.near_sorted.0 (here, Each-weaker (IsBefore rules pool at) (IsBefore rules pool x) (λ k. before_then x at k here) ys s.far_comes),
        join xs at ys (record { near_sorted = s.near_sorted.1; far_sorted = s.far_sorted; near_comes = s.near_comes.1; far_comes = s.far_comes }),
      )

  pub sorted_parts : (side : Side) (xs : List ℕ) (at : ℕ) (ys : List ℕ) → IsSorted rules pool (between side xs at ys) → Sorted side xs at ys
  sorted_parts Left xs at ys s = split xs at ys s
  sorted_parts Right xs at ys s =
      let p = split ys at xs s in
      record { near_sorted = p.far_sorted; far_sorted = p.near_sorted; near_comes = p.far_comes; far_comes = p.near_comes }

  pub sorted_between : (side : Side) (xs : List ℕ) (at : ℕ) (ys : List ℕ) → Sorted side xs at ys → IsSorted rules pool (between side xs at ys)
  sorted_between Left xs at ys s = join xs at ys s
  sorted_between Right xs at ys s =
      join ys at xs (record { near_sorted = s.far_sorted; far_sorted = s.near_sorted; near_comes = s.far_comes; far_comes = s.near_comes })

  sorted_without : (front back : List ℕ) (at : ℕ) → IsSorted rules pool (front ++ at ∷ back) → IsSorted rules pool (front ++ back)
  sorted_without [] back at s = s.1
  sorted_without (x ∷ xs) back at s =
      (Each-append (IsBefore rules pool x) xs back (Each-front (IsBefore rules pool x) xs (at ∷ back) s.0) (Each-back (IsBefore rules pool x) xs (at ∷ back) s.0).1, sorted_without xs back at s.1)

  pub sorted_rest : {rest list : List ℕ} {at : ℕ} → PutIn rest at list → IsSorted rules pool list → IsSorted rules pool rest
  sorted_rest p s = subst (IsSorted rules pool) (sym p.without) (sorted_without p.front p.back _ (subst (IsSorted rules pool) p.with_it s))

  -- the side on which a node belongs
  pub side_comes : (side : Side) (one at : ℕ) → side ≡ side_of rules pool one at → IsBefore rules pool one at ⊎ IsBefore rules pool at one → comes side one at
  side_comes side one at is differs = by_test (comes_before rules (node_at pool one) (node_at pool at)) refl
    where
      by_test : (b : Bool) → comes_before rules (node_at pool one) (node_at pool at) ≡ b → comes side one at
      by_test true e = subst (λ s. comes s one at) (sym (is ∙ ap (λ t. cond t Left Right) e)) e
      by_test false e =
          let later : IsBefore rules pool at one = elim differs [ inl h ↦ absurd (false≢true (sym e ∙ h)) | inr h ↦ h ] in
          subst (λ s. comes s one at) (sym (is ∙ ap (λ t. cond t Left Right) e)) later

  pub wrong_side : (side : Side) (one at : ℕ) → side ≡ side_of rules pool one at → comes side at one → ⊥
  wrong_side side one at is h = by_test (comes_before rules (node_at pool one) (node_at pool at)) refl
    where
      by_test : (b : Bool) → comes_before rules (node_at pool one) (node_at pool at) ≡ b → ⊥
      by_test true e =
          let there : IsBefore rules pool at one = subst (λ s. comes s at one) (is ∙ ap (λ t. cond t Left Right) e) h in
          before_itself one (before_then one at one e there)
      by_test false e =
          let there : IsBefore rules pool one at = subst (λ s. comes s at one) (is ∙ ap (λ t. cond t Left Right) e) h in
          false≢true (sym e ∙ there)

  -- a listed place other than the top stands on its side
  pub on_side : (side : Side) (one at : ℕ) (xs ys : List ℕ) → side ≡ side_of rules pool one at → one ≢ at → IsSorted rules pool (between side xs at ys) → Contains (between side xs at ys) one → Contains xs one
  on_side side one at xs ys is differs s c =
      let p = sorted_parts side xs at ys s in
      elim (contains_between side xs at ys one c) [
        | inl same ↦ absurd (differs same)
        | inr found ↦ elim found [
          | inl near ↦ near
          | inr far ↦ absurd (wrong_side side one at is (Each-in (λ j. comes side at j) ys one p.far_comes far))
        ]
      ]

  pub sorted_apart : (side : Side) (xs : List ℕ) (at : ℕ) (ys : List ℕ) → IsSorted rules pool (between side xs at ys) → Parts xs at ys
  sorted_apart side xs at ys s = parts_from side xs at ys (sorted_distinct _ s)
