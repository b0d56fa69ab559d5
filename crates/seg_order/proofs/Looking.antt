-- A descent that looks for the first node that passes a test.
use Rattle.std.proofs.Common.{◌≡◌, ℕ, ◌+◌, ◌≤◌, Bool, true, false, Option, Some, None, List, [], ◌∷◌, ◌++◌, refl, sym, ap, subst, ◌∙◌, append_assoc, append-nil, arith}
use Rattle.seg_pool.specs.declared.NodeNo.{NodeNo}
use Rattle.seg_pool.specs.Pool.{Pool}
use Rattle.seg_order.specs.declared.links.Side.TheVariants.{Left}
use Rattle.seg_order.specs.Rules.{Rules, IsLawful}
use Rattle.seg_order.specs.Lists.{Each}
use Rattle.seg_order.specs.Sides.{comes_before, IsBefore}
use Rattle.seg_order.specs.Trees.{stored_height, nodes_from, IsOver}
use Rattle.seg_order.specs.Looks.{IsFound}
use Rattle.seg_order.proofs.Apart.{Each-append, Each-weaker}
use Rattle.seg_order.proofs.Standing.{Opened, none_empty}
use Rattle.seg_order.proofs.Moving.{near_over, far_over, opened_sorted}

-- what was found so far is the first of what lies behind
abbrev pub IsHead : (ℕ → Bool) → List ℕ → Option NodeNo → Type 0
IsHead fails back None = back ≡ []
IsHead fails back (Some at) = (rest : List ℕ) × (back ≡ at.0 ∷ rest) × (fails at.0 ≡ false)

module _ {N : Type 0} (rules : Rules N) (pool : Pool N) (fails : ℕ → Bool) where
  -- what is looked for stands below a root, or is what was found so far
  pub record Seeks (whole : List ℕ) (below found : Option NodeNo) : Type 0 where
    pub front : List ℕ
    pub back : List ℕ
    pub split : whole ≡ front ++ (nodes_from rules pool below ++ back)
    pub skipped : Each (λ one. fails one ≡ true) front
    pub head : IsHead fails back found

  -- so far down, with so many visits
  pub record Descends (root below found : Option NodeNo) (visits : ℕ) : Type 0 where
    pub over : IsOver rules pool below
    pub seeks : Seeks (nodes_from rules pool root) below found
    pub counted : visits + stored_height rules pool below ≤ stored_height rules pool root

  pub starts : (root : Option NodeNo) → IsOver rules pool root → Descends root root None 0
  starts root v =
      record {
        over = v;
        seeks = record { front = []; back = []; split = sym (append-nil _); skipped = tt; head = refl };
        counted = omega arith;
      }

  found_all : (whole : List ℕ) (found : Option NodeNo) (front back : List ℕ) → whole ≡ front ++ back → Each (λ one. fails one ≡ true) front → IsHead fails back found → IsFound fails whole found
  found_all whole None front back split skipped head =
      subst (Each (λ one. fails one ≡ true)) (sym (split ∙ ap (λ q. front ++ q) head ∙ append-nil front)) skipped
  found_all whole (Some at) front back split skipped head =
      record { front = front; back = head.0; split = split ∙ ap (λ q. front ++ q) head.1; skipped = skipped; passes = head.2 }

  pub ends : {root below found : Option NodeNo} {visits : ℕ} → Descends root below found visits → below ≡ None → IsFound fails (nodes_from rules pool root) found
  ends {root} {below} {found} d none =
      let s = d.seeks in
      let empty : nodes_from rules pool below ≡ [] = ap (nodes_from rules pool) none ∙ none_empty rules pool in
      found_all _ found s.front s.back (s.split ∙ ap (λ q. s.front ++ (q ++ s.back)) empty) s.skipped s.head

  module _ (lawful : IsLawful rules) {root found : Option NodeNo} {visits : ℕ} {at : NodeNo} {near far : Option NodeNo} (d : Descends root (Some at) found visits) (o : Opened rules pool Left at near far) where
    pub goes_right : fails at.0 ≡ true → Each (λ one. fails one ≡ true) (nodes_from rules pool near) → Descends root far found (visits + 1)
    goes_right here before =
        let s = d.seeks in
        let l = nodes_from rules pool near in
        let r = nodes_from rules pool far in
        record {
          over = far_over rules lawful d.over o;
          seeks = record {
            front = s.front ++ (l ++ at.0 ∷ []);
            back = s.back;
            split = s.split ∙ ap (λ q. s.front ++ (q ++ s.back)) o.list ∙ shift s.front l r s.back;
            skipped = Each-append (λ one. fails one ≡ true) s.front (l ++ at.0 ∷ []) s.skipped (Each-append (λ one. fails one ≡ true) l (at.0 ∷ []) before (here, tt));
            head = s.head;
          };
          counted = omega (arith, d.counted, o.height);
        }
      where
        shift : (front l r back : List ℕ) → front ++ ((l ++ at.0 ∷ r) ++ back) ≡ (front ++ (l ++ at.0 ∷ [])) ++ (r ++ back)
        shift front l r back = simp append_assoc

    pub goes_left : fails at.0 ≡ false → Descends root near (Some at) (visits + 1)
    goes_left here =
        let s = d.seeks in
        let l = nodes_from rules pool near in
        let r = nodes_from rules pool far in
        record {
          over = near_over rules lawful d.over o;
          seeks = record {
            front = s.front;
            back = at.0 ∷ (r ++ s.back);
            split = s.split ∙ ap (λ q. s.front ++ (q ++ s.back)) o.list ∙ shift s.front l r s.back;
            skipped = s.skipped;
            head = (r ++ s.back, refl, here);
          };
          counted = omega (arith, d.counted, o.height);
        }
      where
        shift : (front l r back : List ℕ) → front ++ ((l ++ at.0 ∷ r) ++ back) ≡ front ++ (l ++ at.0 ∷ (r ++ back))
        shift front l r back = ap (λ q. front ++ q) (append_assoc l (at.0 ∷ r) back)

    -- what fails passes the failing on to what comes before it
    pub near_fails : ((j : ℕ) → IsBefore rules pool j at.0 → fails j ≡ true) → Each (λ one. fails one ≡ true) (nodes_from rules pool near)
    near_fails f = Each-weaker (λ j. IsBefore rules pool j at.0) (λ one. fails one ≡ true) f _ (opened_sorted rules lawful d.over o).near_comes

-- a key comes after what comes before a node that it comes after
pub before_key : {N : Type 0} (rules : Rules N) (lawful : IsLawful rules) (x y : Option N) (key : N) → comes_before rules x y ≡ true → comes_before rules y (Some key) ≡ true → comes_before rules x (Some key) ≡ true
before_key rules lawful None y key p q = p
before_key rules lawful (Some x) None key p q = absurd (cc)
before_key rules lawful (Some x) (Some y) key p q = lawful.transitive x y key p q
