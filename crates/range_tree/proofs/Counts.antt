-- Runs by the highest set bit of their length, in units and in bytes.
use Rattle.std.proofs.Common.{◌≡◌, ℕ, suc, ◌+◌, ◌-◌, ◌*◌, ◌^◌, ◌<◌, ◌≤◌, ◌⊎◌, inl, inr, Bool, true, false, cond, List, [], ◌∷◌, length, get_or, set, refl, sym, ap, subst, ◌∙◌, arith}
use Rattle.std.specs.Prelude.{nat_le, nat_lt}
use Rattle.std.specs.List.{count_by}
use Rattle.std.proofs.lemmas.Bool.{cases_lt, false≢true, leb-true, ltb-true, le-leb, lt-ltb}
use Rattle.std.proofs.lemmas.List.{get_or-set_same, get_or-set_other}
use Rattle.std.proofs.lemmas.List.Sums.{sum_by-cons}
use Rattle.std.proofs.lemmas.Nat.{leading_top, pow-add, mul-le, shl_below}
use Rattle.zms_units.specs.declared.histograms.Histogram.{Histogram}
use Rattle.zms_units.specs.declared.segments.Seg.{Seg}
use Rattle.zms_units.specs.Segments.{end_of}
use Rattle.zms_units.specs.Apart.{AreApartFrom}
use Rattle.zms_units.specs.Weights.{is_in_bucket, IsHistogramOf}
use Rattle.zms_units.proofs.Bools.{true_and}
use Rattle.zms_units.proofs.Buckets.{Holds, in_bucket, bucket_holds, one_bucket}
use Rattle.zms_units.proofs.ApartRuns.{apart_order}
use Rattle.zms_units.proofs.Maximal.{apart_maximal}
use Rattle.seg_pool.specs.Pool.{Pool}
use Rattle.range_tree.specs.declared.node.RunNode.{RunNode}
use Rattle.range_tree.specs.declared.tree.Tree.{Tree}
use Rattle.range_tree.specs.Kept.{runs_of, units_of, is_long_as, IsTree}

same_bool : (a b : Bool) → (a ≡ true → b ≡ true) → (b ≡ true → a ≡ true) → a ≡ b
same_bool true b f g = sym (f refl)
same_bool false true f g = g refl
same_bool false false f g = refl

-- units of a power of two bytes move the highest set bit
scaled : (ashift bit count : ℕ) → 2 ^ bit ≤ count → count < 2 ^ (bit + 1) → Holds (ashift + bit) (count * 2 ^ ashift)
scaled ashift bit count least most =
    let up : ashift + (bit + 1) ≡ (bit + 1) + ashift = omega arith in
    let there : ashift + bit ≡ bit + ashift = omega arith in
    subst (λ n. Holds n (count * 2 ^ ashift)) (sym there)
    (record {
      least = subst (λ n. n ≤ count * 2 ^ ashift) (sym (pow-add 2 bit ashift)) (mul-le (2 ^ bit) (2 ^ ashift) count (2 ^ ashift) least (omega arith));
      most = subst (λ n. count * 2 ^ ashift < 2 ^ n) (next bit ashift) (shl_below count (bit + 1) ashift most);
    })
  where
    next : (b a : ℕ) → (b + 1) + a ≡ (b + a) + 1
    next b a = omega arith

module _ (ashift : ℕ) (run : Seg) (some : 0 < run.count) (most : run.count < 2 ^ 18) where
  top : (k : ℕ) × (k < 18) × Holds (ashift + k) (run.count * 2 ^ ashift) × (is_long_as k run ≡ true)
  top =
      let t = leading_top 18 run.count some most in
      let m : run.count < 2 ^ (t.0 + 1) = subst (λ n. run.count < 2 ^ n) (next t.0) t.3 in
      (t.0, omega (arith, t.1), scaled ashift t.0 run.count t.2 m, rw (le-leb _ _ t.2, lt-ltb _ _ m) refl)
    where
      next : (n : ℕ) → suc n ≡ n + 1
      next n = omega arith

  same_bit : (bit : ℕ) → is_in_bucket ashift (ashift + bit) run ≡ is_long_as bit run
  same_bit bit =
      same_bool _ _
      (λ e.
      let same : ashift + top.0 ≡ ashift + bit = one_bucket (ashift + top.0) (ashift + bit) (run.count * 2 ^ ashift) top.2 (bucket_holds ashift (ashift + bit) run e) in
      let bits : top.0 ≡ bit = omega (arith, same) in
      subst (λ n. is_long_as n run ≡ true) bits top.3)
      (λ e.
      let both : (nat_le (2 ^ bit) run.count ≡ true) × (nat_lt run.count (2 ^ (bit + 1)) ≡ true) = true_and _ _ e in
      in_bucket ashift (ashift + bit) run (scaled ashift bit run.count (leb-true _ _ both.0) (ltb-true _ _ both.1)))

  out_of : (bucket : ℕ) → (bucket < ashift) ⊎ (ashift + 18 ≤ bucket) → is_in_bucket ashift bucket run ≡ false
  out_of bucket o =
      same_bool _ false
      (λ e.
      let same : ashift + top.0 ≡ bucket = one_bucket (ashift + top.0) bucket (run.count * 2 ^ ashift) top.2 (bucket_holds ashift bucket run e) in
      elim o [ inl under ↦ absurd (omega (arith, same, under)) | inr over ↦ absurd (omega (arith, same, over, top.1)) ])
      (λ e. absurd (false≢true e))

count_same : (p q : Seg → Bool) (low : ℕ) (runs : List Seg) → AreApartFrom low 131073 runs → ((r : Seg) → 0 < r.count → r.count < 2 ^ 18 → p r ≡ q r) → count_by p runs ≡ count_by q runs
count_same p q low [] a h = refl
count_same p q low (r ∷ rs) a h =
    let fits = apart_order (end_of r + 1) 131073 rs a.2 in
    let one : ◌≡◌ {A = ℕ} (cond (p r) 1 0) (cond (q r) 1 0) = ap (λ (b : Bool). cond b 1 0) (h r a.1 (omega (arith, fits))) in
    omega (arith, one, sum_by-cons (λ x. cond (p x) 1 0) r rs, sum_by-cons (λ x. cond (q x) 1 0) r rs, count_same p q (end_of r + 1) rs a.2 h)

count_none : (runs : List Seg) → count_by (λ r. false) runs ≡ (let z : ℕ = 0 in z)
count_none [] = refl
count_none (r ∷ rs) = omega (arith, sum_by-cons (λ (x : Seg). cond false (let one : ℕ = 1 in one) 0) r rs, count_none rs)

-- counts that are written into a histogram from a bucket on
module _ (hist lengths : List ℕ) (ashift bit : ℕ) (within : ashift + bit < length hist) where
  pub written_done : ((k : ℕ) → k < bit → get_or hist (ashift + k) 0 ≡ get_or lengths k 0) → (k : ℕ) → k < bit + 1 → get_or (set hist (ashift + bit) (get_or lengths bit 0)) (ashift + k) 0 ≡ get_or lengths k 0
  written_done done k l =
      elim (cases_lt k bit) [
        | inl under ↦ get_or-set_other hist (ashift + bit) (ashift + k) (get_or lengths bit 0) 0 (λ e. omega (arith, e, under)) ∙ done k under
        | inr here ↦
            let same : k ≡ bit = omega (arith, here, l) in
            ap (λ n. get_or (set hist (ashift + bit) (get_or lengths bit 0)) (ashift + n) 0) same ∙ get_or-set_same hist (ashift + bit) (get_or lengths bit 0) 0 within ∙ ap (λ n. get_or lengths n 0) (sym same)
      ]

  pub written_rest : ((b : ℕ) → (b < ashift) ⊎ (ashift + bit ≤ b) → get_or hist b 0 ≡ 0) → (b : ℕ) → (b < ashift) ⊎ (ashift + (bit + 1) ≤ b) → get_or (set hist (ashift + bit) (get_or lengths bit 0)) b 0 ≡ 0
  written_rest rest b (inl l) = get_or-set_other hist (ashift + bit) b (get_or lengths bit 0) 0 (λ e. omega (arith, e, l)) ∙ rest b (inl l)
  written_rest rest b (inr l) = get_or-set_other hist (ashift + bit) b (get_or lengths bit 0) 0 (λ e. omega (arith, e, l)) ∙ rest b (inr (omega (arith, l)))

-- the counts of a tree are a histogram of its units
pub histogram_is : {pool : Pool RunNode} {tree : Tree} → IsTree pool tree → (ashift : ℕ) (hist : Histogram) → ((bit : ℕ) → bit < 18 → get_or hist.runs (ashift + bit) 0 ≡ get_or tree.lengths bit 0)
    → ((b : ℕ) → (b < ashift) ⊎ (ashift + 18 ≤ b) → get_or hist.runs b 0 ≡ 0) → IsHistogramOf (units_of pool tree) 131072 ashift hist
histogram_is {pool} {tree} t ashift hist done rest =
    record {
      runs = runs_of pool tree;
      maximal = apart_maximal (units_of pool tree) 131072 (runs_of pool tree) t.apart (λ u l. refl);
      counts = λ bucket below. counted bucket (cases_lt bucket ashift) (cases_lt bucket (ashift + 18));
    }
  where
    outside : (b : ℕ) → (b < ashift) ⊎ (ashift + 18 ≤ b) → get_or hist.runs b 0 ≡ count_by (is_in_bucket ashift b) (runs_of pool tree)
    outside b o = rest b o ∙ sym (count_same (is_in_bucket ashift b) (λ r. false) 0 (runs_of pool tree) t.apart (λ r some most. out_of ashift r some most b o) ∙ count_none (runs_of pool tree))

    counted : (b : ℕ) → (b < ashift) ⊎ (ashift ≤ b) → (b < ashift + 18) ⊎ (ashift + 18 ≤ b) → get_or hist.runs b 0 ≡ count_by (is_in_bucket ashift b) (runs_of pool tree)
    counted b (inl under) p = outside b (inl under)
    counted b (inr from) (inr over) = outside b (inr over)
    counted b (inr from) (inl till) =
        let e : b ≡ ashift + (b - ashift) = omega (arith, from) in
        subst (λ n. get_or hist.runs n 0 ≡ count_by (is_in_bucket ashift n) (runs_of pool tree)) (sym e)
        (done (b - ashift) (omega (arith, from, till)) ∙ t.lengths (b - ashift) (omega (arith, from, till))
        ∙ sym (count_same (is_in_bucket ashift (ashift + (b - ashift))) (is_long_as (b - ashift)) 0 (runs_of pool tree) t.apart (λ r some most. same_bit ashift r some most (b - ashift))))
