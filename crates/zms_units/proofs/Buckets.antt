-- The bucket of a run: each length in bytes that fits 64 bits has one.
use Rattle.std.proofs.Common.{◌≡◌, ℕ, zero, ◌+◌, ◌*◌, ◌^◌, ◌≤◌, ◌<◌, refl, Bool, true, false, cond, List, length, get_or, set, replicate, subst, sym, ap, ◌∙◌, add-one, arith, ◌⊎◌, inl, inr, get_or-set_same, get_or-set_other}
use Rattle.std.specs.Prelude.{◌≢◌, nat_le, nat_lt}
use Rattle.std.proofs.lemmas.List.{get_or-replicate, get_or_past, length-replicate}
use Rattle.std.proofs.Math.Pow.{pow_mono}
use Rattle.std.proofs.lemmas.Bool.{leb-true, ltb-true, le-leb, lt-ltb}
use Rattle.std.proofs.lemmas.Nat.{leading_top}
use Rattle.zms_units.specs.declared.segments.Seg.{Seg}
use Rattle.zms_units.specs.Weights.{is_in_bucket}
use Rattle.zms_units.proofs.Bools.{true_and, le_or}

-- a bucket holds a length
pub record Holds (bucket bytes : ℕ) : Type 0 where
  pub least : 2 ^ bucket ≤ bytes
  pub most : bytes < 2 ^ (bucket + 1)

-- the bucket of a length
pub record BucketOf (bytes : ℕ) : Type 0 where
  pub bucket : ℕ
  pub below : bucket < 64
  pub holds : Holds bucket bytes

pub bucket_of : (bytes : ℕ) → 0 < bytes → bytes < 2 ^ 64 → BucketOf bytes
bucket_of bytes some fits =
    let t = leading_top 64 bytes some fits in
    record { bucket = t.0; below = omega (arith, t.1); holds = record { least = t.2; most = subst (λ n. bytes < 2 ^ n) (sym (add-one t.0)) t.3 } }

-- the test of a run tells that its bucket holds its length
pub in_bucket : (ashift bucket : ℕ) (run : Seg) → Holds bucket (run.count * 2 ^ ashift) → is_in_bucket ashift bucket run ≡ true
in_bucket ashift bucket run h =
    let a : nat_le (2 ^ bucket) (run.count * 2 ^ ashift) ≡ true = le-leb _ _ h.least in
    let b : nat_lt (run.count * 2 ^ ashift) (2 ^ (bucket + 1)) ≡ true = lt-ltb _ _ h.most in
    rw (a, b)

pub bucket_holds : (ashift bucket : ℕ) (run : Seg) → is_in_bucket ashift bucket run ≡ true → Holds bucket (run.count * 2 ^ ashift)
bucket_holds ashift bucket run e =
    let both : (nat_le (2 ^ bucket) (run.count * 2 ^ ashift) ≡ true) × (nat_lt (run.count * 2 ^ ashift) (2 ^ (bucket + 1)) ≡ true) = true_and _ _ e in
    record { least = leb-true _ _ both.0; most = ltb-true _ _ both.1 }

-- a length has one bucket
pub one_bucket : (a b bytes : ℕ) → Holds a bytes → Holds b bytes → a ≡ b
one_bucket a b bytes one other = by_order (le_or (a + 1) b) (le_or (b + 1) a) where
  by_order : (a + 1 ≤ b) ⊎ (b < a + 1) → (b + 1 ≤ a) ⊎ (a < b + 1) → a ≡ b
  by_order (inl l) m = let p : 2 ^ (a + 1) ≤ 2 ^ b = pow_mono {i = a + 1} {j = b} l in absurd (omega (arith, one.most, other.least))
  by_order (inr l) (inl m) = let p : 2 ^ (b + 1) ≤ 2 ^ a = pow_mono {i = b + 1} {j = a} m in absurd (omega (arith, other.most, one.least))
  by_order (inr l) (inr m) = omega arith

-- one more in one place
counted_at : (runs : List ℕ) (at bucket : ℕ) (t : Bool) → at < length runs → (bucket ≡ at → t ≡ true) → (t ≡ true → bucket ≡ at) → (bucket ≤ at) ⊎ (at < bucket) → (at ≤ bucket) ⊎ (bucket < at)
    → get_or (set runs at (get_or runs at 0 + 1)) bucket 0 ≡ get_or runs bucket 0 + cond t 1 0
counted_at runs at bucket true l here back p q =
    let e : bucket ≡ at = back refl in
    ap (λ n. get_or (set runs at (get_or runs at 0 + 1)) n 0) e ∙ (get_or-set_same runs at (get_or runs at 0 + 1) 0 l ∙ ap (λ n. get_or runs n 0 + 1) (sym e))
counted_at runs at bucket false l here back p q = get_or-set_other runs at bucket (get_or runs at 0 + 1) 0 other ∙ omega arith where
  other : bucket ≢ at
  other e = let f : false ≡ true = here e in cc

pub counted : (runs : List ℕ) (ashift at bucket : ℕ) (run : Seg) → at < length runs → Holds at (run.count * 2 ^ ashift)
    → get_or (set runs at (get_or runs at 0 + 1)) bucket 0 ≡ get_or runs bucket 0 + cond (is_in_bucket ashift bucket run) 1 0
counted runs ashift at bucket run l holds =
    counted_at runs at bucket (is_in_bucket ashift bucket run) l
    (λ e. in_bucket ashift bucket run (subst (λ n. Holds n (run.count * 2 ^ ashift)) (sym e) holds))
    (λ e. one_bucket bucket at (run.count * 2 ^ ashift) (bucket_holds ashift bucket run e) holds)
    (le_or bucket at) (le_or at bucket)

-- no run is counted at first
pub none_counted : (n bucket : ℕ) → ◌≡◌ {A = ℕ} (get_or (replicate n 0) bucket 0) 0
none_counted n bucket = by_order (le_or n bucket) where
  by_order : (n ≤ bucket) ⊎ (bucket < n) → ◌≡◌ {A = ℕ} (get_or (replicate n 0) bucket 0) 0
  by_order (inl past) = get_or_past (replicate n 0) bucket 0 (let e : length (replicate n zero) ≡ n = length-replicate n zero in omega (arith, e))
  by_order (inr below) = get_or-replicate n bucket 0 0 below
