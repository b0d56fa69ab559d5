-- Whether a slot is valid with an uberblock can be told from its bytes.
use Rattle.std.proofs.Common.{◌≡◌, ◌⊎◌, inl, inr, ℕ, List, [], ◌∷◌, length, get_or, drop, refl, ap, arith}
use Rattle.std.proofs.lemmas.Bool.{cases_lt}
use Rattle.sha2.specs.Sha256.{sha256}
use Rattle.zms_dev.specs.Bytes.{byte}
use Rattle.uber_ring.specs.Numbers.{bytes_at, number_at}
use Rattle.uber_ring.specs.Slots.{IsUber, IsValidSlot}
use Rattle.uber_ring.specs.declared.slot.Uber.{Uber}

abbrev OrNot : Type 0 → Type 0
OrNot P = P ⊎ (P → ⊥)

pub same_or_not : (a b : ℕ) → OrNot (a ≡ b)
same_or_not a b = elim (cases_lt a b) [
  | inl lt ↦ inr (λ e. absurd (omega arith))
  | inr ge ↦ elim (cases_lt b a) [ inl lt ↦ inr (λ e. absurd (omega arith)) | inr le ↦ inl (omega arith) ]
]

lists_or_not : (xs ys : List ℕ) → OrNot (xs ≡ ys)
lists_or_not [] [] = inl refl
lists_or_not [] (y ∷ ys) = inr (λ e. let wrong : 0 ≡ length (y ∷ ys) = ap length e in omega arith)
lists_or_not (x ∷ xs) [] = inr (λ e. let wrong : length (x ∷ xs) ≡ 0 = ap length e in omega arith)
lists_or_not (x ∷ xs) (y ∷ ys) = elim (same_or_not x y) [
  | inl first ↦ elim (lists_or_not xs ys) [
    | inl rest ↦ inl (λ i. first i ∷ rest i)
    | inr differ ↦ inr (λ e. differ (ap (λ (l : List ℕ). drop 1 l) e))
  ]
  | inr differ ↦ inr (λ e. differ (ap (λ (l : List ℕ). get_or l 0 0) e))
]

both_or_not : {P Q : Type 0} → OrNot P → OrNot Q → OrNot (P × Q)
both_or_not (inl p) (inl q) = inl (p, q)
both_or_not (inl p) (inr not_q) = inr (λ both. not_q both.1)
both_or_not (inr not_p) q = inr (λ both. not_p both.0)

pub valid_or_not : (bytes : List ℕ) (uber : Uber) → IsUber uber → OrNot (IsValidSlot bytes uber)
valid_or_not bytes uber limits =
    elim (both_or_not (same_or_not (byte bytes 1023) 0xB1)
    (both_or_not (same_or_not (number_at bytes 0 8) 0x00bab10c)
    (both_or_not (same_or_not (number_at bytes 8 8) uber.version)
    (both_or_not (same_or_not (number_at bytes 16 8) uber.group.0)
    (both_or_not (same_or_not (number_at bytes 24 8) uber.table_len)
    (both_or_not (lists_or_not (bytes_at bytes 32 32) uber.table_digest)
    (lists_or_not (bytes_at bytes 64 32) (sha256 (bytes_at bytes 0 64))))))))) [
      | inl all ↦ inl (record {
        gate = all.0;
        body = record {
          fields = record { magic = all.1.0; version = all.1.1.0; group = all.1.1.1.0; table_len = all.1.1.1.1.0; table_digest = all.1.1.1.1.1.0 };
          digest = all.1.1.1.1.1.1;
        };
        limits = limits;
      })
      | inr none ↦ inr (λ is. none (is.gate, (is.body.fields.magic, (is.body.fields.version, (is.body.fields.group, (is.body.fields.table_len, (is.body.fields.table_digest, is.body.digest)))))))
    ]
