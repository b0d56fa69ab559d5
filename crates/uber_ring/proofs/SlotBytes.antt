-- The bytes of a slot, as they are written and as they are read.
use Rattle.std.proofs.Common.{◌≡◌, ℕ, ◌<◌, List, length, sym, ◌∙◌, ap, arith}
use Rattle.sha2.specs.Sha256.{sha256}
use Rattle.sha2.proofs.Facts256.{length-sha256}
use Rattle.zms_dev.specs.Bytes.{byte}
use Rattle.uber_ring.specs.Numbers.{bytes_at, Puts, PutsNumber}
use Rattle.uber_ring.specs.Slots.{HasFields, IsBody}
use Rattle.uber_ring.specs.declared.slot.Uber.{Uber}
use Rattle.uber_ring.proofs.Pieces.{put_is, put_keeps_number, number_keeps_number, number_same, bytes_at_same}

-- five writes side by side
pub fields_written : (a b c d e f : List ℕ) (uber : Uber) → PutsNumber a b 0 8 0x00bab10c → PutsNumber b c 8 8 uber.version → PutsNumber c d 16 8 uber.group.0 → PutsNumber d e 24 8 uber.table_len
    → Puts e f 32 uber.table_digest → length uber.table_digest ≡ 32 → HasFields f uber
fields_written a b c d e f uber magic version group table_len digest len = record {
  magic =
      put_keeps_number e f 32 uber.table_digest 0 8 digest (λ p low high le. absurd (omega arith)) ∙ number_keeps_number d e 24 8 uber.table_len 0 8 table_len (λ p low high le. absurd (omega arith))
      ∙ number_keeps_number c d 16 8 uber.group.0 0 8 group (λ p low high le. absurd (omega arith)) ∙ number_keeps_number b c 8 8 uber.version 0 8 version (λ p low high le. absurd (omega arith)) ∙ magic.is;
  version =
      put_keeps_number e f 32 uber.table_digest 8 8 digest (λ p low high le. absurd (omega arith)) ∙ number_keeps_number d e 24 8 uber.table_len 8 8 table_len (λ p low high le. absurd (omega arith))
      ∙ number_keeps_number c d 16 8 uber.group.0 8 8 group (λ p low high le. absurd (omega arith)) ∙ version.is;
  group =
      put_keeps_number e f 32 uber.table_digest 16 8 digest (λ p low high le. absurd (omega arith)) ∙ number_keeps_number d e 24 8 uber.table_len 16 8 table_len (λ p low high le. absurd (omega arith)) ∙ group.is;
  table_len = put_keeps_number e f 32 uber.table_digest 24 8 digest (λ p low high le. absurd (omega arith)) ∙ table_len.is;
  table_digest = put_is e f 32 uber.table_digest 32 digest len;
}

-- the fields depend on the first 64 bytes alone
pub fields_same : (b c : List ℕ) (uber : Uber) → ((p : ℕ) → p < 64 → byte c p ≡ byte b p) → HasFields b uber → HasFields c uber
fields_same b c uber same is = record {
  magic = number_same b c 0 8 (λ p low high. same p (omega arith)) ∙ is.magic;
  version = number_same b c 8 8 (λ p low high. same p (omega arith)) ∙ is.version;
  group = number_same b c 16 8 (λ p low high. same p (omega arith)) ∙ is.group;
  table_len = number_same b c 24 8 (λ p low high. same p (omega arith)) ∙ is.table_len;
  table_digest = bytes_at_same b c 32 32 (λ p low high. same p (omega arith)) ∙ is.table_digest;
}

-- the digest behind the fields
pub body_written : (b c digest : List ℕ) (uber : Uber) → HasFields b uber → digest ≡ sha256 (bytes_at b 0 64) → Puts b c 64 digest → IsBody c uber
body_written b c digest uber fields is puts =
    let same : (p : ℕ) → p < 64 → byte c p ≡ byte b p = λ p lt. puts.outside p (λ le. absurd (omega arith)) in
    record {
      fields = fields_same b c uber same fields;
      digest =
          put_is b c 64 digest 32 puts (ap length is ∙ length-sha256 (bytes_at b 0 64)) ∙ is
          ∙ ap sha256 (sym (bytes_at_same b c 0 64 (λ p low high. same p (omega arith))));
    }

-- the body depends on the first 96 bytes alone
pub body_same : (b c : List ℕ) (uber : Uber) → ((p : ℕ) → p < 96 → byte c p ≡ byte b p) → IsBody b uber → IsBody c uber
body_same b c uber same body = record {
  fields = fields_same b c uber (λ p lt. same p (omega arith)) body.fields;
  digest =
      bytes_at_same b c 64 32 (λ p low high. same p (omega arith)) ∙ body.digest
      ∙ ap sha256 (sym (bytes_at_same b c 0 64 (λ p low high. same p (omega arith))));
}

-- a body says one thing
pub one_body : (bytes : List ℕ) (one other : Uber) → HasFields bytes one → HasFields bytes other → one ≡ other
one_body bytes one other first second =
    let group : one.group.0 ≡ other.group.0 = sym first.group ∙ second.group in
    let version : one.version ≡ other.version = sym first.version ∙ second.version in
    let table_len : one.table_len ≡ other.table_len = sym first.table_len ∙ second.table_len in
    let digest : one.table_digest ≡ other.table_digest = sym first.table_digest ∙ second.table_digest in
    (λ i. record { group = record { 0 = group i }; version = version i; table_len = table_len i; table_digest = digest i })
