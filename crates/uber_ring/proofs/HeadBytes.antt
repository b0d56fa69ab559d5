-- The bytes of a head, as they are written.
use Rattle.std.proofs.Common.{◌≡◌, ℕ, ◌<◌, List, length, sym, ◌∙◌, ap, arith}
use Rattle.std.specs.Prelude.{codes}
use Rattle.sha2.specs.Sha256.{sha256}
use Rattle.sha2.proofs.Facts256.{length-sha256}
use Rattle.zms_dev.specs.Bytes.{byte}
use Rattle.vdev_map.specs.Limits.{IsHead}
use Rattle.vdev_map.specs.declared.layout.Head.{Head}
use Rattle.uber_ring.specs.Numbers.{bytes_at, number_at, Puts}
use Rattle.uber_ring.specs.TableBytes.{AreZeros}
use Rattle.uber_ring.specs.Heads.{version_of, IsHeadOf}
use Rattle.uber_ring.proofs.Pieces.{put_is, number_same, bytes_at_same}

-- the digest behind the fields
pub head_written : (b c digest : List ℕ) (head : Head) → bytes_at b 0 8 ≡ codes "ZMSPOOL1" → number_at b 8 4 ≡ version_of head.form → number_at b 12 4 ≡ head.flush → number_at b 16 4 ≡ head.log → AreZeros b 20 12
    → digest ≡ sha256 (bytes_at b 0 32) → Puts b c 32 digest → IsHead head → IsHeadOf c head
head_written b c digest head text version flush log zeros is puts limits =
    let same : (p : ℕ) → p < 32 → byte c p ≡ byte b p = λ p lt. puts.outside p (λ le. absurd (omega arith)) in
    record {
      text = bytes_at_same b c 0 8 (λ p low high. same p (omega arith)) ∙ text;
      version = number_same b c 8 4 (λ p low high. same p (omega arith)) ∙ version;
      flush = number_same b c 12 4 (λ p low high. same p (omega arith)) ∙ flush;
      log = number_same b c 16 4 (λ p low high. same p (omega arith)) ∙ log;
      zeros = λ k low high. same k (omega arith) ∙ zeros k low high;
      digest =
          put_is b c 32 digest 32 puts (ap length is ∙ length-sha256 (bytes_at b 0 32)) ∙ is
          ∙ ap sha256 (sym (bytes_at_same b c 0 32 (λ p low high. same p (omega arith))));
      limits = limits;
    }
