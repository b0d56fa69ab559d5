-- The rows of a table, as they are written.
use Rattle.std.proofs.Common.{◌≡◌, ℕ, ◌+◌, ◌*◌, ◌<◌, ◌≤◌, List, length, get_or, refl, ◌∙◌, arith}
use Rattle.std.specs.Prelude.{codes}
use Rattle.zms_units.specs.declared.places.VdevRow.{VdevRow}
use Rattle.zms_dev.specs.Bytes.{Outside}
use Rattle.vdev_map.specs.Numbers.{row_at}
use Rattle.vdev_map.specs.declared.table.LogRow.{LogRow}
use Rattle.vdev_map.specs.declared.table.MsRow.{MsRow}
use Rattle.uber_ring.specs.Numbers.{number_at, Puts, PutsNumber}
use Rattle.uber_ring.specs.TableBytes.{class_number, table_len, AreZeros}
use Rattle.uber_ring.specs.Encoding.{Changes, IsVdevAt, IsLogAt, IsMsRowAt, IsFrontOf, IsEncoded}
use Rattle.uber_ring.proofs.Pieces.{put_is, put_keeps_number, number_keeps_number, number_keeps_piece, number_same, bytes_at_same}

pub vdev_put : (a b c d e : List ℕ) (at : ℕ) (row : VdevRow) → PutsNumber a b at 4 (class_number row.class) → PutsNumber b c (at + 4) 4 row.ashift → PutsNumber c d (at + 8) 4 row.units → PutsNumber d e (at + 12) 4 row.metaslabs → AreZeros a at 32 → IsVdevAt e at row
vdev_put a b c d e at row one two three four zeros = record {
  class_ = number_keeps_number d e (at + 12) 4 (row.metaslabs) (at) 4 four (λ p low high le. absurd (omega arith))
      ∙ number_keeps_number c d (at + 8) 4 (row.units) (at) 4 three (λ p low high le. absurd (omega arith))
      ∙ number_keeps_number b c (at + 4) 4 (row.ashift) (at) 4 two (λ p low high le. absurd (omega arith))
      ∙ one.is;
  ashift = number_keeps_number d e (at + 12) 4 (row.metaslabs) (at + 4) 4 four (λ p low high le. absurd (omega arith))
      ∙ number_keeps_number c d (at + 8) 4 (row.units) (at + 4) 4 three (λ p low high le. absurd (omega arith))
      ∙ two.is;
  units = number_keeps_number d e (at + 12) 4 (row.metaslabs) (at + 8) 4 four (λ p low high le. absurd (omega arith))
      ∙ three.is;
  metaslabs = four.is;
  zeros = λ k low high. four.outside k (λ le. omega (arith, le)) ∙ three.outside k (λ le. omega (arith, le)) ∙ two.outside k (λ le. omega (arith, le)) ∙ one.outside k (λ le. omega (arith, le)) ∙ zeros k (omega arith) (omega arith);
}

pub log_put : (a b c d : List ℕ) (at : ℕ) (row : LogRow) → PutsNumber a b at 8 row.group.0 → PutsNumber b c (at + 8) 8 row.words → Puts c d (at + 16) row.digest → length row.digest ≡ 32 → IsLogAt d at row
log_put a b c d at row one two three len = record {
  group = put_keeps_number c d (at + 16) row.digest (at) 8 three (λ p low high le. absurd (omega arith))
      ∙ number_keeps_number b c (at + 8) 8 (row.words) (at) 8 two (λ p low high le. absurd (omega arith))
      ∙ one.is;
  words = put_keeps_number c d (at + 16) row.digest (at + 8) 8 three (λ p low high le. absurd (omega arith))
      ∙ two.is;
  digest = put_is c d (at + 16) row.digest 32 three len;
}

pub row_put : (a b c d e f : List ℕ) (at : ℕ) (row : MsRow) → PutsNumber a b at 8 row.place → PutsNumber b c (at + 8) 8 row.words → PutsNumber c d (at + 16) 8 row.unflushed.0 → PutsNumber d e (at + 24) 8 row.held → PutsNumber e f (at + 32) 4 row.side → AreZeros a at 40 → IsMsRowAt f at row
row_put a b c d e f at row one two three four five zeros = record {
  place = number_keeps_number e f (at + 32) 4 (row.side) (at) 8 five (λ p low high le. absurd (omega arith))
      ∙ number_keeps_number d e (at + 24) 8 (row.held) (at) 8 four (λ p low high le. absurd (omega arith))
      ∙ number_keeps_number c d (at + 16) 8 (row.unflushed.0) (at) 8 three (λ p low high le. absurd (omega arith))
      ∙ number_keeps_number b c (at + 8) 8 (row.words) (at) 8 two (λ p low high le. absurd (omega arith))
      ∙ one.is;
  words = number_keeps_number e f (at + 32) 4 (row.side) (at + 8) 8 five (λ p low high le. absurd (omega arith))
      ∙ number_keeps_number d e (at + 24) 8 (row.held) (at + 8) 8 four (λ p low high le. absurd (omega arith))
      ∙ number_keeps_number c d (at + 16) 8 (row.unflushed.0) (at + 8) 8 three (λ p low high le. absurd (omega arith))
      ∙ two.is;
  unflushed = number_keeps_number e f (at + 32) 4 (row.side) (at + 16) 8 five (λ p low high le. absurd (omega arith))
      ∙ number_keeps_number d e (at + 24) 8 (row.held) (at + 16) 8 four (λ p low high le. absurd (omega arith))
      ∙ three.is;
  held = number_keeps_number e f (at + 32) 4 (row.side) (at + 24) 8 five (λ p low high le. absurd (omega arith))
      ∙ four.is;
  side = five.is;
  zeros = λ k low high. five.outside k (λ le. omega (arith, le)) ∙ four.outside k (λ le. omega (arith, le)) ∙ three.outside k (λ le. omega (arith, le)) ∙ two.outside k (λ le. omega (arith, le)) ∙ one.outside k (λ le. omega (arith, le)) ∙ zeros k (omega arith) (omega arith);
}

pub front_put : (a b c d e f : List ℕ) (group vdevs metaslabs logs : ℕ) → Puts a b 0 (codes "ZMSTABLE") → PutsNumber b c 8 8 group → PutsNumber c d 16 4 vdevs → PutsNumber d e 20 4 metaslabs → PutsNumber e f 24 4 logs → AreZeros a 0 64 → IsFrontOf f group vdevs metaslabs logs
front_put a b c d e f group vdevs metaslabs logs one two three four five zeros = record {
  text = number_keeps_piece e f (24) 4 (logs) (0) 8 five (λ p low high le. absurd (omega arith))
      ∙ number_keeps_piece d e (20) 4 (metaslabs) (0) 8 four (λ p low high le. absurd (omega arith))
      ∙ number_keeps_piece c d (16) 4 (vdevs) (0) 8 three (λ p low high le. absurd (omega arith))
      ∙ number_keeps_piece b c (8) 8 (group) (0) 8 two (λ p low high le. absurd (omega arith))
      ∙ put_is a b (0) (codes "ZMSTABLE") 8 one refl;
  group_is = number_keeps_number e f (24) 4 (logs) (8) 8 five (λ p low high le. absurd (omega arith))
      ∙ number_keeps_number d e (20) 4 (metaslabs) (8) 8 four (λ p low high le. absurd (omega arith))
      ∙ number_keeps_number c d (16) 4 (vdevs) (8) 8 three (λ p low high le. absurd (omega arith))
      ∙ two.is;
  vdev_count = number_keeps_number e f (24) 4 (logs) (16) 4 five (λ p low high le. absurd (omega arith))
      ∙ number_keeps_number d e (20) 4 (metaslabs) (16) 4 four (λ p low high le. absurd (omega arith))
      ∙ three.is;
  metaslab_count = number_keeps_number e f (24) 4 (logs) (20) 4 five (λ p low high le. absurd (omega arith))
      ∙ four.is;
  log_count = five.is;
  zeros = λ k low high. five.outside k (λ le. omega (arith, le)) ∙ four.outside k (λ le. omega (arith, le)) ∙ three.outside k (λ le. omega (arith, le)) ∙ two.outside k (λ le. omega (arith, le)) ∙ one.outside k (λ le. omega (arith, le)) ∙ zeros k (omega arith) (omega arith);
}

-- rows stay where only other places change
abbrev Misses : ℕ → ℕ → ℕ → ℕ → Type 0
Misses at n i len = (p : ℕ) → i ≤ p → p < i + len → Outside at n p

module _ (b c : List ℕ) (at n : ℕ) (changes : Changes b c at n) where
  number_kept : (i len j m : ℕ) → Misses at n i len → i ≤ j → j + m ≤ i + len → number_at c j m ≡ number_at b j m
  number_kept i len j m misses low high = number_same b c j m (λ p from below. changes.outside p (misses p (omega arith) (omega arith)))

  zeros_kept : (i len j m : ℕ) → Misses at n i len → i ≤ j → j + m ≤ i + len → AreZeros b j m → AreZeros c j m
  zeros_kept i len j m misses low high zeros = λ k from below. changes.outside k (misses k (omega arith) (omega arith)) ∙ zeros k from below

  pub vdev_kept : (i : ℕ) (row : VdevRow) → Misses at n i 32 → IsVdevAt b i row → IsVdevAt c i row
  vdev_kept i row misses is = record {
    class_ = number_kept i 32 i 4 misses (omega arith) (omega arith) ∙ is.class_;
    ashift = number_kept i 32 (i + 4) 4 misses (omega arith) (omega arith) ∙ is.ashift;
    units = number_kept i 32 (i + 8) 4 misses (omega arith) (omega arith) ∙ is.units;
    metaslabs = number_kept i 32 (i + 12) 4 misses (omega arith) (omega arith) ∙ is.metaslabs;
    zeros = zeros_kept i 32 (i + 16) 16 misses (omega arith) (omega arith) is.zeros;
  }

  pub log_kept : (i : ℕ) (row : LogRow) → Misses at n i 48 → IsLogAt b i row → IsLogAt c i row
  log_kept i row misses is = record {
    group = number_kept i 48 i 8 misses (omega arith) (omega arith) ∙ is.group;
    words = number_kept i 48 (i + 8) 8 misses (omega arith) (omega arith) ∙ is.words;
    digest = bytes_at_same b c (i + 16) 32 (λ p from below. changes.outside p (misses p (omega arith) (omega arith))) ∙ is.digest;
  }

  pub row_kept : (i : ℕ) (row : MsRow) → Misses at n i 40 → IsMsRowAt b i row → IsMsRowAt c i row
  row_kept i row misses is = record {
    place = number_kept i 40 i 8 misses (omega arith) (omega arith) ∙ is.place;
    words = number_kept i 40 (i + 8) 8 misses (omega arith) (omega arith) ∙ is.words;
    unflushed = number_kept i 40 (i + 16) 8 misses (omega arith) (omega arith) ∙ is.unflushed;
    held = number_kept i 40 (i + 24) 8 misses (omega arith) (omega arith) ∙ is.held;
    side = number_kept i 40 (i + 32) 4 misses (omega arith) (omega arith) ∙ is.side;
    zeros = zeros_kept i 40 (i + 36) 4 misses (omega arith) (omega arith) is.zeros;
  }

  pub front_kept : (group vdevs metaslabs logs : ℕ) → Misses at n 0 64 → IsFrontOf b group vdevs metaslabs logs → IsFrontOf c group vdevs metaslabs logs
  front_kept group vdevs metaslabs logs misses is = record {
    text = bytes_at_same b c 0 8 (λ p from below. changes.outside p (misses p (omega arith) (omega arith))) ∙ is.text;
    group_is = number_kept 0 64 8 8 misses (omega arith) (omega arith) ∙ is.group_is;
    vdev_count = number_kept 0 64 16 4 misses (omega arith) (omega arith) ∙ is.vdev_count;
    metaslab_count = number_kept 0 64 20 4 misses (omega arith) (omega arith) ∙ is.metaslab_count;
    log_count = number_kept 0 64 24 4 misses (omega arith) (omega arith) ∙ is.log_count;
    zeros = zeros_kept 0 64 28 36 misses (omega arith) (omega arith) is.zeros;
  }

pub changes_none : (a : List ℕ) (at : ℕ) → Changes a a at 0
changes_none a at = record { len = refl; outside = λ p out. refl }

pub changes_then : (a b c : List ℕ) (at n next m : ℕ) → Changes a b at n → next ≡ at + n → Changes b c next m → Changes a c at (n + m)
changes_then a b c at n next m first place second = record {
  len = second.len ∙ first.len;
  outside = λ p out. second.outside p (λ le. omega (arith, out)) ∙ first.outside p (λ le. omega (arith, out));
}

-- front, vdevs, logs and metaslabs, one behind the other
pub all_encoded : (a b c d e : List ℕ) (group : ℕ) (vdevs : List VdevRow) (logs : List LogRow) (rows : List MsRow)
    → length a ≡ table_len (length vdevs) (length logs) (length rows)
    → IsFrontOf b group (length vdevs) (length rows) (length logs) → Changes a b 0 64
    → ((v : ℕ) → v < length vdevs → IsVdevAt c (64 + 32 * v) (row_at vdevs v)) → Changes b c 64 (32 * length vdevs)
    → ((l : ℕ) (r : LogRow) → l < length logs → IsLogAt d (64 + 32 * length vdevs + 48 * l) (get_or logs l r)) → Changes c d (64 + 32 * length vdevs) (48 * length logs)
    → ((m : ℕ) (r : MsRow) → m < length rows → IsMsRowAt e (64 + 32 * length vdevs + 48 * length logs + 40 * m) (get_or rows m r)) → Changes d e (64 + 32 * length vdevs + 48 * length logs) (40 * length rows)
    → IsEncoded e (record { group = record { 0 = group }; vdevs = vdevs; logs = logs; rows = rows })
all_encoded a b c d e group vdevs logs rows len front changes1 vdevs_are changes2 logs_are changes3 rows_are changes4 =
    let V = length vdevs in
    let L = length logs in
    record {
      len = changes4.len ∙ changes3.len ∙ changes2.len ∙ changes1.len ∙ len;
      front =
          front_kept d e (64 + 32 * V + 48 * L) (40 * length rows) changes4 group V (length rows) L (λ p low high le. absurd (omega arith))
          (front_kept c d (64 + 32 * V) (48 * L) changes3 group V (length rows) L (λ p low high le. absurd (omega arith))
          (front_kept b c 64 (32 * V) changes2 group V (length rows) L (λ p low high le. absurd (omega arith)) front));
      vdevs = λ v lt.
          vdev_kept d e (64 + 32 * V + 48 * L) (40 * length rows) changes4 (64 + 32 * v) (row_at vdevs v) (λ p low high le. absurd (omega arith))
          (vdev_kept c d (64 + 32 * V) (48 * L) changes3 (64 + 32 * v) (row_at vdevs v) (λ p low high le. absurd (omega arith)) (vdevs_are v lt));
      logs = λ l lt. log_kept d e (64 + 32 * V + 48 * L) (40 * length rows) changes4 (64 + 32 * V + 48 * l) (get_or logs l _) (λ p low high le. absurd (omega arith)) (logs_are l _ lt);
      rows = λ m lt. rows_are m _ lt;
    }
