-- Runs as they are counted bucket by bucket.
use Rattle.std.proofs.Common.{◌≡◌, ℕ, ◌+◌, ◌≤◌, ◌<◌, Bool, false, cond, [], ◌∷◌, refl, ◌∙◌, arith}
use Rattle.std.specs.Prelude.{◌||◌, nat_lt, slice_index}
use Rattle.zms_units.specs.declared.histograms.Histogram.{Histogram}
use Rattle.zms_units.specs.declared.segments.Seg.{Seg}
use Rattle.zms_units.specs.Segments.{covers}
use Rattle.zms_units.specs.Weights.{is_in_bucket, IsHistogramOf}
use Rattle.zms_units.proofs.Along.{SameBelow, maximal_along}
use Rattle.zms_units.proofs.Maximal.{apart_maximal}
use Rattle.zms_units.proofs.Bools.{or_false}
use Rattle.zms_units.proofs.Counting.{count_cons}
use Rattle.std.proofs.lemmas.Bool.{le-leb}
use Rattle.std.proofs.lemmas.Bool.Decides.{nat_tests}

pub histogram_along : (units ashift : ℕ) (p q : ℕ → Bool) (hist : Histogram) → SameBelow units p q → IsHistogramOf p units ashift hist → IsHistogramOf q units ashift hist
histogram_along units ashift p q hist same h =
    record {
      runs = h.runs;
      maximal = record { rising = h.maximal.rising; maximal = λ i d l. maximal_along units p q same _ (h.maximal.maximal i d l); whole = λ u l. h.maximal.whole u l ∙ same u l };
      counts = h.counts;
    }

from_zero : (u n : ℕ) → (covers (record { start = 0; count = n }) u || false) ≡ nat_lt u n
from_zero u n = let e : 0 + n ≡ n = omega arith in or_false _ ∙ rw (le-leb 0 u (omega arith), e) refl

-- one run from 0 on, or none
pub one_run : (units ashift n : ℕ) (hist : Histogram) → 0 < n → n ≤ units → ((bucket : ℕ) → bucket < 64 → slice_index hist.runs bucket ≡ cond (is_in_bucket ashift bucket (record { start = 0; count = n })) 1 0)
    → IsHistogramOf (λ u. nat_lt u n) units ashift hist
one_run units ashift n hist some le counts =
    let run : Seg = record { start = 0; count = n } in
    record {
      runs = run ∷ [];
      maximal = apart_maximal (λ u. nat_lt u n) units (run ∷ []) (omega arith, omega arith, omega arith) (λ u l. from_zero u n);
      counts = λ bucket l. counts bucket l ∙ omega (arith, count_cons (is_in_bucket ashift bucket) run []);
    }

none_below : (u n : ℕ) → n ≡ 0 → false ≡ nat_lt u n
none_below u n e = grind (arith, nat_tests)

pub no_run : (units ashift n : ℕ) (hist : Histogram) → n ≡ 0 → ((bucket : ℕ) → bucket < 64 → slice_index hist.runs bucket ≡ 0) → IsHistogramOf (λ u. nat_lt u n) units ashift hist
no_run units ashift n hist none counts =
    record {
      runs = [];
      maximal = apart_maximal (λ u. nat_lt u n) units [] (omega arith) (λ u l. none_below u n none);
      counts = λ bucket l. counts bucket l;
    }
