-- Units of a set in a row lie in a maximal run.
use Rattle.std.proofs.Common.{◌≡◌, ℕ, zero, suc, ◌+◌, ◌-◌, ◌≤◌, ◌<◌, Bool, true, false, subst, sym, arith, ◌⊎◌, inl, inr}
use Rattle.zms_units.specs.declared.segments.Seg.{Seg}
use Rattle.zms_units.specs.Segments.{end_of, Covers}
use Rattle.zms_units.specs.Runs.{IsMaximalRun, NoneInRow, NoneFrom}
use Rattle.zms_units.proofs.Bools.{le_or, same_not, true_or_false}

-- the set holds each unit from one to another, and not the one before
record Begins (set : ℕ → Bool) (u : ℕ) : Type 0 where
  start : ℕ
  low : start ≤ u
  inside : (v : ℕ) → start ≤ v → v ≤ u → set v ≡ true
  before : (v : ℕ) → v + 1 ≡ start → set v ≡ false

-- it holds each unit from one up to another, which it doesn't hold unless that is the limit
record Ends (set : ℕ → Bool) (start limit : ℕ) : Type 0 where
  end : ℕ
  low : start ≤ end
  high : end ≤ limit
  inside : (v : ℕ) → start ≤ v → v < end → set v ≡ true
  after : end < limit → set end ≡ false

only : (set : ℕ → Bool) (u v : ℕ) → set u ≡ true → u ≡ v → set v ≡ true
only set u v h e = subst (λ n. set n ≡ true) e h

none : (set : ℕ → Bool) (u v : ℕ) → set u ≡ false → u ≡ v → set v ≡ false
none set u v h e = subst (λ n. set n ≡ false) e h

begins : (set : ℕ → Bool) (u : ℕ) → set u ≡ true → Begins set u
begins set zero h = record { start = 0; low = omega arith; inside = λ v a b. only set 0 v h (omega arith); before = λ v e. absurd (omega arith) }
begins set (suc w) h = by_unit (begins set w) (true_or_false (set w)) where
  more : Begins set w → Begins set (suc w)
  more t =
      record {
        start = t.start;
        low = let low = t.low in omega arith;
        inside = λ v a b. by_place v a b (le_or v w);
        before = t.before;
      } where
        by_place : (v : ℕ) → t.start ≤ v → v ≤ suc w → (v ≤ w) ⊎ (w < v) → set v ≡ true
        by_place v a b (inl l) = t.inside v a l
        by_place v a b (inr l) = only set (suc w) v h (omega arith)

  by_unit : (set w ≡ true → Begins set w) → (set w ≡ true) ⊎ (set w ≡ false) → Begins set (suc w)
  by_unit lower (inl e) = more (lower e)
  by_unit lower (inr e) = record { start = suc w; low = omega arith; inside = λ v a b. only set (suc w) v h (omega arith); before = λ v f. none set w v e (omega arith) }

ends : (set : ℕ → Bool) (start n limit : ℕ) → start + n ≡ limit → Ends set start limit
ends set start zero limit e = record { end = start; low = omega arith; high = omega arith; inside = λ v a b. absurd (omega arith); after = λ l. absurd (omega arith) }
ends set start (suc n) limit e = by_unit (ends set (start + 1) n limit (omega arith)) (true_or_false (set start)) where
  more : set start ≡ true → Ends set (start + 1) limit → Ends set start limit
  more h t =
      record {
        end = t.end;
        low = let low = t.low in omega arith;
        high = t.high;
        inside = λ v a b. by_place v a b (le_or v start);
        after = t.after;
      } where
        by_place : (v : ℕ) → start ≤ v → v < t.end → (v ≤ start) ⊎ (start < v) → set v ≡ true
        by_place v a b (inl l) = only set start v h (omega arith)
        by_place v a b (inr l) = t.inside v (omega arith) b

  by_unit : Ends set (start + 1) limit → (set start ≡ true) ⊎ (set start ≡ false) → Ends set start limit
  by_unit rest (inl h) = more h rest
  by_unit rest (inr h) = record { end = start; low = omega arith; high = omega arith; inside = λ v a b. absurd (omega arith); after = λ l. h }

-- the maximal run about a unit of the set
pub record Around (set : ℕ → Bool) (units u : ℕ) : Type 0 where
  pub run : Seg
  pub maximal : IsMaximalRun set units run
  pub covers : Covers run u

pub around : (set : ℕ → Bool) (units u : ℕ) → u < units → set u ≡ true → Around set units u
around set units u l h = joined (begins set u h) (ends set u (units - u) units (omega arith)) where
  joined : Begins set u → Ends set u units → Around set units u
  joined b e = by_end (le_or e.end u) where
    by_end : (e.end ≤ u) ⊎ (u < e.end) → Around set units u
    by_end (inl here) = let low = e.low in absurd (same_not (only set u e.end h (omega arith)) (e.after (omega arith)))
    by_end (inr past) =
        let low = b.low in
        let high = e.high in
        let run : Seg = record { start = b.start; count = e.end - b.start } in
        let last : end_of run ≡ e.end = omega arith in
        record {
          run = run;
          maximal = record {
            some = omega arith;
            within = omega arith;
            inside = λ v c. by_place v c (le_or v u);
            before = b.before;
            after = λ f. none set e.end (end_of run) (e.after (omega arith)) (sym last);
          };
          covers = (b.low, omega arith);
        } where
          by_place : (v : ℕ) → Covers (record { start = b.start; count = e.end - b.start }) v → (v ≤ u) ⊎ (u < v) → set v ≡ true
          by_place v c (inl le) = b.inside v c.0 le
          by_place v c (inr lt) = e.inside v (omega arith) (let start = b.low in omega arith)

-- where no maximal run is long enough, no so many units stand in a row
pub none_in_row : (set : ℕ → Bool) (units count : ℕ) → 0 < count → NoneFrom set units count 0 → NoneInRow set units count
none_in_row set units count some none start within all = long (around set units start (omega arith) (all start (omega arith) (omega arith))) where
  long : Around set units start → ⊥
  long a = by_end (le_or (start + count) (end_of a.run)) where
    low : a.run.start ≤ start
    low = a.covers.0

    by_end : (start + count ≤ end_of a.run) ⊎ (end_of a.run < start + count) → ⊥
    by_end (inl h) = none a.run (record { maximal = a.maximal; long = omega arith; from = omega arith })
    by_end (inr h) =
        let past : start < end_of a.run = a.covers.1 in
        same_not (all (end_of a.run) (omega arith) h) (a.maximal.after (omega arith))
