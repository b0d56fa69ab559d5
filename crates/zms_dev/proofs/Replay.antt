-- A device in memory, one step on.
use Rattle.std.proofs.Common.{◌≡◌, inl, inr, ℕ, ◌+◌, ◌<◌, ◌≤◌, List, [], ◌∷◌, ◌++◌, length, map, Ok, Err, refl, sym, ◌∙◌, ap, subst, arith, length-append}
use Rattle.std.specs.List.{range_with_len}
use Rattle.std.specs.Prelude.{if◌then◌else◌, nat_le, nat_lt, ◌&&◌}
use Rattle.std.proofs.lemmas.Bool.{cases_lt}
use Rattle.std.proofs.lemmas.Bool.Decides.{nat_tests}
use Rattle.std.proofs.lemmas.List.{take_all, take-append-le, append-nil, ext_get_or}
use Rattle.std.proofs.lemmas.List.FromFn.{get_or-map-range_with_len, length-map-range_with_len}
use Rattle.zms_dev.specs.Bytes.{byte, Outside, Torn, Holds}
use Rattle.zms_dev.specs.Disk.{DiskState, bytes_of, Only, Follows, Elapses, Stays, Wrote, Flushed}
use Rattle.zms_dev.specs.History.{Step, wrote, lost, flushed, looked, Stage, start, next, after, IsImage, flush_moments, history}
use Rattle.zms_dev.specs.HistoryLaws.{holds_overwritten, reads_now}
use Rattle.zms_dev.proofs.Sparing.{torn_nothing}

pub after-append : (s : Stage) (xs ys : List Step) → after s (xs ++ ys) ≡ after (after s xs) ys
after-append s [] ys = refl
after-append s (x ∷ xs) ys = after-append (next s x) xs ys

module _ (first : List ℕ) (steps : List Step) (step : Step) where
  abbrev more : List Step
  more = steps ++ step ∷ []

  size : length more ≡ length steps + 1
  size = length-append steps (step ∷ [])

  pub elapses_more : Elapses (history first steps) (history first more)
  elapses_more = record {
    later = omega (arith, size);
    nothing_else = λ t c le was. elim (cases_lt (length steps) was.at) [
      | inl past ↦ inr (subst (λ (taken : List Step). IsImage (after (start first) taken) c) (take_all was.at more (omega (arith, size))) was.is)
      | inr within ↦ inl (record {
        at = was.at;
        since = was.since;
        until = within;
        is = subst (λ (taken : List Step). IsImage (after (start first) taken) c) (take-append-le was.at steps (step ∷ []) within) was.is;
      })
    ];
    keeps = λ t c le was. record {
      at = was.at;
      since = was.since;
      until = omega (arith, size, was.until);
      is = subst (λ (taken : List Step). IsImage (after (start first) taken) c) (sym (take-append-le was.at steps (step ∷ []) was.until)) was.is;
    };
  }

pub elapses_none : (disk : DiskState) → Elapses disk disk
elapses_none disk = record { later = omega arith; nothing_else = λ t c le left. inl left; keeps = λ t c le left. left }

pub stays_none : (disk : DiskState) → Stays disk disk
stays_none disk = record { contents = refl; images = λ c now. now }

-- an image after a write comes from one before it, by putting back what was settled in its range
module _ (s : Stage) (at n : ℕ) (seen : List ℕ) where
  abbrev torn_stage : Stage
  torn_stage = record { seen = seen; settled = s.settled; ranges = (at, n) ∷ s.ranges }

  mixed : List ℕ → ℕ → ℕ
  mixed c p = if nat_le at p && nat_lt p (at + n) then byte s.settled p else byte c p

  abbrev put_back : List ℕ → List ℕ
  put_back c = map (mixed c) (range_with_len 0 (length s.settled))

  mixed_out : (c : List ℕ) (p : ℕ) → Outside at n p → mixed c p ≡ byte c p
  unfolding mixed
  mixed_out c p out = elim (cases_lt p at) [
    | inl below ↦ grind (arith, nat_tests)
    | inr above ↦ let past : at + n ≤ p = out above in grind (arith, nat_tests)
  ]

  mixed_settled : (c : List ℕ) (p : ℕ) → (Outside at n p → byte c p ≡ byte s.settled p) → mixed c p ≡ byte s.settled p
  unfolding mixed
  mixed_settled c p alike = elim (cases_lt p at) [
    | inl below ↦ mixed_out c p (λ le. absurd (omega arith)) ∙ alike (λ le. absurd (omega arith))
    | inr above ↦ elim (cases_lt p (at + n)) [
      | inl inside ↦ grind (arith, nat_tests)
      | inr past ↦ mixed_out c p (λ le. past) ∙ alike (λ le. past)
    ]
  ]

  byte-put_back : (c : List ℕ) (p : ℕ) → p < length s.settled → byte (put_back c) p ≡ mixed c p
  byte-put_back c p lt = get_or-map-range_with_len (mixed c) 0 (length s.settled) p p 0 lt (let e : 0 + p ≡ p = omega arith in e)

  length-put_back : (c : List ℕ) → length (put_back c) ≡ length s.settled
  length-put_back c = length-map-range_with_len (mixed c) 0 (length s.settled)

  pub torn_images : Follows (Torn (Outside at n)) (IsImage s) (IsImage torn_stage)
  torn_images c now = (
    put_back c,
    record {
      kept = λ p lt free. byte-put_back c p lt ∙ mixed_settled c p (λ out. now.kept p lt (out, free));
      no_shorter = omega (arith, length-put_back c);
      no_longer = λ none. omega (arith, length-put_back c);
    },
    record {
      same = λ p lt out. let below : p < length s.settled = omega (arith, length-put_back c) in sym (byte-put_back c p below ∙ mixed_out c p out);
      no_shorter = omega (arith, length-put_back c, now.no_shorter);
    },
  )

flush_moments-append : (t m : ℕ) (xs ys : List Step) → t + length xs ≡ m → flush_moments t (xs ++ ys) ≡ flush_moments t xs ++ flush_moments m ys
flush_moments-append t m [] ys is = let e : t ≡ m = omega arith in ap (λ (u : ℕ). flush_moments u ys) e
flush_moments-append t m (wrote a b ∷ xs) ys is = flush_moments-append (t + 1) m xs ys (omega arith)
flush_moments-append t m (lost a b ∷ xs) ys is = flush_moments-append (t + 1) m xs ys (omega arith)
flush_moments-append t m (flushed ∷ xs) ys is = ap (λ (ts : List ℕ). (t + 1) ∷ ts) (flush_moments-append (t + 1) m xs ys (omega arith))
flush_moments-append t m (looked ∷ xs) ys is = flush_moments-append (t + 1) m xs ys (omega arith)

-- after a flush what is read is the only image
only_settled : (s : Stage) → Only s.seen (IsImage (next s flushed))
only_settled s c is =
    ext_get_or 0 c s.seen (omega (arith, is.no_shorter, is.no_longer refl)) (λ p lt. is.kept p (omega (arith, lt, is.no_longer refl)) tt)

module _ (first : List ℕ) (steps : List Step) where
  abbrev now : Stage
  now = after (start first) steps

  abbrev with : Step → DiskState
  with step = history first (steps ++ step ∷ [])

  seen_with : (step : Step) → after (start first) (steps ++ step ∷ []) ≡ next now step
  seen_with step = after-append (start first) steps (step ∷ [])

  image_with : (step : Step) (c : List ℕ) → IsImage (after (start first) (steps ++ step ∷ [])) c → IsImage (next now step) c
  image_with step c left = subst (λ (s : Stage). IsImage s c) (seen_with step) left

  -- no flush was added
  same_flushes : (step : Step) → flush_moments (length steps) (step ∷ []) ≡ [] → flush_moments 0 (steps ++ step ∷ []) ≡ flush_moments 0 steps
  same_flushes step none =
      flush_moments-append 0 (length steps) steps (step ∷ []) (omega arith) ∙ ap (λ (ts : List ℕ). flush_moments 0 steps ++ ts) none ∙ append-nil (flush_moments 0 steps)

  pub wrote_ok : {T E : Type 0} (at : ℕ) (bytes : List ℕ) (x : T) → Wrote {T = T} {E = E} (history first steps) (with (wrote at bytes)) at bytes (Ok x)
  wrote_ok at bytes x = record {
    done = subst (λ (s : Stage). Holds now.seen at bytes s.seen) (sym (seen_with (wrote at bytes))) (holds_overwritten now.seen at bytes);
    failed = tt;
    images = λ c left. torn_images now at (length bytes) (next now (wrote at bytes)).seen c (image_with (wrote at bytes) c left);
    flushes = same_flushes (wrote at bytes) refl;
  }

  pub wrote_err : {T E : Type 0} (at : ℕ) (bytes : List ℕ) (e : E) → Wrote {T = T} {E = E} (history first steps) (with (lost at (length bytes))) at bytes (Err e)
  wrote_err at bytes e =
      let out = Outside at (length bytes) in
      record {
        done = tt;
        failed = subst (λ (s : Stage). Torn out now.seen s.seen) (sym (seen_with (lost at (length bytes)))) (torn_nothing out now.seen);
        images = λ c left. torn_images now at (length bytes) now.seen c (image_with (lost at (length bytes)) c left);
        flushes = same_flushes (lost at (length bytes)) refl;
      }

  pub stays_looked : Stays (history first steps) (with looked)
  stays_looked = record { contents = ap (λ (s : Stage). s.seen) (seen_with looked); images = λ c left. image_with looked c left }

  pub flushes_looked : flush_moments 0 (steps ++ looked ∷ []) ≡ flush_moments 0 steps
  flushes_looked = same_flushes looked refl

  pub flushed_ok : {T E : Type 0} (x : T) → Flushed {T = T} {E = E} (history first steps) (with flushed) (Ok x)
  flushed_ok x =
      let seen : (after (start first) (steps ++ flushed ∷ [])).seen ≡ now.seen = ap (λ (s : Stage). s.seen) (seen_with flushed) in
      record {
        stays = record {
          contents = seen;
          images = λ c left. subst (λ (d : List ℕ). IsImage now d) (sym (only_settled now c (image_with flushed c left))) (reads_now first steps);
        };
        durable = λ c left. only_settled now c (image_with flushed c left) ∙ sym seen;
        noted =
            flush_moments-append 0 (length steps) steps (flushed ∷ []) (omega arith)
            ∙ (let e : length steps + 1 ≡ length (steps ++ flushed ∷ []) = omega (arith, length-append steps (flushed ∷ [])) in ap (λ (t : ℕ). flush_moments 0 steps ++ t ∷ []) e);
        unnoted = tt;
      }

  pub flushed_err : {T E : Type 0} (e : E) → Flushed {T = T} {E = E} (history first steps) (with looked) (Err e)
  flushed_err e = record { stays = stays_looked; durable = tt; noted = tt; unnoted = flushes_looked }

-- a call that was not recorded, since there was no room for it
module _ (disk : DiskState) where
  pub wrote_none : {T E : Type 0} (at : ℕ) (bytes : List ℕ) (e : E) → Wrote {T = T} {E = E} disk disk at bytes (Err e)
  wrote_none at bytes e = record {
    done = tt;
    failed = torn_nothing (Outside at (length bytes)) (bytes_of disk);
    images = λ c now. (c, now, torn_nothing (Outside at (length bytes)) c);
    flushes = refl;
  }

  pub flushed_none : {T E : Type 0} (e : E) → Flushed {T = T} {E = E} disk disk (Err e)
  flushed_none e = record { stays = stays_none disk; durable = tt; noted = tt; unnoted = refl }
