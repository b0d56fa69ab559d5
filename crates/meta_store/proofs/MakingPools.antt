-- Making a pool, from the first call to the last.
use Rattle.std.proofs.Common.{◌≡◌, inl, inr, ℕ, ◌+◌, List, [], ◌∷◌, ◌++◌, Result, Ok, Err, sym, ◌∙◌, ap, subst, arith}
use Rattle.std.proofs.lemmas.List.{append-nil}
use Rattle.std.specs.Prelude.{OnOk}
use Rattle.zms_dev.specs.Bytes.{Outside}
use Rattle.zms_dev.specs.Disk.{DiskState, bytes_of}
use Rattle.zms_dev.specs.Runs.{Before, Spares, Untouched}
use Rattle.zms_dev.proofs.Moments.{joined, weaker}
use Rattle.zms_dev.proofs.Resting.{rests_spares}
use Rattle.zms_dev.proofs.Sparing.{torn_nothing, spares_less, spares_then}
use Rattle.vdev_map.specs.declared.layout.Layout.{Layout}
use Rattle.uber_ring.specs.Slots.{HasNone}
use Rattle.uber_ring.specs.Writes.{Flushes}
use Rattle.uber_ring.proofs.Stages.{flushes_then}
use Rattle.meta_store.specs.Creates.{IsUnmadeOrNew, IsNoneOrNew, IsUnmade, IsLeftByCreate}
use Rattle.meta_store.specs.FirstGroups.{IsWiped, IsFilling, IsMaking}
use Rattle.meta_store.specs.Rewinds.{Adds}
use Rattle.meta_store.proofs.LastGroup.{first_flush, no_flush}
use Rattle.meta_store.proofs.NewPools.{ring_none}

abbrev front : ℕ → Type 0
front p = Outside 0 135168 p

pub flushes_none : (most : ℕ) (old new : DiskState) → new.flushes ≡ old.flushes → Flushes most old new
flushes_none most old new none = record { more = []; few = omega arith; noted = none ∙ sym (append-nil old.flushes) }

pub flushes_one : (old new : DiskState) → new.flushes ≡ old.flushes ++ new.moment ∷ [] → Flushes 1 old new
flushes_one old new noted = record { more = new.moment ∷ []; few = omega arith; noted = noted }

pub flushes_fewer : (few more : ℕ) (old new : DiskState) → Flushes few old new → Flushes (few + more) old new
flushes_fewer few more old new flushes = record { more = flushes.more; few = omega (arith, flushes.few); noted = flushes.noted }

pub on_any : {T E : Type 0} (r : Result T E) (P : Type 0) → P → OnOk r P
on_any (Ok x) P p = p
on_any (Err e) P p = tt

pub adds_flushes : (most : ℕ) (old new : DiskState) → Flushes most old new → Adds old new
adds_flushes most old new flushes = record { more = flushes.more; noted = flushes.noted }

module _ (layout : Layout) where
  -- nothing was written
  pub making_untouched : (old new : DiskState) → Untouched old new → IsMaking old new layout
  making_untouched old new rests = record {
    any_moment = weaker old new old.may_leave (IsUnmadeOrNew old layout) (λ c now. inl (c, now, torn_nothing front c)) rests.any_moment;
    after_first = λ t rest flushes c left. absurd (no_flush old new t rest rests.flushes flushes);
    spares = rests_spares old new IsLeftByCreate rests;
    flushes = flushes_none 5 old new rests.flushes;
  }

  -- the ring was read before
  pub making_then : (old mid new : DiskState) → Untouched old mid → IsMaking mid new layout → IsMaking old new layout
  making_then old mid new rests run = record {
    any_moment =
        joined old mid new (IsUnmadeOrNew old layout) (weaker old mid old.may_leave (IsUnmadeOrNew old layout) (λ c now. inl (c, now, torn_nothing front c)) rests.any_moment)
        (weaker mid new (IsUnmadeOrNew mid layout) (IsUnmadeOrNew old layout)
        (λ c here. elim here [ inl from ↦ inl (from.0, rests.images from.0 from.1, from.2) | inr made ↦ inr made ]) run.any_moment);
    after_first = λ t rest flushes c left. run.after_first t rest (flushes ∙ ap (λ (f : List ℕ). f ++ t ∷ rest) (sym rests.flushes)) c left;
    spares = spares_then IsLeftByCreate old mid new (rests_spares old mid IsLeftByCreate rests) run.spares;
    flushes = record { more = run.flushes.more; few = run.flushes.few; noted = run.flushes.noted ∙ ap (λ (f : List ℕ). f ++ run.flushes.more) rests.flushes };
  }

  -- the head and the ring were not wiped
  pub wipe_failed : (old new : DiskState) → Spares front old new → new.flushes ≡ old.flushes → IsMaking old new layout
  wipe_failed old new run none = record {
    any_moment = weaker old new (Before old front) (IsUnmadeOrNew old layout) (λ c from. inl from) run.any_moment;
    after_first = λ t rest flushes c left. absurd (no_flush old new t rest none flushes);
    spares = spares_less front old new IsLeftByCreate (λ p both. both.0) run;
    flushes = flushes_none 5 old new none;
  }

  -- they were, and then the first group was made openable
  pub wiped_filled : (old mid new : DiskState) → Spares front old mid → IsWiped mid → mid.flushes ≡ old.flushes ++ mid.moment ∷ [] → IsFilling mid new layout → IsMaking old new layout
  wiped_filled old mid new run wiped noted filling = record {
    any_moment =
        joined old mid new (IsUnmadeOrNew old layout) (weaker old mid (Before old front) (IsUnmadeOrNew old layout) (λ c from. inl from) run.any_moment)
        (weaker mid new (IsNoneOrNew layout) (IsUnmadeOrNew old layout) (λ c made. inr made) (filling.any_moment wiped));
    after_first = λ t rest flushes c left.
        first_flush old mid new (IsNoneOrNew layout) t rest noted (adds_flushes 4 mid new filling.flushes) flushes (filling.any_moment wiped) c left;
    spares = spares_then IsLeftByCreate old mid new (spares_less front old mid IsLeftByCreate (λ p both. both.0) run) filling.spares;
    flushes = flushes_then 1 4 old mid new (flushes_one old mid noted) filling.flushes;
  }

-- want of memory
pub unmade_untouched : (old new : DiskState) → Untouched old new → HasNone (bytes_of old) → IsUnmade old new
unmade_untouched old new rests none = record {
  none = subst HasNone (sym rests.contents) none;
  images = λ c now. inl (rests.images c now);
  spares = rests_spares old new front rests;
}

pub unmade_then : (old mid new : DiskState) → Untouched old mid → IsUnmade mid new → IsUnmade old new
unmade_then old mid new rests unmade = record {
  none = unmade.none;
  images = λ c now. elim (unmade.images c now) [ inl was ↦ inl (rests.images c was) | inr none ↦ inr none ];
  spares = spares_then front old mid new (rests_spares old mid front rests) unmade.spares;
}

pub unmade_wiped : (old mid new : DiskState) → Spares front old mid → IsWiped mid → Untouched mid new → IsUnmade old new
unmade_wiped old mid new run wiped rests =
    let none : HasNone (bytes_of mid) = ring_none (bytes_of mid) (λ p low high. wiped.zeros p high) in
    record {
      none = subst HasNone (sym rests.contents) none;
      images = λ c now. inr (subst HasNone (sym (wiped.flushed c (rests.images c now))) none);
      spares = spares_then front old mid new run (rests_spares mid new front rests);
    }
