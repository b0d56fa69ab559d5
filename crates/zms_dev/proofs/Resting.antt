-- Runs of calls without any write.
use Rattle.std.proofs.Common.{◌≡◌, ℕ, List, refl, sym, ◌∙◌, subst}
use Rattle.zms_dev.specs.Bytes.{Torn}
use Rattle.zms_dev.specs.Disk.{DiskState, Tells, bytes_of, Only, SameKind, Elapses, Stays}
use Rattle.zms_dev.specs.Runs.{Before, Spares, Untouched}
use Rattle.zms_dev.proofs.Moments.{OnlyNow, started, called, joined, weaker}
use Rattle.zms_dev.proofs.Sparing.{torn_nothing, still_tells}

pub rests_none : (disk : DiskState) → Tells disk → OnlyNow disk → Untouched disk disk
rests_none disk tells only = record {
  tells = tells;
  contents = refl;
  images = λ c now. now;
  any_moment = started disk disk.may_leave only;
  flushes = refl;
}

module _ (old new : DiskState) where
  -- a size, a read, or a flush that failed
  pub rests_stays : Tells old → OnlyNow old → SameKind old new → Elapses old new → Stays old new → new.flushes ≡ old.flushes → Untouched old new
  rests_stays tells only kind time stays flushes = record {
    tells = still_tells old new tells kind;
    contents = stays.contents;
    images = stays.images;
    any_moment = called old new old.may_leave only time (λ c now. now) stays.images;
    flushes = flushes;
  }

  -- it touches no place at all
  pub rests_spares : (spared : ℕ → Type 0) → Untouched old new → Spares spared old new
  rests_spares spared run =
      let itself : (c : List ℕ) → old.may_leave c → Before old spared c = λ c now. (c, now, torn_nothing spared c) in
      record {
        tells = run.tells;
        contents = subst (λ (b : List ℕ). Torn spared (bytes_of old) b) (sym run.contents) (torn_nothing spared (bytes_of old));
        images = λ c now. itself c (run.images c now);
        any_moment = weaker old new old.may_leave (Before old spared) itself run.any_moment;
      }

  pub rests_only : (image : List ℕ) → Untouched old new → Only image old.may_leave → Only image new.may_leave
  rests_only image run only c now = only c (run.images c now)

pub rests_then : (old mid new : DiskState) → Untouched old mid → Untouched mid new → Untouched old new
rests_then old mid new first second = record {
  tells = second.tells;
  contents = second.contents ∙ first.contents;
  images = λ c now. first.images c (second.images c now);
  any_moment = joined old mid new old.may_leave first.any_moment (weaker mid new mid.may_leave old.may_leave first.images second.any_moment);
  flushes = second.flushes ∙ first.flushes;
}
