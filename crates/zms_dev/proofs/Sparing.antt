-- Runs that touch no spared place.
use Rattle.std.proofs.Common.{ℕ, List, length, Result, Ok, Err, refl, sym, ◌∙◌, subst, arith}
use Rattle.zms_dev.specs.Bytes.{Outside, Holds, Torn}
use Rattle.zms_dev.specs.Disk.{DiskState, Tells, bytes_of, Only, SameKind, Elapses, Stays, Wrote}
use Rattle.zms_dev.specs.Runs.{LeavesOnly, Before, Spares}
use Rattle.zms_dev.proofs.Moments.{OnlyNow, started, called, joined, weaker}

pub torn_nothing : (spared : ℕ → Type 0) (image : List ℕ) → Torn spared image image
torn_nothing spared image = record { same = λ p lt free. refl; no_shorter = omega arith }

pub torn_then : (spared : ℕ → Type 0) (a b c : List ℕ) → Torn spared a b → Torn spared b c → Torn spared a c
torn_then spared a b c first second = record {
  same = λ p lt free. second.same p (omega (arith, lt, first.no_shorter)) free ∙ first.same p lt free;
  no_shorter = omega (arith, first.no_shorter, second.no_shorter);
}

pub torn_less : (spared fewer : ℕ → Type 0) (a b : List ℕ) → ((p : ℕ) → fewer p → spared p) → Torn spared a b → Torn fewer a b
torn_less spared fewer a b less torn = record { same = λ p lt few. torn.same p lt (less p few); no_shorter = torn.no_shorter }

-- a write that was done is one that was torn
pub torn_holds : (a : List ℕ) (at : ℕ) (bytes b : List ℕ) → Holds a at bytes b → Torn (Outside at (length bytes)) a b
torn_holds a at bytes b holds = record { same = λ p lt out. holds.outside p out; no_shorter = holds.no_shorter }

pub still_tells : (old new : DiskState) → Tells old → SameKind old new → Tells new
still_tells old new tells kind = record { honest = kind.honest.0 tells.honest; told = kind.told ∙ tells.told }

-- a torn step of the images is a step of the run
module _ (spared : ℕ → Type 0) (old mid new : DiskState) where
  before_then : ((c : List ℕ) → mid.may_leave c → Before old spared c) → (c : List ℕ) → Before mid spared c → Before old spared c
  before_then images c from =
      let was = images from.0 from.1 in
      (was.0, was.1, torn_then spared was.0 from.0 c was.2 from.2)

  pub spares_then : Spares spared old mid → Spares spared mid new → Spares spared old new
  spares_then first second = record {
    tells = second.tells;
    contents = torn_then spared (bytes_of old) (bytes_of mid) (bytes_of new) first.contents second.contents;
    images = λ c now. before_then first.images c (second.images c now);
    any_moment = joined old mid new (Before old spared) first.any_moment (weaker mid new (Before mid spared) (Before old spared) (before_then first.images) second.any_moment);
  }

module _ (spared : ℕ → Type 0) (old new : DiskState) where
  image_itself : (c : List ℕ) → old.may_leave c → Before old spared c
  image_itself c now = (c, now, torn_nothing spared c)

  -- a size, a read or a flush
  pub spares_stays : Tells old → OnlyNow old → SameKind old new → Elapses old new → Stays old new → Spares spared old new
  spares_stays tells only kind time stays =
      let last : (c : List ℕ) → new.may_leave c → Before old spared c = λ c now. image_itself c (stays.images c now) in
      record {
        tells = still_tells old new tells kind;
        contents = subst (λ (b : List ℕ). Torn spared (bytes_of old) b) (sym stays.contents) (torn_nothing spared (bytes_of old));
        images = last;
        any_moment = called old new (Before old spared) only time image_itself last;
      }

  -- between two flushes a stop leaves the flushed bytes, torn outside the spared places
  pub from_only : (image : List ℕ) → Only image old.may_leave → Spares spared old new → LeavesOnly old new (Torn spared image)
  from_only image only run =
      weaker old new (Before old spared) (Torn spared image) (λ c from. subst (λ (d : List ℕ). Torn spared d c) (only from.0 from.1) from.2) run.any_moment

  pub spares_less : (fewer : ℕ → Type 0) → ((p : ℕ) → fewer p → spared p) → Spares spared old new → Spares fewer old new
  spares_less fewer less run =
      let fewer_torn : (c : List ℕ) → Before old spared c → Before old fewer c = λ c from. (from.0, from.1, torn_less spared fewer from.0 c less from.2) in
      record {
        tells = run.tells;
        contents = torn_less spared fewer (bytes_of old) (bytes_of new) less run.contents;
        images = λ c now. fewer_torn c (run.images c now);
        any_moment = weaker old new (Before old spared) (Before old fewer) fewer_torn run.any_moment;
      }

pub spares_none : (spared : ℕ → Type 0) (disk : DiskState) → Tells disk → OnlyNow disk → Spares spared disk disk
spares_none spared disk tells only = record {
  tells = tells;
  contents = torn_nothing spared (bytes_of disk);
  images = image_itself spared disk disk;
  any_moment = started disk (Before disk spared) (λ c left. image_itself spared disk disk c (only c left));
}

wrote_torn : {T E : Type 0} (old new : DiskState) (at : ℕ) (bytes : List ℕ) (result : Result T E) → Wrote old new at bytes result → Torn (Outside at (length bytes)) (bytes_of old) (bytes_of new)
wrote_torn old new at bytes (Ok x) wrote = torn_holds (bytes_of old) at bytes (bytes_of new) wrote.done
wrote_torn old new at bytes (Err e) wrote = wrote.failed

pub spares_write : {T E : Type 0} (old new : DiskState) (at : ℕ) (bytes : List ℕ) (result : Result T E) → Tells old → OnlyNow old → SameKind old new → Elapses old new → Wrote old new at bytes result → Spares (Outside at (length bytes)) old new
spares_write old new at bytes result tells only kind time wrote =
    let out = Outside at (length bytes) in
    record {
      tells = still_tells old new tells kind;
      contents = wrote_torn old new at bytes result wrote;
      images = wrote.images;
      any_moment = called old new (Before old out) only time (image_itself out old new) wrote.images;
    }
