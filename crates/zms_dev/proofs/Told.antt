-- What the calls of a pool device in memory mean, from what they recorded.
use Rattle.std.proofs.Common.{◌≡◌, inl, inr, ℕ, ◌-◌, ◌^◌, ◌≤◌, Bool, true, false, List, [], ◌∷◌, ◌++◌, length, Result, Ok, Err, refl, sym, subst, ap, ◌∙◌, arith}
use Rattle.std.specs.Prelude.{if◌then◌else◌, is_ok, IfOk, OnOk, OnErr}
use Rattle.std.proofs.lemmas.Bool.{cases_lt}
use Rattle.std.proofs.lemmas.Bool.Decides.{nat_tests}
use Rattle.zms_dev.specs.Bytes.{byte, overwritten, Gives}
use Rattle.zms_dev.specs.Causes.{HasCause}
use Rattle.zms_dev.specs.Data.{DataState, data_of, WroteData}
use Rattle.zms_dev.specs.Disk.{DiskState, SameKind, Elapses, Stays, Wrote, Flushed}
use Rattle.zms_dev.specs.History.{Step, wrote, lost, flushed, looked, flush_moments, history}
use Rattle.zms_dev.specs.HistoryLaws.{holds_overwritten}
use Rattle.zms_dev.specs.Script.{ScriptState, after_call}
use Rattle.zms_dev.proofs.Counts.{no_fewer}
use Rattle.zms_dev.proofs.Replay.{elapses_more, elapses_none, stays_none, stays_looked, flushes_looked, wrote_ok, wrote_err, wrote_none, flushed_ok, flushed_err, flushed_none}

-- a script counts just the calls that failed
pub counted : {T E : Type 0} (old new : ScriptState) (result : Result T E) → new ≡ after_call old (is_ok result) → HasCause old.faults new.faults result
counted old new (Ok x) is = rw (ap (λ (s : ScriptState). s.faults) is) (record { later = omega arith; steady = refl; failed = tt })
counted old new (Err e) is = rw (ap (λ (s : ScriptState). s.faults) is) (record { later = no_fewer old.faults; steady = tt; failed = refl })

-- a call that only looked at a device: nothing changed, but for its moment and its count of faults
pub record Looks {T E : Type 0} (old new : DiskState) (before now : ℕ) (result : Result T E) : Type 0 where
  pub stays : Stays old new
  pub flushes : new.flushes ≡ old.flushes
  pub kind : SameKind old new
  pub time : Elapses old new
  pub cause : HasCause before now result

abbrev either : Bool → List Step → Step → List Step
either noted steps step = if noted then steps ++ step ∷ [] else steps

pub one_kind : (first steps other_steps : _) (other : List ℕ) → SameKind (history first steps) (history other other_steps)
one_kind first steps other_steps other = record { honest = (λ h. h, λ h. h); told = refl }

-- the device after a call, by the first bytes, which stay, and by its steps
module _ (first : List ℕ) (steps : List Step) where
  abbrev was : DiskState
  was = history first steps

  history_is : (other : List ℕ) (mine yours : List Step) → other ≡ first → mine ≡ yours → history first yours ≡ history other mine
  history_is other mine yours same are = sym (λ i. history (same i) (are i))

  either_elapses : (noted : Bool) (step : Step) → Elapses was (history first (either noted steps step))
  either_elapses true step = elapses_more first steps step
  either_elapses false step = elapses_none was

  either_stays : (noted : Bool) → Stays was (history first (either noted steps looked))
  either_stays true = stays_looked first steps
  either_stays false = stays_none was

  either_flushes : (noted : Bool) → flush_moments 0 (either noted steps looked) ≡ flush_moments 0 steps
  either_flushes true = flushes_looked first steps
  either_flushes false = refl

  either_lost : {T E : Type 0} (noted : Bool) (at : ℕ) (bytes : List ℕ) (e : E) → Wrote {T = T} {E = E} was (history first (either noted steps (lost at (length bytes)))) at bytes (Err e)
  either_lost true at bytes e = wrote_err first steps at bytes e
  either_lost false at bytes e = wrote_none was at bytes e

  either_unflushed : {T E : Type 0} (noted : Bool) (e : E) → Flushed {T = T} {E = E} was (history first (either noted steps looked)) (Err e)
  either_unflushed true e = flushed_err first steps e
  either_unflushed false e = flushed_none was e

  module _ (other : List ℕ) (same : other ≡ first) (new : List Step) (noted : Bool) where
    pub told_stays : new ≡ either noted steps looked → Stays was (history other new)
    told_stays are = subst (λ (d : DiskState). Stays was d) (history_is other new _ same are) (either_stays noted)

    pub told_flushes : new ≡ either noted steps looked → flush_moments 0 new ≡ flush_moments 0 steps
    told_flushes are = ap (λ (s : List Step). flush_moments 0 s) are ∙ either_flushes noted

    pub told_time : (step : Step) → new ≡ either noted steps step → Elapses was (history other new)
    told_time step are = subst (λ (d : DiskState). Elapses was d) (history_is other new _ same are) (either_elapses noted step)

    -- a call that only looks
    pub told_looked : {T E : Type 0} (script now : ScriptState) (result : Result T E) → new ≡ either noted steps looked → now ≡ after_call script (is_ok result)
        → Looks was (history other new) script.faults now.faults result
    told_looked script now result are counts = record {
      stays = told_stays are;
      flushes = told_flushes are;
      kind = one_kind first steps new other;
      time = told_time looked are;
      cause = counted script now result counts;
    }

    -- by whether the call went well
    pub told_time_by : {T E : Type 0} (result : Result T E) (good bad : Step) → OnOk result (new ≡ steps ++ good ∷ []) → OnErr result (new ≡ either noted steps bad) → Elapses was (history other new)
    told_time_by (Ok x) good bad done failed = subst (λ (d : DiskState). Elapses was d) (history_is other new _ same done) (elapses_more first steps good)
    told_time_by (Err e) good bad done failed = told_time bad failed

    pub told_wrote : {T E : Type 0} (result : Result T E) (at : ℕ) (bytes : List ℕ) → OnOk result (new ≡ steps ++ wrote at bytes ∷ []) → OnErr result (new ≡ either noted steps (lost at (length bytes))) → Wrote was (history other new) at bytes result
    told_wrote {T} {E} (Ok x) at bytes done failed = subst (λ (d : DiskState). Wrote {T = T} {E = E} was d at bytes (Ok x)) (history_is other new _ same done) (wrote_ok first steps at bytes x)
    told_wrote {T} {E} (Err e) at bytes done failed = subst (λ (d : DiskState). Wrote {T = T} {E = E} was d at bytes (Err e)) (history_is other new _ same failed) (either_lost noted at bytes e)

    pub told_flushed : {T E : Type 0} (result : Result T E) → OnOk result (new ≡ steps ++ flushed ∷ []) → OnErr result (new ≡ either noted steps looked) → Flushed was (history other new) result
    told_flushed {T} {E} (Ok x) done failed = subst (λ (d : DiskState). Flushed {T = T} {E = E} was d (Ok x)) (history_is other new _ same done) (flushed_ok first steps x)
    told_flushed {T} {E} (Err e) done failed = subst (λ (d : DiskState). Flushed {T = T} {E = E} was d (Err e)) (history_is other new _ same failed) (either_unflushed noted e)

pub data_written : {T E : Type 0} (old new : DataState) (at : ℕ) (bytes : List ℕ) (result : Result T E) → data_of new ≡ (if is_ok result then overwritten (data_of old) at bytes else data_of old) → WroteData old new at bytes result
data_written old new at bytes (Ok x) is = record { done = rw is (holds_overwritten (data_of old) at bytes); failed = tt }
data_written old new at bytes (Err e) is = record { done = tt; failed = record { outside = λ p out. ap (λ (b : List ℕ). byte b p) is } }

pub given_within : {E : Type 0} (result : Result ℕ E) (bytes : List ℕ) (at : ℕ) (buf : List ℕ) → IfOk result (λ n. Gives bytes at n buf) → IfOk result (λ n. n ≤ length buf)
given_within (Ok n) bytes at buf gives = omega (arith, gives.count)
given_within (Err e) bytes at buf gives = tt
