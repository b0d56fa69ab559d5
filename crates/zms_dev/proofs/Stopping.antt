-- A pool device in memory, stopped after some of its calls.
use Rattle.std.proofs.Common.{◌≡◌, ℕ, suc, zero, ◌+◌, ◌-◌, ◌<◌, ◌≤◌, inl, inr, Bool, true, false, List, [], ◌∷◌, length, get_or, take, drop, map, Result, Ok, Err, refl, sym, ◌∙◌, ap, subst, arith, length-take}
use Rattle.std.specs.Prelude.{IfOk}
use Rattle.std.proofs.lemmas.Bool.{cases_lt}
use Rattle.std.proofs.lemmas.List.{map_more, map-append, take-map, length-map, get_or-take, get_or-drop, take-append-drop, take_rest, get_or_default}
use Rattle.zms_dev.specs.History.{Step, wrote, lost, flushed, looked, Stage, start, next, after, IsImage, WasImage}
use Rattle.zms_dev.specs.MemoryDisk.{DiskForm, step_by, step_of, steps_of}
use Rattle.zms_dev.specs.Ranges.{InSome}
use Rattle.zms_dev.specs.Stop.{stage_after, Filled, IsAtRest, flushed_by, has_flushed}
use Rattle.zms_dev.specs.declared.memory.calls.Call.{Call}
use Rattle.zms_dev.specs.declared.memory.calls.Call.TheVariants.{Size, Read, Write, Flush}
use Rattle.zms_dev.specs.declared.memory.calls.CallRecord.{CallRecord}
use Rattle.zms_dev.proofs.Replay.{after-append}

-- one call more
pub after_more : (s : Stage) (written : List ℕ) (calls : List CallRecord) (i : ℕ) (other : CallRecord) → i < length calls → after s (map (step_of written) (take (i + 1) calls)) ≡ next (after s (map (step_of written) (take i calls))) (step_of written (get_or calls i other))
after_more s written calls i other lt =
    ap (λ (steps : List Step). after s steps) (map_more (step_of written) calls i other lt)
    ∙ after-append s (map (step_of written) (take i calls)) (step_of written (get_or calls i other) ∷ [])

-- what is read next depends on what is read now alone
pub seen_from : (s : Stage) (step : Step) → (next s step).seen ≡ (next (start s.seen) step).seen
seen_from s (wrote at bytes) = refl
seen_from s (lost at len) = refl
seen_from s flushed = refl
seen_from s looked = refl

flushed_step : (written : List ℕ) (call : Call) (went_well : Bool) → flushed_by call went_well ≡ true → step_by written call went_well ≡ flushed
flushed_step written Flush true is = refl
flushed_step written Flush false is = cc
flushed_step written Size went_well is = cc
flushed_step written (Read at len) went_well is = cc
flushed_step written (Write at len from) went_well is = cc

-- after a flush all that is read is settled
pub rest_flushed : (s : Stage) (written : List ℕ) (call : CallRecord) → has_flushed call ≡ true → IsAtRest (next s (step_of written call))
rest_flushed s written call is =
    let step = flushed_step written call.call call.went_well is in
    record { settled = ap (λ (x : Step). (next s x).settled) step ∙ ap (λ (x : Step). (next s x).seen) (sym step); nothing_since = ap (λ (x : Step). (next s x).ranges) step }

quiet_step : (s : Stage) (written : List ℕ) (call : Call) (went_well : Bool) → flushed_by call went_well ≡ false → (next s (step_by written call went_well)).settled ≡ s.settled
quiet_step s written Flush true is = cc
quiet_step s written Flush false is = refl
quiet_step s written Size went_well is = refl
quiet_step s written (Read at len) went_well is = refl
quiet_step s written (Write at len from) true is = refl
quiet_step s written (Write at len from) false is = refl

-- with no flush what is settled stays
pub settled_quiet : (s : Stage) (written : List ℕ) (calls : List CallRecord) → ((k : ℕ) (other : CallRecord) → k < length calls → has_flushed (get_or calls k other) ≡ false) → (after s (map (step_of written) calls)).settled ≡ s.settled
settled_quiet s written [] none = refl
settled_quiet s written (call ∷ calls) none =
    settled_quiet (next s (step_of written call)) written calls (λ k other lt. none (suc k) other (omega arith))
    ∙ quiet_step s written call.call call.went_well (none zero call (omega arith))

-- what is settled is an image
pub settled_image : (s : Stage) → IsImage s s.settled
settled_image s = record { kept = λ p lt free. refl; no_shorter = omega arith; no_longer = λ none. omega arith }

-- an element, and the calls, where there is none to read
abbrev pub nothing : CallRecord
nothing = record { call = Size; went_well = false }

-- first some of the calls, then the rest
pub after_parts : (s : Stage) (written : List ℕ) (calls : List CallRecord) (n : ℕ) → after s (map (step_of written) calls) ≡ after (after s (map (step_of written) (take n calls))) (map (step_of written) (take (length calls - n) (drop n calls)))
after_parts s written calls n =
    ap (λ (cs : List CallRecord). after s (map (step_of written) cs)) (sym (take-append-drop n calls))
    ∙ ap (λ (steps : List Step). after s steps) (map-append (step_of written) (take n calls) (drop n calls))
    ∙ after-append s (map (step_of written) (take n calls)) (map (step_of written) (drop n calls))
    ∙ ap (λ (cs : List CallRecord). after (after s (map (step_of written) (take n calls))) (map (step_of written) cs)) (sym (take_rest calls n))

pub none_more : (calls : List CallRecord) (last i : ℕ) → i < length calls → ((k : ℕ) (other : CallRecord) → last ≤ k → k < i → has_flushed (get_or calls k other) ≡ false) → has_flushed (get_or calls i nothing) ≡ false → (k : ℕ) (other : CallRecord) → last ≤ k → k < i + 1 → has_flushed (get_or calls k other) ≡ false
none_more calls last i lt before here k other low high = elim (cases_lt k i) [
  | inl earlier ↦ before k other low earlier
  | inr now ↦
      let same : i ≡ k = omega arith in
      ap (λ (j : ℕ). has_flushed (get_or calls j other)) (sym same) ∙ ap has_flushed (get_or_default calls i other nothing lt) ∙ here
]

-- nothing is torn where all that is read is settled
pub filled_rest : (s : Stage) (fill : ℕ) (image : List ℕ) → IsAtRest s → Filled s.ranges fill image
filled_rest s fill image rest p here =
    let none : InSome [] p = subst (λ (ranges : List (ℕ × ℕ)). InSome ranges p) rest.nothing_since here in
    absurd none

pub if_ok : {T E : Type 0} (P Q : T → Type 0) (result : Result T E) → ((x : T) → P x → Q x) → IfOk result P → IfOk result Q
if_ok P Q (Ok x) weaker holds = weaker x holds
if_ok P Q (Err e) weaker holds = tt

-- what was settled at the last flush is settled still
pub settled_last : (first written : List ℕ) (calls : List CallRecord) (n : ℕ) → IsAtRest (after (start first) (map (step_of written) (take n calls)))
    → ((k : ℕ) (other : CallRecord) → n ≤ k → k < length calls → has_flushed (get_or calls k other) ≡ false)
    → (after (start first) (map (step_of written) (take n calls))).seen ≡ (after (start first) (map (step_of written) calls)).settled
settled_last first written calls n rest none =
    let stage = after (start first) (map (step_of written) (take n calls)) in
    let later = take (length calls - n) (drop n calls) in
    let quiet : (k : ℕ) (other : CallRecord) → k < length later → has_flushed (get_or later k other) ≡ false = λ k other lt.
    let below : k < length calls - n = omega (arith, length-take (length calls - n) (drop n calls)) in
    ap has_flushed (get_or-take (length calls - n) (drop n calls) k other below ∙ get_or-drop n calls k other) ∙ none (n + k) other (omega arith) (omega arith) in
    sym rest.settled ∙ sym (settled_quiet stage written later quiet) ∙ sym (ap (λ (s : Stage). s.settled) (after_parts (start first) written calls n))

-- the device after so many of its calls, from its parts
pub stage_is : (d : DiskForm) (n : ℕ) (first written : List ℕ) (calls : List CallRecord) → first ≡ d.first → written ≡ d.written → calls ≡ d.calls → after (start first) (map (step_of written) (take n calls)) ≡ stage_after d n
stage_is d n first written calls same_first same_written same_calls =
    (λ i. after (start (same_first i)) (map (step_of (same_written i)) (take n (same_calls i))))
    ∙ ap (λ (steps : List Step). after (start d.first) steps) (sym (take-map (step_of d.written) n d.calls))

pub was_then : (d : DiskForm) (n : ℕ) (image : List ℕ) → n ≤ length d.calls → IsImage (stage_after d n) image → WasImage d.first (steps_of d) n image
was_then d n image within is = record { at = n; since = omega arith; until = omega (arith, length-map d.calls (step_of d.written)); is = is }
