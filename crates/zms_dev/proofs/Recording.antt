-- The record of a pool device in memory, one call on.
use Rattle.std.proofs.Common.{◌≡◌, ℕ, ◌+◌, ◌≤◌, Bool, true, false, List, [], ◌∷◌, ◌++◌, length, take, drop, map, vec_capacity, refl, sym, ◌∙◌, ap, arith, append_assoc, length-append}
use Rattle.std.specs.Prelude.{if◌then◌else◌, ◌&&◌, nat_le, nat_lt, Vec}
use Rattle.std.specs.declared.alloc.Global.{Global}
use Rattle.std.proofs.lemmas.Bool.Decides.{nat_tests}
use Rattle.std.proofs.lemmas.List.{map-append, append-nil, take_at, drop_at}
use Rattle.zms_dev.specs.Bytes.{overwritten}
use Rattle.zms_dev.specs.History.{Step, wrote, flushed, looked, Stage, start, next, after}
use Rattle.zms_dev.specs.MemoryDisk.{step_of}
use Rattle.zms_dev.specs.MemoryInside.{Records, IsSound}
use Rattle.zms_dev.specs.Script.{ScriptState, allows, after_call}
use Rattle.zms_dev.specs.declared.memory.calls.Call.TheVariants.{Write, Flush}
use Rattle.zms_dev.specs.declared.memory.calls.CallRecord.{CallRecord}
use Rattle.zms_dev.specs.declared.memory.disk.MemDisk.TheInside.{Inside}
use Rattle.zms_dev.proofs.Replay.{after-append}

and_left : (a b : Bool) → a && b ≡ true → a ≡ true
and_left true b both = refl
and_left false b both = both

-- a call that went well was within the room
pub had_room : (s : ScriptState) (fits : Bool) → true ≡ (allows s && fits) → nat_lt s.made s.room ≡ true
had_room s fits well = and_left _ _ (and_left _ _ (sym well))

and_right : (a b : Bool) → a && b ≡ true → b ≡ true
and_right true b both = both
and_right false b both = cc

below : (m n : ℕ) → nat_le m n ≡ true → m ≤ n
below m n is = grind (arith, nat_tests)

-- and what it brought has room
pub fitted : (s : ScriptState) (fits end_fits : Bool) (m n : ℕ) → true ≡ (allows s && fits) → fits ≡ (end_fits && nat_le m n) → m ≤ n
fitted s fits end_fits m n well is = below m n (and_right end_fits (nat_le m n) (sym is ∙ and_right (allows s) fits (sym well)))

pub steps_more : (written : List ℕ) (calls : List CallRecord) (call : CallRecord) (step : Step) → step_of written call ≡ step → map (step_of written) (calls ++ call ∷ []) ≡ map (step_of written) calls ++ step ∷ []
steps_more written calls call step is =
    map-append (step_of written) calls (call ∷ []) ∙ ap (λ (s : Step). map (step_of written) calls ++ s ∷ []) is

module _ (first written bytes : List ℕ) (calls : List CallRecord) (was : Records first written bytes calls) where
  abbrev stage : Stage
  stage = after (start first) (map (step_of written) calls)

  seen_more : (call : CallRecord) → after (start first) (map (step_of written) (calls ++ call ∷ [])) ≡ next stage (step_of written call)
  seen_more call =
      ap (λ (steps : List Step). after (start first) steps) (steps_more written calls call (step_of written call) refl)
      ∙ after-append (start first) (map (step_of written) calls) (step_of written call ∷ [])

  records_more : (call : CallRecord) (step : Step) (new : List ℕ) → ((more : List ℕ) → step_of (written ++ more) call ≡ step) → new ≡ (next stage step).seen → Records first written new (calls ++ call ∷ [])
  records_more call step new is seen =
      let here : step_of written call ≡ step = ap (λ (w : List ℕ). step_of w call) (sym (append-nil written)) ∙ is [] in
      record {
        reads = seen ∙ ap (λ (s : Step). (next stage s).seen) (sym here) ∙ ap (λ (s : Stage). s.seen) (sym (seen_more call));
        stable = λ more.
            steps_more (written ++ more) calls call step (is more) ∙ ap (λ (steps : List Step). steps ++ step ∷ []) (was.stable more)
            ∙ sym (steps_more written calls call step here);
      }

  records_quiet : (noted : Bool) (call : CallRecord) (step : Step) → ((w : List ℕ) → step_of w call ≡ step) → ((s : Stage) → (next s step).seen ≡ s.seen) → Records first written bytes (if noted then calls ++ call ∷ [] else calls)
  records_quiet true call step is quiet = records_more call step bytes (λ more. is (written ++ more)) (was.reads ∙ sym (quiet stage))
  records_quiet false call step is quiet = was

  records_grown : (more : List ℕ) → Records first (written ++ more) bytes calls
  records_grown more = record {
    reads = was.reads ∙ ap (λ (steps : List Step). (after (start first) steps).seen) (sym (was.stable more));
    stable = λ rest.
        ap (λ (w : List ℕ). map (step_of w) calls) (append_assoc written more rest) ∙ was.stable (more ++ rest) ∙ sym (was.stable more);
  }

-- the bytes of a write are found again among all that were written
found : (written bytes more : List ℕ) → take (length bytes) (drop (length written) ((written ++ bytes) ++ more)) ≡ bytes
found written bytes more =
    ap (λ (w : List ℕ). take (length bytes) (drop (length written) w)) (append_assoc written bytes more)
    ∙ ap (λ (w : List ℕ). take (length bytes) w) (drop_at written (bytes ++ more) (length written) refl) ∙ take_at bytes more (length bytes) refl

pub records_written : (first written bytes : List ℕ) (calls : List CallRecord) → Records first written bytes calls → (at : ℕ) (more : List ℕ) → Records first (written ++ more) (overwritten bytes at more) (calls ++ (record { call = Write at (length more) (length written); went_well = true }) ∷ [])
records_written first written bytes calls was at more =
    let grown = records_grown first written bytes calls was more in
    records_more first (written ++ more) bytes calls grown (record { call = Write at (length more) (length written); went_well = true }) (wrote at more) (overwritten bytes at more)
    (λ rest. ap (λ (found_bytes : List ℕ). wrote at found_bytes) (found written more rest))
    (ap (λ (b : List ℕ). overwritten b at more) grown.reads)

room_left : (noted : Bool) (made room : ℕ) (calls : List CallRecord) (call : CallRecord) → nat_lt made room ≡ noted → length calls ≤ made → length (if noted then calls ++ call ∷ [] else calls) ≤ (if noted then made + 1 else made)
room_left true made room calls call is within = omega (arith, length-append calls (call ∷ []))
room_left false made room calls call is within = within

-- a call that left the bytes as they were
pub sound_quiet : (d : Inside) → IsSound d → (calls : Vec CallRecord Global) (script : ScriptState) (call : CallRecord) (step : Step) (went_well : Bool)
    → calls.items ≡ (if nat_lt d.script.made d.script.room then d.calls.items ++ call ∷ [] else d.calls.items)
    → script ≡ after_call d.script went_well → vec_capacity d.calls ≤ vec_capacity calls
    → ((w : List ℕ) → step_of w call ≡ step) → ((s : Stage) → (next s step).seen ≡ s.seen)
    → IsSound (record { first = d.first; bytes = d.bytes; written = d.written; calls = calls; end = d.end; room = d.room; script = script })
sound_quiet d was calls script call step went_well calls_are script_is capacity is quiet = record {
  records =
      rw calls_are (records_quiet d.first.items d.written.items d.bytes.items d.calls.items was.records (nat_lt d.script.made d.script.room) call step is quiet);
  bytes_fit = was.bytes_fit;
  written_fit = was.written_fit;
  written_within = was.written_within;
  calls_fit = omega (arith, was.calls_fit, capacity, ap (λ (s : ScriptState). s.room) script_is);
  calls_within =
      rw (calls_are, ap (λ (s : ScriptState). s.made) script_is)
      (room_left (nat_lt d.script.made d.script.room) d.script.made d.script.room d.calls.items call refl was.calls_within);
}

-- a write that was done
pub sound_written : (d : Inside) → IsSound d → (bytes written : Vec ℕ Global) (calls : Vec CallRecord Global) (script : ScriptState) (at : ℕ) (more : List ℕ) (from : ℕ) (fits : Bool)
    → from ≡ length d.written.items → true ≡ (allows d.script && fits)
    → calls.items ≡ (if nat_lt d.script.made d.script.room then d.calls.items ++ (record { call = Write at (length more) from; went_well = true }) ∷ [] else d.calls.items)
    → script ≡ after_call d.script true → vec_capacity d.calls ≤ vec_capacity calls
    → written.items ≡ d.written.items ++ more → length d.written.items + length more ≤ d.room → vec_capacity d.written ≤ vec_capacity written
    → bytes.items ≡ overwritten d.bytes.items at more → vec_capacity d.bytes ≤ vec_capacity bytes
    → IsSound (record { first = d.first; bytes = bytes; written = written; calls = calls; end = d.end; room = d.room; script = script })
sound_written d was bytes written calls script at more from fits from_is well calls_are script_is calls_capacity written_is within written_capacity bytes_are bytes_capacity =
    let call : CallRecord = record { call = Write at (length more) (length d.written.items); went_well = true } in
    let room = had_room d.script fits well in
    let placed : calls.items ≡ (if nat_lt d.script.made d.script.room then d.calls.items ++ call ∷ [] else d.calls.items) =
    calls_are ∙ ap (λ (k : ℕ). if nat_lt d.script.made d.script.room then d.calls.items ++ (record { call = Write at (length more) k; went_well = true }) ∷ [] else d.calls.items) from_is in
    let recorded : calls.items ≡ d.calls.items ++ call ∷ [] = placed ∙ ap (λ (b : Bool). if b then d.calls.items ++ call ∷ [] else d.calls.items) room in
    record {
      records = rw (recorded, written_is, bytes_are) (records_written d.first.items d.written.items d.bytes.items d.calls.items was.records at more);
      bytes_fit = omega (arith, was.bytes_fit, bytes_capacity);
      written_fit = omega (arith, was.written_fit, written_capacity);
      written_within = rw written_is (omega (arith, length-append d.written.items more, within));
      calls_fit = omega (arith, was.calls_fit, calls_capacity, ap (λ (s : ScriptState). s.room) script_is);
      calls_within =
          rw (placed, ap (λ (s : ScriptState). s.made) script_is)
          (room_left (nat_lt d.script.made d.script.room) d.script.made d.script.room d.calls.items call refl was.calls_within);
    }

-- a flush, by whether it went well
pub sound_flushed : (d : Inside) → IsSound d → (calls : Vec CallRecord Global) (script : ScriptState) (went_well : Bool)
    → calls.items ≡ (if nat_lt d.script.made d.script.room then d.calls.items ++ (record { call = Flush; went_well = went_well }) ∷ [] else d.calls.items)
    → script ≡ after_call d.script went_well → vec_capacity d.calls ≤ vec_capacity calls
    → IsSound (record { first = d.first; bytes = d.bytes; written = d.written; calls = calls; end = d.end; room = d.room; script = script })
sound_flushed d was calls script true calls_are script_is capacity = sound_quiet d was calls script (record { call = Flush; went_well = true }) flushed true calls_are script_is capacity (λ w. refl) (λ s. refl)
sound_flushed d was calls script false calls_are script_is capacity = sound_quiet d was calls script (record { call = Flush; went_well = false }) looked false calls_are script_is capacity (λ w. refl) (λ s. refl)
