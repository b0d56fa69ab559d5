-- What the loader knows of a metaslab behind each of its turns.
use Rattle.std.proofs.Common.{◌≡◌, ℕ, ◌<◌, cond, Bool, true, false, Option, Some, None, Result, Ok, Err, OnOk, List, [], ◌∷◌, ◌++◌, length, ◌⊎◌, ⊎_elim, inl, inr, refl, sym, ◌∙◌, ap, subst, arith}
use Rattle.std.specs.Prelude.{◌==◌}
use Rattle.std.specs.List.{fold}
use Rattle.std.specs.Option.{option_to_list}
use Rattle.std.specs.declared.alloc.AllocError.{AllocError}
use Rattle.std.proofs.lemmas.List.{append-nil}
use Rattle.zms_units.specs.declared.segments.Seg.{Seg}
use Rattle.lane_steps.proofs.Steps.{prefix_trans, prefix_whole, follows_prefix}
use Rattle.turn_cell.specs.Notes.{IsPrefix}
use Rattle.turn_cell.specs.Lanes.{Step, Follows, after, notes_of}
use Rattle.ms_model.specs.Events.{Event, at_metaslab, metaslab_steps}
use Rattle.ms_model.specs.Origin.{Origin}
use Rattle.ms_model.specs.Parts.{right_of}
use Rattle.ms_model.specs.Units.{is_loaded, collected_by}
use Rattle.ms_model.specs.declared.notes.Act.TheVariants.{Load}
use Rattle.ms_model.specs.declared.notes.Noted.{Noted}
use Rattle.ms_model.proofs.Histories.{is_loaded-push}
use Rattle.ms_core.specs.declared.faults.Counts.{Counts}
use Rattle.ms_cell.specs.declared.loader.LoadFault.{LoadFault}
use Rattle.ms_cell.specs.declared.loader.LoadFault.TheVariants.{Suspended, Device, Damaged, Memory}
use Rattle.ms_cell.specs.Passes.{Passes, seen_of, seen_in}
use Rattle.ms_cell.specs.Journey.{Journey, Turned}
use Rattle.ms_cell.specs.Answers.{IsSight, LoadAnswer}
use Rattle.ms_cell.specs.Loads.{IsPlace, IsLoadedAt}
use Rattle.ms_cell.proofs.Lifting.{some_at, step_there}
use Rattle.ms_cell.proofs.JournalLaws.{stays_seated, keeper_groups}
use Rattle.alloc_rows.specs.Serving.{Keeps}

abbrev pub gathered : ℕ → List Noted → ℕ
gathered x notes = fold (λ y (n : Noted). collected_by y n.act) x notes

-- what notes no collect leaves the groups
pub keeps_along : (es : List Event) (p q : Passes) → ((k x : ℕ) → gathered x (notes_of (metaslab_steps k es)) ≡ x) → Journey 0 es p q → Keeps p q
keeps_along es p q quiet w t s = (stays_seated 0 t es p q s w, λ none k lt. (keeper_groups es p q k w (omega (arith, s.know.count))).0 ∙ (quiet k _ ∙ none k lt))

pub keeps_told : (p q : Passes) → Journey 0 [] p q → Keeps p q
keeps_told p q w = keeps_along [] p q (λ k x. refl) w

keeps_step : (at : ℕ) (s : Step Noted) (p q : Passes) → ((x : ℕ) → gathered x (option_to_list s.note ++ []) ≡ x) → Journey 0 (at_metaslab at s ∷ []) p q → Keeps p q
keeps_step at s p q quiet w = keeps_along _ p q (λ k x. by_place x (at == k)) w where
  by_place : (x : ℕ) (b : Bool) → gathered x (notes_of (cond b (s ∷ []) [])) ≡ x
  by_place x true = quiet x
  by_place x false = refl

keeps_noted : (at : ℕ) (before : List Noted) (note : Option Noted) (p q : Passes) → (noted : Option Noted) → note ≡ noted → ((x : ℕ) → gathered x (option_to_list noted ++ []) ≡ x)
    → Journey 0 (at_metaslab at (record { before = before; note = note }) ∷ []) p q → Keeps p q
keeps_noted at before note p q noted is quiet w = keeps_step at (record { before = before; note = note }) p q (λ x. ap (λ (n : Option Noted). gathered x (option_to_list n ++ [])) is ∙ quiet x) w

pub sight_keeps : (k : ℕ) (counts : Counts) (weight : ℕ) (loaded : Bool) (p q : Passes) → Turned 0 k (IsSight counts weight loaded) p q → Keeps p q
sight_keeps k counts weight loaded p q w = keeps_noted k w.before w.note p q None w.answer.quiet (λ x. refl) w.journey

load_notes : (lane : ℕ) (segs : List Seg) (result : Result (Option ℕ) AllocError) (o : Origin) (h : List Noted) (added : Option Noted) → LoadAnswer lane segs result o h added → (added ≡ None) ⊎ (added ≡ Some (record { lane = lane; act = Load }))
load_notes lane segs (Ok None) o h added a = ⊎_elim (λ t. inl t.1) (λ t. inr t.1) a.notes
load_notes lane segs (Ok (Some unit)) o h added a = inl a.0
load_notes lane segs (Err e) o h added a = inl a

pub load_keeps : (lane k : ℕ) (segs : List Seg) (result : Result (Option ℕ) AllocError) (p q : Passes) → Turned 0 k (LoadAnswer lane segs result) p q → Keeps p q
load_keeps lane k segs result p q w =
    ⊎_elim
    (λ (none : w.note ≡ None). keeps_noted k w.before w.note p q None none (λ x. refl) w.journey)
    (λ (some : w.note ≡ Some (record { lane = lane; act = Load })). keeps_noted k w.before w.note p q _ some (λ x. refl) w.journey)
    (load_notes lane segs result _ _ _ w.answer)

module _ (k : ℕ) (s : Step Noted) (p q : Passes) (w : Journey 0 (at_metaslab k s ∷ []) p q) (lt : k < length p.metaslabs) where
  step_follows : Follows right_of 0 (seen_in p k) (s ∷ []) (seen_in q k)
  step_follows =
      let c = some_at p.metaslabs k lt in
      let d = some_at q.metaslabs k (omega (arith, w.count)) in
      let here : Follows right_of 0 c.0.seen (s ∷ []) d.0.seen = subst (λ (l : List (Step Noted)). Follows right_of 0 c.0.seen l d.0.seen) (step_there k s) (w.each.at k c.0 d.0 c.1 d.1).follows in
      subst (λ x. Follows right_of 0 x (s ∷ []) (seen_in q k)) (sym (ap seen_of c.1)) (subst (λ x. Follows right_of 0 c.0.seen (s ∷ []) x) (sym (ap seen_of d.1)) here)

  pub step_grows : IsPrefix (seen_in p k) (seen_in q k)
  step_grows = follows_prefix right_of 0 (seen_in p k) (s ∷ []) (seen_in q k) step_follows

  -- what was there as the turn was given back
  pub step_place : (loaded : Bool) → is_loaded (after s) ≡ loaded → IsPlace loaded k p q
  step_place loaded is = record {
    place = after s;
    from = prefix_trans (seen_in p k) s.before (after s) (step_follows.0.more, step_follows.0.is) (option_to_list s.note, refl);
    to = (step_follows.1.1.more, step_follows.1.1.is);
    is = is;
  }

pub seen_place : (k : ℕ) (counts : Counts) (weight : ℕ) (loaded : Bool) (p q : Passes) → Turned 0 k (IsSight counts weight loaded) p q → k < length p.metaslabs → IsPlace loaded k p q
seen_place k counts weight loaded p q w lt =
    step_place k _ p q w.journey lt loaded (ap (λ (n : Option Noted). is_loaded (w.before ++ option_to_list n)) w.answer.quiet ∙ (ap is_loaded (append-nil w.before) ∙ sym w.answer.in_memory))

pub loaded_place : (lane k : ℕ) (segs : List Seg) (p q : Passes) → Turned 0 k (LoadAnswer {E = AllocError} lane segs (Ok None)) p q → k < length p.metaslabs → IsPlace true k p q
loaded_place lane k segs p q w lt = step_place k _ p q w.journey lt true (by_case w.note w.answer.notes) where
  by_case : (note : Option Noted) → ((is_loaded w.before ≡ true) × (note ≡ None)) ⊎ ((is_loaded w.before ≡ false) × (note ≡ Some (record { lane = lane; act = Load }))) → is_loaded (w.before ++ option_to_list note) ≡ true
  by_case added (inl was) = rw was.1 (ap is_loaded (append-nil w.before) ∙ was.0)
  by_case added (inr now) = rw now.1 (is_loaded-push w.before (record { lane = lane; act = Load }))

pub place_wider : (loaded : Bool) (k : ℕ) (o p q r : Passes) → IsPrefix (seen_in o k) (seen_in p k) → IsPrefix (seen_in q k) (seen_in r k) → IsPlace loaded k p q → IsPlace loaded k o r
place_wider loaded k o p q r before behind is = record {
  place = is.place;
  from = prefix_trans (seen_in o k) (seen_in p k) is.place before is.from;
  to = prefix_trans is.place (seen_in q k) (seen_in r k) is.to behind;
  is = is.is;
}

pub loaded_wider : (result : Result (Unit {0}) LoadFault) (k : ℕ) (o p q r : Passes) → IsPrefix (seen_in o k) (seen_in p k) → IsPrefix (seen_in q k) (seen_in r k) → IsLoadedAt result k p q → IsLoadedAt result k o r
loaded_wider (Ok x) k o p q r before behind is = place_wider true k o p q r before behind is
loaded_wider (Err Memory) k o p q r before behind is = tt
loaded_wider (Err (Suspended first)) k o p q r before behind is = place_wider false k o p q r before behind is
loaded_wider (Err (Device low high)) k o p q r before behind is = place_wider false k o p q r before behind is
loaded_wider (Err (Damaged id damage)) k o p q r before behind is = place_wider false k o p q r before behind is

-- a refusal of what was not loaded
pub unloaded_at : (fault : LoadFault) (k : ℕ) (p q r : Passes) → IsPlace false k p q → IsPrefix (seen_in q k) (seen_in r k) → IsLoadedAt (Err fault) k p r
unloaded_at Memory k p q r is behind = tt
unloaded_at (Suspended first) k p q r is behind = place_wider false k p p q r (prefix_whole (seen_in p k)) behind is
unloaded_at (Device low high) k p q r is behind = place_wider false k p p q r (prefix_whole (seen_in p k)) behind is
unloaded_at (Damaged id damage) k p q r is behind = place_wider false k p p q r (prefix_whole (seen_in p k)) behind is

-- what was not loaded, and was handed runs
pub handed_at : (result : Result (Unit {0}) LoadFault) (k : ℕ) (p q r : Passes) → IsPlace false k p q → IsPrefix (seen_in q k) (seen_in r k) → OnOk result (IsPlace true k q r) → IsLoadedAt result k p r
handed_at (Ok x) k p q r is behind loaded = place_wider true k p q r r (prefix_trans (seen_in p k) is.place (seen_in q k) is.from is.to) (prefix_whole (seen_in r k)) loaded
handed_at (Err fault) k p q r is behind loaded = unloaded_at fault k p q r is behind
