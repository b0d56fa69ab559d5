-- The open group of a legal journal of the gate counts its closings, so it never falls along a lane's steps.
use Rattle.std.proofs.Common.{◌≡◌, ℕ, ◌+◌, ◌≤◌, ◌<◌, Bool, true, false, cond, List, [], ◌∷◌, ◌++◌, refl, sym, ◌∙◌, ap, subst, append_assoc, arith}
use Rattle.std.specs.Prelude.{◌==◌}
use Rattle.std.specs.List.{filter, All}
use Rattle.std.proofs.lemmas.List.Sums.{fold_push, sum_by-append}
use Rattle.std.proofs.lemmas.List.Elements.{All-nil, All-push, All-weaker, All-filter}
use Rattle.ms_model.specs.Gates.{opened_by, open_group, synced_by, synced_group, MayPass, IsGateLegal, is_closing, closings, ClosesBelow}
use Rattle.ms_model.specs.Parts.{gate_right}
use Rattle.ms_model.specs.Steps.{Step, notes_at, notes_of, Follows}
use Rattle.ms_model.specs.declared.notes.GateNote.{GateNote}
use Rattle.ms_model.specs.declared.notes.GateNote.TheVariants.{Closed, Settled}
use Rattle.ms_model.proofs.Lists.{by_snoc, all_right}
use Rattle.zms_units.proofs.Counting.{count_cons}
use Rattle.lane_steps.proofs.Steps.{follows_rest, follows_between}

pub open_group-push : (opened : ℕ) (h : List GateNote) (note : GateNote) → open_group opened (h ++ note ∷ []) ≡ opened_by (open_group opened h) note
open_group-push opened h note = fold_push _ _ h note

pub synced_group-push : (opened : ℕ) (h : List GateNote) (note : GateNote) → synced_group opened (h ++ note ∷ []) ≡ synced_by (synced_group opened h) note
synced_group-push opened h note = fold_push _ _ h note

pub gate_legal_before : (opened : ℕ) (h rest : List GateNote) → IsGateLegal opened (h ++ rest) → IsGateLegal opened h
gate_legal_before opened h rest legal before note more e =
    legal before note (more ++ rest) (sym (append_assoc before (note ∷ more) rest) ∙ ap (λ l. l ++ rest) e)

pub gate_legal_last : (opened : ℕ) (h : List GateNote) (note : GateNote) (rest : List GateNote) → IsGateLegal opened (h ++ (note ∷ rest)) → MayPass opened h note
gate_legal_last opened h note rest legal = legal h note rest refl

-- what holds before the first note, and stays by each note that may pass, holds of each legal journal
pub by_gate_legal : (opened : ℕ) (P : List GateNote → Type 0) → P []
    → ((h : List GateNote) (note : GateNote) → MayPass opened h note → P h → P (h ++ note ∷ []))
    → (h : List GateNote) → IsGateLegal opened h → P h
by_gate_legal opened P none step h legal =
    by_snoc (λ l. IsGateLegal opened l → P l) (λ _. none)
    (λ l note before both. step l note (gate_legal_last opened l note [] both) (before (gate_legal_before opened l (note ∷ []) both)))
    h legal

-- what a legal journal of the gate keeps true
pub record GateFacts (opened : ℕ) (h : List GateNote) : Type 0 where
  pub counts : open_group opened h ≡ opened + 1 + closings h
  pub from : opened ≤ synced_group opened h
  pub order : synced_group opened h < open_group opened h
  pub near : open_group opened h ≤ synced_group opened h + 3
  pub closed : All (ClosesBelow (open_group opened h)) h

closings-push : (h : List GateNote) (note : GateNote) → closings (h ++ note ∷ []) ≡ closings h + closings (note ∷ [])
closings-push h note = sum_by-append _ h (note ∷ [])

closes_later : (m n : ℕ) → m ≤ n → (note : GateNote) → ClosesBelow m note → ClosesBelow n note
closes_later m n le (Closed lane group) lt = omega arith
closes_later m n le (Settled group) lt = lt

gate_facts_push : (opened : ℕ) (h : List GateNote) (note : GateNote) → MayPass opened h note → GateFacts opened h → GateFacts opened (h ++ note ∷ [])
gate_facts_push opened h (Closed lane group) may f =
    let is_open : open_group opened (h ++ Closed lane group ∷ []) ≡ group.0 + 1 = open_group-push opened h (Closed lane group) in
    let is_synced : synced_group opened (h ++ Closed lane group ∷ []) ≡ synced_group opened h = synced_group-push opened h (Closed lane group) in
    record {
      counts = omega (arith, closings-push h (Closed lane group), f.counts);
      from = omega (arith, f.from);
      order = omega (arith, f.order);
      near = omega arith;
      closed =
          let later : All (ClosesBelow (group.0 + 1)) h =
          All-weaker (ClosesBelow (open_group opened h)) (ClosesBelow (group.0 + 1)) (closes_later (open_group opened h) (group.0 + 1) (omega arith)) h f.closed in
          let own : group.0 < group.0 + 1 = omega arith in
          rw is_open (All-push (ClosesBelow (group.0 + 1)) h (Closed lane group) later own);
    }
gate_facts_push opened h (Settled group) may f =
    let is_open : open_group opened (h ++ Settled group ∷ []) ≡ open_group opened h = open_group-push opened h (Settled group) in
    let is_synced : synced_group opened (h ++ Settled group ∷ []) ≡ group.0 = synced_group-push opened h (Settled group) in
    record {
      counts = omega (arith, closings-push h (Settled group), f.counts);
      from = omega (arith, f.from);
      order = omega arith;
      near = omega (arith, f.near);
      closed = rw is_open (All-push (ClosesBelow (open_group opened h)) h (Settled group) f.closed tt);
    }

pub gate_facts : (opened : ℕ) (h : List GateNote) → IsGateLegal opened h → GateFacts opened h
gate_facts opened h legal =
    by_gate_legal opened (GateFacts opened)
    (record { counts = omega arith; from = omega arith; order = omega arith; near = omega arith; closed = All-nil (ClosesBelow (opened + 1)) })
    (gate_facts_push opened) h legal

-- a part of the notes closes no more groups than all of them
filtered : (b : Bool) (n : GateNote) (kept : List GateNote) → closings (cond b (n ∷ kept) kept) ≤ closings (n ∷ []) + closings kept
filtered true n kept = omega (arith, count_cons is_closing n kept)
filtered false n kept = omega arith

pub closings-filter : (p : GateNote → Bool) (xs : List GateNote) → closings (filter p xs) ≤ closings xs
closings-filter p [] = omega arith
closings-filter p (x ∷ xs) = omega (arith, filtered (p x) x (filter p xs), count_cons is_closing x xs, closings-filter p xs)

-- from one beginning of a legal journal to a longer one the open group rises by the closings between, and is above each group closed there
pub record Rises (opened : ℕ) (h rest j : List GateNote) : Type 0 where
  pub by : open_group opened j ≡ open_group opened h + closings rest
  pub closed : All (ClosesBelow (open_group opened j)) rest

pub rises : (opened : ℕ) (h rest j : List GateNote) → h ++ rest ≡ j → IsGateLegal opened j → Rises opened h rest j
rises opened h rest j is legal =
    let whole : IsGateLegal opened (h ++ rest) = subst (IsGateLegal opened) (sym is) legal in
    let low : GateFacts opened h = gate_facts opened h (gate_legal_before opened h rest whole) in
    let top : GateFacts opened j = gate_facts opened j legal in
    let all : closings j ≡ closings h + closings rest = ap closings (sym is) ∙ sum_by-append _ h rest in
    record {
      by = omega (arith, low.counts, top.counts);
      closed = all_right (ClosesBelow (open_group opened j)) h rest (subst (All (ClosesBelow (open_group opened j))) (sym is) top.closed);
    }

pub gate_legal_along : (opened : ℕ) (h rest j : List GateNote) → h ++ rest ≡ j → IsGateLegal opened j → IsGateLegal opened h
gate_legal_along opened h rest j is legal = gate_legal_before opened h rest (subst (IsGateLegal opened) (sym is) legal)

-- between two places of a lane, the open group rises by at least the lane's closings there, and is above each of them
pub lane_rises : (opened lane : ℕ) (ss : List (Step GateNote)) (r : Step GateNote) (ts : List (Step GateNote)) (s : Step GateNote) (us : List (Step GateNote)) (j : List GateNote)
    → IsGateLegal opened j → Follows gate_right lane [] (ss ++ (r ∷ (ts ++ (s ∷ us)))) j
    → (open_group opened r.before + closings (notes_of (r ∷ ts)) ≤ open_group opened s.before)
    × All (ClosesBelow (open_group opened s.before)) (notes_of (r ∷ ts))
lane_rises opened lane ss r ts s us j legal f =
    let place : (rest : List GateNote) × ((s.before ++ rest ≡ j) × (notes_at gate_right lane rest ≡ notes_of (s ∷ us))) =
    follows_rest gate_right lane [] (ss ++ (r ∷ ts)) s us j
    (subst (λ l. Follows gate_right lane [] l j) (sym (append_assoc ss (r ∷ ts) (s ∷ us))) f) in
    let between : (rest : List GateNote) × ((r.before ++ rest ≡ s.before) × (notes_at gate_right lane rest ≡ notes_of (r ∷ ts))) =
    follows_between gate_right lane [] ss r ts s us j f in
    let up : Rises opened r.before between.0 s.before =
    rises opened r.before between.0 s.before between.1.0 (gate_legal_along opened s.before place.0 j place.1.0 legal) in
    let own : closings (notes_of (r ∷ ts)) ≤ closings between.0 =
    subst (λ l. closings l ≤ closings between.0) between.1.1 (closings-filter (λ n. lane == gate_right n) between.0) in (
      omega (arith, up.by),
      subst (All (ClosesBelow (open_group opened s.before))) between.1.1
          (All-filter (λ n. lane == gate_right n) (ClosesBelow (open_group opened s.before)) between.0 up.closed),
    )

-- and from a place to the journal's end
pub lane_within : (opened lane : ℕ) (ss : List (Step GateNote)) (s : Step GateNote) (ts : List (Step GateNote)) (j : List GateNote)
    → IsGateLegal opened j → Follows gate_right lane [] (ss ++ (s ∷ ts)) j
    → open_group opened s.before + closings (notes_of (s ∷ ts)) ≤ open_group opened j
lane_within opened lane ss s ts j legal f =
    let place : (rest : List GateNote) × ((s.before ++ rest ≡ j) × (notes_at gate_right lane rest ≡ notes_of (s ∷ ts))) =
    follows_rest gate_right lane [] ss s ts j f in
    let up : Rises opened s.before place.0 j = rises opened s.before place.0 j place.1.0 legal in
    let own : closings (notes_of (s ∷ ts)) ≤ closings place.0 =
    subst (λ l. closings l ≤ closings place.0) place.1.1 (closings-filter (λ n. lane == gate_right n) place.0) in
    omega (arith, up.by)
