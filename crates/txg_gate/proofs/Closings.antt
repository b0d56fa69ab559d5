-- Few closings of each lane are few closings in all.
use Rattle.std.proofs.Common.{◌≡◌, ℕ, zero, suc, ◌+◌, ◌*◌, ◌^◌, ◌<◌, ◌≤◌, Bool, true, false, cond, eqb, eq-eqb, ◌≢◌, suc-mul, List, [], ◌∷◌, length, ap, ⊎_elim, arith}
use Rattle.std.specs.List.{All}
use Rattle.std.proofs.lemmas.Bool.Decides.{eqb_tells}
use Rattle.std.proofs.lemmas.List.Elements.{All-head, All-tail}
use Rattle.ms_model.specs.Parts.{IsByLane, gate_right}
use Rattle.ms_model.specs.Steps.{notes_at}
use Rattle.ms_model.specs.Gates.{open_group, IsGateLegal, is_closing, closings}
use Rattle.ms_model.proofs.GateGroups.{gate_facts}
use Rattle.zms_units.proofs.Counting.{count_cons}
use Rattle.ms_model.specs.declared.notes.GateNote.{GateNote}
use Rattle.ms_model.specs.declared.notes.GateNote.TheVariants.{Closed, Settled}
use Rattle.txg_gate.specs.Closings.{closings_of, AreFew}

-- the closings of the lanes 1 to k
of_lanes : ℕ → List GateNote → ℕ
of_lanes zero h = 0
of_lanes (suc k) h = of_lanes k h + closings_of (suc k) h

kept_at_least : (b : Bool) (n : GateNote) (kept : List GateNote) → length kept ≤ length (cond b (n ∷ kept) kept)
kept_at_least true n kept = omega arith
kept_at_least false n kept = omega arith

of_lane_grows : (lane : ℕ) (n : GateNote) (h : List GateNote) → closings_of lane h ≤ closings_of lane (n ∷ h)
of_lane_grows lane n h = kept_at_least (eqb lane (gate_right n)) n (notes_at gate_right lane h)

of_lane_more : (lane : ℕ) (n : GateNote) (h : List GateNote) → lane ≡ gate_right n → closings_of lane (n ∷ h) ≡ suc (closings_of lane h)
of_lane_more lane n h e = ap (λ b. length (cond b (n ∷ notes_at gate_right lane h) (notes_at gate_right lane h))) (eq-eqb lane (gate_right n) e)

of_lanes_grow : (k : ℕ) (n : GateNote) (h : List GateNote) → of_lanes k h ≤ of_lanes k (n ∷ h)
unfolding of_lanes
of_lanes_grow zero n h = omega arith
of_lanes_grow (suc k) n h = omega (arith, of_lanes_grow k n h, of_lane_grows (suc k) n h)

of_lanes_more : (k : ℕ) (n : GateNote) (h : List GateNote) → 1 ≤ gate_right n → gate_right n ≤ k → of_lanes k h + 1 ≤ of_lanes k (n ∷ h)
unfolding of_lanes
of_lanes_more zero n h low high = absurd (omega arith)
of_lanes_more (suc k) n h low high =
    ⊎_elim
    (λ (t : (eqb (suc k) (gate_right n) ≡ true) × (suc k ≡ gate_right n)). omega (arith, of_lanes_grow k n h, of_lane_more (suc k) n h t.1))
    (λ (t : (eqb (suc k) (gate_right n) ≡ false) × (suc k ≢ gate_right n)). let other = t.1 in omega (arith, of_lanes_more k n h low (omega arith), of_lane_grows (suc k) n h))
    (eqb_tells (suc k) (gate_right n))

of_lanes_most : (k most : ℕ) (h : List GateNote) → ((lane : ℕ) → 1 ≤ lane → closings_of lane h ≤ most) → of_lanes k h ≤ k * most
unfolding of_lanes
of_lanes_most zero most h each = omega arith
of_lanes_most (suc k) most h each = omega (arith, of_lanes_most k most h each, each (suc k) (omega arith), suc-mul k most)

closings_few : (h : List GateNote) → All IsByLane h → closings h ≤ of_lanes 16 h
closings_few [] lanes = omega arith
closings_few (Closed lane group ∷ h) lanes =
    let own = All-head IsByLane (Closed lane group) h lanes in
    omega (arith, count_cons is_closing (Closed lane group) h, closings_few h (All-tail IsByLane (Closed lane group) h lanes), of_lanes_more 16 (Closed lane group) h own.0 own.1)
closings_few (Settled group ∷ h) lanes =
    omega (arith, count_cons is_closing (Settled group) h, closings_few h (All-tail IsByLane (Settled group) h lanes), of_lanes_grow 16 (Settled group) h)

-- no pool that is opened below 2^49 comes to the group 2^50
pub open_small : (opened : ℕ) (h : List GateNote) → opened < 2 ^ 49 → IsGateLegal opened h → AreFew h → open_group opened h < 2 ^ 50
open_small opened h small legal few =
    let most : of_lanes 16 h ≤ 3200000 = of_lanes_most 16 200000 h few.few in
    let facts = gate_facts opened h legal in
    omega (arith, facts.counts, closings_few h few.lanes)

kept_at_most : (b : Bool) (n : GateNote) (kept h : List GateNote) → length kept ≤ length h → length (cond b (n ∷ kept) kept) ≤ suc (length h)
kept_at_most true n kept h le = omega arith
kept_at_most false n kept h le = omega arith

-- a lane has no more closings than the journal has notes
pub closings_of_most : (lane : ℕ) (h : List GateNote) → closings_of lane h ≤ length h
closings_of_most lane [] = omega arith
closings_of_most lane (n ∷ h) = kept_at_most (eqb lane (gate_right n)) n (notes_at gate_right lane h) h (closings_of_most lane h)
