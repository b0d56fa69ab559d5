-- The gate's journal, grown by one note.
use Rattle.std.proofs.Common.{◌≡◌, ℕ, zero, suc, ◌+◌, ◌<◌, ◌≤◌, Bool, true, false, cond, eqb, List, [], ◌∷◌, ◌++◌, length, sym, ap, ◌∙◌, subst, ⊎_elim, arith, length-append}
use Rattle.std.proofs.Math.Dec.{eqb-suc-zero}
use Rattle.std.proofs.lemmas.Bool.Decides.{eqb_tells}
use Rattle.std.proofs.lemmas.List.Elements.{All-push, filter-append}
use Rattle.ms_model.specs.Gates.{open_group, synced_group, MayPass, IsGateLegal}
use Rattle.ms_model.specs.Parts.{IsByLane, gate_right}
use Rattle.ms_model.specs.Steps.{notes_at}
use Rattle.ms_model.specs.declared.notes.GateNote.{GateNote}
use Rattle.ms_model.specs.declared.notes.GateNote.TheVariants.{Closed, Settled}
use Rattle.zms_units.specs.declared.segments.Group.{Group}
use Rattle.ms_model.proofs.Lists.{Standing, is_last, is_earlier, standing}
use Rattle.ms_model.proofs.GateGroups.{open_group-push, synced_group-push}
use Rattle.txg_gate.specs.Closings.{closings_of, AreFew}

push_at : (opened : ℕ) (h : List GateNote) (n : GateNote) → IsGateLegal opened h → MayPass opened h n
    → (before : List GateNote) (m : GateNote) (rest : List GateNote) → Standing before m rest h n → MayPass opened before m
push_at opened h n legal may before m rest (is_last e f) = subst (λ b. MayPass opened b m) (sym e) (subst (λ (k : GateNote). MayPass opened h k) (sym f) may)
push_at opened h n legal may before m rest (is_earlier more e) = legal before m more e

pub gate_legal_push : (opened : ℕ) (h : List GateNote) (n : GateNote) → IsGateLegal opened h → MayPass opened h n → IsGateLegal opened (h ++ n ∷ [])
gate_legal_push opened h n legal may before m rest e = push_at opened h n legal may before m rest (standing before m rest h n e)

-- one more closing of a lane, or none
one_more : (b : Bool) (n : GateNote) → length (cond b (n ∷ []) []) ≤ 1
one_more true n = omega arith
one_more false n = omega arith

closings_of-push : (lane : ℕ) (h : List GateNote) (n : GateNote) → closings_of lane (h ++ n ∷ []) ≡ closings_of lane h + length (cond (eqb lane (gate_right n)) (n ∷ []) [])
closings_of-push lane h n = ap length (filter-append (λ m. eqb lane (gate_right m)) h (n ∷ [])) ∙ length-append (notes_at gate_right lane h) (cond (eqb lane (gate_right n)) (n ∷ []) [])

pub closings_push : (lane : ℕ) (h : List GateNote) (n : GateNote) → closings_of lane (h ++ n ∷ []) ≤ closings_of lane h + 1
closings_push lane h n = omega (arith, closings_of-push lane h n, one_more (eqb lane (gate_right n)) n)

pub closings_settled : (lane : ℕ) (h : List GateNote) (group : Group) → 1 ≤ lane → closings_of lane (h ++ Settled group ∷ []) ≡ closings_of lane h
closings_settled zero h group some = absurd (omega arith)
closings_settled (suc lane) h group some = closings_of-push (suc lane) h (Settled group) ∙ ap (λ (b : Bool). closings_of (suc lane) h + length (cond b (Settled group ∷ []) [])) (eqb-suc-zero lane) ∙ omega arith

pub few_push : (h : List GateNote) (n : GateNote) → AreFew h → IsByLane n → (1 ≤ gate_right n → closings_of (gate_right n) h < 200000) → AreFew (h ++ n ∷ [])
few_push h n few own below = record {
  lanes = All-push IsByLane h n few.lanes own;
  few = λ lane low.
      ⊎_elim
      (λ (t : (eqb lane (gate_right n) ≡ true) × (lane ≡ gate_right n)).
      let lt : closings_of lane h < 200000 = subst (λ r. closings_of r h < 200000) (sym t.1) (below (subst (λ r. 1 ≤ r) t.1 low)) in
      omega (arith, closings_of-push lane h n, one_more (eqb lane (gate_right n)) n))
      (λ (t : (eqb lane (gate_right n) ≡ false) × (lane ≡ gate_right n → ⊥)).
      let none : length (cond (eqb lane (gate_right n)) (n ∷ []) []) ≡ 0 = ap (λ (b : Bool). length (cond b (n ∷ []) [])) t.0 in
      omega (arith, closings_of-push lane h n, few.few lane low))
      (eqb_tells lane (gate_right n));
}

-- what a gate knows of its journal
pub record Knows (opened open_now synced : ℕ) (h : List GateNote) : Type 0 where
  pub open_is : open_now ≡ open_group opened h
  pub synced_is : synced ≡ synced_group opened h
  pub legal : IsGateLegal opened h
  pub few : AreFew h

pub knows_closed : (opened open_now synced : ℕ) (h new : List GateNote) (lane : ℕ) (group : Group) → open_now ≡ open_group opened h → synced ≡ synced_group opened h → IsGateLegal opened h → AreFew h
    → group.0 ≡ open_now → open_now < synced + 3 → (1 ≤ lane) × (lane ≤ 16) → closings_of lane h < 200000 → new ≡ h ++ Closed lane group ∷ [] → Knows opened (group.0 + 1) synced new
knows_closed opened open_now synced h new lane group open_is synced_is legal few is near by below e =
    rw e (record {
      open_is = sym (open_group-push opened h (Closed lane group));
      synced_is = synced_is ∙ sym (synced_group-push opened h (Closed lane group));
      legal = gate_legal_push opened h (Closed lane group) legal (is ∙ open_is, omega arith);
      few = few_push h (Closed lane group) few by (λ _. below);
    })

pub knows_settled : (opened open_now synced : ℕ) (h new : List GateNote) (group : Group) → open_now ≡ open_group opened h → synced ≡ synced_group opened h → IsGateLegal opened h → AreFew h
    → group.0 ≡ synced_group opened h + 1 → group.0 < open_group opened h → new ≡ h ++ Settled group ∷ [] → Knows opened open_now group.0 new
knows_settled opened open_now synced h new group open_is synced_is legal few next closed e =
    rw e (record {
      open_is = open_is ∙ sym (open_group-push opened h (Settled group));
      synced_is = sym (synced_group-push opened h (Settled group));
      legal = gate_legal_push opened h (Settled group) legal (next, closed);
      few = few_push h (Settled group) few tt (λ low. absurd (omega arith));
    })
