-- What closed cells have.
use Rattle.std.proofs.Common.{◌≡◌, ℕ, ◌≤◌, List, length, sym, ap, subst, arith, Option, Some, None}
use Rattle.std.specs.Prelude.{slice_get}
use Rattle.std.specs.List.{All}
use Rattle.std.proofs.lemmas.Option.{slice_get_within, get_or_from_slice_get}
use Rattle.std.proofs.lemmas.List.Elements.{All-get_or}
use Rattle.turn_cell.specs.Notes.{Ends, StandsFor}
use Rattle.turn_cell.specs.declared.kept.TheConstants.{MAX_RIGHT}
use Rattle.turn_passes.specs.Parts.{IsIdle}
use Rattle.turn_passes.specs.Pairs.{Each}
use Rattle.ms_model.specs.Parts.{right_of, gate_right, IsByLane}
use Rattle.ms_model.specs.Gates.{IsGateLegal}
use Rattle.txg_gate.specs.GateState.{GateState}
use Rattle.ms_core.specs.State.{MsState}
use Rattle.ms_core.specs.Standing.{standing_of}
use Rattle.ms_core.specs.declared.kept.Standing.{Standing}
use Rattle.ms_cell.specs.Turns.{Turns, StandsAt}
use Rattle.ms_cell.specs.Passes.{Passes, AreIdle}
use Rattle.ms_cell.specs.Closed.{AreClosed, IsLawful}
use Rattle.ms_cell.proofs.Turning.{Stands}
use Rattle.ms_cell.proofs.Gating.{GateStands, opened_is}
use Rattle.ms_cell.proofs.Lifting.{some_at}

standing_is : (fixed : Option Standing) (m : MsState) → StandsFor Stands fixed m → fixed ≡ Some (standing_of m)
standing_is None m s = absurd s
standing_is (Some f) m s = ap Some (sym s)

same_standing : (s u : Standing) (fixed : Option Standing) → fixed ≡ Some s → fixed ≡ Some u → u ≡ s
same_standing s u fixed e f = cc

read_all : {A : Type 0} (P : A → Type 0) (xs : List A) (k : ℕ) (x : A) → All P xs → slice_get xs k ≡ Some x → P x
read_all P xs k x all e = subst P (get_or_from_slice_get xs k x x e) (All-get_or P xs k x (slice_get_within xs k x e) all)

closed : (t : Turns) (p : Passes) (gate : GateState) (metaslabs : List MsState) → AreIdle t p → length metaslabs ≡ length t.metaslabs
    → StandsFor GateStands p.gate.fixed gate → Ends gate_right p.gate.own p.gate.seen gate.notes → IsGateLegal gate.opened gate.notes → All IsByLane gate.notes → All (λ n. gate_right n ≤ MAX_RIGHT) gate.notes
    → Each (λ k c (m : MsState). Ends right_of c.own c.seen m.notes) p.metaslabs metaslabs → Each (λ k c m. StandsFor Stands c.fixed m) p.metaslabs metaslabs
    → All (λ (m : MsState). All (λ n. right_of n ≤ MAX_RIGHT) m.notes) metaslabs → All IsLawful metaslabs → AreClosed t p gate metaslabs
closed t p gate metaslabs idle count opened gate_ends gate_legal gate_lanes gate_rights ends stands rights lawful = record {
  count = count;
  passes = sym idle.know.count;
  opened = opened_is t p.gate.fixed gate idle.know.opened opened;
  gate_ends = gate_ends;
  gate_legal = gate_legal;
  gate_lanes = gate_lanes;
  gate_rights = gate_rights;
  ends = ends;
  stand = record { at = λ k c m e f. standing_is c.fixed m (stands.at k c m e f) };
  known = λ k m e.
      let c = some_at p.metaslabs k (omega (arith, slice_get_within metaslabs k m e, count, idle.know.count)) in
      let knows = idle.know.each k c.0 c.1 in
      subst (StandsAt t.vdevs t.opened k) (sym (same_standing knows.standing (standing_of m) c.0.fixed knows.is (standing_is c.0.fixed m (stands.at k c.0 m c.1 e)))) knows.stands;
  lawful = λ k m e. read_all IsLawful metaslabs k m lawful e;
  rights = λ k m e. read_all (λ (x : MsState). All (λ n. right_of n ≤ MAX_RIGHT) x.notes) metaslabs k m rights e;
}

-- the same, where the cells and the passes are open
pub closed_in : (t board : Turns) (p now : Passes) (gate : GateState) (metaslabs : List MsState) → t ≡ board → p ≡ now → AreIdle board now → length metaslabs ≡ length t.metaslabs
    → StandsFor GateStands p.gate.fixed gate → Ends gate_right p.gate.own p.gate.seen gate.notes → IsGateLegal gate.opened gate.notes → All IsByLane gate.notes → All (λ n. gate_right n ≤ MAX_RIGHT) gate.notes
    → Each (λ k c (m : MsState). Ends right_of c.own c.seen m.notes) p.metaslabs metaslabs → Each (λ k c m. StandsFor Stands c.fixed m) p.metaslabs metaslabs
    → All (λ (m : MsState). All (λ n. right_of n ≤ MAX_RIGHT) m.notes) metaslabs → All IsLawful metaslabs → AreClosed board now gate metaslabs
closed_in t board p now gate metaslabs is opens idle count opened gate_ends gate_legal gate_lanes gate_rights ends stands rights lawful =
    subst (λ (b : Turns). AreClosed b now gate metaslabs) is
    (subst (λ (q : Passes). AreClosed t q gate metaslabs) opens
    (closed t p gate metaslabs (subst (λ (b : Turns). AreIdle b p) (sym is) (subst (AreIdle board) (sym opens) idle)) count opened gate_ends gate_legal gate_lanes gate_rights ends stands rights lawful))

pub idle_in : (t board : Turns) (p now : Passes) → t ≡ board → p ≡ now → AreIdle board now → Each (λ k turn c. IsIdle turn c) t.metaslabs p.metaslabs
idle_in t board p now is opens idle = let same : AreIdle t p = subst (λ (b : Turns). AreIdle b p) (sym is) (subst (AreIdle board) (sym opens) idle) in same.each
