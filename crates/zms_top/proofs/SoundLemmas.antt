-- How a run's facts pass from command to command.
use Rattle.std.proofs.Common.{◌≡◌, ◌≢◌, ℕ, ◌+◌, Option, Some, None, List, [], ◌∷◌, ◌++◌, refl, sym, ◌∙◌, ap, arith}
use Rattle.std.proofs.lemmas.List.Elements.{All-push}
use Rattle.zms_units.specs.declared.faults.First.{First}
use Rattle.zms_units.specs.declared.segments.Group.{Group}
use Rattle.ms_model.specs.Origin.{Origin}
use Rattle.ms_model.specs.Units.{settled_group, collected_group}
use Rattle.ms_model.specs.Legal.{IsLegal, MayDo}
use Rattle.ms_model.specs.Gates.{open_group}
use Rattle.ms_model.specs.declared.notes.Act.{Act}
use Rattle.ms_model.specs.declared.notes.Act.TheVariants.{Collect, Settle, Unload}
use Rattle.ms_model.specs.declared.notes.Noted.{Noted}
use Rattle.ms_model.specs.declared.notes.GateNote.{GateNote}
use Rattle.ms_model.specs.declared.notes.GateNote.TheVariants.{Closed, Settled}
use Rattle.ms_model.proofs.Histories.{LeavesGroups, no_unload, settled_note, collected_note, settled_group-push, collected_group-push, legal_push}
use Rattle.zms_top.specs.Sound.{IsSound}
use Rattle.ms_model.proofs.GateGroups.{open_group-push, synced_group-push}

-- a note that leaves the groups, and what the settled one holds, leaves the pool sound
pub sound_note : (o : Origin) (h : List Noted) (g : List GateNote) (first : Option First) (lane : ℕ) (act : Act)
    → IsSound o h g first → MayDo o h lane act → LeavesGroups act
    → IsSound o (h ++ record { lane = lane; act = act } ∷ []) g first
sound_note o h g first lane act was may leaves =
    let note : Noted = record { lane = lane; act = act } in
    let s : settled_group o (h ++ note ∷ []) ≡ settled_group o h = settled_note o h lane act leaves in
    let k : collected_group o (h ++ note ∷ []) ≡ collected_group o h = collected_note o h lane act leaves in
    record {
      legal = legal_push o h note was.legal may;
      kept = All-push (λ n. n.act ≢ Unload) h note was.kept (no_unload act leaves);
      synced = was.synced ∙ sym s;
      next = was.next ∙ ap (λ n. n + 1) (sym k);
      behind = omega (arith, s, k, was.behind);
      level = λ e. k ∙ (was.level e ∙ sym s);
    }

-- the open group is closed and collected: so it stands where its commit failed
pub sound_collected : (o : Origin) (h : List Noted) (g : List GateNote) (lane : ℕ) (group : Group) (fault : First)
    → IsSound o h g None → group.0 ≡ open_group o.opened g
    → IsSound o (h ++ record { lane = lane; act = Collect group } ∷ []) (g ++ Closed lane group ∷ []) (Some fault)
sound_collected o h g lane group fault was is =
    let note : Noted = record { lane = lane; act = Collect group } in
    let s : settled_group o (h ++ note ∷ []) ≡ settled_group o h = settled_group-push o h note in
    let k : collected_group o (h ++ note ∷ []) ≡ group.0 = collected_group-push o h note in
    let level : collected_group o h ≡ settled_group o h = was.level refl in
    record {
      legal = legal_push o h note was.legal (is ∙ was.next);
      kept = All-push (λ n. n.act ≢ Unload) h note was.kept (λ e. cc);
      synced = synced_group-push o.opened g (Closed lane group) ∙ (was.synced ∙ sym s);
      next = open_group-push o.opened g (Closed lane group) ∙ ap (λ n. n + 1) (sym k);
      behind = omega (arith, s, k, is, was.next, level);
      level = λ e. cc;
    }

-- its commit is done, and it is settled
pub sound_settled : (o : Origin) (h : List Noted) (g : List GateNote) (lane by : ℕ) (group : Group)
    → IsSound o h g None → group.0 ≡ open_group o.opened g
    → IsSound o ((h ++ record { lane = lane; act = Collect group } ∷ []) ++ record { lane = by; act = Settle group } ∷ []) ((g ++ Closed lane group ∷ []) ++ Settled group ∷ []) None
sound_settled o h g lane by group was is =
    let collect : Noted = record { lane = lane; act = Collect group } in
    let settle : Noted = record { lane = by; act = Settle group } in
    let mid : List Noted = h ++ collect ∷ [] in
    let gate : List GateNote = g ++ Closed lane group ∷ [] in
    let s1 : settled_group o mid ≡ settled_group o h = settled_group-push o h collect in
    let k1 : collected_group o mid ≡ group.0 = collected_group-push o h collect in
    let s2 : settled_group o (mid ++ settle ∷ []) ≡ group.0 = settled_group-push o mid settle in
    let k2 : collected_group o (mid ++ settle ∷ []) ≡ group.0 = collected_group-push o mid settle ∙ k1 in
    let level : collected_group o h ≡ settled_group o h = was.level refl in
    let is_next : group.0 ≡ settled_group o h + 1 = omega (arith, is, was.next, level) in
    let legal1 : IsLegal o mid = legal_push o h collect was.legal (is ∙ was.next) in
    record {
      legal = legal_push o mid settle legal1 (omega (arith, is_next, s1), omega (arith, k1));
      kept = All-push (λ n. n.act ≢ Unload) mid settle (All-push (λ n. n.act ≢ Unload) h collect was.kept (λ e. cc)) (λ e. cc);
      synced = synced_group-push o.opened gate (Settled group) ∙ sym s2;
      next = open_group-push o.opened gate (Settled group) ∙ (open_group-push o.opened g (Closed lane group) ∙ ap (λ n. n + 1) (sym k2));
      behind = omega (arith, s2, k2);
      level = λ e. k2 ∙ sym s2;
    }
