-- A step of a lane at the metaslab, under a hold of the open group: it leaves the pool sound, and is a part of the lane's events.
use Rattle.std.proofs.Common.{◌≡◌, ◌≢◌, ℕ, ◌<◌, ◌≤◌, false, cond, Option, List, [], ◌∷◌, ◌++◌, zero, suc, inl, inr, refl, sym, ◌∙◌, ap, subst, arith}
use Rattle.std.specs.Prelude.{◌==◌}
use Rattle.std.proofs.Math.Dec.{eqb-suc-zero}
use Rattle.std.proofs.lemmas.Bool.{ne_eqb}
use Rattle.std.proofs.lemmas.List.{append-nil}
use Rattle.zms_units.specs.declared.faults.First.{First}
use Rattle.zms_units.specs.declared.segments.Group.{Group}
use Rattle.zms_units.specs.declared.segments.Seg.{Seg}
use Rattle.ms_model.specs.Origin.{Origin}
use Rattle.zms_units.specs.Segments.{covered}
use Rattle.ms_model.specs.Units.{is_loaded, held, settled_group, collected_group}
use Rattle.ms_model.specs.Legal.{MayDo}
use Rattle.ms_model.specs.Gates.{open_group}
use Rattle.ms_model.specs.Steps.{Step, look, noting, Quiet, Follows}
use Rattle.ms_model.specs.Parts.{right_of, gate_right}
use Rattle.ms_model.specs.Events.{Event, at_gate, at_metaslab, gate_steps, metaslab_steps}
use Rattle.ms_model.specs.declared.notes.Act.{Act}
use Rattle.ms_model.specs.declared.notes.Act.TheVariants.{Load}
use Rattle.ms_model.specs.declared.notes.Noted.{Noted}
use Rattle.ms_model.specs.declared.notes.GateNote.{GateNote}
use Rattle.ms_model.proofs.Held.{held-as_opened}
use Rattle.ms_model.proofs.Overlaps.{settled_le_collected}
use Rattle.lane_steps.proofs.Steps.{quiet_none, quiet_both, follows_both}
use Rattle.ms_core.specs.State.{Memory, MsState, origin_of, settled_of, StaysButNotes}
use Rattle.txg_gate.specs.GateState.{GateState}
use Rattle.zms_top.specs.Lines.{AreLoads}
use Rattle.zms_top.specs.Pools.{Acted, IsPool, LeavesSettled}
use Rattle.zms_top.specs.declared.pool.Pool.{Pool}
use Rattle.zms_top.specs.Sound.{IsSound, Grows, Loads, loaded, loads, MayLoad}
use Rattle.ms_model.proofs.Histories.{LeavesGroups, settled_note, collected_note}
use Rattle.zms_top.proofs.SoundLemmas.{sound_note}
use Rattle.zms_top.proofs.Growing.{grows_none, grows_then, grows_may}

-- a note of the keeper's is quiet for a lane
pub quiet_keeper : (lane : ℕ) (h : List Noted) (by : ℕ) (act : Act) → right_of (record { lane = by; act = act }) ≡ 0 → 1 ≤ lane
    → Quiet right_of lane h (h ++ record { lane = by; act = act } ∷ [])
quiet_keeper lane h by act is some = record {
  more = record { lane = by; act = act } ∷ [];
  is = refl;
  none = ap (λ b. cond b (record { lane = by; act = act } ∷ []) []) (ap (λ r. lane == r) is ∙ other lane some);
} where
  other : (lane : ℕ) → 1 ≤ lane → (lane == 0) ≡ false
  other zero some = absurd (omega arith)
  other (suc n) some = eqb-suc-zero n

loads_quiet : (other lane : ℕ) (h j : List Noted) → 1 ≤ other → Loads lane h j → Quiet right_of other h j
loads_quiet other lane h j some (loaded is) = quiet_none right_of other h
loads_quiet other lane h j some (loads is) = quiet_keeper other h lane Load refl some

-- a note of another lane's is quiet too
pub quiet_other : {N : Type 0} (right : N → ℕ) (other : ℕ) (h : List N) (n : N) → (other ≡ right n → ⊥) → Quiet right other h (h ++ n ∷ [])
quiet_other right other h n apart = record { more = n ∷ []; is = refl; none = ap (λ b. cond b (n ∷ []) []) (ne_eqb other (right n) apart) }

sound_loads : (o : Origin) (lane : ℕ) (h j : List Noted) (g : List GateNote) (first : Option First)
    → IsSound o h g first → Loads lane h j → IsSound o j g first
sound_loads o lane h j g first was (loaded is) = was
sound_loads o lane h j g first was (loads is) = sound_note o h g first lane Load was is tt

settled_loads : (o : Origin) (lane : ℕ) (h j : List Noted) → Loads lane h j → settled_group o j ≡ settled_group o h
settled_loads o lane h j (loaded is) = refl
settled_loads o lane h j (loads is) = settled_note o h lane Load tt

pub grows_loads : (o : Origin) (lane : ℕ) (h j : List Noted) → Loads lane h j → Grows o h j
grows_loads o lane h j (loaded is) = grows_none o h
grows_loads o lane h j (loads is) = grows_may o h lane Load is

pub collected_loads : (o : Origin) (lane : ℕ) (h j : List Noted) → Loads lane h j → collected_group o j ≡ collected_group o h
collected_loads o lane h j (loaded is) = refl
collected_loads o lane h j (loads is) = collected_note o h lane Load tt

-- a journal that stayed, or took a load, leaves what is settled
pub may_load_leaves : (p q : Pool) (lane : ℕ) → MayLoad lane p.metaslab.notes q.metaslab.notes → LeavesSettled p q
may_load_leaves p q lane (inl same) = record {
  group = ap (settled_group (origin_of p.metaslab)) same;
  grows = subst (Grows (origin_of p.metaslab) p.metaslab.notes) (sym same) (grows_none (origin_of p.metaslab) p.metaslab.notes);
}
may_load_leaves p q lane (inr in_memory) = record {
  group = settled_loads (origin_of p.metaslab) lane p.metaslab.notes q.metaslab.notes in_memory;
  grows = grows_loads (origin_of p.metaslab) lane p.metaslab.notes q.metaslab.notes in_memory;
}

pub same_leaves : (p q : Pool) → q.metaslab.notes ≡ p.metaslab.notes → LeavesSettled p q
same_leaves p q same = may_load_leaves p q 1 (inl same)

-- what the keeper did for a lane at the one metaslab: at most a load
pub record LoadsKept (lane : ℕ) (h new : List Noted) : Type 0 where
  pub kept : List Event
  pub follows : Follows right_of 0 h (metaslab_steps 0 kept) new
  pub no_gate : gate_steps kept ≡ []
  pub loads : AreLoads lane 1 kept

kept_loads : (lane : ℕ) (h j : List Noted) → Loads lane h j → LoadsKept lane h j
kept_loads lane h j (loaded is) = record { kept = []; follows = quiet_none right_of 0 h; no_gate = refl; loads = tt }
kept_loads lane h j (loads is) = record {
  kept = at_metaslab 0 (noting h (record { lane = lane; act = Load })) ∷ [];
  follows = (quiet_none right_of 0 h, (refl, quiet_none right_of 0 (h ++ record { lane = lane; act = Load } ∷ [])));
  no_gate = refl;
  loads = (omega arith, (refl, tt));
}

-- a note that is not the keeper's leaves what the keeper did
kept_then : (lane : ℕ) (h before : List Noted) (note : Noted) → 1 ≤ right_of note → LoadsKept lane h before → LoadsKept lane h (before ++ note ∷ [])
kept_then lane h before note some was = record {
  kept = was.kept;
  follows = subst (λ steps. Follows right_of 0 h steps (before ++ note ∷ [])) (append-nil (metaslab_steps 0 was.kept))
      (follows_both right_of 0 h (metaslab_steps 0 was.kept) before [] (before ++ note ∷ []) was.follows (quiet_other right_of 0 before note (λ e. omega (arith, some, e))));
  no_gate = was.no_gate;
  loads = was.loads;
}

-- what a step leaves: the pool sound, what is settled as it was, and one step of the lane in the metaslab's journal
pub record StepLeaves (o : Origin) (lane : ℕ) (step : Step Noted) (h new : List Noted) (g : List GateNote) (first : Option First) : Type 0 where
  pub sound : IsSound o new g first
  pub group_stays : settled_group o new ≡ settled_group o h
  pub grows : Grows o h new
  pub follows : Follows right_of lane h (step ∷ []) new
  pub others : (other : ℕ) → 1 ≤ other → other ≢ lane → Quiet right_of other h new
  pub kept : LoadsKept lane h new

-- a look without a note, at a metaslab that was loaded first where it needed to be
pub look_leaves : (o : Origin) (lane : ℕ) (h before : List Noted) (g : List GateNote) (first : Option First)
    → 1 ≤ lane → IsSound o h g first → Loads lane h before → StepLeaves o lane (look before) h before g first
look_leaves o lane h before g first some was in_memory = record {
  sound = sound_loads o lane h before g first was in_memory;
  group_stays = settled_loads o lane h before in_memory;
  grows = grows_loads o lane h before in_memory;
  follows = (loads_quiet lane lane h before some in_memory, (tt, subst (λ l. Quiet right_of lane l before) (sym (append-nil before)) (quiet_none right_of lane before)));
  others = λ other low apart. loads_quiet other lane h before low in_memory;
  kept = kept_loads lane h before in_memory;
}

-- a note of the lane's
pub note_leaves : (o : Origin) (lane : ℕ) (act : Act) (h before new : List Noted) (g : List GateNote) (first : Option First)
    → 1 ≤ lane → IsSound o h g first → Loads lane h before → new ≡ before ++ record { lane = lane; act = act } ∷ [] → MayDo o before lane act
    → LeavesGroups act → right_of (record { lane = lane; act = act }) ≡ lane
    → StepLeaves o lane (noting before (record { lane = lane; act = act })) h new g first
note_leaves o lane act h before new g first some was in_memory is may leaves right =
    let note : Noted = record { lane = lane; act = act } in
    let mid : StepLeaves o lane (look before) h before g first = look_leaves o lane h before g first some was in_memory in
    let step : IsSound o (before ++ note ∷ []) g first = sound_note o before g first lane act mid.sound may leaves in
    record {
      sound = subst (λ l. IsSound o l g first) (sym is) step;
      group_stays = ap (settled_group o) is ∙ (settled_note o before lane act leaves ∙ mid.group_stays);
      grows = subst (Grows o h) (sym is) (grows_then o h before (before ++ note ∷ []) mid.grows (grows_may o before lane act may));
      follows = (loads_quiet lane lane h before some in_memory, (right, subst (Quiet right_of lane (before ++ note ∷ [])) (sym is) (quiet_none right_of lane (before ++ note ∷ []))));
      others = λ other low apart.
          subst (Quiet right_of other h) (sym is)
          (quiet_both right_of other h before (before ++ note ∷ []) (loads_quiet other lane h before low in_memory) (quiet_other right_of other before note (λ e. apart (e ∙ right))));
      kept = subst (LoadsKept lane h) (sym is) (kept_then lane h before note (omega (arith, some, right)) mid.kept);
    }

-- a lane that holds the open group while it looks
looks_at_gate : (lane : ℕ) (g : List GateNote) → Follows gate_right lane g (look g ∷ look g ∷ []) g
looks_at_gate lane g =
    let still : Quiet gate_right lane (g ++ []) g = subst (λ l. Quiet gate_right lane l g) (sym (append-nil g)) (quiet_none gate_right lane g) in
    (quiet_none gate_right lane g, (tt, (still, (tt, still))))

-- a command that did nothing
pub nothing_did : (p : Pool) (lane : ℕ) (line : List Event → List Event → Type 0) → IsPool p → line [] [] → Acted p p lane line
nothing_did p lane line was is = record {
  events = [];
  kept = [];
  tour = record {
    metaslab = quiet_none right_of lane p.metaslab.notes;
    gate = quiet_none gate_right lane p.gate.notes;
    keeper = quiet_none right_of 0 p.metaslab.notes;
    keeper_gate = quiet_none gate_right 0 p.gate.notes;
    others = record { metaslab = λ other low apart. quiet_none right_of other p.metaslab.notes; gate = λ other low apart. quiet_none gate_right other p.gate.notes };
  };
  line_is = is;
  pool = was;
  stays = refl;
  rises = omega arith;
}

-- from the pool's parts to the pool

stepped_pool : (p : Pool) (n : List Noted) (r : ℕ) (memory : Memory) (counts : List ℕ) → IsPool p → IsSound (origin_of p.metaslab) n p.gate.notes p.first
    → IsPool (record p { metaslab = record p.metaslab { notes = n; room = r; memory = memory }; gate = record p.gate { counts = counts } })
stepped_pool p n r memory counts was sound = record {
  least_units = was.least_units;
  most_units = was.most_units;
  shift = was.shift;
  opened = was.opened;
  base_is = was.base_is;
  segs = was.segs;
  sound = sound;
}

-- the pool after a step, and what it is with regard to the pool before
abbrev pub after_step : Pool → MsState → GateState → Pool
after_step p m g = record p { metaslab = m; gate = g }

-- nothing but the counts of holds changed
abbrev pub StaysButHolds : GateState → GateState → Type 0
StaysButHolds old new = new ≡ record old { counts = new.counts }

pub stays_held : (a b c : GateState) → StaysButHolds a b → StaysButHolds b c → StaysButHolds a c
stays_held a b c first then = then ∙ ap (λ (g : GateState). let r : GateState = record g { counts = c.counts } in r) first

pub record StepDid (p : Pool) (lane : ℕ) (line : List Event → List Event → Type 0) (m : MsState) (g : GateState) : Type 0 where
  pub acted : Acted p (after_step p m g) lane line
  pub leaves : LeavesSettled p (after_step p m g)

-- what a lane does at the gate and at the one metaslab
abbrev pub step_events : List GateNote → Step Noted → List Event
step_events g step = at_gate (look g) ∷ ((at_metaslab 0 step ∷ []) ++ (at_gate (look g) ∷ []))

pub step_did : (p : Pool) (m : MsState) (g : GateState) (lane : ℕ) (line : List Event → List Event → Type 0) (step : Step Noted) → IsPool p → StaysButNotes p.metaslab m → StaysButHolds p.gate g
    → StepLeaves (origin_of p.metaslab) lane step p.metaslab.notes m.notes p.gate.notes p.first
    → ((kept : List Event) → AreLoads lane 1 kept → line (step_events p.gate.notes step) kept) → StepDid p lane line m g
step_did p m g lane line step was stays held leaves is =
    subst (λ x. StepDid p lane line x g) (sym stays)
    (subst (StepDid p lane line _) (sym held) (record {
      acted = record {
        events = step_events p.gate.notes step;
        kept = leaves.kept.kept;
        tour = record {
          metaslab = leaves.follows;
          gate = looks_at_gate lane p.gate.notes;
          keeper = leaves.kept.follows;
          keeper_gate = subst (λ steps. Follows gate_right 0 p.gate.notes steps p.gate.notes) (sym leaves.kept.no_gate) (quiet_none gate_right 0 p.gate.notes);
          others = record { metaslab = leaves.others; gate = λ other low apart. quiet_none gate_right other p.gate.notes };
        };
        line_is = is leaves.kept.kept leaves.kept.loads;
        pool = stepped_pool p m.notes m.room m.memory g.counts was leaves.sound;
        stays = refl;
        rises = omega arith;
      };
      leaves = record { group = leaves.group_stays; grows = leaves.grows };
    }))

-- the open group lies above the settled one
pub above_settled : (p : Pool) (group : Group) → IsPool p → group.0 ≡ open_group p.gate.opened p.gate.notes → settled_of p.metaslab < group.0
above_settled p group was is =
    let open_is : group.0 ≡ open_group p.metaslab.opened p.gate.notes = rw (← was.opened) is in
    omega (arith, open_is, was.sound.next, settled_le_collected (origin_of p.metaslab) p.metaslab.notes was.sound.legal)

-- until it is loaded, the settled groups hold just the base
pub base_held : (p : Pool) (runs : List Seg) (u : ℕ) → IsPool p → runs ≡ p.base.items → is_loaded p.metaslab.notes ≡ false
    → covered runs u ≡ held (origin_of p.metaslab) p.metaslab.notes (settled_of p.metaslab) u
base_held p runs u was are off =
    ap (λ l. covered l u) (are ∙ was.base_is)
    ∙ sym (held-as_opened (origin_of p.metaslab) p.metaslab.notes (settled_of p.metaslab) u was.sound.legal off was.sound.kept)
