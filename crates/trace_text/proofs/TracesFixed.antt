-- The text of a trace fixes the journals that it prints.
use Rattle.std.proofs.Common.{◌≡◌, ℕ, ◌≤◌, List, [], ◌∷◌, ◌++◌, refl, sym, ◌∙◌, ap, append_assoc, arith}
use Rattle.std.proofs.lemmas.List.{append_cancel_left}
use Rattle.std.specs.List.{All, flat_map}
use Rattle.std.specs.Prelude.{codes, decimal}
use Rattle.zms_units.specs.declared.segments.Group.{Group}
use Rattle.ms_model.specs.declared.journals.ClassJournal.{ClassJournal}
use Rattle.ms_model.specs.declared.journals.Journals.{Journals}
use Rattle.ms_model.specs.declared.journals.MsJournal.{MsJournal}
use Rattle.ms_model.specs.declared.notes.KeeperNote.{KeeperNote}
use Rattle.trace_text.specs.Held.{Held, MetaslabHeld, ClassHeld, MetaslabsHeld, JournalsHeld}
use Rattle.trace_text.specs.Traces.{opened_line, metaslab_text, metaslab_trace_text, class_text, keeper_text, trace_text}
use Rattle.trace_text.proofs.Reading.{first, number_end, numbered_fixed, flat_numbered}
use Rattle.trace_text.proofs.NotesFixed.{group_same, metaslab_fixed}
use Rattle.trace_text.proofs.ClassesFixed.{class_fixed, keeper_fixed}

pub opened_fixed : (g h : Group) (r s : List ℕ) → Held g.0 → Held h.0 → opened_line g ++ r ≡ opened_line h ++ s → (g ≡ h) × (r ≡ s)
opened_fixed g h r s p q e =
    let f = append_cancel_left (codes "trace 1 group ") ((decimal g.0 ++ (10 ∷ [])) ++ r) ((decimal h.0 ++ (10 ∷ [])) ++ s) e in
    let i = number_end g.0 h.0 r s p q (sym (append_assoc (decimal g.0) (10 ∷ []) r) ∙ (f ∙ append_assoc (decimal h.0) (10 ∷ []) s)) in
    (group_same g h i.0, i.1)

pub metaslabs_fixed : (xs ys : List MsJournal) (r s : List ℕ) → All MetaslabHeld xs → All MetaslabHeld ys → 97 ≤ first r → 97 ≤ first s
    → (first r ≡ 109 → ⊥) → (first s ≡ 109 → ⊥) → flat_map metaslab_text xs ++ r ≡ flat_map metaslab_text ys ++ s → (xs ≡ ys) × (r ≡ s)
metaslabs_fixed xs ys r s p q good fine past end e =
    let f = ap (λ l. l ++ r) (sym (flat_numbered metaslab_text 0 xs)) ∙ (e ∙ ap (λ l. l ++ s) (flat_numbered metaslab_text 0 ys)) in
    numbered_fixed (λ _. metaslab_text) MetaslabHeld (λ c. c ≡ 109) (λ c. 97 ≤ c) (λ k x t. (refl, omega arith)) (λ k x y t u a b g h i. metaslab_fixed x y t u a b g h i)
    0 xs ys r s p q past end good fine f

pub metaslab_trace_fixed : (a b : Journals) → MetaslabsHeld a → MetaslabsHeld b → metaslab_trace_text a ≡ metaslab_trace_text b → (a.opened ≡ b.opened) × (a.metaslabs ≡ b.metaslabs)
metaslab_trace_fixed a b p q e =
    let i = opened_fixed a.opened b.opened (flat_map metaslab_text a.metaslabs ++ codes "end\n") (flat_map metaslab_text b.metaslabs ++ codes "end\n") p.opened q.opened e in
    let j = metaslabs_fixed a.metaslabs b.metaslabs (codes "end\n") (codes "end\n") p.metaslabs q.metaslabs (omega arith) (omega arith) (λ f. absurd (omega arith)) (λ f. absurd (omega arith)) i.1 in
    (i.0, j.0)

-- what stands behind the metaslabs of a whole trace
classes_first : (cs : List ClassJournal) (ks : List (ℕ × KeeperNote)) → (97 ≤ first (flat_map class_text cs ++ (keeper_text ks ++ codes "end\n"))) × (first (flat_map class_text cs ++ (keeper_text ks ++ codes "end\n")) ≡ 109 → ⊥)
classes_first [] ks = (omega arith, λ f. absurd (omega arith))
classes_first (c ∷ cs) ks = (omega arith, λ f. absurd (omega arith))

classes_fixed : (xs ys : List ClassJournal) (r s : List ℕ) → All ClassHeld xs → All ClassHeld ys → 97 ≤ first r → 97 ≤ first s
    → (first r ≡ 99 → ⊥) → (first s ≡ 99 → ⊥) → flat_map class_text xs ++ r ≡ flat_map class_text ys ++ s → (xs ≡ ys) × (r ≡ s)
classes_fixed xs ys r s p q good fine past end e =
    let f = ap (λ l. l ++ r) (sym (flat_numbered class_text 0 xs)) ∙ (e ∙ ap (λ l. l ++ s) (flat_numbered class_text 0 ys)) in
    numbered_fixed (λ _. class_text) ClassHeld (λ c. c ≡ 99) (λ c. 97 ≤ c) (λ k x t. (refl, omega arith)) (λ k x y t u a b g h i. class_fixed x y t u a b g h i)
    0 xs ys r s p q past end good fine f

pub trace_fixed : (a b : Journals) → JournalsHeld a → JournalsHeld b → trace_text a ≡ trace_text b → a ≡ b
trace_fixed a b p q e =
    let ak = keeper_text a.keeper ++ codes "end\n" in
    let bk = keeper_text b.keeper ++ codes "end\n" in
    let ac = flat_map class_text a.classes ++ ak in
    let bc = flat_map class_text b.classes ++ bk in
    let h = classes_first a.classes a.keeper in
    let k = classes_first b.classes b.keeper in
    let i = opened_fixed a.opened b.opened (flat_map metaslab_text a.metaslabs ++ ac) (flat_map metaslab_text b.metaslabs ++ bc) p.metaslabs.opened q.metaslabs.opened e in
    let m = metaslabs_fixed a.metaslabs b.metaslabs ac bc p.metaslabs.metaslabs q.metaslabs.metaslabs h.0 k.0 h.1 k.1 i.1 in
    let c = classes_fixed a.classes b.classes ak bk p.classes q.classes (omega arith) (omega arith) (λ f. absurd (omega arith)) (λ f. absurd (omega arith)) m.1 in
    let n = keeper_fixed a.keeper b.keeper (codes "end\n") (codes "end\n") p.keeper q.keeper (omega arith) (omega arith) c.1 in
    λ t. record { opened = i.0 t; metaslabs = m.0 t; classes = c.0 t; keeper = n.0 t }
