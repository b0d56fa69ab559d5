-- The lines of a class, and those of the keeper, fix their journals.
use Rattle.std.proofs.Common.{◌≡◌, ℕ, ◌≤◌, ◌<◌, Option, Some, None, List, [], ◌∷◌, ◌++◌, refl, sym, ◌∙◌, ap, subst, append_assoc, arith}
use Rattle.std.proofs.lemmas.List.{append_cancel_left}
use Rattle.std.specs.List.{All}
use Rattle.std.specs.Prelude.{codes, decimal}
use Rattle.zms_units.specs.declared.places.Class.{Class}
use Rattle.zms_units.specs.declared.places.Class.TheVariants.{Normal, Log, Special, Dedup}
use Rattle.zms_units.specs.declared.places.MsId.{MsId}
use Rattle.ms_model.specs.declared.journals.ClassJournal.{ClassJournal}
use Rattle.ms_model.specs.declared.notes.ClassNote.{ClassNote}
use Rattle.ms_model.specs.declared.notes.ClassNote.TheVariants.{Pick, Granted, Missed, Weigh}
use Rattle.ms_model.specs.declared.notes.Got.{Got}
use Rattle.ms_model.specs.declared.notes.KeeperNote.{KeeperNote}
use Rattle.ms_model.specs.declared.notes.KeeperNote.TheVariants.{Sync, Fault, Damaged}
use Rattle.ms_model.specs.declared.notes.Kind.{Kind}
use Rattle.ms_model.specs.declared.notes.Kind.TheVariants.{Primary, Secondary}
use Rattle.ms_model.specs.declared.notes.Start.{Start}
use Rattle.ms_model.specs.declared.notes.Start.TheVariants.{Active, Top, After}
use Rattle.trace_text.specs.Held.{Held, IdHeld, StartHeld, GotHeld, ClassNoteHeld, ClassHeld, KeeperNoteHeld, LaneKeeperNoteHeld}
use Rattle.trace_text.specs.Numbers.{weight_text, numbered}
use Rattle.zms_units.specs.Classes.{class_word}
use Rattle.trace_text.specs.Traces.{id_text, kind_word, start_text, got_text, class_note_text, class_note_line, class_text, keeper_note_text, keeper_note_line, keeper_text}
use Rattle.trace_text.proofs.Reading.{first, key, number_fixed, number_then, number_end, first_number}
use Rattle.trace_text.proofs.Weights.{weight_fixed}
use Rattle.trace_text.proofs.NotesFixed.{lines_fixed, pair_fixed, group_same}

-- weights and metaslabs within a line

weight_then : (w v : ℕ) (r s : List ℕ) → Held w → Held v → weight_text w ++ (32 ∷ r) ≡ weight_text v ++ (32 ∷ s) → (w ≡ v) × (r ≡ s)
weight_then w v r s p q e = let i = weight_fixed w v (32 ∷ r) (32 ∷ s) p q e in (i.0, append_cancel_left (32 ∷ []) r s i.1)

weight_end : (w v : ℕ) (r s : List ℕ) → Held w → Held v → weight_text w ++ (10 ∷ r) ≡ weight_text v ++ (10 ∷ s) → (w ≡ v) × (r ≡ s)
weight_end w v r s p q e = let i = weight_fixed w v (10 ∷ r) (10 ∷ s) p q e in (i.0, append_cancel_left (10 ∷ []) r s i.1)

id_same : (a b : MsId) → a.vdev ≡ b.vdev → a.index ≡ b.index → a ≡ b
id_same a b e f = λ t. record { vdev = e t; index = f t }

id_then : (a b : MsId) (r s : List ℕ) → IdHeld a → IdHeld b → id_text a ++ (32 ∷ r) ≡ id_text b ++ (32 ∷ s) → (a ≡ b) × (r ≡ s)
id_then a b r s p q e =
    let f = sym (append_assoc (decimal a.vdev) (32 ∷ decimal a.index) (32 ∷ r)) ∙ (e ∙ append_assoc (decimal b.vdev) (32 ∷ decimal b.index) (32 ∷ s)) in
    let i = number_then a.vdev b.vdev (decimal a.index ++ (32 ∷ r)) (decimal b.index ++ (32 ∷ s)) p.0 q.0 f in
    let j = number_then a.index b.index r s p.1 q.1 i.1 in
    (id_same a b i.0 j.0, j.1)

id_end : (a b : MsId) (r s : List ℕ) → IdHeld a → IdHeld b → id_text a ++ (10 ∷ r) ≡ id_text b ++ (10 ∷ s) → (a ≡ b) × (r ≡ s)
id_end a b r s p q e = let i = pair_fixed a.vdev a.index b.vdev b.index r s p.0 p.1 q.0 q.1 e in (id_same a b i.0 i.1, i.2)

weighed_fixed : (a b : MsId) (w v : ℕ) (r s : List ℕ) → IdHeld a × Held w → IdHeld b × Held v
    → (id_text a ++ (32 ∷ weight_text w)) ++ (10 ∷ r) ≡ (id_text b ++ (32 ∷ weight_text v)) ++ (10 ∷ s) → (a ≡ b) × (w ≡ v) × (r ≡ s)
weighed_fixed a b w v r s p q e =
    let f = sym (append_assoc (id_text a) (32 ∷ weight_text w) (10 ∷ r)) ∙ (e ∙ append_assoc (id_text b) (32 ∷ weight_text v) (10 ∷ s)) in
    let i = id_then a b (weight_text w ++ (10 ∷ r)) (weight_text v ++ (10 ∷ s)) p.0 q.0 f in
    let j = weight_end w v r s p.1 q.1 i.1 in
    (i.0, j.0, j.1)

granted_rest : (a n w r : List ℕ) → (a ++ (32 ∷ (n ++ (32 ∷ w)))) ++ (10 ∷ r) ≡ a ++ (32 ∷ (n ++ (32 ∷ (w ++ (10 ∷ r)))))
granted_rest a n w r = simp append_assoc

granted_fixed : (a b : MsId) (m n w v : ℕ) (r s : List ℕ) → IdHeld a × Held m × Held w → IdHeld b × Held n × Held v
    → (id_text a ++ (32 ∷ (decimal m ++ (32 ∷ weight_text w)))) ++ (10 ∷ r) ≡ (id_text b ++ (32 ∷ (decimal n ++ (32 ∷ weight_text v)))) ++ (10 ∷ s)
    → (a ≡ b) × (m ≡ n) × (w ≡ v) × (r ≡ s)
granted_fixed a b m n w v r s p q e =
    let f = sym (granted_rest (id_text a) (decimal m) (weight_text w) r) ∙ (e ∙ granted_rest (id_text b) (decimal n) (weight_text v) s) in
    let i = id_then a b (decimal m ++ (32 ∷ (weight_text w ++ (10 ∷ r)))) (decimal n ++ (32 ∷ (weight_text v ++ (10 ∷ s)))) p.0 q.0 f in
    let j = number_then m n (weight_text w ++ (10 ∷ r)) (weight_text v ++ (10 ∷ s)) p.1 q.1 i.1 in
    let k = weight_end w v r s p.2 q.2 j.1 in
    (i.0, j.0, k.0, k.1)

-- a pick

kind_fixed : (k l : Kind) (r s : List ℕ) → kind_word k ++ r ≡ kind_word l ++ s → (k ≡ l) × (r ≡ s)
kind_fixed Primary Primary r s e = (refl, append_cancel_left (codes " primary ") r s e)
kind_fixed Secondary Secondary r s e = (refl, append_cancel_left (codes " secondary ") r s e)
kind_fixed _ _ r s e = let f = ap key e in absurd (omega arith)

kind_first : (k : Kind) (r : List ℕ) → first (kind_word k ++ r) < 48
kind_first Primary r = omega arith
kind_first Secondary r = omega arith

after_rest : (i w r : List ℕ) → (i ++ (32 ∷ (w ++ (32 ∷ [])))) ++ r ≡ i ++ (32 ∷ (w ++ (32 ∷ r)))
after_rest i w r = simp append_assoc

after_fixed : (w v i j : ℕ) (r s : List ℕ) → Held w × Held i → Held v × Held j
    → (decimal i ++ (32 ∷ (weight_text w ++ (32 ∷ [])))) ++ r ≡ (decimal j ++ (32 ∷ (weight_text v ++ (32 ∷ [])))) ++ s → (w ≡ v) × (i ≡ j) × (r ≡ s)
after_fixed w v i j r s p q e =
    let f = sym (after_rest (decimal i) (weight_text w) r) ∙ (e ∙ after_rest (decimal j) (weight_text v) s) in
    let a = number_then i j (weight_text w ++ (32 ∷ r)) (weight_text v ++ (32 ∷ s)) p.1 q.1 f in
    let b = weight_then w v r s p.0 q.0 a.1 in
    (b.0, a.0, b.1)

start_fixed : (a b : Start) (r s : List ℕ) → StartHeld a → StartHeld b → start_text a ++ r ≡ start_text b ++ s → (a ≡ b) × (r ≡ s)
start_fixed Active Active r s p q e = (refl, append_cancel_left (codes " active ") r s e)
start_fixed Top Top r s p q e = (refl, append_cancel_left (codes " top ") r s e)
start_fixed (After w i) (After v j) r s p q e =
    let a = after_fixed w v i j r s p q (append_cancel_left (codes " after ") ((decimal i ++ (32 ∷ (weight_text w ++ (32 ∷ [])))) ++ r) ((decimal j ++ (32 ∷ (weight_text v ++ (32 ∷ [])))) ++ s) e) in
    (cc (a.0, a.1), a.2)
start_fixed _ _ r s p q e = let f = ap key e in absurd (omega arith)

start_first : (a : Start) (r : List ℕ) → first (start_text a ++ r) < 48
start_first Active r = omega arith
start_first Top r = omega arith
start_first (After w i) r = omega arith

got_rest : (g : Got) (r : List ℕ) → got_text (Some g) ++ (10 ∷ r) ≡ decimal g.index ++ (32 ∷ (weight_text g.weight ++ (10 ∷ r)))
got_rest g r = append_assoc (decimal g.index) (32 ∷ weight_text g.weight) (10 ∷ r)

got_first : (g : Got) (r : List ℕ) → first (got_text (Some g) ++ (10 ∷ r)) < 97
got_first g r = subst (λ (l : List ℕ). first l < 97) (sym (got_rest g r)) (first_number g.index (weight_text g.weight ++ (10 ∷ r)))

none_got : (g : Got) (r s : List ℕ) → codes "none\n" ++ r ≡ got_text (Some g) ++ (10 ∷ s) → ⊥
none_got g r s e = let f : 110 ≡ first (got_text (Some g) ++ (10 ∷ s)) = ap first e in let l = got_first g s in omega arith

got_fixed : (a b : Option Got) (r s : List ℕ) → GotHeld a → GotHeld b → got_text a ++ (10 ∷ r) ≡ got_text b ++ (10 ∷ s) → (a ≡ b) × (r ≡ s)
got_fixed None None r s p q e = (refl, append_cancel_left (codes "none\n") r s e)
got_fixed None (Some h) r s p q e = absurd (none_got h r s e)
got_fixed (Some g) None r s p q e = absurd (none_got g s r (sym e))
got_fixed (Some g) (Some h) r s p q e =
    let i = number_then g.index h.index (weight_text g.weight ++ (10 ∷ r)) (weight_text h.weight ++ (10 ∷ s)) p.0 q.0 (sym (got_rest g r) ∙ (e ∙ got_rest h s)) in
    let j = weight_end g.weight h.weight r s p.1 q.1 i.1 in
    ((λ t. Some (record { index = i.0 t; weight = j.0 t })), j.1)

pick_rest : (a k v b t g r : List ℕ) → (a ++ (k ++ (v ++ (32 ∷ (b ++ (t ++ g)))))) ++ r ≡ a ++ (k ++ (v ++ (32 ∷ (b ++ (t ++ (g ++ r))))))
pick_rest a k v b t g r = simp append_assoc

-- a class's note, by its word

pub class_note_fixed : (x y : ClassNote) (r s : List ℕ) → ClassNoteHeld x → ClassNoteHeld y → class_note_text x ++ (10 ∷ r) ≡ class_note_text y ++ (10 ∷ s) → (x ≡ y) × (r ≡ s)
class_note_fixed (Pick a k v m t g) (Pick b l w n u h) r s p q e =
    let gr = got_text g ++ (10 ∷ r) in
    let hs = got_text h ++ (10 ∷ s) in
    let mr = decimal m ++ (start_text t ++ gr) in
    let ns = decimal n ++ (start_text u ++ hs) in
    let vr = decimal v ++ (32 ∷ mr) in
    let ws = decimal w ++ (32 ∷ ns) in
    let f = append_cancel_left (codes "pick ") ((decimal a ++ (kind_word k ++ (decimal v ++ (32 ∷ (decimal m ++ (start_text t ++ got_text g)))))) ++ (10 ∷ r))
    ((decimal b ++ (kind_word l ++ (decimal w ++ (32 ∷ (decimal n ++ (start_text u ++ got_text h)))))) ++ (10 ∷ s)) e in
    let f2 = sym (pick_rest (decimal a) (kind_word k) (decimal v) (decimal m) (start_text t) (got_text g) (10 ∷ r))
    ∙ (f ∙ pick_rest (decimal b) (kind_word l) (decimal w) (decimal n) (start_text u) (got_text h) (10 ∷ s)) in
    let i0 = number_fixed a b (kind_word k ++ vr) (kind_word l ++ ws) p.0 q.0 (kind_first k vr) (kind_first l ws) f2 in
    let i1 = kind_fixed k l vr ws i0.1 in
    let i2 = number_then v w mr ns p.1 q.1 i1.1 in
    let i3 = number_fixed m n (start_text t ++ gr) (start_text u ++ hs) p.2 q.2 (start_first t gr) (start_first u hs) i2.1 in
    let i4 = start_fixed t u gr hs p.3 q.3 i3.1 in
    let i5 = got_fixed g h r s p.4 q.4 i4.1 in
    ((λ z. Pick (i0.0 z) (i1.0 z) (i2.0 z) (i3.0 z) (i4.0 z) (i5.0 z)), i5.1)
class_note_fixed (Granted a m w) (Granted b n v) r s p q e =
    let i = granted_fixed a b m n w v r s p q (append_cancel_left (codes "granted ") ((id_text a ++ (32 ∷ (decimal m ++ (32 ∷ weight_text w)))) ++ (10 ∷ r)) ((id_text b ++ (32 ∷ (decimal n ++ (32 ∷ weight_text v)))) ++ (10 ∷ s)) e) in
    ((λ z. Granted (i.0 z) (i.1 z) (i.2 z)), i.3)
class_note_fixed (Missed a w) (Missed b v) r s p q e =
    let i = weighed_fixed a b w v r s p q (append_cancel_left (codes "missed ") ((id_text a ++ (32 ∷ weight_text w)) ++ (10 ∷ r)) ((id_text b ++ (32 ∷ weight_text v)) ++ (10 ∷ s)) e) in
    ((λ z. Missed (i.0 z) (i.1 z)), i.2)
class_note_fixed (Weigh a w) (Weigh b v) r s p q e =
    let i = weighed_fixed a b w v r s p q (append_cancel_left (codes "weigh ") ((id_text a ++ (32 ∷ weight_text w)) ++ (10 ∷ r)) ((id_text b ++ (32 ∷ weight_text v)) ++ (10 ∷ s)) e) in
    ((λ z. Weigh (i.0 z) (i.1 z)), i.2)
class_note_fixed _ _ r s p q e = let f = ap key e in absurd (omega arith)

class_word_fixed : (a b : Class) (r s : List ℕ) → class_word a ++ (10 ∷ r) ≡ class_word b ++ (10 ∷ s) → (a ≡ b) × (r ≡ s)
class_word_fixed Normal Normal r s e = (refl, append_cancel_left (codes "normal\n") r s e)
class_word_fixed Log Log r s e = (refl, append_cancel_left (codes "log\n") r s e)
class_word_fixed Special Special r s e = (refl, append_cancel_left (codes "special\n") r s e)
class_word_fixed Dedup Dedup r s e = (refl, append_cancel_left (codes "dedup\n") r s e)
class_word_fixed _ _ r s e = let f = ap key e in absurd (omega arith)

class_rest : (w n r : List ℕ) → ((w ++ (10 ∷ [])) ++ n) ++ r ≡ w ++ (10 ∷ (n ++ r))
class_rest w n r = simp append_assoc

pub class_fixed : (x y : ClassJournal) (r s : List ℕ) → ClassHeld x → ClassHeld y → 97 ≤ first r → 97 ≤ first s → class_text x ++ r ≡ class_text y ++ s → (x ≡ y) × (r ≡ s)
class_fixed x y r s p q past end e =
    let xn = numbered class_note_line 1 x.notes in
    let yn = numbered class_note_line 1 y.notes in
    let f = append_cancel_left (codes "class ") (((class_word x.class ++ (10 ∷ [])) ++ xn) ++ r) (((class_word y.class ++ (10 ∷ [])) ++ yn) ++ s) e in
    let i = class_word_fixed x.class y.class (xn ++ r) (yn ++ s) (sym (class_rest (class_word x.class) xn r) ∙ (f ∙ class_rest (class_word y.class) yn s)) in
    let n = lines_fixed (λ (z : ℕ × ClassNote). z.0) (λ (z : ℕ × ClassNote). z.1) class_note_text ClassNoteHeld (λ a b l m. λ t. (l t, m t)) class_note_fixed x.notes y.notes r s p q past end i.1 in
    ((λ t. record { class = i.0 t; notes = n.0 t }), n.1)

-- a note of the keeper, by its word

keeper_note_fixed : (x y : KeeperNote) (r s : List ℕ) → KeeperNoteHeld x → KeeperNoteHeld y → keeper_note_text x ++ (10 ∷ r) ≡ keeper_note_text y ++ (10 ∷ s) → (x ≡ y) × (r ≡ s)
keeper_note_fixed (Sync g) (Sync h) r s p q e =
    let i = number_end g.0 h.0 r s p q (append_cancel_left (codes "sync ") (decimal g.0 ++ (10 ∷ r)) (decimal h.0 ++ (10 ∷ s)) e) in
    (ap Sync (group_same g h i.0), i.1)
keeper_note_fixed (Fault a b) (Fault c d) r s p q e =
    let i = pair_fixed a b c d r s p.0 p.1 q.0 q.1 (append_cancel_left (codes "fault ") ((decimal a ++ (32 ∷ decimal b)) ++ (10 ∷ r)) ((decimal c ++ (32 ∷ decimal d)) ++ (10 ∷ s)) e) in
    ((λ z. Fault (i.0 z) (i.1 z)), i.2)
keeper_note_fixed (Damaged a) (Damaged b) r s p q e =
    let i = id_end a b r s p q (append_cancel_left (codes "damaged ") (id_text a ++ (10 ∷ r)) (id_text b ++ (10 ∷ s)) e) in
    (ap Damaged i.0, i.1)
keeper_note_fixed _ _ r s p q e = let f = ap key e in absurd (omega arith)

pub keeper_fixed : (xs ys : List (ℕ × KeeperNote)) (r s : List ℕ) → All LaneKeeperNoteHeld xs → All LaneKeeperNoteHeld ys
    → 97 ≤ first r → 97 ≤ first s → keeper_text xs ++ r ≡ keeper_text ys ++ s → (xs ≡ ys) × (r ≡ s)
keeper_fixed xs ys r s p q past end e =
    lines_fixed (λ (z : ℕ × KeeperNote). z.0) (λ (z : ℕ × KeeperNote). z.1) keeper_note_text KeeperNoteHeld (λ a b l m. λ t. (l t, m t)) keeper_note_fixed xs ys r s p q past end
    (append_cancel_left (codes "keeper\n") (numbered keeper_note_line 1 xs ++ r) (numbered keeper_note_line 1 ys ++ s) e)
