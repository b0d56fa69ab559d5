-- The lines of a metaslab fix its journal.
use Rattle.std.proofs.Common.{◌≡◌, ℕ, ◌≤◌, ◌<◌, List, [], ◌∷◌, ◌++◌, refl, sym, ◌∙◌, ap, subst, append_assoc, arith}
use Rattle.std.proofs.lemmas.List.{append_cancel_left}
use Rattle.std.specs.List.{All}
use Rattle.std.specs.Prelude.{codes, decimal}
use Rattle.zms_units.specs.declared.segments.Group.{Group}
use Rattle.zms_units.specs.declared.segments.Seg.{Seg}
use Rattle.ms_model.specs.declared.journals.MsJournal.{MsJournal}
use Rattle.ms_model.specs.declared.notes.Act.{Act}
use Rattle.ms_model.specs.declared.notes.Act.TheVariants.{Grant, Free, Unalloc, Miss, Shut, Collect, Settle, Load, Unload, Disable, Work, Enable}
use Rattle.ms_model.specs.declared.notes.Noted.{Noted}
use Rattle.ms_model.specs.declared.notes.WorkKind.{WorkKind}
use Rattle.ms_model.specs.declared.notes.WorkKind.TheVariants.{Init, Trim}
use Rattle.trace_text.specs.Held.{Held, SegHeld, WorkHeld, ActHeld, MetaslabHeld}
use Rattle.trace_text.specs.Numbers.{numbered}
use Rattle.trace_text.specs.Traces.{note_line, seg_text, work_word, work_text, act_text, act_line, metaslab_text}
use Rattle.trace_text.proofs.Reading.{first, key, number_fixed, number_then, number_end, first_number, numbered_fixed}

-- a line's place and lane before its note

line_rest : (p l a r : List ℕ) → (p ++ (32 ∷ (l ++ (32 ∷ (a ++ (10 ∷ [])))))) ++ r ≡ p ++ (32 ∷ (l ++ (32 ∷ (a ++ (10 ∷ r)))))
line_rest p l a r = simp append_assoc

line_begins : (k l : ℕ) (a r : List ℕ) → first (note_line k l a ++ r) < 97
line_begins k l a r = subst (λ (xs : List ℕ). first xs < 97) (sym (line_rest (decimal k) (decimal l) a r)) (first_number k (decimal l ++ (32 ∷ (a ++ (10 ∷ r)))))

line_fixed : (k l m : ℕ) (a b r s : List ℕ) → Held l → Held m → note_line k l a ++ r ≡ note_line k m b ++ s → (l ≡ m) × (a ++ (10 ∷ r) ≡ b ++ (10 ∷ s))
line_fixed k l m a b r s low high e =
    let f = sym (line_rest (decimal k) (decimal l) a r) ∙ (e ∙ line_rest (decimal k) (decimal m) b s) in
    let t = append_cancel_left (decimal k) (32 ∷ (decimal l ++ (32 ∷ (a ++ (10 ∷ r))))) (32 ∷ (decimal m ++ (32 ∷ (b ++ (10 ∷ s))))) f in
    number_then l m (a ++ (10 ∷ r)) (b ++ (10 ∷ s)) low high (append_cancel_left (32 ∷ []) (decimal l ++ (32 ∷ (a ++ (10 ∷ r)))) (decimal m ++ (32 ∷ (b ++ (10 ∷ s)))) t)

-- lines of notes, each with its lane, where a note's text fixes it

module _ {X N : Type 0} (lane : X → ℕ) (note : X → N) (text : N → List ℕ) (Fine : N → Type 0) (join : (x y : X) → lane x ≡ lane y → note x ≡ note y → x ≡ y)
    (fixed : (a b : N) (r s : List ℕ) → Fine a → Fine b → text a ++ (10 ∷ r) ≡ text b ++ (10 ∷ s) → (a ≡ b) × (r ≡ s)) where
  abbrev Whole : X → Type 0
  Whole x = Held (lane x) × Fine (note x)

  abbrev line : ℕ → X → List ℕ
  line k x = note_line k (lane x) (text (note x))

  one_fixed : (k : ℕ) (x y : X) (r s : List ℕ) → Whole x → Whole y → line k x ++ r ≡ line k y ++ s → (x ≡ y) × (r ≡ s)
  one_fixed k x y r s p q e =
      let i = line_fixed k (lane x) (lane y) (text (note x)) (text (note y)) r s p.0 q.0 e in
      let j = fixed (note x) (note y) r s p.1 q.1 i.1 in
      (join x y i.0 j.0, j.1)

  pub lines_fixed : (xs ys : List X) (r s : List ℕ) → All Whole xs → All Whole ys → 97 ≤ first r → 97 ≤ first s → numbered line 1 xs ++ r ≡ numbered line 1 ys ++ s → (xs ≡ ys) × (r ≡ s)
  lines_fixed xs ys r s p q past end e =
      numbered_fixed line Whole (λ c. c < 97) (λ _. Unit {0}) (λ k x t. (line_begins k (lane x) (text (note x)) t, tt)) (λ k x y t u a b _ _ f. one_fixed k x y t u a b f)
      1 xs ys r s p q (λ low. absurd (omega arith)) (λ low. absurd (omega arith)) tt tt e

-- two numbers at the end of a line

pair_rest : (a b r : List ℕ) → (a ++ (32 ∷ b)) ++ (10 ∷ r) ≡ a ++ (32 ∷ (b ++ (10 ∷ r)))
pair_rest a b r = append_assoc a (32 ∷ b) (10 ∷ r)

pub pair_fixed : (a b c d : ℕ) (r s : List ℕ) → Held a → Held b → Held c → Held d
    → (decimal a ++ (32 ∷ decimal b)) ++ (10 ∷ r) ≡ (decimal c ++ (32 ∷ decimal d)) ++ (10 ∷ s) → (a ≡ c) × (b ≡ d) × (r ≡ s)
pair_fixed a b c d r s one two three four e =
    let f = sym (pair_rest (decimal a) (decimal b) r) ∙ (e ∙ pair_rest (decimal c) (decimal d) s) in
    let i = number_then a c (decimal b ++ (10 ∷ r)) (decimal d ++ (10 ∷ s)) one three f in
    let j = number_end b d r s two four i.1 in
    (i.0, j.0, j.1)

pub group_same : (g h : Group) → g.0 ≡ h.0 → g ≡ h
group_same g h e = λ t. record { 0 = e t }

seg_same : (x y : Seg) → x.start ≡ y.start → x.count ≡ y.count → x ≡ y
seg_same x y e f = λ t. record { start = e t; count = f t }

seg_fixed : (g h : Group) (x y : Seg) (r s : List ℕ) → SegHeld g x → SegHeld h y → seg_text g x ++ (10 ∷ r) ≡ seg_text h y ++ (10 ∷ s) → (g ≡ h) × (x ≡ y) × (r ≡ s)
seg_fixed g h x y r s p q e =
    let f = sym (append_assoc (decimal g.0) (32 ∷ (decimal x.start ++ (32 ∷ decimal x.count))) (10 ∷ r)) ∙ (e ∙ append_assoc (decimal h.0) (32 ∷ (decimal y.start ++ (32 ∷ decimal y.count))) (10 ∷ s)) in
    let i = number_then g.0 h.0 ((decimal x.start ++ (32 ∷ decimal x.count)) ++ (10 ∷ r)) ((decimal y.start ++ (32 ∷ decimal y.count)) ++ (10 ∷ s)) p.0 q.0 f in
    let j = pair_fixed x.start x.count y.start y.count r s p.1 p.2 q.1 q.2 i.1 in
    (group_same g h i.0, seg_same x y j.0 j.1, j.2)

kind_fixed : (k l : WorkKind) (r s : List ℕ) → work_word k ++ r ≡ work_word l ++ s → (k ≡ l) × (r ≡ s)
kind_fixed Init Init r s e = (refl, append_cancel_left (codes " init ") r s e)
kind_fixed Trim Trim r s e = (refl, append_cancel_left (codes " trim ") r s e)
kind_fixed _ _ r s e = let f = ap key e in absurd (omega arith)

kind_first : (k : WorkKind) (r : List ℕ) → first (work_word k ++ r) < 48
kind_first Init r = omega arith
kind_first Trim r = omega arith

work_rest : (w k l r : List ℕ) → (w ++ (k ++ l)) ++ (10 ∷ r) ≡ w ++ (k ++ (l ++ (10 ∷ r)))
work_rest w k l r = simp append_assoc

work_fixed : (w v : ℕ) (k l : WorkKind) (x y : Seg) (r s : List ℕ) → WorkHeld w x → WorkHeld v y → work_text w k x ++ (10 ∷ r) ≡ work_text v l y ++ (10 ∷ s) → (w ≡ v) × (k ≡ l) × (x ≡ y) × (r ≡ s)
work_fixed w v k l x y r s p q e =
    let a = decimal x.start ++ (32 ∷ decimal x.count) in
    let b = decimal y.start ++ (32 ∷ decimal y.count) in
    let f = sym (work_rest (decimal w) (work_word k) a r) ∙ (e ∙ work_rest (decimal v) (work_word l) b s) in
    let i = number_fixed w v (work_word k ++ (a ++ (10 ∷ r))) (work_word l ++ (b ++ (10 ∷ s))) p.0 q.0 (kind_first k (a ++ (10 ∷ r))) (kind_first l (b ++ (10 ∷ s))) f in
    let j = kind_fixed k l (a ++ (10 ∷ r)) (b ++ (10 ∷ s)) i.1 in
    let n = pair_fixed x.start x.count y.start y.count r s p.1 p.2 q.1 q.2 j.1 in
    (i.0, j.0, seg_same x y n.0 n.1, n.2)

-- an act, by its word

pub act_fixed : (a b : Act) (r s : List ℕ) → ActHeld a → ActHeld b → act_text a ++ (10 ∷ r) ≡ act_text b ++ (10 ∷ s) → (a ≡ b) × (r ≡ s)
act_fixed (Grant g x) (Grant h y) r s p q e =
    let i = seg_fixed g h x y r s p q (append_cancel_left (codes "grant ") (seg_text g x ++ (10 ∷ r)) (seg_text h y ++ (10 ∷ s)) e) in (cc (i.0, i.1), i.2)
act_fixed (Free g x) (Free h y) r s p q e =
    let i = seg_fixed g h x y r s p q (append_cancel_left (codes "free ") (seg_text g x ++ (10 ∷ r)) (seg_text h y ++ (10 ∷ s)) e) in (cc (i.0, i.1), i.2)
act_fixed (Unalloc g x) (Unalloc h y) r s p q e =
    let i = seg_fixed g h x y r s p q (append_cancel_left (codes "unalloc ") (seg_text g x ++ (10 ∷ r)) (seg_text h y ++ (10 ∷ s)) e) in (cc (i.0, i.1), i.2)
act_fixed (Miss m) (Miss n) r s p q e =
    let i = number_end m n r s p q (append_cancel_left (codes "miss ") (decimal m ++ (10 ∷ r)) (decimal n ++ (10 ∷ s)) e) in (cc (i.0), i.1)
act_fixed Shut Shut r s p q e = (refl, append_cancel_left (codes "shut\n") r s e)
act_fixed (Collect g) (Collect h) r s p q e =
    let i = number_end g.0 h.0 r s p q (append_cancel_left (codes "collect ") (decimal g.0 ++ (10 ∷ r)) (decimal h.0 ++ (10 ∷ s)) e) in
    (ap Collect (group_same g h i.0), i.1)
act_fixed (Settle g) (Settle h) r s p q e =
    let i = number_end g.0 h.0 r s p q (append_cancel_left (codes "settle ") (decimal g.0 ++ (10 ∷ r)) (decimal h.0 ++ (10 ∷ s)) e) in
    (ap Settle (group_same g h i.0), i.1)
act_fixed Load Load r s p q e = (refl, append_cancel_left (codes "load\n") r s e)
act_fixed Unload Unload r s p q e = (refl, append_cancel_left (codes "unload\n") r s e)
act_fixed (Disable m) (Disable n) r s p q e =
    let i = number_end m n r s p q (append_cancel_left (codes "disable ") (decimal m ++ (10 ∷ r)) (decimal n ++ (10 ∷ s)) e) in (cc (i.0), i.1)
act_fixed (Work w k x) (Work v l y) r s p q e =
    let i = work_fixed w v k l x y r s p q (append_cancel_left (codes "work ") (work_text w k x ++ (10 ∷ r)) (work_text v l y ++ (10 ∷ s)) e) in
    (cc (i.0, i.1, i.2), i.3)
act_fixed (Enable m) (Enable n) r s p q e =
    let i = number_end m n r s p q (append_cancel_left (codes "enable ") (decimal m ++ (10 ∷ r)) (decimal n ++ (10 ∷ s)) e) in (cc (i.0), i.1)
act_fixed _ _ r s p q e = let f = ap key e in absurd (omega arith)

-- a metaslab's line and notes

counts_rest : (us sh he u a h t : List ℕ) → (us ++ (u ++ (sh ++ (a ++ (he ++ (h ++ (10 ∷ []))))))) ++ t ≡ us ++ (u ++ (sh ++ (a ++ (he ++ (h ++ (10 ∷ t))))))
counts_rest us sh he u a h t = simp append_assoc

names_rest : (m v i c t : List ℕ) → (m ++ ((v ++ (32 ∷ i)) ++ c)) ++ t ≡ m ++ (v ++ (32 ∷ (i ++ (c ++ t))))
names_rest m v i c t = simp append_assoc

metaslab_rest : (m us sh he v i u a h n r : List ℕ)
    → ((m ++ ((v ++ (32 ∷ i)) ++ (us ++ (u ++ (sh ++ (a ++ (he ++ (h ++ (10 ∷ []))))))))) ++ n) ++ r
    ≡ m ++ (v ++ (32 ∷ (i ++ (us ++ (u ++ (sh ++ (a ++ (he ++ (h ++ (10 ∷ (n ++ r)))))))))))
metaslab_rest m us sh he v i u a h n r =
    let c = us ++ (u ++ (sh ++ (a ++ (he ++ (h ++ (10 ∷ [])))))) in
    append_assoc (m ++ ((v ++ (32 ∷ i)) ++ c)) n r ∙ (names_rest m v i c (n ++ r) ∙ ap (λ l. m ++ (v ++ (32 ∷ (i ++ l)))) (counts_rest us sh he u a h (n ++ r)))

pub metaslab_fixed : (x y : MsJournal) (r s : List ℕ) → MetaslabHeld x → MetaslabHeld y → 97 ≤ first r → 97 ≤ first s → metaslab_text x ++ r ≡ metaslab_text y ++ s → (x ≡ y) × (r ≡ s)
metaslab_fixed x y r s p q past end e =
    let xn = numbered act_line 1 x.notes ++ r in
    let yn = numbered act_line 1 y.notes ++ s in
    let xh = decimal x.held ++ (10 ∷ xn) in
    let yh = decimal y.held ++ (10 ∷ yn) in
    let xa = decimal x.ashift ++ (codes " held " ++ xh) in
    let ya = decimal y.ashift ++ (codes " held " ++ yh) in
    let xu = decimal x.units ++ (codes " shift " ++ xa) in
    let yu = decimal y.units ++ (codes " shift " ++ ya) in
    let xi = decimal x.id.index ++ (codes " units " ++ xu) in
    let yi = decimal y.id.index ++ (codes " units " ++ yu) in
    let f = sym (metaslab_rest (codes "metaslab ") (codes " units ") (codes " shift ") (codes " held ") (decimal x.id.vdev) (decimal x.id.index) (decimal x.units) (decimal x.ashift) (decimal x.held) (numbered act_line 1 x.notes) r)
    ∙ (e ∙ metaslab_rest (codes "metaslab ") (codes " units ") (codes " shift ") (codes " held ") (decimal y.id.vdev) (decimal y.id.index) (decimal y.units) (decimal y.ashift) (decimal y.held) (numbered act_line 1 y.notes) s) in
    let v = number_then x.id.vdev y.id.vdev xi yi p.id.0 q.id.0 (append_cancel_left (codes "metaslab ") (decimal x.id.vdev ++ (32 ∷ xi)) (decimal y.id.vdev ++ (32 ∷ yi)) f) in
    let i = number_fixed x.id.index y.id.index (codes " units " ++ xu) (codes " units " ++ yu) p.id.1 q.id.1 (omega arith) (omega arith) v.1 in
    let u = number_fixed x.units y.units (codes " shift " ++ xa) (codes " shift " ++ ya) p.units q.units (omega arith) (omega arith) (append_cancel_left (codes " units ") xu yu i.1) in
    let a = number_fixed x.ashift y.ashift (codes " held " ++ xh) (codes " held " ++ yh) p.ashift q.ashift (omega arith) (omega arith) (append_cancel_left (codes " shift ") xa ya u.1) in
    let h = number_end x.held y.held xn yn p.held q.held (append_cancel_left (codes " held ") xh yh a.1) in
    let n = lines_fixed (λ (x : Noted). x.lane) (λ (x : Noted). x.act) act_text ActHeld (λ a b l n. λ t. record { lane = l t; act = n t }) act_fixed x.notes y.notes r s p.notes q.notes past end h.1 in
    ((λ t. record { id = record { vdev = v.0 t; index = i.0 t }; units = u.0 t; ashift = a.0 t; held = h.0 t; notes = n.0 t }), n.1)
