-- The metaslabs of a vdev after one more note.
use Rattle.std.proofs.Common.{◌≡◌, ◌≢◌, ℕ, zero, suc, ◌+◌, ◌*◌, ◌<◌, Bool, true, false, cond, eqb, Option, Some, None, List, [], ◌∷◌, ◌++◌, length, set, length-set, get_or, refl, sym, ◌∙◌, ap, subst, ◌⊎◌, inl, inr, arith}
use Rattle.std.specs.Prelude.{◌&&◌, map}
use Rattle.std.proofs.lemmas.List.{length-map}
use Rattle.std.proofs.lemmas.Bool.Decides.{eqb_tells}
use Rattle.zms_units.specs.Weights.{PassesOver}
use Rattle.zms_units.specs.declared.places.MsId.{MsId}
use Rattle.ms_model.specs.declared.notes.ClassNote.{ClassNote}
use Rattle.ms_model.specs.declared.notes.ClassNote.TheVariants.{Pick, Granted, Missed, Weigh}
use Rattle.ms_model.specs.declared.notes.Got.{Got}
use Rattle.ms_model.specs.declared.notes.Kind.{Kind}
use Rattle.ms_model.specs.declared.notes.Kind.TheVariants.{Primary, Secondary}
use Rattle.ms_model.specs.declared.notes.Start.{Start}
use Rattle.ms_model.specs.declared.notes.Start.TheVariants.{Active, Top, After}
use Rattle.class_model.specs.Replay.{LaneNote, Pair, metaslabs_of, is_at, weight_after, weight_at, is_kind, is_pair, taken, dropped, active_after, active_at}
use Rattle.class_model.specs.Picks.{MayGive, IsBehind, IsFirstOf, IsActiveOr, IsAnswer}
use Rattle.class_model.specs.declared.origin.ClassOrigin.{ClassOrigin}
use Rattle.class_model.proofs.Journals.{weight_at-push, active_at-push}
use Rattle.class_core.specs.Groups.{GroupState, active_in, kind_place, place_of, Stands, IsNext, IsActiveOrNext, IsPick, Takes}
use Rattle.class_core.specs.ClassInside.{Mirrors}
use Rattle.class_core.proofs.Booleans.{eqb_same, eqb_other, set_look, map_look}

-- the vdev that a note is of
abbrev pub vdev_of : ClassNote → ℕ
vdev_of (Pick _ _ vdev _ _ _) = vdev
vdev_of (Granted id _ _) = id.vdev
vdev_of (Missed id _) = id.vdev
vdev_of (Weigh id _) = id.vdev

not_at : (v i : ℕ) (id : MsId) → (id.vdev ≡ v → ⊥) → is_at v i id ≡ false
not_at v i id ne = ap (λ b. b && eqb id.index i) (eqb_other id.vdev v ne)

weight_elsewhere : (note : ClassNote) (v i x : ℕ) → (vdev_of note ≡ v → ⊥) → weight_after v i x note ≡ x
weight_elsewhere (Pick _ _ _ _ _ _) v i x ne = refl
weight_elsewhere (Granted id _ w) v i x ne = ap (λ b. cond b w x) (not_at v i id ne)
weight_elsewhere (Missed id w) v i x ne = ap (λ b. cond b w x) (not_at v i id ne)
weight_elsewhere (Weigh id w) v i x ne = ap (λ b. cond b w x) (not_at v i id ne)

active_elsewhere : (note : ClassNote) (v : ℕ) (p : Pair) (x : Option ℕ) → (vdev_of note ≡ v → ⊥) → active_after v p x note ≡ x
active_elsewhere (Pick a k w _ _ got) v p x ne = ap (λ b. cond (b && is_pair p a k) (taken x got) x) (eqb_other w v ne)
active_elsewhere (Granted _ _ _) v p x ne = refl
active_elsewhere (Missed id _) v p x ne = ap (λ b. cond b (dropped id.index x) x) (eqb_other id.vdev v ne)
active_elsewhere (Weigh _ _) v p x ne = refl

pub mirrors_elsewhere : (o : ClassOrigin) (h : List LaneNote) (lane : ℕ) (note : ClassNote) (g : GroupState) → (vdev_of note ≡ g.vdev → ⊥) → Mirrors o h g → Mirrors o (h ++ (lane, note) ∷ []) g
mirrors_elsewhere o h lane note g ne m = record {
  count = m.count;
  places = m.places;
  weights = λ i. weight_at-push o h (lane, note) g.vdev i ∙ (weight_elsewhere note g.vdev i (weight_at o h g.vdev i) ne ∙ m.weights i);
  active = λ p. active_at-push h (lane, note) g.vdev p ∙ (active_elsewhere note g.vdev p (active_at h g.vdev p) ne ∙ m.active p);
}

-- the weights after one was posted
posted : (g : GroupState) (id : MsId) (w i x : ℕ) → id.vdev ≡ g.vdev → id.index < length g.weights → x ≡ get_or g.weights i 0
    → cond (is_at g.vdev i id) w x ≡ get_or (set g.weights id.index w) i 0
posted g id w i x same lt is =
    ap (λ (b : Bool). cond (b && eqb id.index i) w x) (eqb_same id.vdev g.vdev same)
    ∙ (ap (λ (y : ℕ). cond (eqb id.index i) w y) is ∙ sym (set_look g.weights id.index i w 0 lt))

abbrev pub weighed : GroupState → ℕ → ℕ → GroupState
weighed g i w = record g { weights = set g.weights i w }

pub mirrors_granted : (o : ClassOrigin) (h : List LaneNote) (lane : ℕ) (id : MsId) (bytes w : ℕ) (g : GroupState) → id.vdev ≡ g.vdev → id.index < length g.weights → Mirrors o h g
    → Mirrors o (h ++ (lane, Granted id bytes w) ∷ []) (weighed g id.index w)
mirrors_granted o h lane id bytes w g same lt m = record {
  count = m.count ∙ sym (length-set g.weights id.index w);
  places = m.places;
  weights = λ i. weight_at-push o h (lane, Granted id bytes w) g.vdev i ∙ posted g id w i (weight_at o h g.vdev i) same lt (m.weights i);
  active = λ p. active_at-push h (lane, Granted id bytes w) g.vdev p ∙ m.active p;
}

pub mirrors_weighed : (o : ClassOrigin) (h : List LaneNote) (lane : ℕ) (id : MsId) (w : ℕ) (g : GroupState) → id.vdev ≡ g.vdev → id.index < length g.weights → Mirrors o h g
    → Mirrors o (h ++ (lane, Weigh id w) ∷ []) (weighed g id.index w)
mirrors_weighed o h lane id w g same lt m = record {
  count = m.count ∙ sym (length-set g.weights id.index w);
  places = m.places;
  weights = λ i. weight_at-push o h (lane, Weigh id w) g.vdev i ∙ posted g id w i (weight_at o h g.vdev i) same lt (m.weights i);
  active = λ p. active_at-push h (lane, Weigh id w) g.vdev p ∙ m.active p;
}

abbrev pub missed_in : GroupState → ℕ → ℕ → GroupState
missed_in g i w = record g { weights = set g.weights i w; active = map (dropped i) g.active }

pub mirrors_missed : (o : ClassOrigin) (h : List LaneNote) (lane : ℕ) (id : MsId) (w : ℕ) (g : GroupState) → id.vdev ≡ g.vdev → id.index < length g.weights → Mirrors o h g
    → Mirrors o (h ++ (lane, Missed id w) ∷ []) (missed_in g id.index w)
mirrors_missed o h lane id w g same lt m = record {
  count = m.count ∙ sym (length-set g.weights id.index w);
  places = length-map g.active (dropped id.index) ∙ m.places;
  weights = λ i. weight_at-push o h (lane, Missed id w) g.vdev i ∙ posted g id w i (weight_at o h g.vdev i) same lt (m.weights i);
  active = λ p. active_at-push h (lane, Missed id w) g.vdev p
      ∙ (ap (λ (b : Bool). cond b (dropped id.index (active_at h g.vdev p)) (active_at h g.vdev p)) (eqb_same id.vdev g.vdev same)
      ∙ (ap (dropped id.index) (m.active p) ∙ sym (map_look (dropped id.index) g.active (place_of p) None refl)));
}

-- two pairs stand at one place only if they are one
and_no : (b : Bool) → (b && false) ≡ false
and_no true = refl
and_no false = refl

and_yes : (b : Bool) → (b && true) ≡ b
and_yes true = refl
and_yes false = refl

twice : (a b n : ℕ) → eqb (2 * a + n) (2 * b + n) ≡ eqb b a
twice a b n = at (eqb_tells b a) where
  at : ((eqb b a ≡ true) × (b ≡ a)) ⊎ ((eqb b a ≡ false) × (b ≢ a)) → eqb (2 * a + n) (2 * b + n) ≡ eqb b a
  at (inl t) = eqb_same (2 * a + n) (2 * b + n) (omega (arith, t.1)) ∙ sym t.0
  at (inr t) = eqb_other (2 * a + n) (2 * b + n) (λ e. t.1 (omega (arith, e))) ∙ sym t.0

odd : (a b : ℕ) → 2 * a + 0 ≡ 2 * b + 1 → ⊥
odd a b e = omega (arith, e)

pub pair_place : (p : Pair) (a : ℕ) (k : Kind) → eqb (2 * a + kind_place k) (place_of p) ≡ is_pair p a k
pair_place p a k = at p.kind k where
  at : (x y : Kind) → eqb (2 * a + kind_place y) (2 * p.allocator + kind_place x) ≡ (eqb p.allocator a && is_kind x y)
  at Primary Primary = twice a p.allocator 0 ∙ sym (and_yes (eqb p.allocator a))
  at Secondary Secondary = twice a p.allocator 1 ∙ sym (and_yes (eqb p.allocator a))
  at Primary Secondary = eqb_other (2 * a + 1) (2 * p.allocator + 0) (λ e. odd p.allocator a (sym e)) ∙ sym (and_no (eqb p.allocator a))
  at Secondary Primary = eqb_other (2 * a + 0) (2 * p.allocator + 1) (λ e. odd a p.allocator e) ∙ sym (and_no (eqb p.allocator a))

-- each place has a pair
pair_at : ℕ → Pair
pair_at zero = record { allocator = 0; kind = Primary }
pair_at (suc zero) = record { allocator = 0; kind = Secondary }
pair_at (suc (suc k)) = record { allocator = suc (pair_at k).allocator; kind = (pair_at k).kind }

place_back : (k : ℕ) → place_of (pair_at k) ≡ k
unfolding pair_at
place_back zero = refl
place_back (suc zero) = refl
place_back (suc (suc k)) = let rest : 2 * (pair_at k).allocator + kind_place (pair_at k).kind ≡ k = place_back k in omega (arith, rest)

pub mirrors_picked : (o : ClassOrigin) (h : List LaneNote) (lane a : ℕ) (k : Kind) (bytes : ℕ) (start : Start) (got : Option Got) (g t : GroupState) → Mirrors o h g → length t.active ≡ 8 → Takes g t (2 * a + kind_place k) got
    → Mirrors o (h ++ (lane, Pick a k g.vdev bytes start got) ∷ []) t
mirrors_picked o h lane a k bytes start got g t m eight takes = record {
  count = ap (metaslabs_of o) takes.vdev ∙ (m.count ∙ sym (ap length takes.weights));
  places = eight;
  weights = λ i. weight_at-push o h (lane, Pick a k g.vdev bytes start got) t.vdev i
      ∙ (ap (λ (v : ℕ). weight_at o h v i) takes.vdev ∙ (m.weights i ∙ sym (ap (λ (l : List ℕ). get_or l i 0) takes.weights)));
  active = λ p. active_at-push h (lane, Pick a k g.vdev bytes start got) t.vdev p
      ∙ (ap (λ (v : ℕ). cond (eqb g.vdev v && is_pair p a k) (taken (active_at h v p) got) (active_at h v p)) takes.vdev
      ∙ (ap (λ (b : Bool). cond (b && is_pair p a k) (taken (active_at h g.vdev p) got) (active_at h g.vdev p)) (eqb_same g.vdev g.vdev refl)
      ∙ (ap (λ (x : Option ℕ). cond (is_pair p a k) (taken x got) x) (m.active p)
      ∙ (ap (λ (b : Bool). cond b (taken (active_in g (place_of p)) got) (active_in g (place_of p))) (sym (pair_place p a k))
      ∙ sym (takes.active (place_of p))))));
}

first_alike : (P Q : Got → Type 0) → ((g : Got) → P g → Q g) → ((g : Got) → Q g → P g) → (got : Option Got) → IsFirstOf P got → IsFirstOf Q got
first_alike P Q to from None first = λ g q. first g (from g q)
first_alike P Q to from (Some g) first = record { is = to g first.is; first = λ other q before. first.first other (from other q) before }

module _ (o : ClassOrigin) (h : List LaneNote) (g : GroupState) (m : Mirrors o h g) (bytes : ℕ) where
  gives : (start : Start) (x : Got) → (Stands g x × (PassesOver x.weight bytes → ⊥)) × IsBehind start x → MayGive o h g.vdev bytes x × IsBehind start x
  gives start x both = (
    record {
      within = omega (arith, m.count, both.0.0.within);
      weight = both.0.0.weight ∙ sym (m.weights x.index);
      inactive = λ p e. both.0.0.inactive (place_of p) (sym (m.active p) ∙ e);
      fits = both.0.1;
    },
    both.1,
  )

  given : (start : Start) (x : Got) → MayGive o h g.vdev bytes x × IsBehind start x → (Stands g x × (PassesOver x.weight bytes → ⊥)) × IsBehind start x
  given start x both = (
    (
      record {
        within = omega (arith, m.count, both.0.within);
        weight = both.0.weight ∙ m.weights x.index;
        inactive = λ k e. both.0.inactive (pair_at k) (m.active (pair_at k) ∙ (ap (active_in g) (place_back k) ∙ e));
      },
      both.0.fits,
    ),
    both.1,
  )

  next_answer : (start : Start) (got : Option Got) → IsNext g bytes start got → IsFirstOf (λ x. MayGive o h g.vdev bytes x × IsBehind start x) got
  next_answer start got next = first_alike _ _ (gives start) (given start) got next

  active_answer : (x : Option ℕ) (got : Option Got) → IsActiveOrNext g bytes x got → IsActiveOr o h g.vdev bytes x got
  active_answer None got next = next_answer Top got next
  active_answer (Some i) got is = is ∙ ap (λ (w : ℕ). Some (record { index = i; weight = w })) (sym (m.weights i))

  -- what a pick gives is what the journal says
  pub picks_answer : (p : Pair) (start : Start) (got : Option Got) → IsPick g (place_of p) bytes start got → IsAnswer o h g.vdev p bytes start got
  picks_answer p Active got pick = active_answer (active_at h g.vdev p) got (subst (λ (x : Option ℕ). IsActiveOrNext g bytes x got) (sym (m.active p)) pick)
  picks_answer p Top got pick = next_answer Top got pick
  picks_answer p (After weight index) got pick = next_answer (After weight index) got pick
