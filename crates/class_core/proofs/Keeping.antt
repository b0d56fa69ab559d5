-- A class after one of its groups changed, with a note of it or without.
use Rattle.std.proofs.Common.{◌≡◌, ◌≢◌, ℕ, zero, suc, ◌+◌, ◌<◌, ◌≤◌, Bool, true, false, cond, eqb, ltb, leb, Option, Some, None, List, [], ◌∷◌, ◌++◌, length, set, length-set, get_or, get_or-set_same, get_or-set_other, refl, sym, ◌∙◌, ap, subst, ◌⊎◌, inl, inr, arith, le-leb}
use Rattle.std.specs.Prelude.{map, slice_get, MatchOption, ⊤}
use Rattle.std.proofs.lemmas.Bool.{cases_lt}
use Rattle.std.proofs.lemmas.Bool.Decides.{eqb_tells, Decides-ltb}
use Rattle.std.proofs.lemmas.List.{get_or_read}
use Rattle.zms_units.specs.Limits.{IsLane}
use Rattle.zms_units.specs.declared.places.MsId.{MsId}
use Rattle.ms_model.specs.declared.notes.ClassNote.TheVariants.{Pick, Granted, Missed, Weigh}
use Rattle.ms_model.specs.declared.notes.Got.{Got}
use Rattle.ms_model.specs.declared.notes.Kind.{Kind}
use Rattle.ms_model.specs.declared.notes.Start.{Start}
use Rattle.class_model.specs.Replay.{LaneNote, Pair, Rotor as Turn, IsVdevOf, IsIn, vdevs_of, metaslabs_of, first_or, next_in, next_of, turned, active_at, rotor_at}
use Rattle.class_model.specs.Picks.{IsAnswer}
use Rattle.class_model.specs.Legal.{IsClassLegal, allocator_of}
use Rattle.class_model.specs.declared.origin.ClassOrigin.{ClassOrigin}
use Rattle.class_model.proofs.Journals.{rotor_at-push, legal_push}
use Rattle.class_model.proofs.Within.{picks_within}
use Rattle.class_core.specs.Groups.{GroupState, group_at, active_in, place_of, IsPick, Takes}
use Rattle.class_core.specs.Classes.{got_of, finds_active, pair_of, IsPicked}
use Rattle.class_core.specs.declared.picked.Picked.{Picked}
use Rattle.class_core.specs.ClassInside.{Mirrors, IsKept, next_place, rotor_next}
use Rattle.class_core.specs.declared.rotor.Rotor.{Rotor}
use Rattle.class_core.proofs.Booleans.{none_some, some_is, false_of, clash as true_false, eqb_same, eqb_other}
use Rattle.class_core.proofs.Mirroring.{mirrors_elsewhere, mirrors_granted, mirrors_weighed, mirrors_missed, mirrors_picked, weighed, missed_in, picks_answer}

abbrev Tells : ℕ → ℕ → Type 0
Tells a b = ((eqb a b ≡ true) × (a ≡ b)) ⊎ ((eqb a b ≡ false) × (a ≢ b))

abbrev pub vdev_at : List GroupState → ℕ → ℕ
vdev_at groups k = (group_at groups k).vdev

abbrev pub Rises : List GroupState → Type 0
Rises groups = (j k : ℕ) → j < k → k < length groups → vdev_at groups j < vdev_at groups k

-- two places have two vdevs
pub apart : (groups : List GroupState) → Rises groups → (j k : ℕ) → j < length groups → k < length groups → (j ≡ k → ⊥) → vdev_at groups j ≡ vdev_at groups k → ⊥
apart groups rises j k lj lk ne e = at (cases_lt j k) where
  at : (j < k) ⊎ (k ≤ j) → ⊥
  at (inl lt) = omega (arith, rises j k lt lk, e)
  at (inr le) = omega (arith, rises k j (omega (arith, le, ne)) lj, e)

map_set : (groups : List GroupState) (k : ℕ) (t : GroupState) → k < length groups → t.vdev ≡ vdev_at groups k → map (λ (g : GroupState). g.vdev) (set groups k t) ≡ map (λ (g : GroupState). g.vdev) groups
map_set [] k t lt e = absurd (omega (arith, lt))
map_set (g ∷ groups) zero t lt e = ap (λ (v : ℕ). v ∷ map (λ (x : GroupState). x.vdev) groups) e
map_set (g ∷ groups) (suc k) t lt e = ap (λ (l : List ℕ). g.vdev ∷ l) (map_set groups k t (omega (arith, lt)) e)

module _ (o : ClassOrigin) (h j : List LaneNote) (groups : List GroupState) (r s : Rotor) (place : ℕ) (t : GroupState)
    (kept : IsKept o h groups r) (lt : place < length groups) (same : t.vdev ≡ vdev_at groups place)
    (legal : IsClassLegal o j) (mirrors : Mirrors o j t)
    (others : (g : GroupState) → (vdev_at groups place ≡ g.vdev → ⊥) → Mirrors o h g → Mirrors o j g)
    (rotor : rotor_at o j ≡ record { vdev = vdev_at groups s.place; used = s.used }) (within : s.place < length groups) (small : s.used < 1048576) where
  there : (k : ℕ) → place ≡ k → group_at (set groups place t) k ≡ t
  there k e = ap (λ (n : ℕ). group_at (set groups place t) n) (sym e) ∙ get_or-set_same groups place t _ lt

  other : (k : ℕ) → (place ≡ k → ⊥) → group_at (set groups place t) k ≡ group_at groups k
  other k ne = get_or-set_other groups place k t _ (λ e. ne (sym e))

  vdev_set : (k : ℕ) → Tells place k → vdev_at (set groups place t) k ≡ vdev_at groups k
  vdev_set k (inl e) = ap (λ (g : GroupState). g.vdev) (there k e.1) ∙ (same ∙ ap (vdev_at groups) e.1)
  vdev_set k (inr e) = ap (λ (g : GroupState). g.vdev) (other k e.1)

  each_set : (k : ℕ) → k < length groups → Tells place k → Mirrors o j (group_at (set groups place t) k)
  each_set k below (inl e) = subst (Mirrors o j) (sym (there k e.1)) mirrors
  each_set k below (inr e) = subst (Mirrors o j) (sym (other k e.1)) (others (group_at groups k) (apart groups kept.rising place k lt below e.1) (kept.each k below))

  pub kept_one : IsKept o j (set groups place t) s
  kept_one = record {
    legal = legal;
    vdevs = kept.vdevs ∙ sym (map_set groups place t lt same);
    rising = λ i k below end. omega (arith, kept.rising i k below (omega (arith, end, length-set groups place t)), vdev_set i (eqb_tells place i), vdev_set k (eqb_tells place k));
    each = λ k below. each_set k (omega (arith, below, length-set groups place t)) (eqb_tells place k);
    rotor = rotor ∙ ap (λ (v : ℕ). record { vdev = v; used = s.used }) (sym (vdev_set s.place (eqb_tells place s.place)));
    place = λ some. omega (arith, within, length-set groups place t);
    small = small;
  }

-- nothing changed
pub kept_err : (o : ClassOrigin) (h : List LaneNote) (groups : List GroupState) (r : Rotor) (place : ℕ) (t : GroupState) → IsKept o h groups r → place < length groups → t ≡ group_at groups place
    → IsKept o h (set groups place t) r
kept_err o h groups r place t kept lt e =
    kept_one o h h groups r r place t kept lt (ap (λ (g : GroupState). g.vdev) e) kept.legal (subst (Mirrors o h) (sym e) (kept.each place lt)) (λ g ne m. m)
    kept.rotor (kept.place (omega (arith, lt))) kept.small

module _ (o : ClassOrigin) (h : List LaneNote) (groups : List GroupState) (r : Rotor) (lane place : ℕ) (kept : IsKept o h groups r) (lt : place < length groups) (by : IsLane lane) where
  -- the metaslab is one of its group
  index_in : (id : MsId) → IsIn o id → vdev_at groups place ≡ id.vdev → id.index < length (group_at groups place).weights
  index_in id is same = omega (arith, is.index, ap (metaslabs_of o) same, (kept.each place lt).count)

  pub kept_weighed : (id : MsId) (w : ℕ) → IsIn o id → vdev_at groups place ≡ id.vdev → IsKept o (h ++ (lane, Weigh id w) ∷ []) (set groups place (weighed (group_at groups place) id.index w)) r
  kept_weighed id w is same =
      kept_one o h (h ++ (lane, Weigh id w) ∷ []) groups r r place (weighed (group_at groups place) id.index w) kept lt refl
      (legal_push o h (lane, Weigh id w) kept.legal (by, is))
      (mirrors_weighed o h lane id w (group_at groups place) (sym same) (index_in id is same) (kept.each place lt))
      (λ g ne m. mirrors_elsewhere o h lane (Weigh id w) g (λ e. ne (same ∙ e)) m)
      (rotor_at-push o h (lane, Weigh id w) ∙ kept.rotor) (kept.place (omega (arith, lt))) kept.small

  pub kept_missed : (id : MsId) (w : ℕ) → IsIn o id → vdev_at groups place ≡ id.vdev → IsKept o (h ++ (lane, Missed id w) ∷ []) (set groups place (missed_in (group_at groups place) id.index w)) r
  kept_missed id w is same =
      kept_one o h (h ++ (lane, Missed id w) ∷ []) groups r r place (missed_in (group_at groups place) id.index w) kept lt refl
      (legal_push o h (lane, Missed id w) kept.legal (by, is))
      (mirrors_missed o h lane id w (group_at groups place) (sym same) (index_in id is same) (kept.each place lt))
      (λ g ne m. mirrors_elsewhere o h lane (Missed id w) g (λ e. ne (same ∙ e)) m)
      (rotor_at-push o h (lane, Missed id w) ∙ kept.rotor) (kept.place (omega (arith, lt))) kept.small

  abbrev pub pair : Kind → Pair
  pair kind = record { allocator = allocator_of lane; kind = kind }

  pub kept_picked : (vdev bytes : ℕ) (kind : Kind) (start : Start) (got : Option Got) (t : GroupState) → IsVdevOf o vdev → vdev_at groups place ≡ vdev → IsPick (group_at groups place) (place_of (pair kind)) bytes start got
      → Takes (group_at groups place) t (place_of (pair kind)) got
      → IsKept o (h ++ (lane, Pick (allocator_of lane) kind vdev bytes start got) ∷ []) (set groups place t) r
  kept_picked vdev bytes kind start got t is same pick takes =
      subst (λ (v : ℕ). IsKept o (h ++ (lane, Pick (allocator_of lane) kind v bytes start got) ∷ []) (set groups place t) r) same
      (kept_one o h (h ++ (lane, Pick (allocator_of lane) kind (vdev_at groups place) bytes start got) ∷ []) groups r r place t kept lt takes.vdev
      (legal_push o h (lane, Pick (allocator_of lane) kind (vdev_at groups place) bytes start got) kept.legal
      (by, (refl, (subst (IsVdevOf o) (sym same) is, picks_answer o h (group_at groups place) (kept.each place lt) bytes (pair kind) start got pick))))
      (mirrors_picked o h lane (allocator_of lane) kind bytes start got (group_at groups place) t (kept.each place lt) (takes.places ∙ (kept.each place lt).places) takes)
      (λ g ne m. mirrors_elsewhere o h lane (Pick (allocator_of lane) kind (vdev_at groups place) bytes start got) g ne m)
      (rotor_at-push o h (lane, Pick (allocator_of lane) kind (vdev_at groups place) bytes start got) ∙ kept.rotor) (kept.place (omega (arith, lt))) kept.small)

-- the vdev behind a place is that of the next place
abbrev vdevs_in : List GroupState → List ℕ
vdevs_in groups = map (λ (g : GroupState). g.vdev) groups

first_look : (groups : List GroupState) (first : ℕ) → ((0 < length groups) → first_or first (vdevs_in groups) ≡ vdev_at groups 0) × ((length groups ≤ 0) → first_or first (vdevs_in groups) ≡ first)
first_look [] first = (λ some. absurd (omega (arith, some)), λ none. refl)
first_look (g ∷ groups) first = (λ some. refl, λ none. absurd (omega (arith, none)))

next_look : (groups : List GroupState) (first k : ℕ) → Rises groups → k < length groups
    → ((suc k < length groups) → next_in first (vdevs_in groups) (vdev_at groups k) ≡ vdev_at groups (suc k)) × ((length groups ≤ suc k) → next_in first (vdevs_in groups) (vdev_at groups k) ≡ first)
next_look [] first k rises lt = absurd (omega (arith, lt))
next_look (g ∷ groups) first zero rises lt =
    let own : next_in first (vdevs_in (g ∷ groups)) g.vdev ≡ first_or first (vdevs_in groups) =
    ap (λ (b : Bool). cond b (first_or first (vdevs_in groups)) (next_in first (vdevs_in groups) g.vdev)) (eqb_same g.vdev g.vdev refl) in
    (λ more. own ∙ (first_look groups first).0 (omega (arith, more)), λ none. own ∙ (first_look groups first).1 (omega (arith, none)))
next_look (g ∷ groups) first (suc k) rises lt =
    let ne : g.vdev ≡ vdev_at groups k → ⊥ = λ e. let up : g.vdev < vdev_at groups k = rises 0 (suc k) (omega arith) lt in omega (arith, e, up) in
    let skip : next_in first (vdevs_in (g ∷ groups)) (vdev_at groups k) ≡ next_in first (vdevs_in groups) (vdev_at groups k) =
    ap (λ (b : Bool). cond b (first_or first (vdevs_in groups)) (next_in first (vdevs_in groups) (vdev_at groups k))) (eqb_other g.vdev (vdev_at groups k) ne) in
    let rest = next_look groups first k (λ i j below end. rises (suc i) (suc j) (omega (arith, below)) (omega (arith, end))) (omega (arith, lt)) in
    (λ more. skip ∙ rest.0 (omega (arith, more)), λ none. skip ∙ rest.1 (omega (arith, none)))

behind : (groups : List GroupState) (place : ℕ) → Rises groups → place < length groups → next_of (vdevs_in groups) (vdev_at groups place) ≡ vdev_at groups (next_place (length groups) place)
behind groups place rises lt = at (cases_lt (place + 1) (length groups)) where
  at : (place + 1 < length groups) ⊎ (length groups ≤ place + 1) → next_of (vdevs_in groups) (vdev_at groups place) ≡ vdev_at groups (next_place (length groups) place)
  at (inl more) =
      (next_look groups (first_or 0 (vdevs_in groups)) place rises lt).0 (omega (arith, more))
      ∙ ap (vdev_at groups) (let one : suc place ≡ place + 1 = omega arith in one ∙ sym (ap (λ (b : Bool). cond b (place + 1) 0) ((Decides-ltb (place + 1) (length groups)).1 more)))
  at (inr last) =
      (next_look groups (first_or 0 (vdevs_in groups)) place rises lt).1 (omega (arith, last))
      ∙ ((first_look groups 0).0 (omega (arith, lt))
      ∙ ap (vdev_at groups) (sym (ap (λ (b : Bool). cond b (place + 1) 0) (false_of (ltb (place + 1) (length groups)) (λ e. let up : place + 1 < length groups = (Decides-ltb (place + 1) (length groups)).0 e in omega (arith, up, last))))))

abbrev turn_at : List GroupState → Rotor → Turn
turn_at groups r = record { vdev = vdev_at groups r.place; used = r.used }

either_turn : (groups : List GroupState) (b : Bool) (n v used next place : ℕ) → n ≡ vdev_at groups next → v ≡ vdev_at groups place
    → cond b (record { vdev = n; used = 0 }) (record { vdev = v; used = used }) ≡ turn_at groups (cond b (record { place = next; used = 0 }) (record { place = place; used = used }))
either_turn groups true n v used next place e f = ap (λ (x : ℕ). record { vdev = x; used = 0 }) e
either_turn groups false n v used next place e f = ap (λ (x : ℕ). record { vdev = x; used = used }) f

within_next : (b : Bool) (count used : ℕ) (p q : Rotor) → p.place < count → q.place < count → p.used < 1048576 → (b ≡ false → q.used < 1048576) → ((cond b p q).place < count) × ((cond b p q).used < 1048576)
within_next true count used p q a c d e = (a, d)
within_next false count used p q a c d e = (c, e refl)

small_next : (used bytes : ℕ) → leb 1048576 (used + bytes) ≡ false → used + bytes < 1048576
small_next used bytes e = at (cases_lt (used + bytes) 1048576) where
  at : (used + bytes < 1048576) ⊎ (1048576 ≤ used + bytes) → used + bytes < 1048576
  at (inl lt) = lt
  at (inr le) = absurd (true_false (leb 1048576 (used + bytes)) (le-leb 1048576 (used + bytes) le) e)

next_below : (count place : ℕ) → place < count → next_place count place < count
next_below count place lt = at (ltb (place + 1) count) (λ e. (Decides-ltb (place + 1) count).0 e) where
  at : (b : Bool) → (b ≡ true → place + 1 < count) → cond b (place + 1) 0 < count
  at true more = more refl
  at false more = omega (arith, lt)

-- the rotor after bytes were granted at a place
module _ (o : ClassOrigin) (h : List LaneNote) (groups : List GroupState) (r : Rotor) (place : ℕ) (kept : IsKept o h groups r) (lt : place < length groups) (bytes : ℕ) where
  abbrev moved_here : Rotor
  moved_here = cond (leb 1048576 (r.used + bytes)) (record { place = next_place (length groups) place; used = 0 }) (record { place = place; used = r.used + bytes })

  within_at : Tells place r.place → ((rotor_next r (length groups) place bytes).place < length groups) × ((rotor_next r (length groups) place bytes).used < 1048576)
  within_at (inl e) =
      subst (λ (b : Bool). ((cond b moved_here r).place < length groups) × ((cond b moved_here r).used < 1048576)) (sym e.0)
      (within_next (leb 1048576 (r.used + bytes)) (length groups) (r.used + bytes) (record { place = next_place (length groups) place; used = 0 }) (record { place = place; used = r.used + bytes })
      (next_below (length groups) place lt) lt (omega arith) (λ f. small_next r.used bytes f))
  within_at (inr e) =
      subst (λ (b : Bool). ((cond b moved_here r).place < length groups) × ((cond b moved_here r).used < 1048576)) (sym e.0) (kept.place (omega (arith, lt)), kept.small)

  pub rotor_within : ((rotor_next r (length groups) place bytes).place < length groups) × ((rotor_next r (length groups) place bytes).used < 1048576)
  rotor_within = within_at (eqb_tells place r.place)

  abbrev turned_here : Turn
  turned_here = turned (vdevs_of o) (vdev_at groups r.place) (r.used + bytes)

  turns_at : (v : ℕ) → v ≡ vdev_at groups place → Tells place r.place → cond (eqb v (vdev_at groups r.place)) turned_here (turn_at groups r) ≡ turn_at groups (rotor_next r (length groups) place bytes)
  turns_at v same (inl e) =
      ap (λ (b : Bool). cond b turned_here (turn_at groups r)) (eqb_same v (vdev_at groups r.place) (same ∙ ap (vdev_at groups) e.1))
      ∙ (either_turn groups (leb 1048576 (r.used + bytes)) (next_of (vdevs_of o) (vdev_at groups r.place)) (vdev_at groups r.place) (r.used + bytes) (next_place (length groups) place) place
      (ap (λ (l : List ℕ). next_of l (vdev_at groups r.place)) kept.vdevs ∙ (ap (λ (k : ℕ). next_of (vdevs_in groups) (vdev_at groups k)) (sym e.1) ∙ behind groups place kept.rising lt))
      (ap (vdev_at groups) (sym e.1))
      ∙ sym (ap (λ (b : Bool). turn_at groups (cond b moved_here r)) e.0))
  turns_at v same (inr e) =
      ap (λ (b : Bool). cond b turned_here (turn_at groups r)) (eqb_other v (vdev_at groups r.place) (λ f. apart groups kept.rising place r.place lt (kept.place (omega (arith, lt))) e.1 (sym same ∙ f)))
      ∙ sym (ap (λ (b : Bool). turn_at groups (cond b moved_here r)) e.0)

  pub kept_granted : (lane : ℕ) → IsLane lane → (id : MsId) (w : ℕ) → IsIn o id → vdev_at groups place ≡ id.vdev
      → IsKept o (h ++ (lane, Granted id bytes w) ∷ []) (set groups place (weighed (group_at groups place) id.index w)) (rotor_next r (length groups) place bytes)
  kept_granted lane by id w is same =
      kept_one o h (h ++ (lane, Granted id bytes w) ∷ []) groups r (rotor_next r (length groups) place bytes) place (weighed (group_at groups place) id.index w) kept lt refl
      (legal_push o h (lane, Granted id bytes w) kept.legal (by, is))
      (mirrors_granted o h lane id bytes w (group_at groups place) (sym same) (omega (arith, is.index, ap (metaslabs_of o) same, (kept.each place lt).count)) (kept.each place lt))
      (λ g ne m. mirrors_elsewhere o h lane (Granted id bytes w) g (λ e. ne (same ∙ e)) m)
      (rotor_at-push o h (lane, Granted id bytes w)
      ∙ (ap (λ (x : Turn). cond (eqb id.vdev x.vdev) (turned (vdevs_of o) x.vdev (x.used + bytes)) x) kept.rotor ∙ turns_at id.vdev (sym same) (eqb_tells place r.place)))
      rotor_within.0 rotor_within.1

-- the same, as the calls meet it: a group was read, changed, and written back, and the note was pushed
pub renoted : (o : ClassOrigin) (h new : List LaneNote) (n : LaneNote) (groups : List GroupState) (r : Rotor) (place : ℕ) (t u : GroupState) → new ≡ h ++ n ∷ [] → u ≡ t → IsKept o (h ++ n ∷ []) (set groups place t) r → IsKept o new (set groups place u) r
renoted o h new n groups r place t u e f kept =
    subst (λ (l : List LaneNote). IsKept o l (set groups place u) r) (sym e) (subst (λ (g : GroupState). IsKept o (h ++ n ∷ []) (set groups place g) r) (sym f) kept)

pub read_back : (groups : List GroupState) (place : ℕ) (x : GroupState) → place < length groups → x ≡ get_or groups place x → x ≡ group_at groups place
read_back groups place x lt e = get_or_read groups place x lt e _

pub slice_found : (groups : List GroupState) (k v : ℕ) → slice_get (map (λ (g : GroupState). g.vdev) groups) k ≡ Some v → (k < length groups) × (vdev_at groups k ≡ v)
slice_found [] k v e = absurd (none_some v e)
slice_found (g ∷ groups) zero v e = (omega arith, some_is g.vdev v e)
slice_found (g ∷ groups) (suc k) v e = let rest = slice_found groups k v e in (omega (arith, rest.0), rest.1)

picked_within : (o : ClassOrigin) (h : List LaneNote) (v : ℕ) (p : Pair) (bytes : ℕ) (start : Start) (picked : Option Picked) → IsClassLegal o h → IsAnswer o h v p bytes start (got_of picked)
    → MatchOption picked ⊤ (λ x. x.index < metaslabs_of o v)
picked_within o h v p bytes start None legal answer = tt
picked_within o h v p bytes start (Some x) legal answer = picks_within o h legal v p bytes start (record { index = x.index; weight = x.weight }) answer

-- what a pick gave is what the journal says
pub picked_is : (o : ClassOrigin) (h : List LaneNote) (groups : List GroupState) (r : Rotor) (lane place : ℕ) → IsKept o h groups r → place < length groups
    → (vdev bytes : ℕ) (kind : Kind) (start : Start) (got : Option Got) (picked : Option Picked) (was : Bool) → got_of picked ≡ got → MatchOption picked ⊤ (λ p. p.was_active ≡ was)
    → was ≡ finds_active start (active_in (group_at groups place) (place_of (pair_of lane kind))) → vdev_at groups place ≡ vdev → IsPick (group_at groups place) (place_of (pair_of lane kind)) bytes start got
    → IsPicked (record { origin = o; notes = h }) lane kind vdev bytes start picked
picked_is o h groups r lane place kept lt vdev bytes kind start got picked was gives told is same pick =
    let p : Pair = pair_of lane kind in
    let m : Mirrors o h (group_at groups place) = kept.each place lt in
    let answer : IsAnswer o h vdev p bytes start (got_of picked) =
    subst (λ (v : ℕ). IsAnswer o h v p bytes start (got_of picked)) same
    (subst (λ (x : Option Got). IsAnswer o h (vdev_at groups place) p bytes start x) (sym gives) (picks_answer o h (group_at groups place) m bytes p start got pick)) in
    record {
      answer = answer;
      within = picked_within o h vdev p bytes start picked kept.legal answer;
      was_active = subst (λ (b : Bool). MatchOption picked ⊤ (λ p. p.was_active ≡ b))
          (is ∙ (ap (finds_active start) (sym (m.active p)) ∙ ap (λ (v : ℕ). finds_active start (active_at h v p)) same)) told;
    }
