-- From one pass to all: what happens at the metaslab of one number happens at no other cell.
use Rattle.std.proofs.Common.{◌≡◌, ◌≢◌, ℕ, zero, suc, ◌<◌, cond, List, [], ◌∷◌, ◌++◌, length, get_or, set, refl, sym, ap, ◌∙◌, subst, arith, eq-eqb, Option, Some, Result}
use Rattle.std.specs.Prelude.{slice_get}
use Rattle.std.proofs.Math.ListN.{length-set}
use Rattle.std.proofs.lemmas.Bool.{ne_eqb}
use Rattle.std.proofs.lemmas.Option.{slice_get_within}
use Rattle.zms_units.specs.declared.places.MsId.{MsId}
use Rattle.vdev_map.specs.Numbers.{IsIn, number_of, row_at}
use Rattle.turn_cell.specs.Known.{Known, TableId}
use Rattle.turn_cell.specs.Lanes.{Step, Ready, Went}
use Rattle.turn_cell.proofs.Lanes.{went_none}
use Rattle.turn_passes.proofs.Pairs.{each_set, one_item, read_at}
use Rattle.ms_model.specs.Origin.{Origin}
use Rattle.ms_model.specs.Parts.{right_of, gate_right}
use Rattle.ms_model.specs.Events.{Event, at_metaslab, gate_steps, metaslab_steps}
use Rattle.ms_model.specs.declared.notes.Noted.{Noted}
use Rattle.ms_core.specs.declared.kept.Standing.{Standing}
use Rattle.ms_cell.specs.declared.answers.CellFault.{CellFault}
use Rattle.ms_cell.specs.Turns.{Turns, origin_from}
use Rattle.ms_cell.specs.Passes.{Passes, KnowsAt, Seated, fixed_of, seen_of, tries_of, origin_in, seen_in}
use Rattle.ms_cell.specs.Journey.{Journey, Turned, TurnedOne, Tried, TriedOne, word_of}

pub some_at : {A : Type 0} (xs : List A) (k : ℕ) → k < length xs → (x : A) × (slice_get xs k ≡ Some x)
some_at [] k lt = absurd (omega arith)
some_at (x ∷ xs) zero lt = (x, refl)
some_at (x ∷ xs) (suc k) lt = some_at xs k (omega arith)

get_set_there : {A : Type 0} (xs : List A) (k : ℕ) (v : A) → k < length xs → slice_get (set xs k v) k ≡ Some v
get_set_there [] k v lt = absurd (omega arith)
get_set_there (x ∷ xs) zero v lt = refl
get_set_there (x ∷ xs) (suc k) v lt = get_set_there xs k v (omega arith)

-- the pass at a place is the holder's, and its turn is the one at that place
pub ready_at : (right : ℕ) (t : Turns) (p : Passes) (k : ℕ) (turn : TableId) (c : Known Noted Standing) → Seated right t p → slice_get t.metaslabs k ≡ Some turn → slice_get p.metaslabs k ≡ Some c
    → Ready right_of right turn c
ready_at right t p k turn c s e f = s.each.at k turn c e f

pub went_still : (right : ℕ) (t : Turns) (p : Passes) (k : ℕ) (c : Known Noted Standing) → Seated right t p → slice_get p.metaslabs k ≡ Some c → Went right_of right [] c c
went_still right t p k c s f =
    let turn = some_at t.metaslabs k (omega (arith, s.know.count, slice_get_within p.metaslabs k c f)) in
    went_none right_of right turn.0 c (s.each.at k turn.0 c turn.1 f)

pub step_there : (k : ℕ) (s : Step Noted) → metaslab_steps k (at_metaslab k s ∷ []) ≡ s ∷ []
step_there k s = ap (λ b. cond b (s ∷ []) []) (eq-eqb k k refl)

pub step_elsewhere : (k j : ℕ) (s : Step Noted) → j ≢ k → metaslab_steps j (at_metaslab k s ∷ []) ≡ []
step_elsewhere k j s ne = ap (λ b. cond b (s ∷ []) []) (ne_eqb k j (λ e. ne (sym e)))

-- events at one metaslab alone
pub lift : (right : ℕ) (events : List Event) (t : Turns) (p : Passes) (k : ℕ) (c d : Known Noted Standing) → Seated right t p → slice_get p.metaslabs k ≡ Some c → gate_steps events ≡ []
    → ((j : ℕ) → j ≢ k → metaslab_steps j events ≡ []) → Went right_of right (metaslab_steps k events) c d → Journey right events p (record p { metaslabs = set p.metaslabs k d })
lift right events t p k c d s there quiet elsewhere went = record {
  gate = subst (λ (l : List (Step _)). Went gate_right right l p.gate p.gate) (sym quiet) (went_none gate_right right t.gate p.gate s.gate);
  count = length-set p.metaslabs k d;
  each =
      each_set (λ j x y. (x ≡ y) × (slice_get p.metaslabs j ≡ Some x)) (λ j x y. Went right_of right (metaslab_steps j events) x y) p.metaslabs p.metaslabs k d
      (record { at = λ j x y e f. (one_item p.metaslabs j x y e f, e) })
      (λ j x y ne same.
      subst (λ (z : Known Noted Standing). Went right_of right (metaslab_steps j events) x z) same.0
      (subst (λ (l : List (Step Noted)). Went right_of right l x x) (sym (elsewhere j ne)) (went_still right t p j x s same.1)))
      (λ x e. subst (λ (z : Known Noted Standing). Went right_of right (metaslab_steps k events) z d) (one_item p.metaslabs k c x there e) went);
}

origin_at_place : (p : Passes) (k : ℕ) (c : Known Noted Standing) → slice_get p.metaslabs k ≡ Some c → origin_in p k ≡ origin_from c.fixed
origin_at_place p k c e = ap (λ x. origin_from (fixed_of x)) e

turned_at : (right : ℕ) (Answer : Origin → List Noted → Option Noted → Type 0) (t : Turns) (p : Passes) (k : ℕ) (c d : Known Noted Standing) → Seated right t p → slice_get p.metaslabs k ≡ Some c
    → TurnedOne right Answer c d → Turned right k Answer p (record p { metaslabs = set p.metaslabs k d })
turned_at right Answer t p k c d s there one =
    let step : Step Noted = record { before = one.before; note = one.note } in
    record {
      before = one.before;
      note = one.note;
      journey =
          lift right (at_metaslab k step ∷ []) t p k c d s there refl (λ j ne. step_elsewhere k j step ne)
          (subst (λ (l : List (Step Noted)). Went right_of right l c d) (sym (step_there k step)) one.went);
      answer = subst (λ (o : Origin). Answer o one.before one.note) (sym (origin_at_place p k c there)) one.answer;
    }

-- the same, as the calls at an id meet it: the cells and the passes are open, and the place was read
pub turned_in : (right : ℕ) (Answer : Origin → List Noted → Option Noted → Type 0) (t : Turns) (p now : Passes) (at k : ℕ) (c d : Known Noted Standing) → p ≡ now → at ≡ k → Seated right t now
    → at < length p.metaslabs → c ≡ get_or p.metaslabs at c → TurnedOne right Answer c d → Turned right k Answer now (record p { metaslabs = set p.metaslabs at d })
turned_in right Answer t p now at k c d is place s lt read one =
    subst (λ (n : ℕ). Turned right n Answer now (record p { metaslabs = set p.metaslabs at d })) place
    (subst (λ (x : Passes). Turned right at Answer x (record p { metaslabs = set p.metaslabs at d })) is
    (turned_at right Answer t p at c d (subst (Seated right t) (sym is) s) (read_at p.metaslabs at c lt read) one))

pub tried_in : {A : Type 0} (right : ℕ) (result : Result A CellFault) (Answer : Origin → List Noted → Option Noted → Type 0) (t : Turns) (p now : Passes) (at k : ℕ) (c d : Known Noted Standing) → p ≡ now → at ≡ k
    → Seated right t now → at < length p.metaslabs → c ≡ get_or p.metaslabs at c → TriedOne right result Answer c d → Tried right k result Answer now (record p { metaslabs = set p.metaslabs at d })
tried_in right result Answer t p now at k c d is place s lt read one =
    let seated = subst (Seated right t) (sym is) s in
    let there = read_at p.metaslabs at c lt read in
    subst (λ (n : ℕ). Tried right n result Answer now (record p { metaslabs = set p.metaslabs at d })) place
    (subst (λ (x : Passes). Tried right at result Answer x (record p { metaslabs = set p.metaslabs at d })) is
    (record {
      tries = ap tries_of (get_set_there p.metaslabs at d lt) ∙ (one.tries ∙ ap (λ (l : List ℕ). l ++ word_of result ∷ []) (sym (ap tries_of there)));
      busy = λ b. lift right [] t p at c d seated there refl (λ j ne. refl) (one.busy b);
      turn = λ b. turned_at right Answer t p at c d seated there (one.turn b);
    }))

-- what the calls at an id need of the pass that they read
pub ready_in : (right : ℕ) (t board : Turns) (p now : Passes) (at : ℕ) (turn : TableId) (c : Known Noted Standing) → t ≡ board → p ≡ now → Seated right board now → at < length t.metaslabs
    → turn ≡ get_or t.metaslabs at turn → c ≡ get_or p.metaslabs at c → Ready right_of right turn c
ready_in right t board p now at turn c is opens s lt read found =
    let seated : Seated right t p = subst (λ (x : Turns). Seated right x p) (sym is) (subst (Seated right board) (sym opens) s) in
    seated.each.at at turn c (read_at t.metaslabs at turn lt read) (read_at p.metaslabs at c (omega (arith, seated.know.count)) found)

pub below_in : (right : ℕ) (t board : Turns) (p now : Passes) (at : ℕ) → t ≡ board → p ≡ now → Seated right board now → at < length t.metaslabs → at < length p.metaslabs
below_in right t board p now at is opens s lt =
    let seated : Seated right t p = subst (λ (x : Turns). Seated right x p) (sym is) (subst (Seated right board) (sym opens) s) in
    omega (arith, seated.know.count)

pub units_in : (right : ℕ) (board : Turns) (p now : Passes) (at : ℕ) (c : Known Noted Standing) (id : MsId) → p ≡ now → Seated right board now → at < length p.metaslabs → c ≡ get_or p.metaslabs at c
    → ((other : MsId) → IsIn board.vdevs other → number_of board.vdevs other ≡ at → other ≡ id) → (row_at board.vdevs id.vdev).units ≡ (origin_from c.fixed).units
units_in right board p now at c id opens s lt found one_to_one =
    let knows : KnowsAt board at c = s.know.each at c (subst (λ (x : Passes). slice_get x.metaslabs at ≡ Some c) opens (read_at p.metaslabs at c lt found)) in
    let same : knows.standing.id ≡ id = one_to_one knows.standing.id knows.stands.inside knows.stands.place in
    ap (λ (i : MsId). (row_at board.vdevs i.vdev).units) (sym same) ∙ (sym knows.stands.units ∙ ap (λ f. (origin_from f).units) (sym knows.is))

pub origin_read : (p now : Passes) (at k : ℕ) (c : Known Noted Standing) → p ≡ now → at ≡ k → at < length p.metaslabs → c ≡ get_or p.metaslabs at c → origin_in now k ≡ origin_from c.fixed
origin_read p now at k c opens place lt found = subst (λ (n : ℕ). origin_in now n ≡ origin_from c.fixed) place (subst (λ (x : Passes). origin_in x at ≡ origin_from c.fixed) opens (origin_at_place p at c (read_at p.metaslabs at c lt found)))

pub seen_read : (p now : Passes) (at k : ℕ) (c : Known Noted Standing) → p ≡ now → at ≡ k → at < length p.metaslabs → c ≡ get_or p.metaslabs at c → seen_in now k ≡ c.seen
seen_read p now at k c opens place lt found = subst (λ (n : ℕ). seen_in now n ≡ c.seen) place (subst (λ (x : Passes). seen_in x at ≡ c.seen) opens (ap seen_of (read_at p.metaslabs at c lt found)))

-- a pass that was told what another had seen
pub told_in : (right : ℕ) (t : Turns) (p now : Passes) (at : ℕ) (c d : Known Noted Standing) → p ≡ now → Seated right t now → at < length p.metaslabs → c ≡ get_or p.metaslabs at c → Went right_of right [] c d
    → Journey right [] now (record p { metaslabs = set p.metaslabs at d })
told_in right t p now at c d is s lt read went =
    subst (λ (x : Passes). Journey right [] x (record p { metaslabs = set p.metaslabs at d })) is
    (lift right [] t p at c d (subst (Seated right t) (sym is) s) (read_at p.metaslabs at c lt read) refl (λ j ne. refl) went)

pub seen_set : (p : Passes) (at k : ℕ) (d : Known Noted Standing) → at ≡ k → at < length p.metaslabs → d.seen ≡ seen_in (record p { metaslabs = set p.metaslabs at d }) k
seen_set p at k d place lt = subst (λ (n : ℕ). d.seen ≡ seen_in (record p { metaslabs = set p.metaslabs at d }) n) place (sym (ap seen_of (get_set_there p.metaslabs at d lt)))
