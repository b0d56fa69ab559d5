-- How a pass is split off the rest, how passes come together, and what the closed journal has of them.
use Rattle.std.proofs.Common.{◌≡◌, ℕ, zero, suc, ◌+◌, ◌-◌, ◌<◌, ◌≤◌, Bool, true, false, cond, length, get_or, arith, List, [], ◌∷◌, ◌++◌, refl, sym, ap, ◌∙◌, subst, eq-eqb, eqb, ⊎_elim}
use Rattle.std.specs.Prelude.{◌==◌, ◌||◌, not}
use Rattle.std.specs.List.{Contains}
use Rattle.std.proofs.lemmas.Bool.{ne_eqb}
use Rattle.std.proofs.lemmas.Bool.Decides.{eqb_tells}
use Rattle.std.proofs.lemmas.List.{append-nil}
use Rattle.std.proofs.lemmas.List.Elements.{Contains-append_left, Contains-append_right}
use Rattle.lane_steps.proofs.Steps.{prefix_whole, prefix_trans}
use Rattle.turn_cell.specs.Notes.{Own, Owns, Ends, IsPrefix, has, among, without, only, notes_at}
use Rattle.turn_cell.specs.Known.{Known, TableId}
use Rattle.turn_cell.specs.Lanes.{Ready, Went, Settled}
use Rattle.turn_cell.specs.declared.kept.TheConstants.{MAX_RIGHT}
use Rattle.turn_cell.proofs.Lanes.{saw_more}
use Rattle.turn_passes.specs.Parts.{rights, IsIdle, IsFresh, IsRest, Has, Joined}

-- of rights

or_none : (b : Bool) → (b || false) ≡ b
or_none true = refl
or_none false = refl

is_among : (right : ℕ) → among (right ∷ []) right ≡ true
is_among right = or_none (right == right) ∙ eq-eqb right right refl

not_among : (right other : ℕ) → right < other → among (right ∷ []) other ≡ false
not_among right other lt = or_none (right == other) ∙ ne_eqb right other (λ e. omega arith)

module _ {N : Type 0} where
  only_above : (right low count : ℕ) → right < low → only {N = N} (right ∷ []) (rights low count) ≡ []
  only_above right low zero lt = refl
  only_above right low (suc count) lt =
      ap (λ b. cond b ((low, []) ∷ only {N = N} (right ∷ []) (rights (low + 1) count)) (only {N = N} (right ∷ []) (rights (low + 1) count))) (not_among right low lt)
      ∙ only_above right (low + 1) count (omega arith)

  without_above : (right low count : ℕ) → right < low → without {N = N} (right ∷ []) (rights low count) ≡ rights low count
  without_above right low zero lt = refl
  without_above right low (suc count) lt =
      ap (λ b. cond (not b) ((low, []) ∷ without {N = N} (right ∷ []) (rights (low + 1) count)) (without {N = N} (right ∷ []) (rights (low + 1) count))) (not_among right low lt)
      ∙ ap (λ (l : Own N). (low, []) ∷ l) (without_above right (low + 1) count (omega arith))

  only_first : (right count : ℕ) → only {N = N} (right ∷ []) (rights right (suc count)) ≡ (right, []) ∷ []
  only_first right count =
      ap (λ b. cond b ((right, []) ∷ only {N = N} (right ∷ []) (rights (right + 1) count)) (only {N = N} (right ∷ []) (rights (right + 1) count))) (is_among right)
      ∙ ap (λ (l : Own N). (right, []) ∷ l) (only_above right (right + 1) count (omega arith))

  without_first : (right count : ℕ) → without {N = N} (right ∷ []) (rights right (suc count)) ≡ rights (right + 1) count
  without_first right count =
      ap (λ b. cond (not b) ((right, []) ∷ without {N = N} (right ∷ []) (rights (right + 1) count)) (without {N = N} (right ∷ []) (rights (right + 1) count))) (is_among right)
      ∙ without_above right (right + 1) count (omega arith)

  rights_at : (low count right : ℕ) → low ≤ right → right < low + count → Contains {X = ℕ × List N} (rights low count) (right, [])
  rights_at low zero right from to = absurd (omega arith)
  rights_at low (suc count) right from to =
      ⊎_elim
      (λ (t : (eqb low right ≡ true) × (low ≡ right)). (0, omega arith, ap (λ (x : ℕ). (x, [])) t.1))
      (λ (t : (eqb low right ≡ false) × (low ≡ right → ⊥)). let later = rights_at (low + 1) count right (omega arith) (omega arith) in (suc later.0, omega (arith, later.1), later.2))
      (eqb_tells low right)

  only_none : (own : Own N) → only [] own ≡ []
  only_none [] = refl
  only_none (e ∷ own) = only_none own

  without_none : (own : Own N) → without [] own ≡ own
  without_none [] = refl
  without_none (e ∷ own) = ap (λ (l : Own N). e ∷ l) (without_none own)

has_first : (N : Type 0) (right count : ℕ) → has {N = N} (rights right (suc count)) right ≡ true
has_first N right count = ap (λ b. b || has {N = N} (rights (right + 1) count) right) (eq-eqb right right refl)

-- so many rights are left
rights_left : (right : ℕ) → right ≤ MAX_RIGHT → MAX_RIGHT + 1 - right ≡ suc (MAX_RIGHT - right)
rights_left right low = omega arith

module _ {N F : Type 0} where
  pub rest_has : (right : ℕ) (turn : TableId) (p : Known N F) → right ≤ MAX_RIGHT → IsRest right turn p → has p.own right ≡ true
  rest_has right turn p low r = ap (λ (o : Own N). has o right) (r.own ∙ ap (λ c. rights right c) (rights_left right low)) ∙ has_first N right (MAX_RIGHT - right)

  pub rest_left : (right : ℕ) (turn : TableId) (p q : Known N F) → right ≤ MAX_RIGHT → IsRest right turn p → q ≡ record p { own = without (right ∷ []) p.own } → IsRest (right + 1) turn q
  rest_left right turn p q low r e = record {
    at = ap (λ (k : Known N F). k.turn) e ∙ r.at;
    idle = ap (λ (k : Known N F). k.out) e ∙ r.idle;
    seen = ap (λ (k : Known N F). k.seen) e ∙ r.seen;
    own =
        ap (λ (k : Known N F). k.own) e
        ∙ (ap (without (right ∷ [])) (r.own ∙ ap (λ c. rights right c) (rights_left right low))
        ∙ (without_first right (MAX_RIGHT - right) ∙ ap (λ c. rights (right + 1) c) (omega arith)));
  }

  pub rest_part : (right : ℕ) (turn : TableId) (p q : Known N F) → right ≤ MAX_RIGHT → IsRest right turn p
      → q ≡ record p { own = only (right ∷ []) p.own; out = false; tries = []; counts = [] } → IsFresh right turn q
  rest_part right turn p q low r e = record {
    at = ap (λ (k : Known N F). k.turn) e ∙ r.at;
    idle = ap (λ (k : Known N F). k.out) e;
    seen = ap (λ (k : Known N F). k.seen) e ∙ r.seen;
    own =
        ap (λ (k : Known N F). k.own) e
        ∙ (ap (only (right ∷ [])) (r.own ∙ ap (λ c. rights right c) (rights_left right low)) ∙ only_first right (MAX_RIGHT - right));
  }

  -- of two passes, of which one has what the other had

  pub has_itself : (p : Known N F) → Has p p
  has_itself p = record { rights = λ e there. there; seen = prefix_whole p.seen }

  pub has_along : (p q r : Known N F) → Has r q → Has q p → Has r p
  has_along p q r later earlier = record {
    rights = λ e there. later.rights e (earlier.rights e there);
    seen = prefix_trans p.seen q.seen r.seen earlier.seen later.seen;
  }

  pub joined_is : (p q r : Known N F) → p.out ≡ false → r ≡ record p { seen = r.seen; own = p.own ++ q.own } → IsPrefix p.seen r.seen × IsPrefix q.seen r.seen → Joined p q r
  joined_is p q r idle e seen = let own : r.own ≡ p.own ++ q.own = ap (λ (k : Known N F). k.own) e in record {
    at = ap (λ (k : Known N F). k.turn) e;
    idle = ap (λ (k : Known N F). k.out) e ∙ idle;
    fixed = ap (λ (k : Known N F). k.fixed) e;
    first = record { rights = λ x there. subst (λ (o : Own N). Contains o x) (sym own) (Contains-append_left p.own q.own x there); seen = seen.0 };
    second = record { rights = λ x there. subst (λ (o : Own N). Contains o x) (sym own) (Contains-append_right p.own q.own x there); seen = seen.1 };
  }

  -- what a pass is after one without rights was joined to it
  pub told_is : (p q r : Known N F) → q ≡ record p { own = only [] p.own; out = false; tries = []; counts = [] } → (s : Known N F) → r ≡ record s { seen = r.seen; own = s.own ++ q.own } → r ≡ record s { seen = r.seen }
  told_is p q r part s e =
      let none : q.own ≡ [] = ap (λ (k : Known N F). k.own) part ∙ only_none p.own in
      e ∙ ap (λ (o : Own N). record s { seen = r.seen; own = o }) (ap (λ (o : Own N). s.own ++ o) none ∙ append-nil s.own)

  pub left_is : (p q : Known N F) → q ≡ record p { own = without [] p.own } → q ≡ p
  left_is p q e = e ∙ ap (λ (o : Own N). record p { own = o }) (without_none p.own)

  pub told_went : (right : N → ℕ) (lane : ℕ) (turn : TableId) (p q : Known N F) → Ready right lane turn p → q ≡ record p { seen = q.seen } → IsPrefix p.seen q.seen → Owns right q.own q.seen
      → Went right lane [] p q
  told_went right lane turn p q r e begins owns =
      subst (Went right lane [] p) (sym e)
      (saw_more right lane turn p q.seen p.tries p.counts r begins (subst (λ (o : Own N). Owns right o q.seen) (ap (λ (k : Known N F). k.own) e) owns))

  pub ready_fresh : (right : N → ℕ) (lane : ℕ) (turn : TableId) (p : Known N F) → IsFresh lane turn p → Ready right lane turn p
  ready_fresh right lane turn p f = record {
    at = f.at;
    idle = f.idle;
    own = f.own ∙ ap (λ (h : List N). (lane, notes_at right lane h) ∷ []) (sym f.seen);
  }

  pub idle_ready : (right : N → ℕ) (lane : ℕ) (turn : TableId) (p : Known N F) → Ready right lane turn p → IsIdle turn p
  idle_ready right lane turn p r = record { at = r.at; idle = r.idle }

  pub idle_rest : (right : ℕ) (turn : TableId) (p : Known N F) → IsRest right turn p → IsIdle turn p
  idle_rest right turn p r = record { at = r.at; idle = r.idle }

  pub idle_joined : (turn : TableId) (p q r : Known N F) → IsIdle turn p → Joined p q r → IsIdle turn r
  idle_joined turn p q r i j = record { at = j.at ∙ i.at; idle = j.idle }

module _ {N : Type 0} (right : N → ℕ) where
  -- the notes beside a right are those of the journal that need it
  pub owned_in : (own : Own N) (j : List N) (e : ℕ × List N) → Owns right own j → (k : ℕ) → k < length own → get_or own k e ≡ e → e.1 ≡ notes_at right e.0 j
  owned_in [] j e w k lt is = absurd (omega arith)
  owned_in (x ∷ own) j e w zero lt is = subst (λ (y : ℕ × List N). y.1 ≡ notes_at right y.0 j) is w.0
  owned_in (x ∷ own) j e w (suc k) lt is = owned_in own j e w.1 k (omega arith) is

module _ {N F : Type 0} (right : N → ℕ) where
  -- a lane whose pass the closing one has knew all its notes of the journal
  pub has_settled : (lane : ℕ) (turn : TableId) (p q : Known N F) (j : List N) → Ready right lane turn p → Has q p → Ends right q.own q.seen j → Settled right lane p.seen j
  has_settled lane turn p q j r h ends =
      let mine : Contains p.own (lane, notes_at right lane p.seen) = subst (λ (o : Own N). Contains o (lane, notes_at right lane p.seen)) (sym r.own) (0, omega arith, refl) in
      let there = h.rights (lane, notes_at right lane p.seen) mine in
      record {
        begins = prefix_trans p.seen q.seen j h.seen ends.begins;
        same = owned_in right q.own j (lane, notes_at right lane p.seen) ends.owns there.0 there.1 there.2;
      }

  -- and a right that nobody used has no note of the journal
  pub unused_none : (from unused : ℕ) (turn : TableId) (p q : Known N F) (j : List N) → from ≤ unused → unused ≤ MAX_RIGHT → IsRest from turn p → Has q p → Ends right q.own q.seen j
      → notes_at right unused j ≡ []
  unused_none from unused turn p q j least low r h ends =
      let mine : Contains p.own (unused, []) = subst (λ (o : Own N). Contains o (unused, [])) (sym r.own) (rights_at from (MAX_RIGHT + 1 - from) unused least (omega arith)) in
      let there = h.rights (unused, []) mine in
      sym (owned_in right q.own j (unused, []) ends.owns there.0 there.1 there.2)
