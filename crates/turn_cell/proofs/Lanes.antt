-- A lane's pass, over the calls of a turn, and what the closed journal has of several lanes.
use Rattle.std.proofs.Common.{◌≡◌, ℕ, zero, suc, ◌<◌, length, get_or, map, arith, true, false, List, [], ◌∷◌, ◌++◌, refl, sym, ap, ◌∙◌, subst, Option}
use Rattle.std.specs.Prelude.{IfSome}
use Rattle.std.specs.Option.{option_to_list}
use Rattle.std.specs.List.{All}
use Rattle.std.proofs.lemmas.List.{append-nil}
use Rattle.lane_steps.proofs.Steps.{notes_at-append, prefix_trans, quiet_of, quiet_none, follows_both, follows_settled}
use Rattle.turn_cell.specs.Notes.{notes_at, Own, Owns, IsPrefix, Ends, with_notes}
use Rattle.turn_cell.specs.Known.{Known, TableId}
use Rattle.turn_cell.specs.Lanes.{Step, Follows, Settled, Ready, Went, fresh}

-- what the pass has as its own is what the journal has, as far as it is seen
owned : {N : Type 0} (right : N → ℕ) (lane : ℕ) (own : Own N) (h j : List N) → own ≡ (lane, notes_at right lane h) ∷ [] → Owns right own j → notes_at right lane h ≡ notes_at right lane j
owned right lane own h j is w = let v : Owns right ((lane, notes_at right lane h) ∷ []) j = subst (λ o. Owns right o j) is w in v.0

module _ {N F : Type 0} (right : N → ℕ) (lane : ℕ) where
  pub ready_fresh : (turn : TableId) (fixed : F) → Ready right lane turn (fresh lane turn fixed)
  ready_fresh turn fixed = record { at = refl; idle = refl; own = refl }

  pub ready_after : (turn : TableId) (steps : List (Step N)) (p q : Known N F) → Ready right lane turn p → Went right lane steps p q → Ready right lane turn q
  ready_after turn steps p q r w = record { at = w.at ∙ r.at; idle = w.idle; own = w.own }

  pub went_none : (turn : TableId) (p : Known N F) → Ready right lane turn p → Went right lane [] p p
  went_none turn p r = record { at = refl; fixed = refl; idle = r.idle; own = r.own; follows = quiet_none right lane p.seen }

  pub went_both : (ss ts : List (Step N)) (p q r : Known N F) → Went right lane ss p q → Went right lane ts q r → Went right lane (ss ++ ts) p r
  went_both ss ts p q r v w = record {
    at = w.at ∙ v.at;
    fixed = w.fixed ∙ v.fixed;
    idle = w.idle;
    own = w.own;
    follows = follows_both right lane p.seen ss q.seen ts r.seen v.follows w.follows;
  }

  -- the pass saw more of the journal
  pub saw_more : (turn : TableId) (p : Known N F) (seen : List N) (tries counts : List ℕ) → Ready right lane turn p → IsPrefix p.seen seen → Owns right p.own seen
      → Went right lane [] p (record p { seen = seen; tries = tries; counts = counts })
  saw_more turn p seen tries counts r begins owns = let same = owned right lane p.own p.seen seen r.own owns in record {
    at = refl;
    fixed = refl;
    idle = r.idle;
    own = r.own ∙ ap (λ (l : List N). (lane, l) ∷ []) same;
    follows = quiet_of right lane p.seen seen begins same;
  }

  turned_at : (turn : TableId) (p : Known N F) (j k : List N) (tries : List ℕ) (note : Option N) → Ready right lane turn p → IsPrefix p.seen j → Owns right p.own j
      → k ≡ j ++ option_to_list note → IfSome note (λ n. right n ≡ lane)
      → Went right lane (record { before = j; note = note } ∷ []) p (record p { seen = k; own = with_notes right (option_to_list note) p.own; out = false; tries = tries })
  turned_at turn p j k tries note r begins owns is need = let ns : List N = option_to_list note in let same = owned right lane p.own p.seen j r.own owns in record {
    at = refl;
    fixed = refl;
    idle = refl;
    own =
        ap (with_notes right ns) r.own
        ∙ ap (λ (l : List N). (lane, l) ∷ []) (ap (λ (l : List N). l ++ notes_at right lane ns) same ∙ (sym (notes_at-append right lane j ns) ∙ ap (notes_at right lane) (sym is)));
    follows = (quiet_of right lane p.seen j begins same, (need, record { more = []; is = append-nil (j ++ ns) ∙ sym is; none = refl }));
  }

  -- a turn that was taken and given back
  pub turned : (turn : TableId) (p took q : Known N F) (j k : List N) (tries : List ℕ) (note : Option N) → Ready right lane turn p → took ≡ record p { seen = j; out = true; tries = tries }
      → IsPrefix p.seen j → Owns right took.own took.seen → q ≡ record took { seen = k; own = with_notes right (option_to_list note) took.own; out = false }
      → k ≡ j ++ option_to_list note → IfSome note (λ n. right n ≡ lane) → Went right lane (record { before = j; note = note } ∷ []) p q
  turned turn p took q j k tries note r takes begins owns gives is need =
      let same : q ≡ record p { seen = k; own = with_notes right (option_to_list note) p.own; out = false; tries = tries } =
      gives ∙ ap (λ (x : Known N F). record x { seen = k; own = with_notes right (option_to_list note) x.own; out = false }) takes in
      subst (Went right lane (record { before = j; note = note } ∷ []) p) (sym same)
      (turned_at turn p j k tries note r begins (subst (λ (x : Known N F). Owns right x.own x.seen) takes owns) is need)

  -- from a pass to the closed journal
  pub went_settled : (steps : List (Step N)) (p q : Known N F) (j : List N) → Went right lane steps p q → p.seen ≡ [] → Settled right lane q.seen j → Follows right lane [] steps j
  went_settled steps p q j w empty settled = subst (λ h. Follows right lane h steps j) empty (follows_settled right lane p.seen steps q.seen j w.follows settled)

module _ {N : Type 0} (right : N → ℕ) where
  -- lanes, each with the journal as it knew it: what they have as their own
  abbrev pub own_of : List (ℕ × List N) → Own N
  own_of lanes = map (λ e. (e.0, notes_at right e.0 e.1)) lanes

  own_of-at : (lanes : List (ℕ × List N)) (j : List N) → Owns right (own_of lanes) j → (k : ℕ) (d : ℕ × List N) → k < length lanes
      → notes_at right (get_or lanes k d).0 (get_or lanes k d).1 ≡ notes_at right (get_or lanes k d).0 j
  own_of-at [] j w k d lt = absurd (omega arith)
  own_of-at (e ∷ lanes) j w zero d lt = w.0
  own_of-at (e ∷ lanes) j w (suc k) d lt = own_of-at lanes j w.1 k d (omega arith)

  -- lanes whose passes were joined knew all their notes of the journal
  pub settled_all : (lanes : List (ℕ × List N)) (h j : List N) → All (λ e. IsPrefix e.1 h) lanes → Ends right (own_of lanes) h j → All (λ e. Settled right e.0 e.1 j) lanes
  settled_all lanes h j known ends k d lt = record {
    begins = prefix_trans (get_or lanes k d).1 h j (known k d lt) ends.begins;
    same = own_of-at lanes j ends.owns k d lt;
  }

  pub settled_two : (a b : ℕ) (p q h j : List N) → IsPrefix p h × IsPrefix q h → Ends right (own_of ((a, p) ∷ (b, q) ∷ [])) h j → Settled right a p j × Settled right b q j
  settled_two a b p q h j known ends = (
    record { begins = prefix_trans p h j known.0 ends.begins; same = ends.owns.0 },
    record { begins = prefix_trans q h j known.1 ends.begins; same = ends.owns.1.0 },
  )

-- two lanes whose passes were joined, and what the closed journal has of them
pub settled_both : {N F : Type 0} (right : N → ℕ) (a b : ℕ) (turn : TableId) (p q : Known N F) (own : Own N) (h j : List N) → Ready right a turn p → Ready right b turn q → own ≡ p.own ++ q.own
    → IsPrefix p.seen h × IsPrefix q.seen h → Ends right own h j → Settled right a p.seen j × Settled right b q.seen j
settled_both right a b turn p q own h j r s is known ends =
    settled_two right a b p.seen q.seen h j known record { begins = ends.begins; owns = subst (λ o. Owns right o j) (is ∙ λ k. r.own k ++ s.own k) ends.owns }
