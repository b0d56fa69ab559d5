-- One turn over one pass: what was taken, what was given back, and what the pass then knows.
use Rattle.std.proofs.Common.{◌≡◌, ℕ, Bool, true, false, ◌||◌, List, [], ◌∷◌, ◌++◌, refl, sym, ap, ◌∙◌, subst, eq-eqb, Option, Some, None, Result, Ok, Err}
use Rattle.std.specs.Prelude.{IfSome}
use Rattle.std.specs.Option.{option_to_list}
use Rattle.turn_cell.specs.Notes.{Owns, IsPrefix, StandsFor, has, with_notes, notes_at}
use Rattle.turn_cell.specs.Known.{Known, TableId}
use Rattle.turn_cell.specs.Lanes.{Ready}
use Rattle.turn_cell.proofs.Lanes.{turned}
use Rattle.turn_cell.proofs.Notes.{with_notes-none}
use Rattle.ms_model.specs.Origin.{Origin}
use Rattle.ms_model.specs.Parts.{right_of}
use Rattle.ms_model.specs.declared.notes.Noted.{Noted}
use Rattle.ms_core.specs.State.{MsState, origin_of}
use Rattle.ms_core.specs.Standing.{standing_of, origin_at}
use Rattle.ms_core.specs.declared.kept.Standing.{Standing}
use Rattle.ms_cell.specs.Turns.{origin_from}
use Rattle.zms_units.specs.declared.segments.Group.{Group}
use Rattle.zms_units.specs.declared.segments.Seg.{Seg}
use Rattle.ms_cell.specs.declared.answers.Look.{Look}
use Rattle.ms_cell.specs.declared.answers.CellFault.{CellFault}
use Rattle.ms_cell.specs.declared.answers.CellFault.TheVariants.{Busy, Ms, Memory}
use Rattle.ms_cell.specs.Answers.{GrantAnswer, FreeAnswer}
use Rattle.ms_cell.specs.Journey.{TurnedOne, TriedOne, is_busy, word_of}

-- a metaslab stands for what its pass says
abbrev pub Stands : Standing → MsState → Type 0
Stands f m = standing_of m ≡ f

pub origin_is : (fixed : Option Standing) (m : MsState) → StandsFor Stands fixed m → origin_of m ≡ origin_from fixed
origin_is None m s = absurd s
origin_is (Some f) m s = ap origin_at s

pub still_stands : (fixed : Option Standing) (m n : MsState) → standing_of n ≡ standing_of m → StandsFor Stands fixed m → StandsFor Stands fixed n
still_stands None m n e s = s
still_stands (Some f) m n e s = e ∙ s

module _ {N F : Type 0} (right : N → ℕ) where
  -- a turn that was given back without a note
  pub given_back : (p took q : Known N F) (j k : List N) (tries : List ℕ) → p.out ≡ false → took ≡ record p { seen = j; out = true; tries = tries }
      → q ≡ record took { seen = k; own = with_notes right [] took.own; out = false } → q ≡ record p { seen = k; tries = tries }
  given_back p took q j k tries idle takes gives =
      gives
      ∙ (ap (λ (x : Known N F). record x { seen = k; own = with_notes right [] x.own; out = false }) takes
      ∙ (λ i. record p { seen = k; own = with_notes-none right p.own i; out = sym idle i; tries = tries }))

  -- the lane's pass may note what needs the lane's right
  pub may_note : (lane : ℕ) (turn : TableId) (p took : Known N F) (j : List N) (tries : List ℕ) (note : Option N) → Ready right lane turn p → took ≡ record p { seen = j; out = true; tries = tries }
      → IfSome note (λ n. right n ≡ lane) → IfSome note (λ n. has took.own (right n) ≡ true)
  may_note lane turn p took j tries None r takes own = own
  may_note lane turn p took j tries (Some n) r takes own =
      let is : took.own ≡ (lane, notes_at right lane p.seen) ∷ [] = ap (λ (k : Known N F). k.own) takes ∙ r.own in
      ap (λ o. has o (right n)) is ∙ ap (λ b. b || false) (eq-eqb lane (right n) (sym own))

-- a holder took the turn, left the metaslab as the note says, and gave it back
pub turned_one : (right : ℕ) (turn : TableId) (Answer : Origin → List Noted → Option Noted → Type 0) (p took q : Known Noted Standing) (m n : MsState) (note : Option Noted)
    → Ready right_of right turn p → took ≡ record p { seen = m.notes; out = true; tries = took.tries } → IsPrefix p.seen m.notes → Owns right_of took.own took.seen
    → StandsFor Stands p.fixed m → q ≡ record took { seen = n.notes; own = with_notes right_of (option_to_list note) took.own; out = false }
    → n.notes ≡ m.notes ++ option_to_list note → IfSome note (λ x. right_of x ≡ right) → Answer (origin_of m) m.notes note → TurnedOne right Answer p q
turned_one right turn Answer p took q m n note r takes begins owns stands gives is own answer = record {
  before = m.notes;
  note = note;
  went = turned right_of right turn p took q m.notes n.notes took.tries note r takes begins owns gives is own;
  answer = subst (λ (o : Origin). Answer o m.notes note) (origin_is p.fixed m stands) answer;
}

-- two times the same: nothing but what was seen and tried changed
pub as_seen : {N F : Type 0} (p q r : Known N F) (k : List N) (tries : List ℕ) → q ≡ record p { seen = q.seen; tries = q.tries } → r ≡ record q { seen = k; tries = tries } → r ≡ record p { seen = r.seen; tries = r.tries }
as_seen {N} {F} p q r k tries first second =
    let both : r ≡ record p { seen = k; tries = tries } = second ∙ ap (λ (x : Known N F). record x { seen = k; tries = tries }) first in
    both ∙ (λ i. record p { seen = ap (λ (x : Known N F). x.seen) (sym both) i; tries = ap (λ (x : Known N F). x.tries) (sym both) i })

-- the same, where the metaslab was changed through a loan of it
pub turned_by : (right : ℕ) (turn : TableId) (Answer : Origin → List Noted → Option Noted → Type 0) (p took q : Known Noted Standing) (m x n : MsState) (note : Option Noted) → x ≡ m
    → Ready right_of right turn p → took ≡ record p { seen = m.notes; out = true; tries = took.tries } → IsPrefix p.seen m.notes → Owns right_of took.own took.seen
    → StandsFor Stands p.fixed m → q ≡ record took { seen = n.notes; own = with_notes right_of (option_to_list note) took.own; out = false }
    → n.notes ≡ x.notes ++ option_to_list note → IfSome note (λ y. right_of y ≡ right) → Answer (origin_of x) x.notes note → TurnedOne right Answer p q
turned_by right turn Answer p took q m x n note same r takes begins owns stands gives is own answer =
    turned_one right turn Answer p took q m n note r takes begins owns stands gives
    (subst (λ (y : MsState). n.notes ≡ y.notes ++ option_to_list note) same is) own
    (subst (λ (y : MsState). Answer (origin_of y) y.notes note) same answer)

-- a try that took the turn

word_is : {A : Type 0} (r : Result A CellFault) → is_busy r ≡ false → word_of r ≡ 0
word_is (Ok x) e = refl
word_is (Err Busy) e = absurd (cc)
word_is (Err (Ms fault)) e = refl
word_is (Err Memory) e = refl

pub grant_not_busy : (lane : ℕ) (group : Group) (count : ℕ) (r : Result Look CellFault) (o : Origin) (h : List Noted) (added : Option Noted) → GrantAnswer lane group count r o h added → is_busy r ≡ false
grant_not_busy lane group count (Ok x) o h added a = refl
grant_not_busy lane group count (Err Busy) o h added a = absurd a
grant_not_busy lane group count (Err (Ms fault)) o h added a = refl
grant_not_busy lane group count (Err Memory) o h added a = refl

pub free_not_busy : (lane : ℕ) (group : Group) (seg : Seg) (r : Result (Unit {0}) CellFault) (o : Origin) (h : List Noted) (added : Option Noted) → FreeAnswer lane group seg r o h added → is_busy r ≡ false
free_not_busy lane group seg (Ok x) o h added a = refl
free_not_busy lane group seg (Err Busy) o h added a = absurd a.1
free_not_busy lane group seg (Err (Ms fault)) o h added a = refl
free_not_busy lane group seg (Err Memory) o h added a = refl

not_both : (b : Bool) → b ≡ false → b ≡ true → ⊥
not_both true e f = cc
not_both false e f = cc

pub tried_one : {A : Type 0} (right : ℕ) (turn : TableId) (result : Result A CellFault) (Answer : Origin → List Noted → Option Noted → Type 0) (p took q : Known Noted Standing) (m x n : MsState) (note : Option Noted) → is_busy result ≡ false → x ≡ m
    → Ready right_of right turn p → took ≡ record p { seen = m.notes; out = true; tries = p.tries ++ 0 ∷ [] } → IsPrefix p.seen m.notes → Owns right_of took.own took.seen
    → StandsFor Stands p.fixed m → q ≡ record took { seen = n.notes; own = with_notes right_of (option_to_list note) took.own; out = false }
    → n.notes ≡ x.notes ++ option_to_list note → IfSome note (λ y. right_of y ≡ right) → Answer (origin_of x) x.notes note → TriedOne right result Answer p q
tried_one right turn result Answer p took q m x n note idle same r takes begins owns stands gives is own answer =
    let tries : took.tries ≡ p.tries ++ 0 ∷ [] = ap (λ (k : Known Noted Standing). k.tries) takes in
    record {
      tries = ap (λ (k : Known Noted Standing). k.tries) gives ∙ (tries ∙ ap (λ (w : ℕ). p.tries ++ w ∷ []) (sym (word_is result idle)));
      busy = λ b. absurd (not_both (is_busy result) idle b);
      turn = λ _. turned_by right turn Answer p took q m x n note same r (takes ∙ (λ i. record p { seen = m.notes; out = true; tries = sym tries i })) begins owns stands gives is own answer;
    }
