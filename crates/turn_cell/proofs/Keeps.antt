-- Each atomic step keeps what holds of a turn.
-- A state that does is `state log lock views`, with two words and one slot, so all that a step does to it computes.
use Rattle.std.proofs.Common.{◌≡◌, ◌≢◌, ◌⊎◌, ℕ, zero, suc, ◌+◌, ◌*◌, ◌/◌, ◌%◌, ◌^◌, ◌≤◌, eqb, true, false, not, List, [], ◌∷◌, ◌++◌, map, length, get_or, set, refl, sym, ap, ◌∙◌, subst, inl, inr, ⊎_elim, arith, append_assoc, length-append, Option, Some}
use Rattle.std.specs.Prelude.{is_some}
use Rattle.std.proofs.lemmas.Bool.{and_parts, or_cases}
use Rattle.std.proofs.lemmas.List.{append-nil}
use Rattle.std.proofs.Math.Nat.{add-mul-mod_self_right, mod-add-div'}
use mathlib.Core.Option.{none, some, some-injective, some-ne-none}
use mathlib.Core.Option as maybe
use lib.ListN.{get_elem?}
use prog.Atomic.{either}
use Rattle.atomic_table.specs.Table.{State, Me, step, Act, keeps, takes, gives, stepped, carried_after, Valid, Allows, Splits, Joins, opening, Final, Seen}
use Rattle.atomic_table.proofs.Lists.{at_set, set_else}
use Rattle.std.specs.List.{All}
use Rattle.std.proofs.lemmas.List.Elements.{All-append, All-nil}
use Rattle.turn_cell.specs.Notes.{Own, Owns, Low, IsPrefix, StandsFor, among, has, without, only, all_rights}
use Rattle.turn_cell.specs.declared.kept.TheConstants.{MAX_RIGHT}
use Rattle.turn_cell.specs.Rule.{Lock, free, out, shut, lock_word, lock_home, StageFits, AllSeen, Heard, Fits, Inside, Seats, Apart, Turns, newcomer}
use Rattle.turn_cell.specs.Moves.{tried, glanced, learned_view, added, at_rest, left_of, part_of, joined, spent, grabbed, closed, released, noted, saw, learned}
use Rattle.turn_cell.specs.declared.view.View.{View}
use Rattle.turn_cell.specs.declared.view.Stage.{Stage}
use Rattle.turn_cell.specs.declared.view.Stage.TheVariants.{Idle, Holding, Closing}
use Rattle.lane_steps.proofs.Steps.{prefix_trans}
use Rattle.turn_cell.proofs.Notes.{not_true, not_false, not_both, Owns-more, Owns-other, Owns-filter, Owns-append, Low-filter, Low-append, Low-more, low_at, has-with_notes, has-append, has-filter}

-- of lists

at_end : {A : Type 0} (l : List A) (a b : A) (j : ℕ) → get_elem? (l ++ a ∷ []) j ≡ some b → (get_elem? l j ≡ some b) ⊎ ((j ≡ length l) × (a ≡ b))
at_end [] a b zero e = inr (refl, some-injective a b e)
at_end [] a b (suc j) e = absurd (some-ne-none b (sym e))
at_end (x ∷ xs) a b zero e = inl e
at_end (x ∷ xs) a b (suc j) e = ⊎_elim (λ t. inl t) (λ (t : (j ≡ length xs) × (a ≡ b)). inr (ap suc t.0, t.1)) (at_end xs a b j e)

at_one : {A : Type 0} (a b : A) (j : ℕ) → get_elem? (a ∷ []) j ≡ some b → (j ≡ 0) × (a ≡ b)
at_one a b zero e = (refl, some-injective a b e)
at_one a b (suc j) e = absurd (some-ne-none b (sym e))

some_same : {A : Type 0} (y : Option A) (a b : A) → y ≡ Some a → y ≡ Some b → a ≡ b
some_same y a b p q = cc

mod_most : (n m : ℕ) → n % m ≤ n
mod_most n m = omega (arith, mod-add-div' n m)

mod-add_one : (n m : ℕ) → (n % m + 1) % m ≡ (n + 1) % m
mod-add_one n m =
    let e : n + 1 ≡ (n % m + 1) + n / m * m = omega (arith, mod-add-div' n m) in
    sym (ap (λ x. x % m) e ∙ add-mul-mod_self_right (n % m + 1) (n / m) m)

Owns-none : {N : Type 0} (right : N → ℕ) (rights : List ℕ) → Owns right (map (λ r. (r, [])) rights) []
Owns-none right [] = tt
Owns-none right (r ∷ rights) = (refl, Owns-none right rights)

-- the first rights are 0 to 16
all_low : (N : Type 0) → Low (all_rights {N = N})
all_low N = (omega arith, (omega arith, (omega arith, (omega arith, (omega arith, (omega arith, (omega arith, (omega arith, (omega arith, (omega arith, (omega arith, (omega arith, (omega arith, (omega arith, (omega arith, (omega arith, (omega arith, tt)))))))))))))))))

Heard-longer : {N : Type 0} (log more : List N) (hs : List (List N)) → Heard log hs → Heard (log ++ more) hs
Heard-longer log more [] t = tt
Heard-longer log more (h ∷ hs) t = (prefix_trans h log (log ++ more) t.0 (more, refl), Heard-longer log more hs t.1)

all_seen_none : (N : Type 0) (stage : Stage) → AllSeen {N = N} [] stage
all_seen_none N Idle = tt
all_seen_none N Holding = refl
all_seen_none N Closing = tt

-- of the lock

module _ {T : Type 0} where
  free_not_out : (x : T) (j : ℕ) → free x ≡ out j → ⊥
  free_not_out x j e = cc

  free_not_shut : (x : T) (j : ℕ) (y : T) → free x ≡ shut j y → ⊥
  free_not_shut x j y e = cc

  out_not_shut : (i j : ℕ) (y : T) → out i ≡ shut j y → ⊥
  out_not_shut i j y e = cc

  shut_not_out : (i j : ℕ) (y : T) → shut j y ≡ out i → ⊥
  shut_not_out i j y e = cc

  out_same : (i j : ℕ) → ◌≡◌ {A = Lock T} (out i) (out j) → i ≡ j
  out_same i j e = cc

  stage_moves : (lock lock' : Lock T) (j : ℕ) (stage : Stage) → (lock ≡ out j → lock' ≡ out j) → ((x : T) → lock ≡ shut j x → lock' ≡ shut j x)
      → StageFits lock j stage → StageFits lock' j stage
  stage_moves lock lock' j Idle o s t = tt
  stage_moves lock lock' j Holding o s t = o t
  stage_moves lock lock' j Closing o s t = (t.0, s t.0 t.1)

-- another seat than the one that holds the value
other_seen : (T : Type 0) {N : Type 0} (i j : ℕ) (more more' : List N) (stage : Stage) → j ≢ i → StageFits {T = T} (out i) j stage → AllSeen more stage → AllSeen more' stage
other_seen T i j more more' Idle ne t s = tt
other_seen T i j more more' Holding ne t s = absurd (ne (sym (out_same i j t)))
other_seen T i j more more' Closing ne t s = tt

module _ {N F T : Type 0} (journal : T → List N) (right : N → ℕ) (stands : F → T → Type 0) (key : F) where
  abbrev V : Type 0
  V = View N F

  abbrev St : Type 0
  St = State (Option T) V

  abbrev M : Type 0
  M = Me (Option T) V

  abbrev Rule : St → Type 0
  Rule = Turns journal right stands key

  abbrev In : List N → Lock T → Type 0
  In log lock = Inside journal right stands key log lock × All (λ n. right n ≤ MAX_RIGHT) log

  abbrev Sits : List N → Lock T → List V → Type 0
  Sits = Seats journal right stands key

  abbrev Each : List V → Type 0
  Each = Apart journal right stands key

  abbrev FitsAt : List N → Lock T → ℕ → V → Type 0
  FitsAt = Fits right key

  abbrev state : List N → Lock T → List V → St
  state log lock views = record { words = lock_word lock ∷ length log % 2 ^ 64 ∷ []; homes = lock_home lock ∷ []; views = views }

  kept : (log : List N) (lock : Lock T) (views : List V) → In log lock → Sits log lock views → Each views → Rule (state log lock views)
  kept log lock views inside seats apart = record { log = log; lock = lock; words = refl; homes = refl; inside = inside.0; ranged = inside.1; seats = seats; apart = apart }

  at_state : (P : St → Type 0) (s : St) (r : Rule s) → ((log : List N) (lock : Lock T) → In log lock → Sits log lock s.views → Each s.views → P (state log lock s.views)) → P s
  at_state P s r each = subst P (λ k. record { words = sym r.words k; homes = sym r.homes k; views = s.views }) (each r.log r.lock (r.inside, r.ranged) r.seats r.apart)

  -- what one seat owes when it steps at this state
  abbrev Goes : ℕ → M → ℕ → (ℕ → ℕ) → (ℕ → M → Type 0) → St → Type 0
  Goes id me i f then s =
      (w : V) × (a : Act (Option T)) × Valid s.homes me.1 a × Rule (stepped s i (f (get_or s.words i 0)) id me.1 w a) × then (get_or s.words i 0) (w, carried_after me.1 a)

  allowed : (slots id : ℕ) (me : M) (i : ℕ) (f : ℕ → ℕ) (then : ℕ → M → Type 0)
      → ((log : List N) (lock : Lock T) (views : List V) → In log lock → Sits log lock views → Each views → get_elem? views id ≡ some me.0 → Goes id me i f then (state log lock views))
      → Allows Rule slots id me i f then
  allowed slots id me i f then each s r deep at low =
      at_state (λ (s : St). get_elem? s.views id ≡ some me.0 → Goes id me i f then s) s r (λ log lock inside seats apart at. each log lock s.views inside seats apart at) at

  -- one seat has a new view
  seats_move : (log log' : List N) (lock lock' : Lock T) (views : List V) (id : ℕ) (w : V) → Sits log lock views → (is_some w.fixed ≡ true → FitsAt log' lock' id w)
      → ((j : ℕ) (v : V) → j ≢ id → get_elem? views j ≡ some v → FitsAt log lock j v → FitsAt log' lock' j v) → Sits log' lock' (set views id w)
  seats_move log log' lock lock' views id w seats mine others j v at live =
      ⊎_elim
      (λ (t : (j ≡ id) × (w ≡ v)). subst (λ (x : ℕ × V). FitsAt log' lock' x.0 x.1) (λ k. (sym t.0 k, t.1 k)) (mine (ap (λ (x : V). is_some x.fixed) t.1 ∙ live)))
      (λ (t : (j ≢ id) × (get_elem? views j ≡ some v)). others j v t.0 t.1 (seats j v t.1 live))
      (at_set views id j w v at)

  -- the new view has no right that the old one lacks
  apart_move : (views : List V) (id : ℕ) (v w : V) → get_elem? views id ≡ some v → ((r : ℕ) → has w.own r ≡ true → has v.own r ≡ true) → Each views → Each (set views id w)
  apart_move views id v w at fewer apart i j r a b ne ai aj ha hb =
      ⊎_elim
      (λ (p : (i ≡ id) × (w ≡ a)).
      ⊎_elim
      (λ (q : (j ≡ id) × (w ≡ b)). ne (p.0 ∙ sym q.0))
      (λ (q : (j ≢ id) × (get_elem? views j ≡ some b)). apart id j r v b (λ e. q.0 (sym e)) at q.1 (fewer r (ap (λ (x : V). has x.own r) p.1 ∙ ha)) hb)
      (at_set views id j w b aj))
      (λ (p : (i ≢ id) × (get_elem? views i ≡ some a)).
      ⊎_elim
      (λ (q : (j ≡ id) × (w ≡ b)). apart i id r a v p.0 p.1 at ha (fewer r (ap (λ (x : V). has x.own r) q.1 ∙ hb)))
      (λ (q : (j ≢ id) × (get_elem? views j ≡ some b)). apart i j r a b ne p.1 q.1 ha hb)
      (at_set views id j w b aj))
      (at_set views id i w a ai)

  -- another seat, at a new lock
  fits_stays : (log : List N) (lock lock' : Lock T) (j : ℕ) (v : V) → (lock ≡ out j → lock' ≡ out j) → ((x : T) → lock ≡ shut j x → lock' ≡ shut j x) → FitsAt log lock j v → FitsAt log lock' j v
  fits_stays log lock lock' j v o s f = record {
    fixed = f.fixed;
    more = f.more;
    whole = f.whole;
    mine = f.mine;
    low = f.low;
    heard = f.heard;
    stage = stage_moves lock lock' j v.stage o s f.stage;
    all_seen = f.all_seen;
  }

  -- another seat, at a journal with one more note
  fits_longer : (log : List N) (n : N) (i j : ℕ) (v : V) → j ≢ i → has v.own (right n) ≡ false → FitsAt log (out i) j v → FitsAt (log ++ n ∷ []) (out i) j v
  fits_longer log n i j v ne lacks f = record {
    fixed = f.fixed;
    more = f.more ++ n ∷ [];
    whole = ap (λ l. l ++ n ∷ []) f.whole ∙ append_assoc v.seen f.more (n ∷ []);
    mine = Owns-other right v.own log n lacks f.mine;
    low = f.low;
    heard = Heard-longer log (n ∷ []) v.heard f.heard;
    stage = f.stage;
    all_seen = other_seen T i j f.more (f.more ++ n ∷ []) v.stage ne f.stage f.all_seen;
  }

  pub begins : (x : T) → journal x ≡ [] → stands key x → Rule (opening (0 ∷ 0 ∷ []) (Some x ∷ []) (newcomer key))
  begins x empty stand =
      kept [] (free x) (newcomer key ∷ []) ((empty, stand), All-nil (λ n. right n ≤ MAX_RIGHT))
      (λ j v at live. let t = at_one (newcomer key) v j at in
      subst (λ (y : V). FitsAt [] (free x) j y) t.1 record {
        fixed = refl;
        more = [];
        whole = refl;
        low = all_low N;
        mine = Owns-none right (0 ∷ 1 ∷ 2 ∷ 3 ∷ 4 ∷ 5 ∷ 6 ∷ 7 ∷ 8 ∷ 9 ∷ 10 ∷ 11 ∷ 12 ∷ 13 ∷ 14 ∷ 15 ∷ 16 ∷ []);
        heard = tt;
        stage = tt;
        all_seen = tt;
      })
      (λ i j r a b ne ai aj ha hb. ne ((at_one (newcomer key) a i ai).0 ∙ sym (at_one (newcomer key) b j aj).0))

  -- a try that found the lock taken
  misses : (log : List N) (lock : Lock T) (views : List V) (id : ℕ) (me : M) → is_some me.0.fixed ≡ true → In log lock → Sits log lock views → Each views → get_elem? views id ≡ some me.0
      → Rule (state log lock (set views id (tried me.0 me.0.seen 1 Idle)))
  misses log lock views id me live inside seats apart at = let f = seats id me.0 at live in
      kept log lock (set views id (tried me.0 me.0.seen 1 Idle)) inside
      (seats_move log log lock lock views id (tried me.0 me.0.seen 1 Idle) seats
      (λ _. record { fixed = f.fixed; more = f.more; whole = f.whole; mine = f.mine; low = f.low; heard = f.heard; stage = tt; all_seen = tt })
      (λ j v _ _ g. g))
      (apart_move views id me.0 (tried me.0 me.0.seen 1 Idle) at (λ r h. h) apart)

  pub grabs : (slots id : ℕ) (me : M) → is_some me.0.fixed ≡ true → Allows Rule slots id me 0 (λ n. either (eqb n 0) 1 n) (grabbed journal right stands (step slots 0 0 1 none) me)
  grabs slots id me live = allowed slots id me 0 (λ n. either (eqb n 0) 1 n) (grabbed journal right stands (step slots 0 0 1 none) me) go
    where
      go : (log : List N) (lock : Lock T) (views : List V) → In log lock → Sits log lock views → Each views → get_elem? views id ≡ some me.0
          → Goes id me 0 (λ n. either (eqb n 0) 1 n) (grabbed journal right stands (step slots 0 0 1 none) me) (state log lock views)
      go log (free x) views inside seats apart at = let f = seats id me.0 at live in let w : V = tried me.0 (journal x) 0 Holding in (
        w,
        takes 0 (Some x),
        refl,
        kept log (out id) (set views id w) (tt, inside.1)
            (seats_move log log (free x) (out id) views id w seats
            (λ _. record { fixed = f.fixed; more = []; whole = sym inside.0.0 ∙ sym (append-nil (journal x)); mine = f.mine; low = f.low; heard = f.heard; stage = refl; all_seen = refl })
            (λ j v ne _ g. fits_stays log (free x) (out id) j v (λ e. absurd (free_not_out x j e)) (λ y e. absurd (free_not_shut x j y e)) g))
            (apart_move views id me.0 w at (λ r h. h) apart),
        (
          (λ _. (x, ((f.more, sym f.whole ∙ sym inside.0.0), (subst (Owns right me.0.own) (sym inside.0.0) f.mine, (subst (λ o. StandsFor stands o x) (sym f.fixed) inside.0.1, refl))))),
          λ ne. absurd (ne refl),
        ),
      )
      go log (out k) views inside seats apart at =
          (tried me.0 me.0.seen 1 Idle, keeps, tt, misses log (out k) views id me live inside seats apart at, ((λ e. absurd (omega arith)), λ _. (refl, refl)))
      go log (shut k x) views inside seats apart at =
          (tried me.0 me.0.seen 1 Idle, keeps, tt, misses log (shut k x) views id me live inside seats apart at, ((λ e. absurd (omega arith)), λ _. (refl, refl)))

  pub closes : (slots id : ℕ) (me : M) → is_some me.0.fixed ≡ true → Allows Rule slots id me 0 (λ n. either (eqb n 0) 1 n) (closed journal right stands (step slots 0 0 1 none) me)
  closes slots id me live = allowed slots id me 0 (λ n. either (eqb n 0) 1 n) (closed journal right stands (step slots 0 0 1 none) me) go
    where
      go : (log : List N) (lock : Lock T) (views : List V) → In log lock → Sits log lock views → Each views → get_elem? views id ≡ some me.0
          → Goes id me 0 (λ n. either (eqb n 0) 1 n) (closed journal right stands (step slots 0 0 1 none) me) (state log lock views)
      go log (free x) views inside seats apart at = let f = seats id me.0 at live in let w : V = tried me.0 me.0.seen 0 Closing in (
        w,
        keeps,
        tt,
        kept log (shut id x) (set views id w) inside
            (seats_move log log (free x) (shut id x) views id w seats
            (λ _. record { fixed = f.fixed; more = f.more; whole = f.whole; mine = f.mine; low = f.low; heard = f.heard; stage = (x, refl); all_seen = tt })
            (λ j v ne _ g. fits_stays log (free x) (shut id x) j v (λ e. absurd (free_not_out x j e)) (λ y e. absurd (free_not_shut x j y e)) g))
            (apart_move views id me.0 w at (λ r h. h) apart),
        ((λ _. refl), λ ne. absurd (ne refl)),
      )
      go log (out k) views inside seats apart at =
          (tried me.0 me.0.seen 1 Idle, keeps, tt, misses log (out k) views id me live inside seats apart at, ((λ e. absurd (omega arith)), λ _. (refl, refl)))
      go log (shut k x) views inside seats apart at =
          (tried me.0 me.0.seen 1 Idle, keeps, tt, misses log (shut k x) views id me live inside seats apart at, ((λ e. absurd (omega arith)), λ _. (refl, refl)))

  -- a seat that sees the journal so far
  looks : (log : List N) (lock : Lock T) (views : List V) (id : ℕ) (v w : V) → In log lock → Sits log lock views → Each views → get_elem? views id ≡ some v
      → FitsAt log lock id w → w.own ≡ v.own → Rule (state log lock (set views id w))
  looks log lock views id v w inside seats apart at fits same =
      kept log lock (set views id w) inside (seats_move log log lock lock views id w seats (λ _. fits) (λ j u _ _ g. g))
      (apart_move views id v w at (λ r h. ap (λ (o : Own N). has o r) (sym same) ∙ h) apart)

  pub sees : (slots id : ℕ) (me : M) → is_some me.0.fixed ≡ true → Allows Rule slots id me 1 (λ n. n) (saw right (step slots 1 0 0 none) me)
  sees slots id me live = allowed slots id me 1 (λ n. n) (saw right (step slots 1 0 0 none) me) (λ log lock views inside seats apart at.
      let f = seats id me.0 at live in let w : V = glanced me.0 (me.0.seen ++ f.more) in (
        w,
        keeps,
        tt,
        looks log lock views id me.0 w inside seats apart at
            record { fixed = f.fixed; more = []; whole = f.whole ∙ sym (append-nil (me.0.seen ++ f.more)); mine = f.mine; low = f.low; heard = tt; stage = f.stage; all_seen = all_seen_none N me.0.stage }
            refl,
        (f.more, (subst (Owns right me.0.own) f.whole f.mine, (subst (λ l. Heard l me.0.heard) f.whole f.heard, (f.all_seen, refl)))),
      ))

  pub learns : (slots id : ℕ) (me : M) → is_some me.0.fixed ≡ true → Allows Rule slots id me 1 (λ n. n) (learned right (step slots 1 0 0 none) me)
  learns slots id me live = allowed slots id me 1 (λ n. n) (learned right (step slots 1 0 0 none) me) (λ log lock views inside seats apart at.
      let f = seats id me.0 at live in let count : ℕ = length log % 2 ^ 64 in let w : V = learned_view me.0 (me.0.seen ++ f.more) count in (
        w,
        keeps,
        tt,
        looks log lock views id me.0 w inside seats apart at
            record { fixed = f.fixed; more = []; whole = f.whole ∙ sym (append-nil (me.0.seen ++ f.more)); mine = f.mine; low = f.low; heard = tt; stage = f.stage; all_seen = all_seen_none N me.0.stage }
            refl,
        (f.more, (subst (Owns right me.0.own) f.whole f.mine, (subst (λ (l : List N). count ≤ length l) f.whole (mod_most (length log) (2 ^ 64)), refl))),
      ))

  -- a seat that holds the value has seen all
  holder_whole : (log : List N) (lock : Lock T) (id : ℕ) (v : V) → v.stage ≡ Holding → FitsAt log lock id v → log ≡ v.seen
  holder_whole log lock id v holds f =
      let all : f.more ≡ [] = subst (AllSeen f.more) holds f.all_seen in
      f.whole ∙ (ap (λ l. v.seen ++ l) all ∙ append-nil v.seen)

  one_low : (n : N) → right n ≤ MAX_RIGHT → All (λ m. right m ≤ MAX_RIGHT) (n ∷ [])
  one_low n le zero d lt = le
  one_low n le (suc k) d lt = absurd (omega arith)

  -- the holder adds a note
  notes_rule : (log : List N) (k id : ℕ) (views : List V) (v : V) (n : N) → k ≡ id → v.stage ≡ Holding → has v.own (right n) ≡ true → In log (out k) → Sits log (out k) views → Each views → get_elem? views id ≡ some v → FitsAt log (out k) id v
      → Rule record { words = 1 ∷ (length log % 2 ^ 64 + 1) % 2 ^ 64 ∷ []; homes = none ∷ []; views = set views id (added right (n ∷ []) v) }
  notes_rule log k id views v n same holds owns inside seats apart at f = let w : V = added right (n ∷ []) v in record {
    log = log ++ n ∷ [];
    lock = out k;
    words = λ i. 1 ∷ (mod-add_one (length log) (2 ^ 64) ∙ ap (λ (m : ℕ). m % 2 ^ 64) (sym (length-append log (n ∷ [])))) i ∷ [];
    homes = refl;
    inside = tt;
    ranged = All-append (λ m. right m ≤ MAX_RIGHT) log (n ∷ []) inside.1 (one_low n (low_at v.own (right n) f.low owns));
    seats = seats_move log (log ++ n ∷ []) (out k) (out k) views id w seats
        (λ _. record {
          fixed = f.fixed;
          more = [];
          whole = ap (λ l. l ++ n ∷ []) (holder_whole log (out k) id v holds f) ∙ sym (append-nil (v.seen ++ n ∷ []));
          mine = Owns-more right v.own log (n ∷ []) f.mine;
          low = Low-more right (n ∷ []) v.own f.low;
          heard = Heard-longer log (n ∷ []) v.heard f.heard;
          stage = f.stage;
          all_seen = all_seen_none N v.stage;
        })
        (λ j u ne there g. fits_longer log n k j u (λ e. ne (e ∙ same)) (not_true (has u.own (right n)) (λ h. apart id j (right n) v u (λ e. ne (sym e)) at there owns h)) g);
    apart = apart_move views id v w at (λ r h. sym (has-with_notes right (n ∷ []) v.own r) ∙ h) apart;
  }

  notes : (slots id : ℕ) (me : M) (n : N) → is_some me.0.fixed ≡ true → me.0.stage ≡ Holding → has me.0.own (right n) ≡ true
      → Allows Rule slots id me 1 (λ c. (c + 1) % 2 ^ 64) (noted right (n ∷ []) (step slots 1 1 0 none) me)
  notes slots id me n live holds owns = allowed slots id me 1 (λ c. (c + 1) % 2 ^ 64) (noted right (n ∷ []) (step slots 1 1 0 none) me) go
    where
      stage_of : (log : List N) (lock : Lock T) → FitsAt log lock id me.0 → lock ≡ out id
      stage_of log lock f = subst (StageFits lock id) holds f.stage

      go : (log : List N) (lock : Lock T) (views : List V) → In log lock → Sits log lock views → Each views → get_elem? views id ≡ some me.0
          → Goes id me 1 (λ c. (c + 1) % 2 ^ 64) (noted right (n ∷ []) (step slots 1 1 0 none) me) (state log lock views)
      go log (free x) views inside seats apart at = absurd (free_not_out x id (stage_of log (free x) (seats id me.0 at live)))
      go log (out k) views inside seats apart at = let f = seats id me.0 at live in
          (added right (n ∷ []) me.0, keeps, tt, notes_rule log k id views me.0 n (out_same k id (stage_of log (out k) f)) holds owns inside seats apart at f, refl)
      go log (shut k x) views inside seats apart at = absurd (shut_not_out id k x (stage_of log (shut k x) (seats id me.0 at live)))

  pub notes_as : (slots id : ℕ) (me : M) (n : N) (ns : List N) → ns ≡ n ∷ [] → is_some me.0.fixed ≡ true → me.0.stage ≡ Holding → has me.0.own (right n) ≡ true
      → Allows Rule slots id me 1 (λ c. (c + 1) % 2 ^ 64) (noted right ns (step slots 1 1 0 none) me)
  notes_as slots id me n ns is live holds owns =
      subst (λ (l : List N). Allows Rule slots id me 1 (λ c. (c + 1) % 2 ^ 64) (noted right l (step slots 1 1 0 none) me)) (sym is) (notes slots id me n live holds owns)

  releases : (slots id : ℕ) (v : V) (x : T) → is_some v.fixed ≡ true → v.stage ≡ Holding → journal x ≡ v.seen → StandsFor stands v.fixed x
      → Allows Rule slots id (v, (0, Some x) ∷ []) 0 (λ _. 0) (released journal right stands (step slots 0 0 0 none) (v, (0, Some x) ∷ []))
  releases slots id v x live holds same stand = allowed slots id (v, (0, Some x) ∷ []) 0 (λ _. 0) (released journal right stands (step slots 0 0 0 none) (v, (0, Some x) ∷ [])) go
    where
      stage_of : (log : List N) (lock : Lock T) → FitsAt log lock id v → lock ≡ out id
      stage_of log lock f = subst (StageFits lock id) holds f.stage

      go : (log : List N) (lock : Lock T) (views : List V) → In log lock → Sits log lock views → Each views → get_elem? views id ≡ some v
          → Goes id (v, (0, Some x) ∷ []) 0 (λ _. 0) (released journal right stands (step slots 0 0 0 none) (v, (0, Some x) ∷ [])) (state log lock views)
      go log (free y) views inside seats apart at = absurd (free_not_out y id (stage_of log (free y) (seats id v at live)))
      go log (out k) views inside seats apart at = let f = seats id v at live in let here : k ≡ id = out_same k id (stage_of log (out k) f) in (
        at_rest v,
        gives,
        tt,
        kept log (free x) (set views id (at_rest v)) ((same ∙ sym (holder_whole log (out k) id v holds f), subst (λ o. StandsFor stands o x) f.fixed stand), inside.1)
            (seats_move log log (out k) (free x) views id (at_rest v) seats
            (λ _. record { fixed = f.fixed; more = f.more; whole = f.whole; mine = f.mine; low = f.low; heard = f.heard; stage = tt; all_seen = tt })
            (λ j u ne _ g. fits_stays log (out k) (free x) j u (λ e. absurd (ne (sym (out_same k j e) ∙ here))) (λ y e. absurd (out_not_shut k j y e)) g))
            (apart_move views id v (at_rest v) at (λ r h. h) apart),
        refl,
      )
      go log (shut k y) views inside seats apart at = absurd (shut_not_out id k y (stage_of log (shut k y) (seats id v at live)))

  pub releases_as : (slots id : ℕ) (me : M) (v : V) (x : T) → me ≡ (v, (0, Some x) ∷ []) → is_some v.fixed ≡ true → v.stage ≡ Holding → journal x ≡ v.seen → StandsFor stands v.fixed x
      → Allows Rule slots id me 0 (λ _. 0) (released journal right stands (step slots 0 0 0 none) me)
  releases_as slots id me v x is live holds same stand =
      subst (λ (m : M). Allows Rule slots id m 0 (λ _. 0) (released journal right stands (step slots 0 0 0 none) m)) (sym is) (releases slots id v x live holds same stand)

  -- a right is left with one part alone
  only_has : (gone : List ℕ) (own : Own N) (r : ℕ) → has (only gone own) r ≡ true → (among gone r ≡ true) × (has own r ≡ true)
  only_has gone own r h = and_parts (among gone r) (has own r) (sym (has-filter (among gone) own r) ∙ h)

  without_has : (gone : List ℕ) (own : Own N) (r : ℕ) → has (without gone own) r ≡ true → (not (among gone r) ≡ true) × (has own r ≡ true)
  without_has gone own r h = and_parts (not (among gone r)) (has own r) (sym (has-filter (λ x. not (among gone x)) own r) ∙ h)

  pub splits : (id : ℕ) (v : V) (gone : List ℕ) → is_some v.fixed ≡ true → Splits Rule id v (left_of gone v) (part_of gone v)
  splits id v gone live s r at = let f = r.seats id v at live in let left : V = left_of gone v in let part : V = part_of gone v in
      let moved = seats_move r.log r.log r.lock r.lock s.views id left r.seats
      (λ _. record { fixed = f.fixed; more = f.more; whole = f.whole; mine = Owns-filter right (λ e. not (among gone e.0)) v.own r.log f.mine; low = Low-filter (λ e. not (among gone e.0)) v.own f.low; heard = f.heard; stage = f.stage; all_seen = f.all_seen })
      (λ j u _ _ g. g) in
      let fewer : (x : ℕ) → has left.own x ≡ true → has v.own x ≡ true = λ x h. (without_has gone v.own x h).1 in
      record {
        log = r.log;
        lock = r.lock;
        words = r.words;
        homes = r.homes;
        inside = r.inside;
        ranged = r.ranged;
        seats = λ j u there alive.
            ⊎_elim
            (λ (t : get_elem? (set s.views id left) j ≡ some u). moved j u t alive)
            (λ (t : (j ≡ length (set s.views id left)) × (part ≡ u)).
            subst (FitsAt r.log r.lock j) t.1
            record { fixed = f.fixed; more = f.more; whole = f.whole; mine = Owns-filter right (λ e. among gone e.0) v.own r.log f.mine; low = Low-filter (λ e. among gone e.0) v.own f.low; heard = f.heard; stage = tt; all_seen = tt })
            (at_end (set s.views id left) part u j there);
        apart = λ i j x a b ne ai aj ha hb.
            ⊎_elim
            (λ (p : get_elem? (set s.views id left) i ≡ some a).
            ⊎_elim
            (λ (q : get_elem? (set s.views id left) j ≡ some b). apart_move s.views id v left at fewer r.apart i j x a b ne p q ha hb)
            (λ (q : (j ≡ length (set s.views id left)) × (part ≡ b)). parted s r at i x a p ha (ap (λ (y : V). has y.own x) q.1 ∙ hb))
            (at_end (set s.views id left) part b j aj))
            (λ (p : (i ≡ length (set s.views id left)) × (part ≡ a)).
            ⊎_elim
            (λ (q : get_elem? (set s.views id left) j ≡ some b). parted s r at j x b q hb (ap (λ (y : V). has y.own x) p.1 ∙ ha))
            (λ (q : (j ≡ length (set s.views id left)) × (part ≡ b)). ne (p.0 ∙ sym q.0))
            (at_end (set s.views id left) part b j aj))
            (at_end (set s.views id left) part a i ai);
      }
    where
      -- a seat other than the part has none of its rights
      parted : (s : St) (r : Rule s) → get_elem? s.views id ≡ some v → (i x : ℕ) (a : V) → get_elem? (set s.views id (left_of gone v)) i ≡ some a → has a.own x ≡ true → has (only gone v.own) x ≡ true → ⊥
      parted s r at i x a there ha hb = let mine = only_has gone v.own x hb in
          ⊎_elim
          (λ (t : (i ≡ id) × (left_of gone v ≡ a)). not_both (among gone x) mine.0 (without_has gone v.own x (ap (λ (y : V). has y.own x) t.1 ∙ ha)).0)
          (λ (t : (i ≢ id) × (get_elem? s.views i ≡ some a)). r.apart i id x a v t.0 t.1 at ha mine.1)
          (at_set s.views id i (left_of gone v) a there)

  pub joins : (id : ℕ) (v : V) (other : ℕ) (u : V) → is_some v.fixed ≡ true → is_some u.fixed ≡ true → Joins Rule id v other u (joined v u) spent
  joins id v other u live alive s r at apart there = let w : V = joined v u in let vs : List V = set s.views id w in
      let at' : get_elem? s.views other ≡ some u = sym (set_else s.views id other w apart) ∙ there in
      let f = r.seats id v at live in let g = r.seats other u at' alive in
      let moved = seats_move r.log r.log r.lock r.lock s.views id w r.seats
      (λ _. record {
        fixed = f.fixed;
        more = f.more;
        whole = f.whole;
        mine = Owns-append right v.own u.own r.log f.mine g.mine;
        low = Low-append v.own u.own f.low g.low;
        heard = ((f.more, sym f.whole), ((g.more, sym g.whole), f.heard));
        stage = f.stage;
        all_seen = f.all_seen;
      })
      (λ j x _ _ h. h) in
      record {
        log = r.log;
        lock = r.lock;
        words = r.words;
        homes = r.homes;
        inside = r.inside;
        ranged = r.ranged;
        seats = seats_move r.log r.log r.lock r.lock vs other spent moved (λ e. absurd (not_false e)) (λ j x _ _ h. h);
        apart = λ i j x a b ne ai aj ha hb.
            ⊎_elim
            (λ (p : (i ≡ other) × (spent ≡ a)). not_false (ap (λ (y : V). has y.own x) p.1 ∙ ha))
            (λ (p : (i ≢ other) × (get_elem? vs i ≡ some a)).
            ⊎_elim
            (λ (q : (j ≡ other) × (spent ≡ b)). not_false (ap (λ (y : V). has y.own x) q.1 ∙ hb))
            (λ (q : (j ≢ other) × (get_elem? vs j ≡ some b)). together s r at at' i j x a b ne p.0 q.0 p.1 q.1 ha hb)
            (at_set vs other j spent b aj))
            (at_set vs other i spent a ai);
      }
    where
      -- a seat that is neither of the two has no right of theirs
      neither : (s : St) (r : Rule s) → get_elem? s.views id ≡ some v → get_elem? s.views other ≡ some u → (j x : ℕ) (b : V) → j ≢ id → j ≢ other → get_elem? s.views j ≡ some b → has (v.own ++ u.own) x ≡ true → has b.own x ≡ true → ⊥
      neither s r at at' j x b ni nj there hw hb =
          ⊎_elim
          (λ (t : has v.own x ≡ true). r.apart id j x v b (λ e. ni (sym e)) at there t hb)
          (λ (t : has u.own x ≡ true). r.apart other j x u b (λ e. nj (sym e)) at' there t hb)
          (or_cases (has v.own x) (has u.own x) (sym (has-append v.own u.own x) ∙ hw))

      together : (s : St) (r : Rule s) → get_elem? s.views id ≡ some v → get_elem? s.views other ≡ some u → (i j x : ℕ) (a b : V) → i ≢ j → i ≢ other → j ≢ other
          → get_elem? (set s.views id (joined v u)) i ≡ some a → get_elem? (set s.views id (joined v u)) j ≡ some b → has a.own x ≡ true → has b.own x ≡ true → ⊥
      together s r at at' i j x a b ne io jo ai aj ha hb =
          ⊎_elim
          (λ (p : (i ≡ id) × (joined v u ≡ a)).
          ⊎_elim
          (λ (q : (j ≡ id) × (joined v u ≡ b)). ne (p.0 ∙ sym q.0))
          (λ (q : (j ≢ id) × (get_elem? s.views j ≡ some b)). neither s r at at' j x b q.0 jo q.1 (ap (λ (y : V). has y.own x) p.1 ∙ ha) hb)
          (at_set s.views id j (joined v u) b aj))
          (λ (p : (i ≢ id) × (get_elem? s.views i ≡ some a)).
          ⊎_elim
          (λ (q : (j ≡ id) × (joined v u ≡ b)). neither s r at at' i x a p.0 io p.1 (ap (λ (y : V). has y.own x) q.1 ∙ hb) ha)
          (λ (q : (j ≢ id) × (get_elem? s.views j ≡ some b)). r.apart i j x a b ne p.1 q.1 ha hb)
          (at_set s.views id j (joined v u) b aj))
          (at_set s.views id i (joined v u) a ai)

  -- what a closed turn has in its slot
  pub record Ended (v : V) (y : Option T) : Type 0 where
    pub value : T
    pub is : y ≡ Some value
    pub begins : IsPrefix v.seen (journal value)
    pub owns : Owns right v.own (journal value)
    pub low : All (λ n. right n ≤ MAX_RIGHT) (journal value)
    pub stand : StandsFor stands v.fixed value

  pub ended : (id : ℕ) (v v' : V) (words : List ℕ) (slots : List (Option T)) (y : Option T) → v' ≡ tried v v.seen 0 Closing → is_some v.fixed ≡ true
      → Final (Seen Rule id v') words slots → get_elem? slots 0 ≡ some y → Ended v y
  ended id v v' words slots y is live last at = let s = last.0 in let r = last.1.0 in
      let f = r.seats id (tried v v.seen 0 Closing) (last.1.1 ∙ ap some is) live in
      let x : T = f.stage.0 in
      let home : s.homes ≡ some (Some x) ∷ [] = r.homes ∙ ap (λ (l : Lock T). lock_home l ∷ []) f.stage.1 in
      let there : get_elem? slots 0 ≡ some (Some x) = last.4 0 (Some x) (ap (λ (hs : List (maybe.Option (Option T))). get_elem? hs 0) home) in
      let inside : In r.log (shut id x) = subst (In r.log) f.stage.1 (r.inside, r.ranged) in
      record {
        value = x;
        is = some-injective y (Some x) (sym at ∙ there);
        begins = (f.more, sym f.whole ∙ sym inside.0.0);
        owns = subst (Owns right v.own) (sym inside.0.0) f.mine;
        low = subst (All (λ n. right n ≤ MAX_RIGHT)) (sym inside.0.0) inside.1;
        stand = subst (λ o. StandsFor stands o x) (sym f.fixed) inside.0.1;
      }

  pub ended_some : (v : V) (y : Option T) → Ended v y → is_some y ≡ true
  ended_some v y e = ap is_some e.is

  ended_at : (v : V) (y : Option T) (z : T) → Ended v y → y ≡ Some z
      → IsPrefix v.seen (journal z) × (Owns right v.own (journal z) × (StandsFor stands v.fixed z × All (λ n. right n ≤ MAX_RIGHT) (journal z)))
  ended_at v y z e is =
      subst (λ (x : T). IsPrefix v.seen (journal x) × (Owns right v.own (journal x) × (StandsFor stands v.fixed x × All (λ n. right n ≤ MAX_RIGHT) (journal x))))
      (some_same y e.value z e.is is) (e.begins, (e.owns, (e.stand, e.low)))

  pub closed_gives : (id : ℕ) (v v' : V) (words : List ℕ) (slots : List (Option T)) (y : Option T) (z : T) → v' ≡ tried v v.seen 0 Closing → is_some v.fixed ≡ true
      → Final (Seen Rule id v') words slots → get_elem? slots 0 ≡ some y → y ≡ Some z
      → IsPrefix v.seen (journal z) × (Owns right v.own (journal z) × (StandsFor stands v.fixed z × All (λ n. right n ≤ MAX_RIGHT) (journal z)))
  closed_gives id v v' words slots y z is live last at value = ended_at v y z (ended id v v' words slots y is live last at) value
