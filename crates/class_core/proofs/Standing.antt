-- What a ranking has after a metaslab was weighed, gave up its place or took one.
use Rattle.std.proofs.Common.{◌≡◌, ◌≢◌, ℕ, ◌+◌, ◌/◌, ◌^◌, ◌<◌, ◌≤◌, Bool, true, false, cond, eqb, Some, None, List, length, length-set, set, get_or, get_or-set_same, get_or-set_other, refl, sym, ◌∙◌, ap, ◌⊎◌, inl, inr, arith}
use Rattle.std.specs.Prelude.{◌&&◌, ◌||◌, not}
use Rattle.std.proofs.lemmas.Bool.{cases_lt}
use Rattle.std.proofs.lemmas.Bool.Decides.{eqb_tells}
use Rattle.std.proofs.Math.Pow.{pow_mono, shr_mono}
use Rattle.zms_units.specs.Weights.{PassesOver}
use Rattle.ms_model.specs.declared.notes.Got.{Got}
use Rattle.ms_model.specs.declared.notes.Start.{Start}
use Rattle.class_model.specs.Replay.{dropped}
use Rattle.class_model.specs.Picks.{ComesBefore, IsBehind, IsFirst, IsFirstOf}
use Rattle.class_core.specs.Rankings.{is_same, has, HasBelow}
use Rattle.class_core.specs.declared.ranking.Ranking.{Ranking}
use Rattle.class_core.specs.Groups.{GroupState, Stands, active_in, IsNext}
use Rattle.class_core.specs.GroupInside.{Agrees}
use Rattle.class_core.proofs.Booleans.{and_both, or_either, or_left, or_right, not_true, not_false, clash, none_some, some_is, eqb_same, eqb_other, same_tells, same_is, same_not, got_is, dropped_some, dropped_kept}

abbrev Tells : ℕ → ℕ → Type 0
Tells a b = ((eqb a b ≡ true) × (a ≡ b)) ⊎ ((eqb a b ≡ false) × (a ≢ b))

-- a metaslab of an index, by its weight
abbrev pub got_at : ℕ → ℕ → Got
got_at i w = record { index = i; weight = w }

abbrev pub own_got : GroupState → ℕ → Got
own_got s i = record { index = i; weight = get_or s.weights i 0 }

-- a metaslab that is inactive from now on was weighed
module _ (s t : GroupState) (m n : Got → Bool) (i w : ℕ) (agrees : Agrees s m) (lt : i < length s.weights)
    (weights : t.weights ≡ set s.weights i w)
    (active : (place : ℕ) → active_in t place ≡ dropped i (active_in s place))
    (moved : (g : Got) → n g ≡ (is_same (got_at i w) g || (not (is_same (own_got s i) g) && m g))) where
  same_length : length t.weights ≡ length s.weights
  same_length = ap length weights ∙ length-set s.weights i w

  here : get_or t.weights i 0 ≡ w
  here = ap (λ (l : List ℕ). get_or l i 0) weights ∙ get_or-set_same s.weights i w 0 lt

  other : (j : ℕ) → (i ≡ j → ⊥) → get_or t.weights j 0 ≡ get_or s.weights j 0
  other j ne = ap (λ (l : List ℕ). get_or l j 0) weights ∙ get_or-set_other s.weights i j w 0 (λ e. ne (sym e))

  in_it : (g : Got) → (is_same (got_at i w) g ≡ true) ⊎ ((not (is_same (own_got s i) g) && m g) ≡ true) → Stands t g
  in_it g (inl e) =
      let is : (w ≡ g.weight) × (i ≡ g.index) = same_tells (got_at i w) g e in
      record {
        within = omega (arith, same_length, lt, is.1);
        weight = sym is.0 ∙ (sym here ∙ ap (λ (k : ℕ). get_or t.weights k 0) is.1);
        inactive = λ place a. (dropped_some i (active_in s place) g.index (sym (active place) ∙ a)).1 is.1;
      }
  in_it g (inr e) =
      let both : (not (is_same (own_got s i) g) ≡ true) × (m g ≡ true) = and_both (not (is_same (own_got s i) g)) (m g) e in
      let st : Stands s g = agrees.has g both.1 in
      let ne : i ≡ g.index → ⊥ = λ eq. clash (is_same (own_got s i) g) (same_is (own_got s i) g (ap (λ (k : ℕ). get_or s.weights k 0) eq ∙ sym st.weight) eq) (not_true (is_same (own_got s i) g) both.0) in
      record {
        within = omega (arith, same_length, st.within);
        weight = st.weight ∙ sym (other g.index ne);
        inactive = λ place a. st.inactive place (dropped_some i (active_in s place) g.index (sym (active place) ∙ a)).0;
      }

  all_it : (g : Got) → Stands t g → Tells i g.index → n g ≡ true
  all_it g st (inl e) =
      moved g ∙ or_left (is_same (got_at i w) g) (not (is_same (own_got s i) g) && m g)
      (same_is (got_at i w) g (sym (st.weight ∙ (ap (λ (k : ℕ). get_or t.weights k 0) (sym e.1) ∙ here))) e.1)
  all_it g st (inr e) =
      let old : Stands s g = record {
        within = omega (arith, same_length, st.within);
        weight = st.weight ∙ other g.index e.1;
        inactive = λ place a. st.inactive place (active place ∙ dropped_kept i (active_in s place) g.index a e.1);
      } in
      moved g ∙ or_right (is_same (got_at i w) g) (not (is_same (own_got s i) g) && m g)
      (not_false (is_same (own_got s i) g) (m g) (same_not (own_got s i) g e.1) (agrees.all g old))

  pub weighed_agrees : Agrees t n
  weighed_agrees = record {
    has = λ g e. in_it g (or_either (is_same (got_at i w) g) (not (is_same (own_got s i) g) && m g) (sym (moved g) ∙ e));
    all = λ g st. all_it g st (eqb_tells i g.index);
    within = λ place j a. omega (arith, same_length, agrees.within place j (dropped_some i (active_in s place) j (sym (active place) ∙ a)).0);
    one = λ j k x a b. agrees.one j k x (dropped_some i (active_in s j) x (sym (active j) ∙ a)).0 (dropped_some i (active_in s k) x (sym (active k) ∙ b)).0;
  }

-- an active metaslab was weighed
module _ (s t : GroupState) (m : Got → Bool) (i w : ℕ) (agrees : Agrees s m) (lt : i < length s.weights)
    (weights : t.weights ≡ set s.weights i w)
    (active : (place : ℕ) → active_in t place ≡ active_in s place)
    (out : m (own_got s i) ≡ false) where
  same_size : length t.weights ≡ length s.weights
  same_size = ap length weights ∙ length-set s.weights i w

  elsewhere : (j : ℕ) → (i ≡ j → ⊥) → get_or t.weights j 0 ≡ get_or s.weights j 0
  elsewhere j ne = ap (λ (l : List ℕ). get_or l j 0) weights ∙ get_or-set_other s.weights i j w 0 (λ e. ne (sym e))

  has_it : (g : Got) → m g ≡ true → Stands t g
  has_it g e =
      let st : Stands s g = agrees.has g e in
      let ne : i ≡ g.index → ⊥ = λ eq. clash (m g) e (ap m (sym (got_is (own_got s i) g eq (ap (λ (k : ℕ). get_or s.weights k 0) eq ∙ sym st.weight))) ∙ out) in
      record {
        within = omega (arith, same_size, st.within);
        weight = st.weight ∙ sym (elsewhere g.index ne);
        inactive = λ place a. st.inactive place (sym (active place) ∙ a);
      }

  all_too : (g : Got) → Stands t g → Tells i g.index → m g ≡ true
  all_too g st (inl e) =
      absurd (clash (m (own_got s i)) (agrees.all (own_got s i) (record {
        within = lt;
        weight = refl;
        inactive = λ place a. st.inactive place (active place ∙ (a ∙ ap Some e.1));
      })) out)
  all_too g st (inr e) =
      agrees.all g (record {
        within = omega (arith, same_size, st.within);
        weight = st.weight ∙ elsewhere g.index e.1;
        inactive = λ place a. st.inactive place (active place ∙ a);
      })

  pub active_weighed : Agrees t m
  active_weighed = record {
    has = has_it;
    all = λ g st. all_too g st (eqb_tells i g.index);
    within = λ place j a. omega (arith, same_size, agrees.within place j (sym (active place) ∙ a));
    one = λ j k x a b. agrees.one j k x (sym (active j) ∙ a) (sym (active k) ∙ b);
  }

-- the active metaslab of a place gave it up
module _ (s t : GroupState) (m n : Got → Bool) (place : ℕ) (agrees : Agrees s m) (weights : t.weights ≡ s.weights)
    (active : (k : ℕ) → active_in t k ≡ cond (eqb place k) None (active_in s k)) where
  left_at : (k i : ℕ) → Tells place k → active_in t k ≡ Some i → (place ≡ k → ⊥) × (active_in s k ≡ Some i)
  left_at k i (inl e) a = absurd (none_some i (sym (ap (λ (b : Bool). cond b None (active_in s k)) e.0) ∙ (sym (active k) ∙ a)))
  left_at k i (inr e) a = (e.1, sym (active k ∙ ap (λ (b : Bool). cond b None (active_in s k)) e.0) ∙ a)

  left : (k i : ℕ) → active_in t k ≡ Some i → (place ≡ k → ⊥) × (active_in s k ≡ Some i)
  left k i a = left_at k i (eqb_tells place k) a

  stays : (k i : ℕ) → active_in s k ≡ Some i → (place ≡ k → ⊥) → active_in t k ≡ Some i
  stays k i a ne = active k ∙ (ap (λ (b : Bool). cond b None (active_in s k)) (eqb_other place k ne) ∙ a)

  size : length t.weights ≡ length s.weights
  size = ap length weights

  look : (j : ℕ) → get_or t.weights j 0 ≡ get_or s.weights j 0
  look j = ap (λ (l : List ℕ). get_or l j 0) weights

  still : (g : Got) → Stands s g → Stands t g
  still g st = record {
    within = omega (arith, size, st.within);
    weight = st.weight ∙ sym (look g.index);
    inactive = λ k a. st.inactive k (left k g.index a).1;
  }

  -- what is inactive now was so, unless it is what gave up its place
  was : (g : Got) → Stands t g → (active_in s place ≡ Some g.index → ⊥) → Stands s g
  was g st not_it = record {
    within = omega (arith, size, st.within);
    weight = st.weight ∙ look g.index;
    inactive = λ k a. at k a (eqb_tells place k);
  } where
    at : (k : ℕ) → active_in s k ≡ Some g.index → Tells place k → ⊥
    at k a (inl e) = not_it (ap (λ (p : ℕ). active_in s p) e.1 ∙ a)
    at k a (inr e) = st.inactive k (stays k g.index a e.1)

  vacated : (has : (g : Got) → n g ≡ true → Stands t g) (all : (g : Got) → Stands t g → n g ≡ true) → Agrees t n
  vacated has all = record {
    has = has;
    all = all;
    within = λ k i a. omega (arith, size, agrees.within k i (left k i a).1);
    one = λ j k x a b. agrees.one j k x (left j x a).1 (left k x b).1;
  }

  pub vacated_none : active_in s place ≡ None → ((g : Got) → n g ≡ m g) → Agrees t n
  vacated_none none same =
      vacated (λ g e. still g (agrees.has g (sym (same g) ∙ e)))
      (λ g st. same g ∙ agrees.all g (was g st (λ a. none_some g.index (sym none ∙ a))))

  in_too : (f : ℕ) → active_in s place ≡ Some f → (g : Got) → (is_same (own_got s f) g ≡ true) ⊎ (m g ≡ true) → Stands t g
  in_too f some g (inl e) =
      let is : (get_or s.weights f 0 ≡ g.weight) × (f ≡ g.index) = same_tells (own_got s f) g e in
      record {
        within = omega (arith, size, agrees.within place f some, is.1);
        weight = sym is.0 ∙ (ap (λ (k : ℕ). get_or s.weights k 0) is.1 ∙ sym (look g.index));
        inactive = λ k a. (left k g.index a).0 (agrees.one place k f some ((left k g.index a).1 ∙ ap Some (sym is.1)));
      }
  in_too f some g (inr e) = still g (agrees.has g e)

  all_back : (f : ℕ) → active_in s place ≡ Some f → (g : Got) → Stands t g → Tells f g.index → (is_same (own_got s f) g || m g) ≡ true
  all_back f some g st (inl e) = or_left (is_same (own_got s f) g) (m g) (same_is (own_got s f) g (ap (λ (k : ℕ). get_or s.weights k 0) e.1 ∙ sym (st.weight ∙ look g.index)) e.1)
  all_back f some g st (inr e) = or_right (is_same (own_got s f) g) (m g) (agrees.all g (was g st (λ a. e.1 (some_is f g.index (sym some ∙ a)))))

  pub vacated_some : (f : ℕ) → active_in s place ≡ Some f → ((g : Got) → n g ≡ (is_same (own_got s f) g || m g)) → Agrees t n
  vacated_some f some put =
      vacated (λ g e. in_too f some g (or_either (is_same (own_got s f) g) (m g) (sym (put g) ∙ e)))
      (λ g st. put g ∙ all_back f some g st (eqb_tells f g.index))

-- an inactive metaslab took a place that was free
module _ (s t : GroupState) (m n : Got → Bool) (place : ℕ) (got : Got) (agrees : Agrees s m) (weights : t.weights ≡ s.weights)
    (active : (k : ℕ) → active_in t k ≡ cond (eqb place k) (Some got.index) (active_in s k))
    (none : active_in s place ≡ None) (free : Stands s got)
    (taken : (g : Got) → n g ≡ (not (is_same got g) && m g)) where
  len : length t.weights ≡ length s.weights
  len = ap length weights

  see : (j : ℕ) → get_or t.weights j 0 ≡ get_or s.weights j 0
  see j = ap (λ (l : List ℕ). get_or l j 0) weights

  at_place : active_in t place ≡ Some got.index
  at_place = active place ∙ ap (λ (b : Bool). cond b (Some got.index) (active_in s place)) (eqb_same place place refl)

  off_place : (k : ℕ) → (place ≡ k → ⊥) → active_in t k ≡ active_in s k
  off_place k ne = active k ∙ ap (λ (b : Bool). cond b (Some got.index) (active_in s k)) (eqb_other place k ne)

  -- what is active now is what took the place, or was
  now_at : (k i : ℕ) → active_in t k ≡ Some i → Tells place k → ((place ≡ k) × (got.index ≡ i)) ⊎ ((place ≡ k → ⊥) × (active_in s k ≡ Some i))
  now_at k i a (inl e) = inl (e.1, some_is got.index i (sym at_place ∙ (ap (λ (p : ℕ). active_in t p) e.1 ∙ a)))
  now_at k i a (inr e) = inr (e.1, sym (off_place k e.1) ∙ a)

  now : (k i : ℕ) → active_in t k ≡ Some i → ((place ≡ k) × (got.index ≡ i)) ⊎ ((place ≡ k → ⊥) × (active_in s k ≡ Some i))
  now k i a = now_at k i a (eqb_tells place k)

  has_now : (g : Got) → n g ≡ true → Stands t g
  has_now g e =
      let both : (not (is_same got g) ≡ true) × (m g ≡ true) = and_both (not (is_same got g)) (m g) (sym (taken g) ∙ e) in
      let st : Stands s g = agrees.has g both.1 in
      let ne : got.index ≡ g.index → ⊥ = λ eq. clash (is_same got g) (same_is got g (free.weight ∙ (ap (λ (k : ℕ). get_or s.weights k 0) eq ∙ sym st.weight)) eq) (not_true (is_same got g) both.0) in
      let off : (k : ℕ) → ((place ≡ k) × (got.index ≡ g.index)) ⊎ ((place ≡ k → ⊥) × (active_in s k ≡ Some g.index)) → ⊥ = off_at g st ne in
      record {
        within = omega (arith, len, st.within);
        weight = st.weight ∙ sym (see g.index);
        inactive = λ k a. off k (now k g.index a);
      }
    where
      off_at : (g : Got) → Stands s g → (got.index ≡ g.index → ⊥) → (k : ℕ) → ((place ≡ k) × (got.index ≡ g.index)) ⊎ ((place ≡ k → ⊥) × (active_in s k ≡ Some g.index)) → ⊥
      off_at g st ne k (inl e) = ne e.1
      off_at g st ne k (inr e) = st.inactive k e.1

  all_now : (g : Got) → Stands t g → n g ≡ true
  all_now g st =
      let ne : got.index ≡ g.index → ⊥ = λ e. st.inactive place (at_place ∙ ap Some e) in
      taken g ∙ not_false (is_same got g) (m g) (same_not got g ne) (agrees.all g (record {
        within = omega (arith, len, st.within);
        weight = st.weight ∙ see g.index;
        inactive = λ k a. was_off g st k a (eqb_tells place k);
      }))
    where
      was_off : (g : Got) → Stands t g → (k : ℕ) → active_in s k ≡ Some g.index → Tells place k → ⊥
      was_off g st k a (inl e) = none_some g.index (sym none ∙ (ap (λ (p : ℕ). active_in s p) e.1 ∙ a))
      was_off g st k a (inr e) = st.inactive k (off_place k e.1 ∙ a)

  below : (i : ℕ) (k : ℕ) → ((place ≡ k) × (got.index ≡ i)) ⊎ ((place ≡ k → ⊥) × (active_in s k ≡ Some i)) → i < length t.weights
  below i k (inl e) = omega (arith, len, free.within, e.1)
  below i k (inr e) = omega (arith, len, agrees.within k i e.1)

  alone : (j k i : ℕ) → ((place ≡ j) × (got.index ≡ i)) ⊎ ((place ≡ j → ⊥) × (active_in s j ≡ Some i))
      → ((place ≡ k) × (got.index ≡ i)) ⊎ ((place ≡ k → ⊥) × (active_in s k ≡ Some i)) → j ≡ k
  alone j k i (inl e) (inl f) = sym e.0 ∙ f.0
  alone j k i (inl e) (inr f) = absurd (free.inactive k (f.1 ∙ ap Some (sym e.1)))
  alone j k i (inr e) (inl f) = absurd (free.inactive j (e.1 ∙ ap Some (sym f.1)))
  alone j k i (inr e) (inr f) = agrees.one j k i e.1 f.1

  pub occupied : Agrees t n
  occupied = record {
    has = has_now;
    all = all_now;
    within = λ k i a. below i k (now k i a);
    one = λ j k i a b. alone j k i (now j i a) (now k i b);
  }

-- what passes over a metaslab passes over each that weighs no more
pub passes_down : (high low bytes : ℕ) → low ≤ high → PassesOver high bytes → PassesOver low bytes
passes_down high low bytes le (inl e) = inl (omega arith)
passes_down high low bytes le (inr enough) =
    let less : low / 2 ^ 54 ≤ high / 2 ^ 54 = shr_mono 54 le in
    let up : 2 ^ (low / 2 ^ 54 + 1) ≤ 2 ^ (high / 2 ^ 54 + 1) = pow_mono {i = low / 2 ^ 54 + 1} {j = high / 2 ^ 54 + 1} (omega arith) in
    inr (omega arith)

pub weighs_less : (first other : Got) → (ComesBefore other first → ⊥) → other.weight ≤ first.weight
weighs_less first other not_before = at (cases_lt first.weight other.weight) where
  at : (first.weight < other.weight) ⊎ (other.weight ≤ first.weight) → other.weight ≤ first.weight
  at (inl lt) = absurd (not_before (inl lt))
  at (inr le) = le

-- the first inactive one alone tells what comes next
module _ (s : GroupState) (m : Got → Bool) (agrees : Agrees s m) (bytes : ℕ) (start : Start) where
  pub next_nothing : IsFirstOf (λ g. (m g ≡ true) × IsBehind start g) None → IsNext s bytes start None
  next_nothing none = λ g is. none g (agrees.all g is.0.0, is.1)

  pub next_passed : (got : Got) → IsFirst (λ g. (m g ≡ true) × IsBehind start g) got → PassesOver got.weight bytes → IsNext s bytes start None
  next_passed got first passes = λ g is. is.0.1 (passes_down got.weight g.weight bytes (weighs_less got g (first.first g (agrees.all g is.0.0, is.1))) passes)

  pub next_found : (got : Got) → IsFirst (λ g. (m g ≡ true) × IsBehind start g) got → (PassesOver got.weight bytes → ⊥) → IsNext s bytes start (Some got)
  next_found got first fits = record {
    is = ((agrees.has got first.is.0, fits), first.is.1);
    first = λ other is before. first.first other (agrees.all other is.0.0, is.1) before;
  }

-- the ranking of a group that has nothing active
pub fresh_agrees : (s : GroupState) (r : Ranking) → HasBelow (length s.weights) s.weights r → ((place : ℕ) → active_in s place ≡ None) → Agrees s (has r)
fresh_agrees s r below none = record {
  has = λ g e. let is = (below g).0 e in record { within = is.0; weight = is.1; inactive = λ place a. none_some g.index (sym (none place) ∙ a) };
  all = λ g st. (below g).1 (st.within, st.weight);
  within = λ place i a. absurd (none_some i (sym (none place) ∙ a));
  one = λ j k i a b. absurd (none_some i (sym (none j) ∙ a));
}

pub has_none : (weights : List ℕ) (r : Ranking) → ((g : Got) → has r g ≡ false) → HasBelow 0 weights r
has_none weights r none g = (λ e. absurd (clash (has r g) e (none g)), λ is. absurd (omega (arith, is.0)))

pub has_more : (n : ℕ) (weights : List ℕ) (r t : Ranking) (got : Got) → got.index ≡ n → got.weight ≡ get_or weights n 0 → HasBelow n weights r → ((g : Got) → has t g ≡ (is_same got g || has r g)) → HasBelow (n + 1) weights t
has_more n weights r t got index weight below put g = (to, back) where
  from : (is_same got g ≡ true) ⊎ (has r g ≡ true) → (g.index < n + 1) × (g.weight ≡ get_or weights g.index 0)
  from (inl e) = let is = same_tells got g e in (omega (arith, index, is.1), sym is.0 ∙ (weight ∙ ap (λ (k : ℕ). get_or weights k 0) (sym index ∙ is.1)))
  from (inr e) = let is = (below g).0 e in (omega (arith, is.0), is.1)

  to : has t g ≡ true → (g.index < n + 1) × (g.weight ≡ get_or weights g.index 0)
  to e = from (or_either (is_same got g) (has r g) (sym (put g) ∙ e))

  back_at : (g.index < n + 1) × (g.weight ≡ get_or weights g.index 0) → Tells n g.index → has t g ≡ true
  back_at is (inl e) = put g ∙ or_left (is_same got g) (has r g) (same_is got g (weight ∙ (ap (λ (k : ℕ). get_or weights k 0) e.1 ∙ sym is.1)) (index ∙ e.1))
  back_at is (inr e) = put g ∙ or_right (is_same got g) (has r g) ((below g).1 (omega (arith, is.0, e.1), is.1))

  back : (g.index < n + 1) × (g.weight ≡ get_or weights g.index 0) → has t g ≡ true
  back is = back_at is (eqb_tells n g.index)
