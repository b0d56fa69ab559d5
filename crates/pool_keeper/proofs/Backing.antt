-- What one group changes is backed by what the group before it held: it gains what that one did not hold, and gives back what
-- that one held, or what it gains itself.
use Rattle.std.proofs.Common.{◌≡◌, ℕ, ◌+◌, ◌-◌, ◌≤◌, ◌<◌, Bool, true, false, cond, Some, None, List, ◌⊎◌, inl, inr, refl, sym, ◌∙◌, ap, arith}
use Rattle.std.specs.Prelude.{◌||◌, ◌&&◌, max, nat_le}
use Rattle.std.proofs.lemmas.Bool.{le-leb}
use Rattle.zms_units.specs.Segments.{covers}
use Rattle.zms_units.proofs.Bools.{not_true, same_cond, or_false, and_false, le_or}
use Rattle.zms_units.proofs.Covers.{covers_true}
use Rattle.ms_model.specs.Origin.{Origin}
use Rattle.ms_model.specs.Units.{LastAct, granted, freed, taken_back, untouched, act_on, last_act, act_within, is_grant, held, settled_by, settled_group}
use Rattle.ms_model.specs.Spaces.{keeps_busy}
use Rattle.ms_model.specs.Gains.{gained_by, is_gained, gives, is_given}
use Rattle.ms_model.specs.Legal.{IsGrantedBy, MayDo, IsLegal}
use Rattle.ms_model.specs.declared.notes.Act.{Act}
use Rattle.ms_model.specs.declared.notes.Act.TheVariants.{Grant, Free, Unalloc, Collect, Settle}
use Rattle.ms_model.specs.declared.notes.Noted.{Noted}
use Rattle.ms_model.proofs.Lists.{by_snoc}
use Rattle.ms_model.proofs.Changes.{last_gained, last_opened}
use Rattle.ms_model.proofs.Held.{settled_by_grows}
use Rattle.ms_model.proofs.Histories.{held_act, last_act-push, held_act-push, settled_group-push, is_gained-push, is_given-push, by_legal}
use Rattle.ms_model.proofs.UnitFacts.{Sits, below, at, above, sits, Facts, IsGiftOf, vacant_apart, vacant_gain}
use Rattle.ms_model.proofs.Overlaps.{FactsOf, unit_facts}

-- a grant of a group of at most t that is the last act is one of what t holds

abbrev Stands : ℕ → LastAct → LastAct → Type 0
Stands t (granted who g) low = g ≤ t → is_grant low ≡ true
Stands t (freed g) low = Unit {0}
Stands t taken_back low = Unit {0}
Stands t untouched low = Unit {0}

stands_grant : (t g lane : ℕ) (c x : Bool) (last low : LastAct) → (g ≤ t → x ≡ true) → Stands t last low
    → Stands t (cond c (granted (Some lane) g) last) (cond x (cond c (granted (Some lane) g) low) low)
stands_grant t g lane true x last low own before = λ le. rw (own le) refl
stands_grant t g lane false x last low own before = rw (same_cond x low) before

stands_none : (t : ℕ) (c x : Bool) (now last low : LastAct) → ((l : LastAct) → Stands t now l) → Stands t last low
    → Stands t (cond c now last) (cond x (cond c now low) low)
stands_none t true x now last low none before = none _
stands_none t false x now last low none before = rw (same_cond x low) before

stands_quiet : (t : ℕ) (x : Bool) (last low : LastAct) → Stands t last low → Stands t last (cond x low low)
stands_quiet t x last low before = rw (same_cond x low) before

stands_step : (t u lane : ℕ) (act : Act) (last low : LastAct) → Stands t last low → Stands t (act_on u last lane act) (cond (act_within t act) (act_on u low lane act) low)
stands_step t u lane (Grant g seg) last low before = stands_grant t g.0 lane (covers seg u) (nat_le g.0 t) last low (le-leb g.0 t) before
stands_step t u lane (Free g seg) last low before = stands_none t (covers seg u) (nat_le g.0 t) (freed g.0) last low (λ l. tt) before
stands_step t u lane (Unalloc g seg) last low before = stands_none t (covers seg u) (nat_le g.0 t) taken_back last low (λ l. tt) before
stands_step t u lane (Collect g) last low before = stands_quiet t (nat_le g.0 t) last low before
stands_step t u lane (Settle g) last low before = stands_quiet t (nat_le g.0 t) last low before
stands_step t u lane _ last low before = before

first_stands : (t opened : ℕ) (b : Bool) → Stands t (cond b (granted None opened) untouched) (cond b (granted None opened) untouched)
first_stands t opened true = λ le. refl
first_stands t opened false = tt

stands : (o : Origin) (h : List Noted) (t u : ℕ) → Stands t (last_act o h u) (held_act o h t u)
stands o h t u =
    by_snoc (λ l. Stands t (last_act o l u) (held_act o l t u)) (first_stands t o.opened (o.base u))
    (λ l note before. rw (last_act-push o l note u, held_act-push o l note t u) (stands_step t u note.lane note.act (last_act o l u) (held_act o l t u) before)) h

-- of one unit: whether group t holds it, and whether group t + 1 gained it, and gave it
pub record Backs (low gained given : Bool) : Type 0 where
  pub gains : gained ≡ true → low ≡ false
  pub gifts : given ≡ true → (low ≡ true) ⊎ (gained ≡ true)

max_le : (a b t : ℕ) → a ≤ t → b ≤ t → max a b ≤ t
max_le a b t le le' = omega arith

gift_not_granted : (t g : ℕ) (last : LastAct) → IsGrantedBy g last → IsGiftOf t last → ⊥
gift_not_granted t g (granted who k) by gift = gift
gift_not_granted t g (freed k) by gift = by
gift_not_granted t g taken_back by gift = by
gift_not_granted t g untouched by gift = by

backs_grant : (t opened s c g lane : ℕ) (b x y z : Bool) → Sits g t x y z → (last low upto : LastAct) (gained given : Bool) → s ≤ t
    → (b ≡ true → keeps_busy s last ≡ false) → Facts t opened s c last low upto gained given → Backs (is_grant low) gained given
    → Backs (is_grant (cond x (cond b (granted (Some lane) g) low) low)) (cond (z && b) true gained) (given || false)
backs_grant t opened s c g lane false x y z sit last low upto gained given near vacant f was = rw (or_false given) (rw (and_false z) (rw (same_cond x low) was))
backs_grant t opened s c g lane true x y z (below le) last low upto gained given near vacant f was = record {
  gains = λ e. absurd (let old : t + 3 ≤ s = vacant_gain t s last (vacant refl) (f.gains (omega (arith, near)) e) in omega (arith, old, near));
  gifts = λ e. inl refl;
}
backs_grant t opened s c g lane true x y z (at is) last low upto gained given near vacant f was = record {
  gains = λ e. vacant_apart t opened s last low (vacant refl) f.apart (max_le opened (s - 2) t (omega (arith, f.from, near)) (omega (arith, near)));
  gifts = λ e. inr refl;
}
backs_grant t opened s c g lane true x y z (above lt) last low upto gained given near vacant f was = rw (or_false given) was

given_where : (t opened s g : ℕ) (last low : LastAct) (gained : Bool) → g ≡ t + 1 → opened ≤ s → s ≤ t → IsGrantedBy g last → Stands t last low
    → ((lane : ℕ) → last ≡ granted (Some lane) (t + 1) → gained ≡ true) → ((k : ℕ) → last ≡ granted None k → k ≡ opened) → (is_grant low ≡ true) ⊎ (gained ≡ true)
given_where t opened s g (granted None k) low gained is from near by stood own first = inl (let e : k ≡ opened = first k refl in stood (omega (arith, e, from, near)))
given_where t opened s g (granted (Some lane) k) low gained is from near by stood own first = turn (le_or k t) where
  turn : (k ≤ t) ⊎ (t < k) → (is_grant low ≡ true) ⊎ (gained ≡ true)
  turn (inl le) = inl (stood le)
  turn (inr lt) = let e : k ≡ t + 1 = omega (arith, lt, by, is) in inr (own lane (ap (granted (Some lane)) e))
given_where t opened s g (freed k) low gained is from near by stood own first = absurd by
given_where t opened s g taken_back low gained is from near by stood own first = absurd by
given_where t opened s g untouched low gained is from near by stood own first = absurd by

backs_free : (t opened s c g : ℕ) (b x y z : Bool) → Sits g t x y z → (last low upto : LastAct) (gained given : Bool) → s ≤ t
    → (b ≡ true → IsGrantedBy g last) → Stands t last low → ((lane : ℕ) → last ≡ granted (Some lane) (t + 1) → gained ≡ true) → ((k : ℕ) → last ≡ granted None k → k ≡ opened)
    → Facts t opened s c last low upto gained given → Backs (is_grant low) gained given
    → Backs (is_grant (cond x (cond b (freed g) low) low)) gained (given || (z && b))
backs_free t opened s c g false x y z sit last low upto gained given near live stood own first f was = rw (and_false z) (rw (or_false given) (rw (same_cond x low) was))
backs_free t opened s c g true x y z (below le) last low upto gained given near live stood own first f was = record {
  gains = λ e. refl;
  gifts = λ e. absurd (gift_not_granted t g last (live refl) (f.gifts (omega (arith, near)) (sym (or_false given) ∙ e)));
}
backs_free t opened s c g true x y z (at is) last low upto gained given near live stood own first f was = record {
  gains = was.gains;
  gifts = λ e. given_where t opened s g last low gained is f.from near (live refl) stood own first;
}
backs_free t opened s c g true x y z (above lt) last low upto gained given near live stood own first f was = rw (or_false given) was

own_granted : (g lane : ℕ) (last : LastAct) → last ≡ granted (Some lane) g → IsGrantedBy g last
own_granted g lane last e = rw e (omega arith)

backs_unalloc : (t opened s c g lane : ℕ) (b x y z : Bool) → Sits g t x y z → (last low upto : LastAct) (gained given : Bool) → s ≤ t
    → (b ≡ true → last ≡ granted (Some lane) g) → Facts t opened s c last low upto gained given → Backs (is_grant low) gained given
    → Backs (is_grant (cond x (cond b taken_back low) low)) (cond (z && b) false gained) (given || false)
backs_unalloc t opened s c g lane false x y z sit last low upto gained given near own f was = rw (or_false given) (rw (and_false z) (rw (same_cond x low) was))
backs_unalloc t opened s c g lane true x y z (below le) last low upto gained given near own f was = record {
  gains = λ e. refl;
  gifts = λ e. absurd (gift_not_granted t g last (own_granted g lane last (own refl)) (f.gifts (omega (arith, near)) (sym (or_false given) ∙ e)));
}
backs_unalloc t opened s c g lane true x y z (at is) last low upto gained given near own f was = record {
  gains = λ e. cc;
  gifts = λ e. absurd (gift_not_granted t g last (own_granted g lane last (own refl)) (f.gifts (omega (arith, near)) (sym (or_false given) ∙ e)));
}
backs_unalloc t opened s c g lane true x y z (above lt) last low upto gained given near own f was = rw (or_false given) was

backs_quiet : (x : Bool) (low : LastAct) (gained given : Bool) → Backs (is_grant low) gained given → Backs (is_grant (cond x low low)) gained (given || false)
backs_quiet x low gained given was = rw (or_false given) (rw (same_cond x low) was)

abbrev BacksOf : Origin → List Noted → ℕ → ℕ → Type 0
BacksOf o h t u = Backs (held o h t u) (is_gained (t + 1) h u) (is_given (t + 1) h u)

abbrev BacksAfter : Origin → List Noted → ℕ → ℕ → ℕ → Act → Type 0
BacksAfter o h t u lane act =
    Backs (is_grant (cond (act_within t act) (act_on u (held_act o h t u) lane act) (held_act o h t u)))
    (gained_by (t + 1) u (is_gained (t + 1) h u) act) (is_given (t + 1) h u || gives (t + 1) u act)

backs_do : (o : Origin) (h : List Noted) (t u lane : ℕ) (act : Act) → MayDo o h lane act → settled_group o h ≤ t → FactsOf o h t u → BacksOf o h t u → BacksAfter o h t u lane act
backs_do o h t u lane (Grant g seg) may near f was =
    backs_grant t _ _ _ g.0 lane (covers seg u) _ _ _ (sits g.0 t) _ _ _ _ _ near (λ e. not_true _ (may.vacant u (covers_true seg u e))) f was
backs_do o h t u lane (Free g seg) may near f was =
    backs_free t _ _ _ g.0 (covers seg u) _ _ _ (sits g.0 t) _ _ _ _ _ near (λ e. may.live u (covers_true seg u e)) (stands o h t u)
    (λ by e. last_gained o h u by (t + 1) e) (λ k e. last_opened o h u k e) f was
backs_do o h t u lane (Unalloc g seg) may near f was =
    backs_unalloc t _ _ _ g.0 lane (covers seg u) _ _ _ (sits g.0 t) _ _ _ _ _ near (λ e. may.own u (covers_true seg u e)) f was
backs_do o h t u lane (Collect g) may near f was = backs_quiet (nat_le g.0 t) (held_act o h t u) _ _ was
backs_do o h t u lane (Settle g) may near f was = backs_quiet (nat_le g.0 t) (held_act o h t u) _ _ was
backs_do o h t u lane _ may near f was = backs_quiet true (held_act o h t u) _ _ was

-- in a legal history that has settled no group above t
pub unit_backs : (o : Origin) (h : List Noted) (t u : ℕ) → IsLegal o h → settled_group o h ≤ t → BacksOf o h t u
unit_backs o h t u legal near =
    by_legal o (λ l. settled_group o l ≤ t → BacksOf o l t u) (λ _. record { gains = λ e. cc; gifts = λ e. cc })
    (λ l note before may was later.
    let rises : settled_group o l ≤ settled_by (settled_group o l) note.act = settled_by_grows o l note.lane note.act may in
    let early : settled_group o l ≤ t = omega (arith, rises, later, settled_group-push o l note) in
    rw (ap is_grant (held_act-push o l note t u), is_gained-push (t + 1) l note u, is_given-push (t + 1) l note u)
    (backs_do o l t u note.lane note.act may early (unit_facts o l t u before) (was early)))
    h legal near
