-- The facts of a unit hold in each legal history, so what is granted or worked is free of all.
use Rattle.std.proofs.Common.{◌≡◌, ℕ, ◌+◌, ◌≤◌, ◌<◌, Bool, true, false, cond, Some, None, List, [], ◌∷◌, ◌++◌, refl, sym, subst, arith}
use Rattle.std.specs.Prelude.{◌||◌, ◌&&◌}
use Rattle.zms_units.specs.Segments.{covers}
use Rattle.zms_units.proofs.Bools.{not_true, same_cond, or_false, and_false}
use Rattle.zms_units.proofs.Covers.{covers_true}
use Rattle.ms_model.specs.Origin.{Origin}
use Rattle.ms_model.specs.Units.{LastAct, granted, freed, taken_back, untouched, act_on, last_act, act_within, is_grant, settled_by, settled_group, collected_by, collected_group}
use Rattle.ms_model.specs.Spaces.{keeps_busy, is_busy, is_vacant}
use Rattle.ms_model.specs.Gains.{gained_by, is_gained, gives, is_given}
use Rattle.ms_model.specs.Legal.{IsGrantedBy, MayDo, IsLegal}
use Rattle.ms_model.specs.Laws.{IsFreeOfAll, Takes, GrantsOverlapNothing}
use Rattle.ms_model.specs.declared.notes.Act.{Act}
use Rattle.ms_model.specs.declared.notes.Act.TheVariants.{Grant, Free, Unalloc, Collect, Settle, Work}
use Rattle.ms_model.specs.declared.notes.Noted.{Noted}
use Rattle.ms_model.proofs.Histories.{held_act, last_act-push, held_act-push, settled_group-push, collected_group-push, is_gained-push, is_given-push, legal_before, by_legal}
use Rattle.ms_model.proofs.UnitFacts.{Sits, sits, Apart, Facts, vacant_apart, facts_grant, facts_free, facts_unalloc, facts_settle}

abbrev pub FactsOf : Origin → List Noted → ℕ → ℕ → Type 0
FactsOf o h t u =
    Facts t o.opened (settled_group o h) (collected_group o h) (last_act o h u) (held_act o h t u) (held_act o h (t + 1) u)
    (is_gained (t + 1) h u) (is_given (t + 1) h u)

facts_along : (t opened s c s' c' : ℕ) (last low upto last' low' upto' : LastAct) (gained given gained' given' : Bool)
    → s' ≡ s → c' ≡ c → last' ≡ last → low' ≡ low → upto' ≡ upto → gained' ≡ gained → given' ≡ given
    → Facts t opened s c last low upto gained given → Facts t opened s' c' last' low' upto' gained' given'
facts_along t opened s c s' c' last low upto last' low' upto' gained given gained' given' e₁ e₂ e₃ e₄ e₅ e₆ e₇ f =
    rw e₁ (rw e₂ (rw e₃ (rw e₄ (rw e₅ (rw e₆ (rw e₇ f))))))

-- the facts after an act, as each part of them moves by it
abbrev FactsAfter : Origin → List Noted → ℕ → ℕ → ℕ → Act → Type 0
FactsAfter o h t u lane act =
    Facts t o.opened (settled_by (settled_group o h) act) (collected_by (collected_group o h) act) (act_on u (last_act o h u) lane act)
    (cond (act_within t act) (act_on u (held_act o h t u) lane act) (held_act o h t u))
    (cond (act_within (t + 1) act) (act_on u (held_act o h (t + 1) u) lane act) (held_act o h (t + 1) u))
    (gained_by (t + 1) u (is_gained (t + 1) h u) act) (is_given (t + 1) h u || gives (t + 1) u act)

after : (o : Origin) (h : List Noted) (t u : ℕ) (note : Noted) → FactsAfter o h t u note.lane note.act → FactsOf o (h ++ note ∷ []) t u
after o h t u note f =
    facts_along t o.opened _ _ _ _ _ _ _ _ _ _ _ _ _ _
    (settled_group-push o h note) (collected_group-push o h note) (last_act-push o h note u)
    (held_act-push o h note t u) (held_act-push o h note (t + 1) u) (is_gained-push (t + 1) h note u) (is_given-push (t + 1) h note u) f

-- a segment that covers the unit or not

grant_case : (t opened s c g lane : ℕ) (b x y z : Bool) → Sits g t x y z → (last low upto : LastAct) (gained given : Bool)
    → c < g → (b ≡ true → keeps_busy s last ≡ false) → Facts t opened s c last low upto gained given
    → Facts t opened s c (cond b (granted (Some lane) g) last) (cond x (cond b (granted (Some lane) g) low) low)
    (cond y (cond b (granted (Some lane) g) upto) upto) (cond (z && b) true gained) (given || false)
grant_case t opened s c g lane true x y z sit last low upto gained given fresh vacant f =
    rw (or_false given) (facts_grant t opened s c g lane x y z sit last low upto gained given fresh (vacant refl) f)
grant_case t opened s c g lane false x y z sit last low upto gained given fresh vacant f =
    rw (or_false given) (rw (and_false z) (rw (same_cond x low) (rw (same_cond y upto) f)))

free_case : (t opened s c g : ℕ) (b x y z : Bool) → Sits g t x y z → (last low upto : LastAct) (gained given : Bool)
    → c < g → (b ≡ true → IsGrantedBy g last) → Facts t opened s c last low upto gained given
    → Facts t opened s c (cond b (freed g) last) (cond x (cond b (freed g) low) low) (cond y (cond b (freed g) upto) upto) gained (given || (z && b))
free_case t opened s c g true x y z sit last low upto gained given fresh live f =
    facts_free t opened s c g x y z sit last low upto gained given fresh (live refl) f
free_case t opened s c g false x y z sit last low upto gained given fresh live f =
    rw (and_false z) (rw (or_false given) (rw (same_cond x low) (rw (same_cond y upto) f)))

unalloc_case : (t opened s c g lane : ℕ) (b x y z : Bool) → Sits g t x y z → (last low upto : LastAct) (gained given : Bool)
    → c < g → (b ≡ true → last ≡ granted (Some lane) g) → Facts t opened s c last low upto gained given
    → Facts t opened s c (cond b taken_back last) (cond x (cond b taken_back low) low)
    (cond y (cond b taken_back upto) upto) (cond (z && b) false gained) (given || false)
unalloc_case t opened s c g lane true x y z sit last low upto gained given fresh own f =
    rw (or_false given) (facts_unalloc t opened s c g lane x y z sit low upto gained given fresh (rw (own refl) at f))
unalloc_case t opened s c g lane false x y z sit last low upto gained given fresh own f =
    rw (or_false given) (rw (and_false z) (rw (same_cond x low) (rw (same_cond y upto) f)))

-- an act that changes no unit

quiet_case : (t opened s c s' c' : ℕ) (x y : Bool) (last low upto : LastAct) (gained given : Bool) → s ≤ s' → s' ≤ c'
    → Facts t opened s c last low upto gained given → Facts t opened s' c' last (cond x low low) (cond y upto upto) gained (given || false)
quiet_case t opened s c s' c' x y last low upto gained given le order f =
    rw (or_false given) (rw (same_cond x low) (rw (same_cond y upto) (facts_settle t opened s c last low upto gained given s' c' le order f)))

same_facts : (t opened s c : ℕ) (last low upto : LastAct) (gained given : Bool)
    → Facts t opened s c last low upto gained given → Facts t opened s c last low upto gained (given || false)
same_facts t opened s c last low upto gained given f = rw (or_false given) f

facts_do : (o : Origin) (h : List Noted) (t u lane : ℕ) (act : Act) → MayDo o h lane act → FactsOf o h t u → FactsAfter o h t u lane act
facts_do o h t u lane (Grant group seg) may f =
    grant_case t _ _ _ group.0 lane (covers seg u) _ _ _ (sits group.0 t) _ _ _ _ _ may.open_group.above
    (λ e. not_true _ (may.vacant u (covers_true seg u e))) f
facts_do o h t u lane (Free group seg) may f =
    free_case t _ _ _ group.0 (covers seg u) _ _ _ (sits group.0 t) _ _ _ _ _ may.open_group.above
    (λ e. may.live u (covers_true seg u e)) f
facts_do o h t u lane (Unalloc group seg) may f =
    unalloc_case t _ _ _ group.0 lane (covers seg u) _ _ _ (sits group.0 t) _ _ _ _ _ may.open_group.above
    (λ e. may.own u (covers_true seg u e)) f
facts_do o h t u lane (Collect group) may f = quiet_case t _ _ _ _ _ _ _ _ _ _ _ _ (omega arith) (omega (arith, f.order)) f
facts_do o h t u lane (Settle group) may f = quiet_case t _ _ _ _ _ _ _ _ _ _ _ _ (omega arith) may.1 f
facts_do o h t u lane _ may f = same_facts t _ _ _ _ _ _ _ _ f

-- before the first note

first_apart : (o : Origin) (t m u : ℕ) (b : Bool) → Apart t m (cond b (granted None o.opened) untouched) (cond b (granted None o.opened) untouched)
first_apart o t m u true = tt
first_apart o t m u false = λ _. refl

facts_first : (o : Origin) (t u : ℕ) → FactsOf o [] t u
facts_first o t u =
    record {
      from = omega arith;
      order = omega arith;
      apart = first_apart o t _ u (o.base u);
      gains = λ _ no_gain. cc;
      gifts = λ _ no_gift. cc;
      adds = refl;
    }

pub unit_facts : (o : Origin) (h : List Noted) (t u : ℕ) → IsLegal o h → FactsOf o h t u
unit_facts o h t u legal =
    by_legal o (λ l. FactsOf o l t u) (facts_first o t u)
    (λ l note _ may f. after o l t u note (facts_do o l t u note.lane note.act may f)) h legal

pub settled_le_collected : (o : Origin) (h : List Noted) → IsLegal o h → settled_group o h ≤ collected_group o h
settled_le_collected o h legal = (unit_facts o h 0 0 legal).order

pub opened_le_settled : (o : Origin) (h : List Noted) → IsLegal o h → o.opened ≤ settled_group o h
opened_le_settled o h legal = (unit_facts o h 0 0 legal).from

vacant_not_live : (s : ℕ) (last : LastAct) → keeps_busy s last ≡ false → is_grant last ≡ false
vacant_not_live s (granted lane g) e = cc
vacant_not_live s (freed g) e = refl
vacant_not_live s taken_back e = refl
vacant_not_live s untouched e = refl

-- a vacant unit is free of all
pub vacant_free : (o : Origin) (h : List Noted) (u : ℕ) → IsLegal o h → is_vacant o h u ≡ true → IsFreeOfAll o h u
vacant_free o h u legal vacant =
    let idle : is_busy o h u ≡ false = not_true _ vacant in
    record {
      live = vacant_not_live _ _ idle;
      deferred = rw idle refl;
      retained = λ t from. vacant_apart t o.opened (settled_group o h) _ _ idle (unit_facts o h t u legal).apart from;
    }

-- what a legal history takes is free of all
taken_free : (o : Origin) (h : List Noted) (lane : ℕ) (act : Act) (u : ℕ) → IsLegal o h → MayDo o h lane act → Takes act u → IsFreeOfAll o h u
taken_free o h lane (Grant group seg) u legal may takes = vacant_free o h u legal (may.vacant u takes)
taken_free o h lane (Work worker kind seg) u legal may takes = vacant_free o h u legal (may.vacant u takes)
taken_free o h lane _ u legal may takes = absurd takes

pub overlaps_nothing : GrantsOverlapNothing
overlaps_nothing o h legal before note rest u is takes =
    taken_free o before note.lane note.act u
    (legal_before o before (note ∷ rest) (subst (IsLegal o) (sym is) legal)) (legal before note rest is) takes
