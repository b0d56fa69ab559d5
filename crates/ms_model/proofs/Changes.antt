-- What the groups of the changes say of the last act on a unit, and the other way round.
use Rattle.std.proofs.Common.{◌≡◌, ℕ, ◌+◌, ◌-◌, ◌≤◌, ◌<◌, Bool, true, false, cond, Some, None, List, [], ◌∷◌, ◌++◌, refl, sym, ◌∙◌, ap, subst, arith, ◌⊎◌, inl, inr}
use Rattle.std.specs.Prelude.{◌||◌, ◌&&◌, not, ◌==◌, ◌≢◌, nat_lt}
use Rattle.std.specs.List.{fold, filter, list_all, All}
use Rattle.std.proofs.lemmas.Bool.{lt-ltb, le-ltb}
use Rattle.std.proofs.lemmas.Bool.Decides.{nat_tests}
use Rattle.zms_units.specs.Segments.{covers}
use Rattle.zms_units.proofs.Bools.{le_or, same_not, not_true, or_left, or_right, true_and, true_or_false, and_false}
use Rattle.ms_model.specs.Origin.{Origin}
use Rattle.ms_model.specs.Units.{LastAct, granted, freed, taken_back, untouched, act_on, first_act, last_act, act_within, is_grant, held, settled_group, collected_group, is_loaded}
use Rattle.ms_model.specs.Spaces.{keeps_busy, is_vacant}
use Rattle.ms_model.specs.Gains.{gained_by, is_gained, gives, is_given}
use Rattle.ms_model.specs.Legal.{IsGrantedBy, MayDo, IsLegal}
use Rattle.ms_model.specs.declared.notes.Act.{Act}
use Rattle.ms_model.specs.declared.notes.Act.TheVariants.{Grant, Free, Unalloc, Unload}
use Rattle.ms_model.specs.declared.notes.Noted.{Noted}
use Rattle.ms_model.proofs.Lists.{by_snoc}
use Rattle.ms_model.proofs.Histories.{last_act-push, settled_group-push, is_gained-push, is_given-push, by_legal}
use Rattle.ms_model.proofs.UnitFacts.{IsGainOf, IsGiftOf, is_false, vacant_gain, vacant_gift}
use Rattle.ms_model.proofs.Overlaps.{unit_facts, settled_le_collected, opened_le_settled}
use Rattle.ms_model.proofs.Held.{settled_by_grows, as_opened, held-as_opened}

-- the act changes units, in group t
abbrev pub ChangesIn : ℕ → Act → Type 0
ChangesIn t (Grant group _) = group.0 ≡ t
ChangesIn t (Free group _) = group.0 ≡ t
ChangesIn t (Unalloc group _) = group.0 ≡ t
ChangesIn t _ = ⊥

other_group : (g t : ℕ) → (g ≡ t → ⊥) → (g == t) ≡ false
other_group g t none = grind (arith, nat_tests)

pub own_group : (g t : ℕ) → g ≡ t → (g == t) ≡ true
own_group g t e = grind (arith, nat_tests)

pub gained_quiet : (t u : ℕ) (b : Bool) (act : Act) → (ChangesIn t act → ⊥) → gained_by t u b act ≡ b
gained_quiet t u b (Grant group seg) none = rw (other_group group.0 t none) refl
gained_quiet t u b (Unalloc group seg) none = rw (other_group group.0 t none) refl
gained_quiet t u b _ none = refl

pub gives_quiet : (t u : ℕ) (act : Act) → (ChangesIn t act → ⊥) → gives t u act ≡ false
gives_quiet t u (Free group seg) none = rw (other_group group.0 t none) refl
gives_quiet t u _ none = refl

-- a change that may follow is of a group above the collected one, and at most three above the settled one
changes_above : (o : Origin) (h : List Noted) (t lane : ℕ) (act : Act) → MayDo o h lane act → ChangesIn t act → collected_group o h < t
changes_above o h t lane (Grant group seg) may e = omega (arith, may.open_group.above)
changes_above o h t lane (Free group seg) may e = omega (arith, may.open_group.above)
changes_above o h t lane (Unalloc group seg) may e = omega (arith, may.open_group.above)
changes_above o h t lane _ may e = absurd e

changes_near : (o : Origin) (h : List Noted) (t lane : ℕ) (act : Act) → MayDo o h lane act → ChangesIn t act → t ≤ settled_group o h + 3
changes_near o h t lane (Grant group seg) may e = omega (arith, may.open_group.near)
changes_near o h t lane (Free group seg) may e = omega (arith, may.open_group.near)
changes_near o h t lane (Unalloc group seg) may e = omega (arith, may.open_group.near)
changes_near o h t lane _ may e = absurd e

-- no group above three past the settled one gained or gave anything, nor any up to the opened one
abbrev IsOutside : Origin → List Noted → ℕ → Type 0
IsOutside o h t = (settled_group o h + 3 < t) ⊎ (t ≤ o.opened)

outside_before : (o : Origin) (h : List Noted) (note : Noted) (t : ℕ) → MayDo o h note.lane note.act → IsOutside o (h ++ note ∷ []) t → IsOutside o h t
outside_before o h note t may (inl far) = inl (omega (arith, settled_group-push o h note, settled_by_grows o h note.lane note.act may))
outside_before o h note t may (inr old) = inr old

none_outside : (o : Origin) (h : List Noted) (note : Noted) (t : ℕ) → IsLegal o h → MayDo o h note.lane note.act → IsOutside o h t → ChangesIn t note.act → ⊥
none_outside o h note t legal may (inl far) e = omega (arith, changes_near o h t note.lane note.act may e)
none_outside o h note t legal may (inr old) e = omega (arith, changes_above o h t note.lane note.act may e, settled_le_collected o h legal, opened_le_settled o h legal)

gained_outside : (o : Origin) (h : List Noted) (t u : ℕ) → IsLegal o h → IsOutside o h t → is_gained t h u ≡ false
gained_outside o h t u legal out =
    by_legal o (λ l. IsOutside o l t → is_gained t l u ≡ false) (λ _. refl)
    (λ l note first may before later.
    let now : IsOutside o l t = outside_before o l note t may later in
    is_gained-push t l note u ∙ (gained_quiet t u (is_gained t l u) note.act (none_outside o l note t first may now) ∙ before now))
    h legal out

given_outside : (o : Origin) (h : List Noted) (t u : ℕ) → IsLegal o h → IsOutside o h t → is_given t h u ≡ false
given_outside o h t u legal out =
    by_legal o (λ l. IsOutside o l t → is_given t l u ≡ false) (λ _. refl)
    (λ l note first may before later.
    let now : IsOutside o l t = outside_before o l note t may later in
    is_given-push t l note u ∙ rw (before now, gives_quiet t u note.act (none_outside o l note t first may now)) refl)
    h legal out

pub gained_far : (o : Origin) (h : List Noted) (t u : ℕ) → IsLegal o h → settled_group o h + 3 < t → is_gained t h u ≡ false
gained_far o h t u legal far = gained_outside o h t u legal (inl far)

pub given_far : (o : Origin) (h : List Noted) (t u : ℕ) → IsLegal o h → settled_group o h + 3 < t → is_given t h u ≡ false
given_far o h t u legal far = given_outside o h t u legal (inl far)

pub gained_old : (o : Origin) (h : List Noted) (t u : ℕ) → IsLegal o h → t ≤ o.opened → is_gained t h u ≡ false
gained_old o h t u legal old = gained_outside o h t u legal (inr old)

pub given_old : (o : Origin) (h : List Noted) (t u : ℕ) → IsLegal o h → t ≤ o.opened → is_given t h u ≡ false
given_old o h t u legal old = given_outside o h t u legal (inr old)

-- the group of the last act on a unit gained it, or gave it; one that is of no lane is the base's

grant_gained : (c x b : Bool) (g by lane group : ℕ) (last : LastAct) → (g ≡ group → x ≡ true) → (last ≡ granted (Some lane) group → b ≡ true)
    → cond c (granted (Some by) g) last ≡ granted (Some lane) group → cond (x && c) true b ≡ true
grant_gained true x b g by lane group last own before e = let here : x ≡ true = own (cc) in rw here refl
grant_gained false x b g by lane group last own before e = rw (and_false x) (before e)

unalloc_gained : (c x b : Bool) (lane group : ℕ) (last : LastAct) → (last ≡ granted (Some lane) group → b ≡ true)
    → cond c taken_back last ≡ granted (Some lane) group → cond (x && c) false b ≡ true
unalloc_gained true x b lane group last before e = absurd (cc)
unalloc_gained false x b lane group last before e = rw (and_false x) (before e)

free_gained : (c b : Bool) (g lane group : ℕ) (last : LastAct) → (last ≡ granted (Some lane) group → b ≡ true)
    → cond c (freed g) last ≡ granted (Some lane) group → b ≡ true
free_gained true b g lane group last before e = absurd (cc)
free_gained false b g lane group last before e = before e

gained_step : (u by lane group : ℕ) (act : Act) (last : LastAct) (b : Bool) → (last ≡ granted (Some lane) group → b ≡ true)
    → act_on u last by act ≡ granted (Some lane) group → gained_by group u b act ≡ true
gained_step u by lane group (Grant g seg) last b before e = grant_gained (covers seg u) (g.0 == group) b g.0 by lane group last (own_group g.0 group) before e
gained_step u by lane group (Free g seg) last b before e = free_gained (covers seg u) b g.0 lane group last before e
gained_step u by lane group (Unalloc g seg) last b before e = unalloc_gained (covers seg u) (g.0 == group) b lane group last before e
gained_step u by lane group _ last b before e = before e

first_no_lane : (b : Bool) (opened lane group : ℕ) → cond b (granted None opened) untouched ≡ granted (Some lane) group → ⊥
first_no_lane true opened lane group e = cc
first_no_lane false opened lane group e = cc

pub last_gained : (o : Origin) (h : List Noted) (u lane group : ℕ) → last_act o h u ≡ granted (Some lane) group → is_gained group h u ≡ true
last_gained o h u lane group e =
    by_snoc (λ l. last_act o l u ≡ granted (Some lane) group → is_gained group l u ≡ true)
    (λ f. absurd (first_no_lane (o.base u) o.opened lane group f))
    (λ l note before f.
    is_gained-push group l note u ∙ gained_step u note.lane lane group note.act (last_act o l u) (is_gained group l u) before (sym (last_act-push o l note u) ∙ f))
    h e

free_given : (c x b : Bool) (g group : ℕ) (last : LastAct) → (g ≡ group → x ≡ true) → (last ≡ freed group → b ≡ true)
    → cond c (freed g) last ≡ freed group → (b || (x && c)) ≡ true
free_given true x b g group last own before e = let here : x ≡ true = own (cc) in or_right b (x && true) (rw here refl)
free_given false x b g group last own before e = or_left b (x && false) (before e)

still_given : (c b : Bool) (now last : LastAct) (group : ℕ) → (now ≡ freed group → ⊥) → (last ≡ freed group → b ≡ true)
    → cond c now last ≡ freed group → (b || false) ≡ true
still_given true b now last group none before e = absurd (none e)
still_given false b now last group none before e = or_left b false (before e)

given_step : (u by group : ℕ) (act : Act) (last : LastAct) (b : Bool) → (last ≡ freed group → b ≡ true)
    → act_on u last by act ≡ freed group → (b || gives group u act) ≡ true
given_step u by group (Grant g seg) last b before e = still_given (covers seg u) b _ last group (λ f. cc) before e
given_step u by group (Free g seg) last b before e = free_given (covers seg u) (g.0 == group) b g.0 group last (own_group g.0 group) before e
given_step u by group (Unalloc g seg) last b before e = still_given (covers seg u) b _ last group (λ f. cc) before e
given_step u by group _ last b before e = or_left b false (before e)

first_not_freed : (b : Bool) (opened group : ℕ) → cond b (granted None opened) untouched ≡ freed group → ⊥
first_not_freed true opened group e = cc
first_not_freed false opened group e = cc

pub last_given : (o : Origin) (h : List Noted) (u group : ℕ) → last_act o h u ≡ freed group → is_given group h u ≡ true
last_given o h u group e =
    by_snoc (λ l. last_act o l u ≡ freed group → is_given group l u ≡ true)
    (λ f. absurd (first_not_freed (o.base u) o.opened group f))
    (λ l note before f.
    is_given-push group l note u ∙ given_step u note.lane group note.act (last_act o l u) (is_given group l u) before (sym (last_act-push o l note u) ∙ f))
    h e

still_opened : (c : Bool) (now last : LastAct) (group opened : ℕ) → (now ≡ granted None group → ⊥) → (last ≡ granted None group → group ≡ opened)
    → cond c now last ≡ granted None group → group ≡ opened
still_opened true now last group opened none before e = absurd (none e)
still_opened false now last group opened none before e = before e

opened_step : (u by group opened : ℕ) (act : Act) (last : LastAct) → (last ≡ granted None group → group ≡ opened)
    → act_on u last by act ≡ granted None group → group ≡ opened
opened_step u by group opened (Grant g seg) last before e = still_opened (covers seg u) _ last group opened (λ f. cc) before e
opened_step u by group opened (Free g seg) last before e = still_opened (covers seg u) _ last group opened (λ f. cc) before e
opened_step u by group opened (Unalloc g seg) last before e = still_opened (covers seg u) _ last group opened (λ f. cc) before e
opened_step u by group opened _ last before e = before e

first_opened : (b : Bool) (opened group : ℕ) → cond b (granted None opened) untouched ≡ granted None group → group ≡ opened
first_opened true opened group e = cc
first_opened false opened group e = absurd (cc)

pub last_opened : (o : Origin) (h : List Noted) (u group : ℕ) → last_act o h u ≡ granted None group → group ≡ o.opened
last_opened o h u group e =
    by_snoc (λ l. last_act o l u ≡ granted None group → group ≡ o.opened)
    (first_opened (o.base u) o.opened group)
    (λ l note before f. opened_step u note.lane group o.opened note.act (last_act o l u) before (sym (last_act-push o l note u) ∙ f))
    h e

-- a unit that a group gained, or gave, which is not two groups old, was so by its last act

pub gained_last : (o : Origin) (h : List Noted) (t u : ℕ) → IsLegal o h → settled_group o h < t + 2 → is_gained t h u ≡ true → IsGainOf (t - 1) (last_act o h u)
gained_last o h t u legal near gained = by_group (le_or t 0) where
  by_group : (t ≤ 0) ⊎ (0 < t) → IsGainOf (t - 1) (last_act o h u)
  by_group (inl none) = absurd (same_not gained (gained_old o h t u legal (omega arith)))
  by_group (inr some) =
      (unit_facts o h (t - 1) u legal).gains (omega arith) (let e : t ≡ t - 1 + 1 = omega arith in subst (λ n. is_gained n h u ≡ true) e gained)

pub given_last : (o : Origin) (h : List Noted) (t u : ℕ) → IsLegal o h → settled_group o h < t + 2 → is_given t h u ≡ true → IsGiftOf (t - 1) (last_act o h u)
given_last o h t u legal near given = by_group (le_or t 0) where
  by_group : (t ≤ 0) ⊎ (0 < t) → IsGiftOf (t - 1) (last_act o h u)
  by_group (inl none) = absurd (same_not given (given_old o h t u legal (omega arith)))
  by_group (inr some) =
      (unit_facts o h (t - 1) u legal).gifts (omega arith) (let e : t ≡ t - 1 + 1 = omega arith in subst (λ n. is_given n h u ≡ true) e given)

-- what is vacant, handed out, or given back

live_gift : (t : ℕ) (last : LastAct) → is_grant last ≡ true → IsGiftOf t last → ⊥
live_gift t (granted lane g) e h = h
live_gift t (freed g) e h = cc
live_gift t taken_back e h = h
live_gift t untouched e h = h

pub granted_by_live : (group : ℕ) (last : LastAct) → IsGrantedBy group last → is_grant last ≡ true
granted_by_live group (granted lane g) h = refl
granted_by_live group (freed g) h = absurd h
granted_by_live group taken_back h = absurd h
granted_by_live group untouched h = absurd h

pub live_busy : (s : ℕ) (last : LastAct) → is_grant last ≡ true → keeps_busy s last ≡ true
live_busy s (granted lane g) e = refl
live_busy s (freed g) e = absurd (cc)
live_busy s taken_back e = absurd (cc)
live_busy s untouched e = absurd (cc)

gift_busy : (t s : ℕ) (last : LastAct) → s < t + 3 → IsGiftOf t last → keeps_busy s last ≡ true
gift_busy t s last near gift = busy_by (true_or_false (keeps_busy s last)) where
  busy_by : (keeps_busy s last ≡ true) ⊎ (keeps_busy s last ≡ false) → keeps_busy s last ≡ true
  busy_by (inl e) = e
  busy_by (inr e) = absurd (let old : t + 3 ≤ s = vacant_gift t s last e gift in omega arith)

-- a free is vacant where its second settle is this one
freed_vacant : (s g k : ℕ) (given : Bool) → g ≡ s + 1 → (given ≡ true → k + 2 ≡ g) → (k + 2 ≡ g → given ≡ true)
    → (given || not (nat_lt s (k + 2))) ≡ not (nat_lt g (k + 2))
freed_vacant s g k true next due is = let e : k + 2 ≡ g = due refl in ap not (sym (le-ltb g (k + 2) (omega arith)))
freed_vacant s g k false next due is = by_place (le_or (k + 2) s) where
  late : k + 2 ≡ g → ⊥
  late e = same_not (is e) refl

  by_place : (k + 2 ≤ s) ⊎ (s < k + 2) → not (nat_lt s (k + 2)) ≡ not (nat_lt g (k + 2))
  by_place (inl h) = ap not (le-ltb s (k + 2) h ∙ sym (le-ltb g (k + 2) (omega arith)))
  by_place (inr h) = ap not (lt-ltb s (k + 2) h ∙ sym (lt-ltb g (k + 2) (past h (le_or (k + 2) g)))) where
    past : s < k + 2 → (k + 2 ≤ g) ⊎ (g < k + 2) → g < k + 2
    past h (inl le) = absurd (late (omega arith))
    past h (inr lt) = lt

settled_vacant : (s g : ℕ) (last : LastAct) (given : Bool) → g ≡ s + 1 → (given ≡ true → (0 < g - 2) × IsGiftOf (g - 2 - 1) last) → (last ≡ freed (g - 2) → given ≡ true)
    → (given || not (keeps_busy s last)) ≡ not (keeps_busy g last)
settled_vacant s g (granted lane k) true next gift is = absurd ((gift refl).1)
settled_vacant s g (granted lane k) false next gift is = refl
settled_vacant s g (freed k) given next gift is =
    freed_vacant s g k given next
    (λ e. let due : (0 < g - 2) × (k ≡ g - 2 - 1 + 1) = gift e in omega arith)
    (λ e. is (ap freed (omega arith)))
settled_vacant s g taken_back given next gift is = or_right given true refl
settled_vacant s g untouched given next gift is = or_right given true refl

module _ (o : Origin) (h : List Noted) (legal : IsLegal o h) where
  pub vacant_not_gained : (t u : ℕ) → settled_group o h < t → is_vacant o h u ≡ true → is_gained t h u ≡ false
  vacant_not_gained t u later vacant =
      is_false (is_gained t h u)
      (λ e. let old : t - 1 + 3 ≤ settled_group o h = vacant_gain (t - 1) (settled_group o h) (last_act o h u) (not_true _ vacant) (gained_last o h t u legal (omega arith) e) in omega arith)

  pub live_not_given : (t u : ℕ) → settled_group o h < t + 2 → is_grant (last_act o h u) ≡ true → is_given t h u ≡ false
  live_not_given t u later live =
      is_false (is_given t h u) (λ e. live_gift (t - 1) (last_act o h u) live (given_last o h t u legal later e))

  pub given_busy : (t u : ℕ) → settled_group o h < t + 2 → is_given t h u ≡ true → keeps_busy (settled_group o h) (last_act o h u) ≡ true
  given_busy t u later given =
      gift_busy (t - 1) (settled_group o h) (last_act o h u) (omega arith) (given_last o h t u legal later given)

  pub open_settled : (group : ℕ) → collected_group o h < group → settled_group o h < group
  open_settled group above = omega (arith, settled_le_collected o h legal)

  -- when a group settles, what was given back two groups before is vacant beside what is so already
  pub vacant_next : (group u : ℕ) → group ≡ settled_group o h + 1 → (is_given (group - 2) h u || is_vacant o h u) ≡ not (keeps_busy group (last_act o h u))
  vacant_next group u next =
      settled_vacant (settled_group o h) group (last_act o h u) (is_given (group - 2) h u) next
      (λ given. (some given (le_or (group - 2) 0), given_last o h (group - 2) u legal (omega arith) given)) (last_given o h u (group - 2)) where
        some : is_given (group - 2) h u ≡ true → (group - 2 ≤ 0) ⊎ (0 < group - 2) → 0 < group - 2
        some given (inl none) = absurd (same_not given (given_old o h (group - 2) u legal (omega arith)))
        some given (inr lt) = lt

-- acts that change no unit
abbrev pub leaves_units : Act → Bool
leaves_units (Grant _ _) = false
leaves_units (Free _ _) = false
leaves_units (Unalloc _ _) = false
leaves_units _ = true

abbrev pub LeavesUnits : List Noted → Type 0
LeavesUnits h = list_all (λ (note : Noted). leaves_units note.act) h ≡ true

and_both : (a b : Bool) → a ≡ true → b ≡ true → (a && b) ≡ true
and_both a b e f = rw (e, f)

pub leaves_push : (h : List Noted) (note : Noted) → LeavesUnits h → leaves_units note.act ≡ true → LeavesUnits (h ++ note ∷ [])
leaves_push [] note e f = and_both (leaves_units note.act) true f refl
leaves_push (n ∷ h) note e f =
    let both = true_and (leaves_units n.act) (list_all (λ (m : Noted). leaves_units m.act) h) e in
    and_both (leaves_units n.act) (list_all (λ (m : Noted). leaves_units m.act) (h ++ note ∷ [])) both.0 (leaves_push h note both.1 f)

-- where no note changes a unit each group holds the base, and all else is vacant

pub still_act : (u : ℕ) (last : LastAct) (lane : ℕ) (act : Act) → leaves_units act ≡ true → act_on u last lane act ≡ last
still_act u last lane (Grant group seg) e = absurd (cc)
still_act u last lane (Free group seg) e = absurd (cc)
still_act u last lane (Unalloc group seg) e = absurd (cc)
still_act u last lane _ e = refl

still_if : (u : ℕ) (kept : Bool) (n : Noted) (h : List Noted) (last : LastAct) → act_on u last n.lane n.act ≡ last
    → fold (λ so_far (note : Noted). act_on u so_far note.lane note.act) last h ≡ last
    → fold (λ so_far (note : Noted). act_on u so_far note.lane note.act) last (cond kept (n ∷ h) h) ≡ last
still_if u true n h last e f = ap (λ l. fold (λ so_far (note : Noted). act_on u so_far note.lane note.act) l h) e ∙ f
still_if u false n h last e f = f

still_filter : (p : Noted → Bool) (u : ℕ) (h : List Noted) (last : LastAct) → LeavesUnits h
    → fold (λ so_far (note : Noted). act_on u so_far note.lane note.act) last (filter p h) ≡ last
still_filter p u [] last e = refl
still_filter p u (n ∷ h) last e =
    let both = true_and (leaves_units n.act) (list_all (λ (note : Noted). leaves_units note.act) h) e in
    still_if u (p n) n (filter p h) last (still_act u last n.lane n.act both.0) (still_filter p u h last both.1)

still_all : (u : ℕ) (h : List Noted) (last : LastAct) → LeavesUnits h → fold (λ so_far (note : Noted). act_on u so_far note.lane note.act) last h ≡ last
still_all u [] last e = refl
still_all u (n ∷ h) last e =
    let both = true_and (leaves_units n.act) (list_all (λ (note : Noted). leaves_units note.act) h) e in
    ap (λ l. fold (λ so_far (note : Noted). act_on u so_far note.lane note.act) l h) (still_act u last n.lane n.act both.0) ∙ still_all u h last both.1

first_grant : (b : Bool) (opened : ℕ) → is_grant (cond b (granted None opened) untouched) ≡ b
first_grant true opened = refl
first_grant false opened = refl

first_vacant : (b : Bool) (opened s : ℕ) → not (keeps_busy s (cond b (granted None opened) untouched)) ≡ not b
first_vacant true opened s = refl
first_vacant false opened s = refl

pub held_base : (o : Origin) (h : List Noted) (t u : ℕ) → LeavesUnits h → held o h t u ≡ o.base u
held_base o h t u leaves = ap is_grant (still_filter (λ note. act_within t note.act) u h (first_act o u) leaves) ∙ first_grant (o.base u) o.opened

pub vacant_base : (o : Origin) (h : List Noted) (u : ℕ) → LeavesUnits h → is_vacant o h u ≡ not (o.base u)
vacant_base o h u leaves =
    ap (λ last. not (keeps_busy (settled_group o h) last)) (still_all u h (first_act o u) leaves) ∙ first_vacant (o.base u) o.opened (settled_group o h)

-- and so it is in a legal history while nothing was loaded

pub held_unloaded : (o : Origin) (h : List Noted) (t u : ℕ) → IsLegal o h → is_loaded h ≡ false → All (λ note. note.act ≢ Unload) h → held o h t u ≡ o.base u
held_unloaded o h t u legal idle kept = held-as_opened o h t u legal idle kept

pub vacant_unloaded : (o : Origin) (h : List Noted) (u : ℕ) → IsLegal o h → is_loaded h ≡ false → All (λ note. note.act ≢ Unload) h → is_vacant o h u ≡ not (o.base u)
vacant_unloaded o h u legal idle kept =
    ap (λ last. not (keeps_busy (settled_group o h) last)) (as_opened o h u legal idle kept).last ∙ first_vacant (o.base u) o.opened (settled_group o h)
