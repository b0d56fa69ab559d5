-- The totals of a metaslab, after each act.
use Rattle.std.proofs.Common.{◌≡◌, ℕ, ◌+◌, ◌-◌, ◌≤◌, Bool, true, false, cond, Some, None, List, [], refl, sym, ◌∙◌, ap, arith}
use Rattle.ms_core.proofs.Words.{noted, ◌||◌, ◌&&◌, not, and_false, lt-ltb, Seg, Group, covers, end_of, units_in, covers_true, units_same, units_none, units_or, units_seg, Sets, Origin, LastAct, granted, freed, taken_back, untouched, act_on, last_act, is_grant, settled_by, settled_group, keeps_busy, is_live, is_deferred, is_given, live_units, deferred_units, IsFreeOfAll, MayGrant, MayFree, MayTakeBack, IsLegal, Act, Grant, Free, Unalloc, Settle, Noted, last_act-push, settled_group-push, vacant_free, leaves_units, still_act, granted_by_live, live_not_given, given_busy, open_settled, vacant_next, Mirrors, deferred_of}

-- before the first note

first_live : (b : Bool) (opened : ℕ) → is_grant (cond b (granted None opened) untouched) ≡ b
first_live true opened = refl
first_live false opened = refl

first_deferred : (b : Bool) (opened s : ℕ) → (keeps_busy s (cond b (granted None opened) untouched) && not (is_grant (cond b (granted None opened) untouched))) ≡ false
first_deferred true opened s = refl
first_deferred false opened s = refl

pub deferred_first : (o : Origin) → deferred_units o [] ≡ 0
deferred_first o = units_none (is_deferred o []) o.units (λ u. first_deferred (o.base u) o.opened o.opened)

pub live_first : (o : Origin) → live_units o [] ≡ units_in o.base o.units
live_first o = units_same (is_live o []) o.base o.units (λ u. first_live (o.base u) o.opened)

-- a set that has all units of a segment, or none

split_in : (c x : Bool) → (c ≡ true → x ≡ true) → x ≡ (c || (not c && x))
split_in true x all = all refl
split_in false x all = refl

split_out : (c x : Bool) → (c ≡ true → x ≡ false) → x ≡ (not c && x)
split_out true x none = none refl
split_out false x none = refl

apart : (c x : Bool) → c ≡ true → (not c && x) ≡ false
apart c x e = rw e refl

split : (set : ℕ → Bool) (seg : Seg) (units : ℕ) (has : Bool) → end_of seg ≤ units → ((u : ℕ) → covers seg u ≡ true → set u ≡ has) → units_in set units ≡ units_in (λ u. not (covers seg u) && set u) units + cond has seg.count 0
split set seg units true within all =
    let e : units_in set units ≡ units_in (λ u. covers seg u || (not (covers seg u) && set u)) units = units_same _ _ units (λ u. split_in (covers seg u) (set u) (all u)) in
    omega (arith, units_or (covers seg) (λ u. not (covers seg u) && set u) units (λ u. apart (covers seg u) (set u)), units_seg seg units within)
split set seg units false within none = omega (arith, units_same set (λ u. not (covers seg u) && set u) units (λ u. split_out (covers seg u) (set u) (none u)))

-- what is deferred is busy, and not handed out
abbrev waits : ℕ → LastAct → Bool
waits s last = keeps_busy s last && not (is_grant last)

live_push : (o : Origin) (h : List Noted) (lane : ℕ) (act : Act) (u : ℕ) → is_live o (noted h lane act) u ≡ is_grant (act_on u (last_act o h u) lane act)
live_push o h lane act u = ap is_grant (last_act-push o h (record { lane = lane; act = act }) u)

deferred_push : (o : Origin) (h : List Noted) (lane : ℕ) (act : Act) (u : ℕ)
    → is_deferred o (noted h lane act) u ≡ waits (settled_by (settled_group o h) act) (act_on u (last_act o h u) lane act)
deferred_push o h lane act u =
    ap (λ n. waits n (last_act o (noted h lane act) u)) (settled_group-push o h (record { lane = lane; act = act }))
    ∙ ap (waits (settled_by (settled_group o h) act)) (last_act-push o h (record { lane = lane; act = act }) u)

-- one unit of which a segment's act leaves another last act

same_out : (c : Bool) (f : LastAct → Bool) (now last : LastAct) → (not c && f last) ≡ (not c && f (cond c now last))
same_out true f now last = refl
same_out false f now last = refl

now_in : (c : Bool) (f : LastAct → Bool) (now last : LastAct) → c ≡ true → f (cond c now last) ≡ f now
now_in c f now last e = rw e refl

waits_live : (s : ℕ) (last : LastAct) → is_grant last ≡ true → waits s last ≡ false
waits_live s last e = rw e (and_false (keeps_busy s last))

-- what waits until a group settles is what it vacates, and what waits on
waits_on : (given busy later live : Bool) → (given || not busy) ≡ not later → (given ≡ true → busy ≡ true) → (given ≡ true → live ≡ false)
    → (busy && not live) ≡ (given || (later && not live))
waits_on true busy later live next is none = rw (is refl, none refl) refl
waits_on false true true live next is none = refl
waits_on false true false live next is none = absurd (cc)
waits_on false false true live next is none = absurd (cc)
waits_on false false false live next is none = refl

waits_apart : (given busy later live : Bool) → (given || not busy) ≡ not later → given ≡ true → (later && not live) ≡ false
waits_apart true busy true live next e = absurd (cc)
waits_apart true busy false live next e = refl
waits_apart false busy later live next e = absurd (cc)

-- an act of a segment, which settles no group: what it makes of how many units have something, all of the segment or none
module _ (o : Origin) (h : List Noted) (lane : ℕ) (act : Act) (seg : Seg) (now : LastAct) (within : end_of seg ≤ o.units) (does : (u : ℕ) (last : LastAct) → act_on u last lane act ≡ cond (covers seg u) now last) where
  changed : (f : LastAct → Bool) (before after : ℕ → Bool) (was : Bool) → ((u : ℕ) → before u ≡ f (last_act o h u)) → ((u : ℕ) → after u ≡ f (act_on u (last_act o h u) lane act))
      → ((u : ℕ) → covers seg u ≡ true → before u ≡ was) → units_in after o.units + cond was seg.count 0 ≡ units_in before o.units + cond (f now) seg.count 0
  changed f before after was is_before is_after all =
      let here : (u : ℕ) → after u ≡ f (cond (covers seg u) now (last_act o h u)) = λ u. is_after u ∙ ap f (does u (last_act o h u)) in
      omega (
        arith,
        split before seg o.units was within all,
        split after seg o.units (f now) within (λ u c. here u ∙ now_in (covers seg u) f now (last_act o h u) c),
        units_same (λ u. not (covers seg u) && before u) (λ u. not (covers seg u) && after u) o.units
            (λ u. ap (λ b. not (covers seg u) && b) (is_before u) ∙ (same_out (covers seg u) f now (last_act o h u) ∙ ap (λ b. not (covers seg u) && b) (sym (here u)))),
      )

  -- what was handed out, or not, and not deferred
  on_segment : settled_by (settled_group o h) act ≡ settled_group o h → (was : Bool) → ((u : ℕ) → covers seg u ≡ true → (is_live o h u ≡ was) × (is_deferred o h u ≡ false))
      → (live_units o (noted h lane act) + cond was seg.count 0 ≡ live_units o h + cond (is_grant now) seg.count 0)
      × (deferred_units o (noted h lane act) ≡ deferred_units o h + cond (waits (settled_group o h) now) seg.count 0)
  on_segment same was all =
      let e = changed (waits (settled_group o h)) (is_deferred o h) (is_deferred o (noted h lane act)) false (λ u. refl)
      (λ u. deferred_push o h lane act u ∙ ap (λ n. waits n (act_on u (last_act o h u) lane act)) same) (λ u c. (all u c).1) in
      (changed is_grant (is_live o h) (is_live o (noted h lane act)) was (λ u. refl) (live_push o h lane act) (λ u c. (all u c).0), omega (arith, e))

module _ (o : Origin) (h : List Noted) (legal : IsLegal o h) where
  live_waits : (u : ℕ) → is_live o h u ≡ true → (is_live o h u ≡ true) × (is_deferred o h u ≡ false)
  live_waits u live = (live, waits_live (settled_group o h) (last_act o h u) live)

  module _ (lane : ℕ) (group : Group) (seg : Seg) where
    pub grant_totals : MayGrant o h group.0 seg → (live_units o (noted h lane (Grant group seg)) ≡ live_units o h + seg.count) × (deferred_units o (noted h lane (Grant group seg)) ≡ deferred_units o h)
    grant_totals may =
        let t = on_segment o h lane (Grant group seg) seg (granted (Some lane) group.0) may.within.within (λ u last. refl) refl false
        (λ u c. let free : IsFreeOfAll o h u = vacant_free o h u legal (may.vacant u (covers_true seg u c)) in (free.live, free.deferred)) in
        (omega (arith, t.0), omega (arith, t.1))

    pub free_totals : MayFree o h group.0 seg → (live_units o (noted h lane (Free group seg)) + seg.count ≡ live_units o h) × (deferred_units o (noted h lane (Free group seg)) ≡ deferred_units o h + seg.count)
    free_totals may =
        let near : waits (settled_group o h) (freed group.0) ≡ true = rw (lt-ltb (settled_group o h) (group.0 + 2) (omega (arith, open_settled o h legal group.0 may.open_group.above))) refl in
        let t = on_segment o h lane (Free group seg) seg (freed group.0) may.within.within (λ u last. refl) refl true
        (λ u c. live_waits u (granted_by_live group.0 (last_act o h u) (may.live u (covers_true seg u c)))) in
        (omega (arith, t.0), t.1 ∙ rw near refl)

    pub unalloc_totals : MayTakeBack o h lane group.0 seg → (live_units o (noted h lane (Unalloc group seg)) + seg.count ≡ live_units o h) × (deferred_units o (noted h lane (Unalloc group seg)) ≡ deferred_units o h)
    unalloc_totals may =
        let t = on_segment o h lane (Unalloc group seg) seg taken_back may.within.within (λ u last. refl) refl true (λ u c. live_waits u (ap is_grant (may.own u (covers_true seg u c)))) in
        (omega (arith, t.0), omega (arith, t.1))

  -- an act that changes no unit
  pub live_still : (lane : ℕ) (act : Act) → leaves_units act ≡ true → live_units o (noted h lane act) ≡ live_units o h
  live_still lane act leaves =
      units_same (is_live o (noted h lane act)) (is_live o h) o.units (λ u. live_push o h lane act u ∙ ap is_grant (still_act u (last_act o h u) lane act leaves))

  -- and settles nothing
  pub deferred_still : (lane : ℕ) (act : Act) → leaves_units act ≡ true → settled_by (settled_group o h) act ≡ settled_group o h → deferred_units o (noted h lane act) ≡ deferred_units o h
  deferred_still lane act leaves same =
      units_same (is_deferred o (noted h lane act)) (is_deferred o h) o.units
      (λ u. deferred_push o h lane act u
      ∙ (ap (λ n. waits n (act_on u (last_act o h u) lane act)) same ∙ ap (waits (settled_group o h)) (still_act u (last_act o h u) lane act leaves)))

  pub deferred_settle : (sets : Sets) → Mirrors o h sets → (lane : ℕ) (group : Group) → group.0 ≡ settled_group o h + 1
      → deferred_units o (noted h lane (Settle group)) + units_in (sets (deferred_of group.0)) o.units ≡ deferred_units o h
  deferred_settle sets m lane group next =
      let later : ℕ → Bool = is_deferred o (noted h lane (Settle group)) in
      let gift : ℕ → Bool = is_given (group.0 - 2) h in
      let e : units_in (is_deferred o h) o.units ≡ units_in (λ u. gift u || later u) o.units =
      units_same (is_deferred o h) (λ u. gift u || later u) o.units
      (λ u. waits_on (gift u) (keeps_busy (settled_group o h) (last_act o h u)) (keeps_busy group.0 (last_act o h u)) (is_live o h u)
      (vacant_next o h legal group.0 u next) (given_busy o h legal (group.0 - 2) u (omega arith)) (gone u)
      ∙ ap (λ b. gift u || b) (sym (deferred_push o h lane (Settle group) u))) in
      let f : units_in (λ u. gift u || later u) o.units ≡ units_in gift o.units + units_in later o.units =
      units_or gift later o.units
      (λ u given. deferred_push o h lane (Settle group) u
      ∙ waits_apart (gift u) (keeps_busy (settled_group o h) (last_act o h u)) (keeps_busy group.0 (last_act o h u)) (is_live o h u) (vacant_next o h legal group.0 u next) given) in
      let g : units_in (sets (deferred_of group.0)) o.units ≡ units_in gift o.units =
      units_same (sets (deferred_of group.0)) gift o.units (λ u. m.deferred group.0 u (omega arith) (omega arith)) in
      omega arith where
        gone : (u : ℕ) → is_given (group.0 - 2) h u ≡ true → is_live o h u ≡ false
        gone u given = by_live (is_live o h u) refl where
          by_live : (b : Bool) → is_live o h u ≡ b → b ≡ false
          by_live true e = let none : is_given (group.0 - 2) h u ≡ false = live_not_given o h legal (group.0 - 2) u (omega arith) e in cc
          by_live false e = refl
