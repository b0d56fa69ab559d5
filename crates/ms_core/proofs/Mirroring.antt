-- What the trees of a metaslab have, before an act changes them.
use Rattle.std.proofs.Common.{◌≡◌, ℕ, ◌+◌, ◌-◌, ◌≤◌, ◌<◌, true, false, List, sym, ◌∙◌, ap, arith, ◌⊎◌, inl, inr}
use Rattle.ms_core.proofs.Words.{not, Seg, le_or, true_or_false, Sets, IsSegment, CanMove, IsWithin, MAX_UNITS, HoldsNone, AreDisjoint, Origin, last_act, settled_group, is_loaded, keeps_busy, is_given, MayGrant, MayFree, MayTakeBack, IsLegal, Noted, settled_le_collected, last_gained, granted_by_live, vacant_not_gained, live_not_given, given_busy, open_settled, Mirrors, allocating_of, freeing_of, deferred_of}

module _ {o : Origin} {h : List Noted} {sets : Sets} (legal : IsLegal o h) (m : Mirrors o h sets) where
  segment : {seg : Seg} → o.units ≤ MAX_UNITS → IsWithin o.units seg → IsSegment seg
  segment most w = record { some = w.some; within = omega (arith, w.within) }

  -- what may be granted is vacant, and the group gained none of it
  pub can_grant : {group : ℕ} {seg : Seg} → o.units ≤ MAX_UNITS → MayGrant o h group seg → CanMove sets 0 (allocating_of group) seg
  can_grant {group} most may =
      record {
        differ = λ e. omega arith;
        segment = segment most may.within;
        covered = λ u c. m.vacant may.takes.loaded u (omega (arith, may.within.within)) ∙ may.vacant u c;
        apart = λ u c. m.gained group u may.open_group.above (omega (arith, may.open_group.near, settled_le_collected o h legal))
            ∙ vacant_not_gained o h legal group u (open_settled o h legal group may.open_group.above) (may.vacant u c);
      }

  -- what may be freed was not given back
  pub free_apart : (group : ℕ) (seg : Seg) → MayFree o h group seg → HoldsNone (sets (freeing_of group)) seg
  free_apart group seg may u c =
      let later : settled_group o h < group = open_settled o h legal group may.open_group.above in
      m.given group u later (omega (arith, may.open_group.near))
      ∙ live_not_given o h legal group u (omega arith) (granted_by_live group (last_act o h u) (may.live u c))

  -- what may be taken back is the group's gain, and not vacant
  pub can_take_back : {lane group : ℕ} {seg : Seg} → o.units ≤ MAX_UNITS → MayTakeBack o h lane group seg → CanMove sets (allocating_of group) 0 seg
  can_take_back {lane} {group} most may =
      record {
        differ = λ e. omega arith;
        segment = segment most may.within;
        covered = λ u c. m.gained group u may.open_group.above (omega (arith, may.open_group.near, settled_le_collected o h legal)) ∙ last_gained o h u lane group (may.own u c);
        apart = λ u c. m.vacant may.loaded u (omega (arith, may.within.within)) ∙ ap (λ last. not (keeps_busy (settled_group o h) last)) (may.own u c);
      }

  -- what is deferred is not vacant
  pub settle_apart : (group : ℕ) → group ≡ settled_group o h + 1 → AreDisjoint (sets (deferred_of group)) (sets 0)
  settle_apart group next u deferred = by_load (true_or_false (is_loaded h)) (le_or o.units u) where
    given : is_given (group - 2) h u ≡ true
    given = sym (m.deferred group u (omega arith) (omega arith)) ∙ deferred

    by_load : (is_loaded h ≡ true) ⊎ (is_loaded h ≡ false) → (o.units ≤ u) ⊎ (u < o.units) → sets 0 u ≡ false
    by_load (inl loaded) (inl above) = m.within 0 u above
    by_load (inl loaded) (inr inside) = m.vacant loaded u inside ∙ ap not (given_busy o h legal (group - 2) u (omega arith) given)
    by_load (inr idle) place = m.unloaded idle u
