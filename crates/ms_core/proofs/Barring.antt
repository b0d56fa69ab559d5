-- Which units a group may free, by the trees alone.
use Rattle.std.proofs.Common.{◌≡◌, ℕ, ◌+◌, ◌-◌, ◌≤◌, ◌<◌, Bool, true, false, Some, None, List, refl, sym, ◌∙◌, ap, arith, ◌⊎◌, inl, inr}
use Rattle.ms_core.proofs.Words.{not, ◌%◌, le-ltb, le_or, same_not, Sets, Origin, LastAct, granted, freed, taken_back, untouched, last_act, is_grant, settled_group, collected_group, is_loaded, keeps_busy, is_gained, is_given, IsGrantedBy, IsLegal, Noted, IsGainOf, settled_le_collected, opened_le_settled, gained_far, given_far, gained_last, last_gained, last_given, last_opened, granted_by_live, live_busy, live_not_given, Mirrors, IsBarred, by_vacant, by_given, by_gained, allocating_of, freeing_of, deferred_of}

-- each tree of what was given back is that of one group
freeing_group : (s tree : ℕ) → 5 ≤ tree → tree ≤ 8 → (t : ℕ) × (s < t) × (t ≤ s + 4) × (tree ≡ freeing_of t)
freeing_group s tree low high = (s + 1 + (tree + 6 - s % 4) % 4, omega arith, omega arith, omega arith)

deferred_group : (s tree : ℕ) → 9 ≤ tree → tree ≤ 10 → (t : ℕ) × (s < t) × (t ≤ s + 2) × (tree ≡ deferred_of t)
deferred_group s tree low high = (s + 1 + (tree + s) % 2, omega arith, omega arith, omega arith)

gain_by : (t group : ℕ) (last : LastAct) → IsGrantedBy group last → IsGainOf (t - 1) last → 0 < t → t ≤ group
gain_by t group (granted lane g) live gain some = omega arith
gain_by t group (freed g) live gain some = absurd live
gain_by t group taken_back live gain some = absurd live
gain_by t group untouched live gain some = absurd live

-- the group of a gain or a gift is at most three above the settled one
near_by : (s t : ℕ) (b : Bool) → b ≡ true → (s + 3 < t → b ≡ false) → (t ≤ s + 3) ⊎ (s + 3 < t) → t ≤ s + 3
near_by s t b e far (inl le) = le
near_by s t b e far (inr lt) = absurd (same_not e (far lt))

pub gained_near : (o : Origin) (h : List Noted) (t u : ℕ) → IsLegal o h → is_gained t h u ≡ true → t ≤ settled_group o h + 3
gained_near o h t u legal e = near_by (settled_group o h) t (is_gained t h u) e (gained_far o h t u legal) (le_or t (settled_group o h + 3))

given_near : (o : Origin) (h : List Noted) (t u : ℕ) → IsLegal o h → is_given t h u ≡ true → t ≤ settled_group o h + 3
given_near o h t u legal e = near_by (settled_group o h) t (is_given t h u) e (given_far o h t u legal) (le_or t (settled_group o h + 3))

module _ (o : Origin) (h : List Noted) (sets : Sets) (legal : IsLegal o h) (m : Mirrors o h sets) (loaded : is_loaded h ≡ true) (group u : ℕ) (inside : u < o.units)
    (open_group : collected_group o h < group) where
  order : settled_group o h ≤ collected_group o h
  order = settled_le_collected o h legal

  -- no tree of what was given back has a unit that is handed out
  given_none : is_grant (last_act o h u) ≡ true → (tree : ℕ) → 5 ≤ tree → tree ≤ 10 → sets tree u ≡ false
  given_none live tree low high = by_kind (le_or tree 8) where
    by_kind : (tree ≤ 8) ⊎ (8 < tree) → sets tree u ≡ false
    by_kind (inl le) =
        let g = freeing_group (settled_group o h) tree low le in
        ap (λ n. sets n u) g.3 ∙ (m.given g.0 u g.1 g.2 ∙ live_not_given o h legal g.0 u (let later : settled_group o h < g.0 = g.1 in omega arith) live)
    by_kind (inr lt) =
        let g = deferred_group (settled_group o h) tree lt high in
        ap (λ n. sets n u) g.3
        ∙ (m.deferred g.0 u g.1 g.2 ∙ live_not_given o h legal (g.0 - 2) u (let later : settled_group o h < g.0 = g.1 in omega arith) live)

  -- a tree has the unit: no group up to this one holds it
  pub barred : IsBarred o h sets group u → IsGrantedBy group (last_act o h u) → ⊥
  barred (by_vacant e) live =
      same_not (sym (m.vacant loaded u inside) ∙ e) (ap not (live_busy (settled_group o h) (last_act o h u) (granted_by_live group (last_act o h u) live)))
  barred (by_given tree low high e) live = same_not e (given_none (granted_by_live group (last_act o h u) live) tree low high)
  barred (by_gained t later near e) live =
      let gained : is_gained t h u ≡ true = sym (m.gained t u (omega arith) near) ∙ e in
      let up_to : t ≤ group = gain_by t group (last_act o h u) live (gained_last o h t u legal (omega (arith, order)) gained) (omega arith) in
      omega arith

  freed_barred : (g : ℕ) → last_act o h u ≡ freed g → IsBarred o h sets group u
  freed_barred g e = by_age (le_or (g + 2) (settled_group o h)) (le_or g (settled_group o h)) where
    given : is_given g h u ≡ true
    given = last_given o h u g e

    by_age : (g + 2 ≤ settled_group o h) ⊎ (settled_group o h < g + 2) → (g ≤ settled_group o h) ⊎ (settled_group o h < g) → IsBarred o h sets group u
    by_age (inl old) place =
        by_vacant (m.vacant loaded u inside ∙ (ap (λ last. not (keeps_busy (settled_group o h) last)) e ∙ ap not (le-ltb (settled_group o h) (g + 2) old)))
    by_age (inr young) (inl settled) =
        by_given (deferred_of (g + 2)) (omega arith) (omega arith)
        (m.deferred (g + 2) u young (omega arith) ∙ (let same : g + 2 - 2 ≡ g = omega arith in ap (λ n. is_given n h u) same ∙ given))
    by_age (inr young) (inr later) =
        by_given (freeing_of g) (omega arith) (omega arith) (m.given g u later (omega (arith, given_near o h g u legal given)) ∙ given)

  vacant_barred : (last : LastAct) → last_act o h u ≡ last → keeps_busy (settled_group o h) last ≡ false → IsBarred o h sets group u
  vacant_barred last e idle =
      by_vacant (m.vacant loaded u inside ∙ (ap (λ l. not (keeps_busy (settled_group o h) l)) e ∙ ap not idle))

  live_or_barred : (last : LastAct) → last_act o h u ≡ last → IsGrantedBy group last ⊎ IsBarred o h sets group u
  live_or_barred (granted None g) e = inl (omega (arith, last_opened o h u g e, opened_le_settled o h legal, order))
  live_or_barred (granted (Some lane) g) e = by_group (le_or g group) where
    by_group : (g ≤ group) ⊎ (group < g) → (g ≤ group) ⊎ IsBarred o h sets group u
    by_group (inl le) = inl le
    by_group (inr later) =
        let gained : is_gained g h u ≡ true = last_gained o h u lane g e in
        inr (by_gained g later (omega (arith, gained_near o h g u legal gained, order)) (m.gained g u (omega arith) (omega (arith, gained_near o h g u legal gained, order)) ∙ gained))
  live_or_barred (freed g) e = inr (freed_barred g e)
  live_or_barred taken_back e = inr (vacant_barred taken_back e refl)
  live_or_barred untouched e = inr (vacant_barred untouched e refl)

  -- no tree has it: one does
  pub live_unless : (IsBarred o h sets group u → ⊥) → IsGrantedBy group (last_act o h u)
  live_unless none = by_side (live_or_barred (last_act o h u) refl) where
    by_side : IsGrantedBy group (last_act o h u) ⊎ IsBarred o h sets group u → IsGrantedBy group (last_act o h u)
    by_side (inl live) = live
    by_side (inr bar) = absurd (none bar)

  pub live_of_trees : sets 0 u ≡ false → ((tree : ℕ) → 5 ≤ tree → tree ≤ 10 → sets tree u ≡ false)
      → ((t : ℕ) → group < t → t ≤ collected_group o h + 4 → sets (allocating_of t) u ≡ false) → IsGrantedBy group (last_act o h u)
  live_of_trees vacant given gained = live_unless none where
    none : IsBarred o h sets group u → ⊥
    none (by_vacant e) = same_not e vacant
    none (by_given tree low high e) = same_not e (given tree low high)
    none (by_gained t later near e) = same_not e (gained t later near)
