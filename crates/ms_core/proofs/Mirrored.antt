-- The trees of a metaslab say what its journal says, after each act.
use Rattle.std.proofs.Common.{◌≡◌, ℕ, ◌+◌, ◌-◌, ◌≤◌, ◌<◌, Bool, true, false, cond, Some, List, [], ◌∷◌, ◌++◌, refl, sym, ◌∙◌, ap, subst, arith, ◌⊎◌, inl, inr}
use Rattle.std.proofs.lemmas.Bool.{cases_eq}
use Rattle.ms_core.proofs.Words.{noted, ◌||◌, ◌&&◌, not, ◌==◌, ◌%◌, lt-ltb, Seg, Group, covers, le_or, true_or_false, covers_true, covers_high, or_false, or_right, Sets, OthersStay, OthersStayBut, Origin, LastAct, granted, freed, taken_back, act_on, last_act, settled_by, settled_group, collected_by, collected_group, loaded_by, is_loaded, keeps_busy, is_vacant, gained_by, is_gained, gives, is_given, IsOpenGroup, IsWithin, MayGrant, MayFree, MayTakeBack, IsLegal, Act, Grant, Free, Unalloc, Collect, Settle, Load, Noted, last_act-push, settled_group-push, collected_group-push, is_loaded-push, is_gained-push, is_given-push, and_false, settled_le_collected, ChangesIn, gained_quiet, gives_quiet, own_group, gained_far, given_far, granted_by_live, live_busy, vacant_next, Mirrors, Settles, Adds, Moves, Clears, Fills, covered, allocating_of, freeing_of, deferred_of}

-- before the first note all trees are empty
pub mirrors_first : (o : Origin) (sets : Sets) → ((tree u : ℕ) → sets tree u ≡ false) → Mirrors o [] sets
mirrors_first o sets empty =
    record {
      within = λ tree u _. empty tree u;
      vacant = λ loaded u _. cc;
      unloaded = λ _ u. empty 0 u;
      gained = λ t u _ _. empty (allocating_of t) u;
      given = λ t u _ _. empty (freeing_of t) u;
      deferred = λ t u _ _. empty (deferred_of t) u;
    }

-- what the trees say after an act, with the groups that are settled and collected then, and whether it is loaded
record After (o : Origin) (h : List Noted) (lane : ℕ) (act : Act) (new : Sets) (s c : ℕ) (l : Bool) : Type 0 where
  within : (tree u : ℕ) → o.units ≤ u → new tree u ≡ false
  vacant : l ≡ true → (u : ℕ) → u < o.units → new 0 u ≡ not (keeps_busy s (act_on u (last_act o h u) lane act))
  unloaded : l ≡ false → (u : ℕ) → new 0 u ≡ false
  gained : (t u : ℕ) → c < t → t ≤ c + 4 → new (allocating_of t) u ≡ gained_by t u (is_gained t h u) act
  given : (t u : ℕ) → s < t → t ≤ s + 4 → new (freeing_of t) u ≡ (is_given t h u || gives t u act)
  deferred : (t u : ℕ) → s < t → t ≤ s + 2 → new (deferred_of t) u ≡ (is_given (t - 2) h u || gives (t - 2) u act)

mirrors_after : (o : Origin) (h : List Noted) (lane : ℕ) (act : Act) (new : Sets) (s c : ℕ) (l : Bool) → settled_by (settled_group o h) act ≡ s → collected_by (collected_group o h) act ≡ c → loaded_by (is_loaded h) act ≡ l
    → After o h lane act new s c l → Mirrors o (noted h lane act) new
mirrors_after o h lane act new s c l is_s is_c is_l a =
    let note : Noted = record { lane = lane; act = act } in
    let same_s : settled_group o (h ++ note ∷ []) ≡ s = settled_group-push o h note ∙ is_s in
    let same_c : collected_group o (h ++ note ∷ []) ≡ c = collected_group-push o h note ∙ is_c in
    let same_l : is_loaded (h ++ note ∷ []) ≡ l = is_loaded-push h note ∙ is_l in
    record {
      within = a.within;
      vacant = λ loaded u inside.
          a.vacant (sym same_l ∙ loaded) u inside
          ∙ (ap (λ n. not (keeps_busy n (act_on u (last_act o h u) lane act))) (sym same_s)
          ∙ ap (λ last. not (keeps_busy (settled_group o (h ++ note ∷ [])) last)) (sym (last_act-push o h note u)));
      unloaded = λ idle u. a.unloaded (sym same_l ∙ idle) u;
      gained = λ t u low high. a.gained t u (omega arith) (omega arith) ∙ sym (is_gained-push t h note u);
      given = λ t u low high. a.given t u (omega arith) (omega arith) ∙ sym (is_given-push t h note u);
      deferred = λ t u low high. a.deferred t u (omega arith) (omega arith) ∙ sym (is_given-push (t - 2) h note u);
    }

-- what holds of a group, and of each other one
by_group : (P : ℕ → Type 0) (t g : ℕ) → P g → ((t ≡ g → ⊥) → P t) → P t
by_group P t g own other = by (cases_eq t g) where
  by : (t ≡ g) ⊎ (t ≡ g → ⊥) → P t
  by (inl e) = subst P (sym e) own
  by (inr e) = other e

four_apart : (c t g : ℕ) → c < t → t ≤ c + 4 → c < g → g ≤ c + 4 → (t ≡ g → ⊥) → t % 4 ≡ g % 4 → ⊥
four_apart c t g low high from upto none e = none (omega arith)

two_apart : (s t : ℕ) → t ≡ s + 2 → t % 2 ≡ (s + 1) % 2 → ⊥
two_apart s t next e = omega arith

none_in : (sets new : Sets) (first second u : ℕ) → OthersStayBut sets new first second → ((tree : ℕ) → sets tree u ≡ false) → new first u ≡ false → new second u ≡ false → (tree : ℕ) → new tree u ≡ false
none_in sets new first second u others none a b tree = by_tree (cases_eq tree first) (cases_eq tree second) where
  by_tree : (tree ≡ first) ⊎ (tree ≡ first → ⊥) → (tree ≡ second) ⊎ (tree ≡ second → ⊥) → new tree u ≡ false
  by_tree (inl e) f = subst (λ n. new n u ≡ false) (sym e) a
  by_tree (inr e) (inl f) = subst (λ n. new n u ≡ false) (sym f) b
  by_tree (inr e) (inr f) = others tree u e f ∙ none tree

none_in_one : (sets new : Sets) (but u : ℕ) → OthersStay sets new but → ((tree : ℕ) → sets tree u ≡ false) → new but u ≡ false → (tree : ℕ) → new tree u ≡ false
none_in_one sets new but u others none a tree = none_in sets new but but u (λ other v e f. others other v e) none a a tree

-- one unit

put_is : (c x : Bool) → (c || x) ≡ cond c true x
put_is true x = refl
put_is false x = refl

cut_is : (c x : Bool) → (not c && x) ≡ cond c false x
cut_is true x = refl
cut_is false x = refl

not_cond : (c x y : Bool) → cond c (not x) (not y) ≡ not (cond c x y)
not_cond true x y = refl
not_cond false x y = refl

or_one : (c y x : Bool) → y ≡ true → (c || x) ≡ (x || (y && c))
or_one true y x e = rw e (sym (or_right x true refl))
or_one false y x e = rw (and_false y) (sym (or_false x))

busy_by : (c : Bool) (s : ℕ) (now last : LastAct) → keeps_busy s (cond c now last) ≡ cond c (keeps_busy s now) (keeps_busy s last)
busy_by true s now last = refl
busy_by false s now last = refl

busy_free : (c : Bool) (s g : ℕ) (last : LastAct) → s < g + 2 → (c ≡ true → keeps_busy s last ≡ true) → keeps_busy s last ≡ keeps_busy s (cond c (freed g) last)
busy_free true s g last near live = live refl ∙ sym (lt-ltb s (g + 2) near)
busy_free false s g last near live = refl

module _ (o : Origin) (h : List Noted) (sets : Sets) (legal : IsLegal o h) (m : Mirrors o h sets) where
  order : settled_group o h ≤ collected_group o h
  order = settled_le_collected o h legal

  -- an act that changes no unit and no group, and neither loads nor unloads
  pub mirrors_quiet : (lane : ℕ) (act : Act) → settled_by (settled_group o h) act ≡ settled_group o h → collected_by (collected_group o h) act ≡ collected_group o h
      → loaded_by (is_loaded h) act ≡ is_loaded h → ((u : ℕ) → act_on u (last_act o h u) lane act ≡ last_act o h u) → ((t : ℕ) → ChangesIn t act → ⊥) → Mirrors o (noted h lane act) sets
  mirrors_quiet lane act s c l same none =
      let still : (t u : ℕ) → is_given t h u ≡ (is_given t h u || gives t u act) = λ t u. sym (ap (λ b. is_given t h u || b) (gives_quiet t u act (none t)) ∙ or_false (is_given t h u)) in
      mirrors_after o h lane act sets (settled_group o h) (collected_group o h) (is_loaded h) s c l (record {
        within = m.within;
        vacant = λ loaded u inside. m.vacant loaded u inside ∙ ap (λ last. not (keeps_busy (settled_group o h) last)) (sym (same u));
        unloaded = m.unloaded;
        gained = λ t u low high. m.gained t u low high ∙ sym (gained_quiet t u (is_gained t h u) act (none t));
        given = λ t u low high. m.given t u low high ∙ still t u;
        deferred = λ t u low high. m.deferred t u low high ∙ still (t - 2) u;
      })

module _ (o : Origin) (h : List Noted) (sets : Sets) (legal : IsLegal o h) (m : Mirrors o h sets) (new : Sets) where
  -- a group's own change, and that of another group
  gained_other : (t u : ℕ) (act : Act) → collected_group o h < t → t ≤ collected_group o h + 4 → (ChangesIn t act → ⊥)
      → new (allocating_of t) u ≡ sets (allocating_of t) u → new (allocating_of t) u ≡ gained_by t u (is_gained t h u) act
  gained_other t u act low high none same = same ∙ (m.gained t u low high ∙ sym (gained_quiet t u (is_gained t h u) act none))

  given_other : (t u : ℕ) (act : Act) → settled_group o h < t → t ≤ settled_group o h + 4 → gives t u act ≡ false
      → new (freeing_of t) u ≡ sets (freeing_of t) u → new (freeing_of t) u ≡ (is_given t h u || gives t u act)
  given_other t u act low high none same = same ∙ (m.given t u low high ∙ sym (ap (λ b. is_given t h u || b) none ∙ or_false (is_given t h u)))

  deferred_other : (t u : ℕ) (act : Act) → settled_group o h < t → t ≤ settled_group o h + 2 → gives (t - 2) u act ≡ false
      → new (deferred_of t) u ≡ sets (deferred_of t) u → new (deferred_of t) u ≡ (is_given (t - 2) h u || gives (t - 2) u act)
  deferred_other t u act low high none same = same ∙ (m.deferred t u low high ∙ sym (ap (λ b. is_given (t - 2) h u || b) none ∙ or_false (is_given (t - 2) h u)))

  -- a segment goes from the vacant units to what an open group gained, or back from there
  trades : (out : Bool) (lane : ℕ) (group : Group) (seg : Seg) (act : Act) → is_loaded h ≡ true → IsOpenGroup o h group.0 → IsWithin o.units seg
      → ((u : ℕ) (b : Bool) → gained_by group.0 u b act ≡ cond (covers seg u) out b) → ((t : ℕ) → (t ≡ group.0 → ⊥) → ChangesIn t act → ⊥) → ((t u : ℕ) → gives t u act ≡ false)
      → ((u : ℕ) → keeps_busy (settled_group o h) (act_on u (last_act o h u) lane act) ≡ cond (covers seg u) out (keeps_busy (settled_group o h) (last_act o h u)))
      → ((u : ℕ) → new 0 u ≡ cond (covers seg u) (not out) (sets 0 u))
      → ((u : ℕ) → new (allocating_of group.0) u ≡ cond (covers seg u) out (sets (allocating_of group.0) u))
      → OthersStayBut sets new 0 (allocating_of group.0) → After o h lane act new (settled_group o h) (collected_group o h) true
  trades out lane group seg act loaded open_group within own quiet none busy vacant gained others =
      record {
        within = λ tree u above.
            none_in sets new 0 (allocating_of group.0) u others (λ n. m.within n u above)
            (vacant u ∙ rw (covers_high seg u (omega (arith, within.within))) (m.within 0 u above))
            (gained u ∙ rw (covers_high seg u (omega (arith, within.within))) (m.within (allocating_of group.0) u above)) tree;
        vacant = λ _ u inside.
            vacant u ∙ (ap (cond (covers seg u) (not out)) (m.vacant loaded u inside)
            ∙ (not_cond (covers seg u) out (keeps_busy (settled_group o h) (last_act o h u)) ∙ ap not (sym (busy u))));
        unloaded = λ idle u. absurd (cc);
        gained = λ t u low high.
            by_group (λ n. new (allocating_of n) u ≡ gained_by n u (is_gained n h u) act) t group.0
            (gained u ∙ (ap (cond (covers seg u) out) (m.gained group.0 u open_group.above near) ∙ sym (own u (is_gained group.0 h u))))
            (λ e. gained_other t u act low high (quiet t e)
            (others (allocating_of t) u (λ f. omega arith) (λ f. four_apart (collected_group o h) t group.0 low high open_group.above near e (omega arith))));
        given = λ t u low high. given_other t u act low high (none t u) (others (freeing_of t) u (λ e. omega arith) (λ e. omega arith));
        deferred = λ t u low high. deferred_other t u act low high (none (t - 2) u) (others (deferred_of t) u (λ e. omega arith) (λ e. omega arith));
      } where
        near : group.0 ≤ collected_group o h + 4
        near = omega (arith, open_group.near, (order o h sets legal m))

  pub mirrors_grant : (lane : ℕ) (group : Group) (seg : Seg) → MayGrant o h group.0 seg → Moves sets new 0 (allocating_of group.0) seg → Mirrors o (noted h lane (Grant group seg)) new
  mirrors_grant lane group seg may moved =
      mirrors_after o h lane (Grant group seg) new _ _ true refl refl may.takes.loaded
      (trades true lane group seg (Grant group seg) may.takes.loaded may.open_group may.within
      (λ u b. ap (λ y. cond (y && covers seg u) true b) (own_group group.0 group.0 refl)) (λ t e f. e (sym f)) (λ t u. refl)
      (λ u. busy_by (covers seg u) (settled_group o h) (granted (Some lane) group.0) (last_act o h u))
      (λ u. moved.left u ∙ cut_is (covers seg u) (sets 0 u)) (λ u. moved.added u ∙ put_is (covers seg u) (sets (allocating_of group.0) u)) moved.others)

  pub mirrors_unalloc : (lane : ℕ) (group : Group) (seg : Seg) → MayTakeBack o h lane group.0 seg → Moves sets new (allocating_of group.0) 0 seg → Mirrors o (noted h lane (Unalloc group seg)) new
  mirrors_unalloc lane group seg may moved =
      mirrors_after o h lane (Unalloc group seg) new _ _ true refl refl may.loaded
      (trades false lane group seg (Unalloc group seg) may.loaded may.open_group may.within
      (λ u b. ap (λ y. cond (y && covers seg u) false b) (own_group group.0 group.0 refl)) (λ t e f. e (sym f)) (λ t u. refl)
      (λ u. busy_by (covers seg u) (settled_group o h) taken_back (last_act o h u))
      (λ u. moved.added u ∙ put_is (covers seg u) (sets 0 u)) (λ u. moved.left u ∙ cut_is (covers seg u) (sets (allocating_of group.0) u)) (λ tree u a b. moved.others tree u b a))

  pub mirrors_free : (lane : ℕ) (group : Group) (seg : Seg) → MayFree o h group.0 seg → Adds sets new (freeing_of group.0) seg → Mirrors o (noted h lane (Free group seg)) new
  mirrors_free lane group seg may adds =
      mirrors_after o h lane (Free group seg) new _ _ true refl refl may.loaded (record {
        within = λ tree u above.
            none_in_one sets new (freeing_of group.0) u adds.others (λ n. m.within n u above)
            (adds.added u ∙ rw (covers_high seg u (omega (arith, may.within.within))) (m.within (freeing_of group.0) u above)) tree;
        vacant = λ _ u inside.
            adds.others 0 u (λ e. omega arith)
            ∙ (m.vacant may.loaded u inside
            ∙ ap not (busy_free (covers seg u) (settled_group o h) group.0 (last_act o h u) (omega (arith, later))
            (λ c. live_busy (settled_group o h) (last_act o h u) (granted_by_live group.0 (last_act o h u) (may.live u (covers_true seg u c))))));
        unloaded = λ idle u. absurd (cc);
        gained = λ t u low high. adds.others (allocating_of t) u (λ e. omega arith) ∙ m.gained t u low high;
        given = λ t u low high.
            by_group (λ n. new (freeing_of n) u ≡ (is_given n h u || gives n u act)) t group.0
            (adds.added u ∙ (ap (λ b. covers seg u || b) (m.given group.0 u later near) ∙ or_one (covers seg u) (group.0 == group.0) (is_given group.0 h u) (own_group group.0 group.0 refl)))
            (λ e. given_other t u act low high (gives_quiet t u act (λ f. e (sym f)))
            (adds.others (freeing_of t) u (λ f. four_apart (settled_group o h) t group.0 low high later near e (omega arith))));
        deferred = λ t u low high. deferred_other t u act low high (gives_quiet (t - 2) u act (λ e. omega (arith, later))) (adds.others (deferred_of t) u (λ e. omega arith));
      }) where
        act : Act
        act = Free group seg

        later : settled_group o h < group.0
        later = omega (arith, may.open_group.above, (order o h sets legal m))

        near : group.0 ≤ settled_group o h + 4
        near = omega (arith, may.open_group.near)

  pub mirrors_collect : (lane : ℕ) (group : Group) → group.0 ≡ collected_group o h + 1 → Clears sets new (allocating_of group.0) → Mirrors o (noted h lane (Collect group)) new
  mirrors_collect lane group next clears =
      mirrors_after o h lane (Collect group) new _ _ _ refl refl refl (record {
        within = λ tree u above. none_in_one sets new (allocating_of group.0) u clears.others (λ n. m.within n u above) (clears.empty u) tree;
        vacant = λ loaded u inside. clears.others 0 u (λ e. omega arith) ∙ m.vacant loaded u inside;
        unloaded = λ idle u. clears.others 0 u (λ e. omega arith) ∙ m.unloaded idle u;
        gained = λ t u low high. gained_at t u low high (le_or t (collected_group o h + 4));
        given = λ t u low high. given_other t u (Collect group) low high refl (clears.others (freeing_of t) u (λ e. omega arith));
        deferred = λ t u low high. deferred_other t u (Collect group) low high refl (clears.others (deferred_of t) u (λ e. omega arith));
      }) where
        gained_at : (t u : ℕ) → group.0 < t → t ≤ group.0 + 4 → (t ≤ collected_group o h + 4) ⊎ (collected_group o h + 4 < t) → new (allocating_of t) u ≡ is_gained t h u
        gained_at t u low high (inl near) =
            clears.others (allocating_of t) u (λ e. four_apart (collected_group o h) t group.0 (omega arith) near (omega arith) (omega arith) (λ f. omega arith) (omega arith))
            ∙ m.gained t u (omega arith) near
        gained_at t u low high (inr far) =
            let same : allocating_of t ≡ allocating_of group.0 = omega arith in
            ap (λ n. new n u) same ∙ (clears.empty u ∙ sym (gained_far o h t u legal (omega (arith, (order o h sets legal m)))))

  pub mirrors_settle : (lane : ℕ) (group : Group) → group.0 ≡ settled_group o h + 1 → group.0 ≤ collected_group o h
      → Settles (is_loaded h) sets new group.0 → Mirrors o (noted h lane (Settle group)) new
  mirrors_settle lane group next closed s =
      mirrors_after o h lane (Settle group) new _ _ _ refl refl refl (record {
        within = λ tree u above. within_at u above tree (cases_eq tree 0) (cases_eq tree (deferred_of group.0)) (cases_eq tree (freeing_of group.0));
        vacant = λ loaded u inside.
            s.vacant loaded u
            ∙ (ap (λ b. b || sets 0 u) (m.deferred group.0 u (omega arith) (omega arith))
            ∙ (ap (λ b. is_given (group.0 - 2) h u || b) (m.vacant loaded u inside)
            ∙ vacant_next o h legal group.0 u next));
        unloaded = λ idle u. s.unloaded idle u ∙ m.unloaded idle u;
        gained = λ t u low high. s.others (allocating_of t) u (λ e. omega arith) (λ e. omega arith) (λ e. omega arith) ∙ m.gained t u low high;
        given = λ t u low high. given_at t u low high (le_or t (settled_group o h + 4)) ∙ sym (or_false (is_given t h u));
        deferred = λ t u low high. deferred_at t u low high (le_or t (settled_group o h + 2)) ∙ sym (or_false (is_given (t - 2) h u));
      }) where
        zero_at : (u : ℕ) → o.units ≤ u → (is_loaded h ≡ true) ⊎ (is_loaded h ≡ false) → new 0 u ≡ false
        zero_at u above (inl loaded) = s.vacant loaded u ∙ rw (m.within (deferred_of group.0) u above) (m.within 0 u above)
        zero_at u above (inr idle) = s.unloaded idle u ∙ m.unloaded idle u

        within_at : (u : ℕ) → o.units ≤ u → (tree : ℕ) → (tree ≡ 0) ⊎ (tree ≡ 0 → ⊥) → (tree ≡ deferred_of group.0) ⊎ (tree ≡ deferred_of group.0 → ⊥)
            → (tree ≡ freeing_of group.0) ⊎ (tree ≡ freeing_of group.0 → ⊥) → new tree u ≡ false
        within_at u above tree (inl a) b c = ap (λ n. new n u) a ∙ zero_at u above (true_or_false (is_loaded h))
        within_at u above tree (inr a) (inl b) c = ap (λ n. new n u) b ∙ (s.deferred u ∙ m.within (freeing_of group.0) u above)
        within_at u above tree (inr a) (inr b) (inl c) = ap (λ n. new n u) c ∙ s.given u
        within_at u above tree (inr a) (inr b) (inr c) = s.others tree u a b c ∙ m.within tree u above

        given_at : (t u : ℕ) → group.0 < t → t ≤ group.0 + 4 → (t ≤ settled_group o h + 4) ⊎ (settled_group o h + 4 < t) → new (freeing_of t) u ≡ is_given t h u
        given_at t u low high (inl near) =
            s.others (freeing_of t) u (λ e. omega arith) (λ e. omega arith)
            (λ e. four_apart (settled_group o h) t group.0 (omega arith) near (omega arith) (omega arith) (λ f. omega arith) (omega arith))
            ∙ m.given t u (omega arith) near
        given_at t u low high (inr far) =
            let same : freeing_of t ≡ freeing_of group.0 = omega arith in
            ap (λ n. new n u) same ∙ (s.given u ∙ sym (given_far o h t u legal (omega arith)))

        deferred_at : (t u : ℕ) → group.0 < t → t ≤ group.0 + 2 → (t ≤ settled_group o h + 2) ⊎ (settled_group o h + 2 < t) → new (deferred_of t) u ≡ is_given (t - 2) h u
        deferred_at t u low high (inl near) =
            s.others (deferred_of t) u (λ e. omega arith) (λ e. two_apart (settled_group o h) t (omega arith) (omega arith)) (λ e. omega arith)
            ∙ m.deferred t u (omega arith) near
        deferred_at t u low high (inr far) =
            let same : deferred_of t ≡ deferred_of group.0 = omega arith in
            let two : group.0 ≡ t - 2 = omega arith in
            ap (λ n. new n u) same ∙ (s.deferred u ∙ (m.given group.0 u (omega arith) (omega arith) ∙ ap (λ n. is_given n h u) two))

  pub mirrors_load : (lane : ℕ) (held : List Seg) → is_loaded h ≡ false → Fills sets new o.units held → ((u : ℕ) → u < o.units → not (covered held u) ≡ is_vacant o h u) → Mirrors o (noted h lane Load) new
  mirrors_load lane held idle fills vacant =
      mirrors_after o h lane Load new _ _ _ refl refl refl (record {
        within = λ tree u past. none_in_one sets new 0 u fills.others (λ n. m.within n u past) (fills.above u past) tree;
        vacant = λ loaded u inside. fills.gaps u inside ∙ vacant u inside;
        unloaded = λ none u. absurd (cc);
        gained = λ t u low high. fills.others (allocating_of t) u (λ e. omega arith) ∙ m.gained t u low high;
        given = λ t u low high. given_other t u Load low high refl (fills.others (freeing_of t) u (λ e. omega arith));
        deferred = λ t u low high. deferred_other t u Load low high refl (fills.others (deferred_of t) u (λ e. omega arith));
      })
