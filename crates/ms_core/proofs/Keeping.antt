-- What a metaslab keeps of itself stays true through each act.
use Rattle.std.proofs.Common.{◌≡◌, ℕ, ◌+◌, ◌-◌, ◌≤◌, ◌<◌, Bool, true, false, cond, Option, Some, None, IfSome, IfNone, List, [], refl, sym, ◌∙◌, ap, subst, arith}
use Rattle.ms_core.proofs.Words.{cursor_below, noted, not, ◌==◌, ◌≢◌, nat_le, slice_index, All, leb-true, leb-false, All-nil, All-push, Seg, Group, end_of, covered, Covers, AreSegs, units_in, begins_run, run_count, IsFit, NoneInRow, AreMaximalRuns, cursor_of, same_not, fit_within, fit_inside, SameBelow, fit_along, row_along, run_count_same, units_none, apart_maximal, all_units, nodes_of, Sets, HoldsTogether, IsNotedIn, IsRoomier, MovesCursor, state_in, book_in, waiting_nodes, Inside, Adds, Moves, Clears, Fills, CURSORS, leaves_units, size_of, is_live, is_deferred, units_le, vec_len, vec_capacity, settled_by, settled_group, collected_by, collected_group, loaded_by, is_loaded, disabled_by, worker_at, held, is_vacant, live_units, deferred_units, cursor_by, cursor_at, IsOpenGroup, MayDo, MayMiss, MayGrant, MayFree, MayTakeBack, TakesRequests, IsLegal, is_given, IsFreeOfAll, Act, Grant, Free, Unalloc, Miss, Collect, Settle, Load, Unload, Noted, settled_group-push, collected_group-push, is_loaded-push, worker_at-push, cursor_at-push, legal_push, legal_none, settled_le_collected, vacant_free, held_unloaded, vacant_unloaded, given_far, Mirrors, Settles, allocating_of, freeing_of, deferred_of, number_of, is_changed, tree_of, MsState, IsLane, AreOfLanes, Change, Gained, Given, Tree, Allocating, Freeing, Book, IsKept, origin_in}
use Rattle.ms_core.proofs.Narrowing.{count_down, size_down, range_le}
use Rattle.ms_core.proofs.Sparing.{waiting_same}
use Rattle.ms_core.proofs.Mirrored.{mirrors_first, mirrors_quiet, mirrors_grant, mirrors_free, mirrors_unalloc, mirrors_collect, mirrors_settle, mirrors_load}
use Rattle.ms_core.proofs.Counted.{grant_totals, free_totals, unalloc_totals, deferred_settle, live_still, deferred_still, live_first, deferred_first}

-- before the first note
pub kept_first : (sets : Sets) (m : Book) → ((tree u : ℕ) → sets tree u ≡ false) → 64 ≤ m.units → m.units ≤ 131072 → (9 ≤ m.ashift) × (m.ashift ≤ 12) → AreSegs m.units m.base
    → m.notes ≡ [] → m.loaded ≡ false → m.collected ≡ m.opened → m.settled ≡ m.opened → m.held ≡ units_in (covered m.base) m.units → m.live ≡ m.held → m.deferred ≡ 0 → IsKept sets m
kept_first sets m empty least most shift base none idle collected settled held live deferred =
    let o = origin_in m in
    record {
      least = least;
      most = most;
      shift = shift;
      base = base;
      legal = subst (IsLegal o) (sym none) (legal_none o);
      enabled = ap worker_at none;
      stays = subst (All (λ (note : Noted). note.act ≢ Unload)) (sym none) (All-nil (λ (note : Noted). note.act ≢ Unload));
      lanes = subst AreOfLanes (sym none) (All-nil (λ (note : Noted). IsLane note.lane));
      collected = collected ∙ ap (collected_group o) (sym none);
      settled = settled ∙ ap (settled_group o) (sym none);
      order = omega arith;
      loaded = idle ∙ ap is_loaded (sym none);
      mirrors = subst (λ h. Mirrors o h sets) (sym none) (mirrors_first o sets empty);
      cursors = λ h. absurd (same_not h idle);
      held = held;
      live = live ∙ held ∙ sym (live_first o) ∙ ap (live_units o) (sym none);
      deferred = deferred ∙ sym (deferred_first o) ∙ ap (deferred_units o) (sym none);
    }

-- what the fit finds is as long as was asked
pub found_count : (has : ℕ → Bool) (units ashift at : ℕ) (found : Option Seg) (count : ℕ) → IfSome found (IsFit has units ashift at count) → IfSome found (λ seg. seg.count ≡ count)
found_count has units ashift at (Some seg) count fit = fit.counts
found_count has units ashift at None count fit = tt

module _ {sets : Sets} {m : Book} (k : IsKept sets m) where
  takes_requests : m.loaded ≡ true → TakesRequests m.notes
  takes_requests is = record { loaded = sym k.loaded ∙ is; enabled = k.enabled }

  pub vacant_same : m.loaded ≡ true → SameBelow m.units (sets 0) (is_vacant (origin_in m) m.notes)
  vacant_same is = k.mirrors.vacant (sym k.loaded ∙ is)

  may_miss : m.loaded ≡ true → (count : ℕ) → NoneInRow (sets 0) m.units count → MayMiss (origin_in m) m.notes count
  may_miss is count none = record { takes = takes_requests is; none = row_along m.units _ _ (vacant_same is) count none }

  -- what `fit` tells of the vacant units
  abbrev pub Fits : ℕ → Seg → Type 0
  Fits count seg = IsFit (sets 0) m.units m.ashift (slice_index m.cursors (cursor_of count)) count seg

  may_grant : m.loaded ≡ true → (group count : ℕ) (seg : Seg) → 1 ≤ count → count ≤ 131072 → IsOpenGroup (origin_in m) m.notes group → Fits count seg → MayGrant (origin_in m) m.notes group seg
  may_grant is group count seg some most open_group fits =
      let vacant = is_vacant (origin_in m) m.notes in
      let there : Fits count seg → IsFit vacant m.units m.ashift (cursor_at m.notes (cursor_of count)) count seg =
      λ f. subst (λ at. IsFit vacant m.units m.ashift at count seg) (k.cursors is (cursor_of count) (cursor_below count (omega arith) most)) (fit_along m.units _ _ (vacant_same is) m.ashift _ count seg f) in
      let fit = there fits in
      record {
        takes = takes_requests is;
        open_group = open_group;
        within = record { some = omega (arith, fits.counts); within = fit_within _ _ _ _ _ seg fit };
        vacant = λ u c. fit_inside _ _ _ _ _ seg fit u c;
        fit = subst (λ n. IsFit vacant m.units m.ashift (cursor_at m.notes (cursor_of n)) n seg) (sym fits.counts) fit;
      }

  -- what `fit` answers may be granted, or missed
  pub fitted : m.loaded ≡ true → (group count : ℕ) (found : Option Seg) → 1 ≤ count → count ≤ 131072 → IsOpenGroup (origin_in m) m.notes group
      → IfSome found (Fits count) → IfNone found (NoneInRow (sets 0) m.units count) → IfSome found (MayGrant (origin_in m) m.notes group) × IfNone found (MayMiss (origin_in m) m.notes count)
  fitted is group count (Some seg) some most open_group fits none = (may_grant is group count seg some most open_group fits, tt)
  fitted is group count None some most open_group fits none = (tt, may_miss is count none)

  -- and is free of all
  pub fitted_free : (group : ℕ) (found : Option Seg) → IfSome found (MayGrant (origin_in m) m.notes group) → IfSome found (λ seg. (u : ℕ) → Covers seg u → IsFreeOfAll (origin_in m) m.notes u)
  fitted_free group (Some seg) may = λ u c. vacant_free (origin_in m) m.notes u k.legal (may.vacant u c)
  fitted_free group None may = tt

  -- nothing was touched before the first load
  pub vacant_held : m.loaded ≡ false → (t u : ℕ) → is_vacant (origin_in m) m.notes u ≡ not (held (origin_in m) m.notes t u)
  vacant_held idle t u =
      let o = origin_in m in
      let is : is_loaded m.notes ≡ false = sym k.loaded ∙ idle in
      vacant_unloaded o m.notes u k.legal is k.stays ∙ ap not (sym (held_unloaded o m.notes t u k.legal is k.stays))

  -- what the next group changed: its tree has it, and where there is none nothing was changed
  next_in : (change : Change) (group : Group) (tree : Tree) → group.0 ≡ collected_group (origin_in m) m.notes + 1 → tree_of change group (settled_group (origin_in m) m.notes) ≡ Some tree
      → (u : ℕ) → sets (number_of tree) u ≡ is_changed change group.0 m.notes u
  next_in Gained group tree next is u =
      let same : Allocating group ≡ tree = cc in
      ap (λ t. sets (number_of t) u) (sym same) ∙ k.mirrors.gained group.0 u (omega arith) (omega arith)
  next_in Given group tree next is u = by_near (nat_le group.0 (settled_group (origin_in m) m.notes + 3)) refl is where
    by_near : (b : Bool) → nat_le group.0 (settled_group (origin_in m) m.notes + 3) ≡ b → cond b (Some (Freeing group)) None ≡ Some tree → sets (number_of tree) u ≡ is_given group.0 m.notes u
    by_near true near e =
        let same : Freeing group ≡ tree = cc in
        let low : group.0 ≤ settled_group (origin_in m) m.notes + 3 = leb-true group.0 (settled_group (origin_in m) m.notes + 3) near in
        ap (λ t. sets (number_of t) u) (sym same) ∙ k.mirrors.given group.0 u (omega (arith, k.order, k.settled, k.collected)) (omega arith)
    by_near false far e = absurd (cc)

  pub next_count : (change : Change) (group : Group) (tree : Tree) → group.0 ≡ collected_group (origin_in m) m.notes + 1 → tree_of change group (settled_group (origin_in m) m.notes) ≡ Some tree
      → nodes_of (sets (number_of tree)) ≡ run_count (is_changed change group.0 m.notes) m.units
  next_count change group tree next is =
      count_down (sets (number_of tree)) m.units all_units (range_le m.units k.most) (k.mirrors.within (number_of tree))
      ∙ run_count_same (sets (number_of tree)) (is_changed change group.0 m.notes) m.units (next_in change group tree next is)

  pub next_runs : (change : Change) (group : Group) (tree : Tree) (runs : List Seg) → group.0 ≡ collected_group (origin_in m) m.notes + 1 → tree_of change group (settled_group (origin_in m) m.notes) ≡ Some tree
      → AreMaximalRuns (sets (number_of tree)) m.units runs → AreMaximalRuns (is_changed change group.0 m.notes) m.units runs
  next_runs change group tree runs next is all =
      let same : sets (number_of tree) ≡ is_changed change group.0 m.notes = λ i u. next_in change group tree next is u i in
      subst (λ p. AreMaximalRuns p m.units runs) same all

  pub next_none : (change : Change) (group : Group) → tree_of change group (settled_group (origin_in m) m.notes) ≡ None → (u : ℕ) → is_changed change group.0 m.notes u ≡ false
  next_none Gained group is u = absurd (cc)
  next_none Given group is u = by_near (nat_le group.0 (settled_group (origin_in m) m.notes + 3)) refl is where
    by_near : (b : Bool) → nat_le group.0 (settled_group (origin_in m) m.notes + 3) ≡ b → ◌≡◌ {A = Option Tree} (cond b (Some (Freeing group)) None) None → is_given group.0 m.notes u ≡ false
    by_near true near e = absurd (cc)
    by_near false far e = given_far (origin_in m) m.notes group.0 u k.legal (leb-false _ _ far)

-- a set of no units has no run
pub none_count : (set : ℕ → Bool) (units : ℕ) → ((u : ℕ) → set u ≡ false) → 0 ≡ run_count set units
none_count set units none = sym (units_none (begins_run set) units (λ u. rw (none u) refl))

pub none_runs : (set : ℕ → Bool) (units : ℕ) (runs : List Seg) → runs ≡ [] → ((u : ℕ) → set u ≡ false) → AreMaximalRuns set units runs
none_runs set units runs empty none = subst (AreMaximalRuns set units) (sym empty) (apart_maximal set units [] (omega arith) (λ u l. sym (none u)))

-- what the totals allow
module _ {sets : Sets} {m : Book} (k : IsKept sets m) (lane : ℕ) (group : Group) where
  pub granted_few : {seg : Seg} → MayGrant (origin_in m) m.notes group.0 seg → m.live + seg.count ≤ m.units
  granted_few {seg} may =
      omega (arith, k.live, (grant_totals (origin_in m) m.notes k.legal lane group seg may).0, units_le (is_live (origin_in m) (noted m.notes lane (Grant group seg))) m.units)

  pub freed_some : {seg : Seg} → MayFree (origin_in m) m.notes group.0 seg → (seg.count ≤ m.live) × (m.deferred + seg.count ≤ m.units)
  freed_some {seg} may = (
    omega (arith, k.live, (free_totals (origin_in m) m.notes k.legal lane group seg may).0),
    omega (arith, k.deferred, (free_totals (origin_in m) m.notes k.legal lane group seg may).1, units_le (is_deferred (origin_in m) (noted m.notes lane (Free group seg))) m.units),
  )

  pub own_some : {seg : Seg} → MayTakeBack (origin_in m) m.notes lane group.0 seg → seg.count ≤ m.live
  own_some {seg} may = omega (arith, k.live, (unalloc_totals (origin_in m) m.notes k.legal lane group seg may).0)

  pub vacates : group.0 ≡ m.settled + 1 → deferred_units (origin_in m) (noted m.notes lane (Settle group)) + size_of (sets (deferred_of group.0)) ≡ m.deferred
  vacates next =
      omega (arith, k.deferred, size_down (sets (deferred_of group.0)) m.units all_units (range_le m.units k.most) (k.mirrors.within (deferred_of group.0)), deferred_settle (origin_in m) m.notes k.legal sets k.mirrors lane group (next ∙ ap (λ n. n + 1) k.settled))

-- what an act leaves: it may follow the journal, and the trees, the cursors and the totals say what the longer journal says
pub record Leaves (new : Sets) (m : Book) (lane : ℕ) (act : Act) (ends : List ℕ) (out back : ℕ) : Type 0 where
  may : MayDo (origin_in m) m.notes lane act
  enabled : disabled_by None act ≡ None
  stays : act ≢ Unload
  mirrors : Mirrors (origin_in m) (noted m.notes lane act) new
  cursors : loaded_by m.loaded act ≡ true → (number : ℕ) → number < CURSORS → slice_index ends number ≡ cursor_by number (cursor_at m.notes number) act
  live : out ≡ live_units (origin_in m) (noted m.notes lane act)
  deferred : back ≡ deferred_units (origin_in m) (noted m.notes lane act)

-- what is kept, after it
abbrev after : Book → ℕ → Act → List ℕ → ℕ → ℕ → Book
after m lane act ends out back =
    record m { notes = noted m.notes lane act; loaded = loaded_by m.loaded act; cursors = ends; collected = collected_by m.collected act; settled = settled_by m.settled act; live = out; deferred = back }

kept : {sets new : Sets} {m : Book} {lane : ℕ} {act : Act} {ends : List ℕ} {out back : ℕ} → IsKept sets m → IsLane lane → Leaves new m lane act ends out back → IsKept new (after m lane act ends out back)
kept {sets} {new} {m} {lane} {act} k by leaves =
    let o = origin_in m in
    let note : Noted = record { lane = lane; act = act } in
    let legal : IsLegal o (noted m.notes lane act) = legal_push o m.notes note k.legal leaves.may in
    let collected : collected_by m.collected act ≡ collected_group o (noted m.notes lane act) = ap (λ n. collected_by n act) k.collected ∙ sym (collected_group-push o m.notes note) in
    let settled : settled_by m.settled act ≡ settled_group o (noted m.notes lane act) = ap (λ n. settled_by n act) k.settled ∙ sym (settled_group-push o m.notes note) in
    record {
      least = k.least;
      most = k.most;
      shift = k.shift;
      base = k.base;
      legal = legal;
      enabled = worker_at-push m.notes note ∙ (ap (λ w. disabled_by w act) k.enabled ∙ leaves.enabled);
      stays = All-push (λ (n : Noted). n.act ≢ Unload) m.notes note k.stays leaves.stays;
      lanes = All-push (λ (n : Noted). IsLane n.lane) m.notes note k.lanes by;
      collected = collected;
      settled = settled;
      order = omega (arith, settled_le_collected o (noted m.notes lane act) legal);
      loaded = ap (λ b. loaded_by b act) k.loaded ∙ sym (is_loaded-push m.notes note);
      mirrors = leaves.mirrors;
      cursors = λ h n l. leaves.cursors h n l ∙ sym (cursor_at-push m.notes note n);
      held = k.held;
      live = leaves.live;
      deferred = leaves.deferred;
    }

module _ {R : Type 0} {set : R → Sets} {spare : R → ℕ} {m new : Inside R} (h : HoldsTogether set spare m) where
  -- more room, and nothing else
  pub roomier : new ≡ record m { notes = new.notes; trees = new.trees } → IsRoomier m.notes new.notes (set m.trees) (set new.trees) (spare m.trees) (spare new.trees) → HoldsTogether set spare new
  roomier same r =
      let trees : set m.trees ≡ set new.trees = λ i tree u. sym (r.stay tree u) i in
      let book : book_in m ≡ book_in new = (λ i. record (book_in m) { notes = sym r.items i }) ∙ sym (ap book_in same) in
      let group : new.collected.0 ≡ m.collected.0 = ap (λ (n : Inside R). n.collected.0) same in
      let settled : new.settled.0 ≡ m.settled.0 = ap (λ (n : Inside R). n.settled.0) same in
      record {
        kept = subst (λ b. IsKept (set new.trees) b) book (subst (λ s. IsKept s (book_in m)) trees h.kept);
        waiting = omega (arith, h.waiting, r.nodes, waiting_same (set m.trees) (set new.trees) (λ tree u from to. r.stay tree u));
        room = omega (arith, h.room, r.len, r.capacity);
      }

  module _ {lane : ℕ} {act : Act} (is_lane : IsLane lane)
      (same : new ≡ record m { notes = new.notes; trees = new.trees; loaded = loaded_by m.loaded act; cursors = new.cursors; collected = record { 0 = collected_by m.collected.0 act }; settled = record { 0 = settled_by m.settled.0 act }; live = new.live; deferred = new.deferred })
      (longer : IsNotedIn m.notes new.notes lane act) (leaves : Leaves (set new.trees) (book_in m) lane act new.cursors new.live new.deferred) where
    -- a note more, of an act that leaves this, where there is room for those that wait
    pub acted : waiting_nodes (set new.trees) ≤ spare new.trees → vec_len new.notes + new.collected.0 ≤ vec_capacity new.notes + new.settled.0 → HoldsTogether set spare new
    acted waiting room =
        let book : after (book_in m) lane act new.cursors new.live new.deferred ≡ book_in new =
        (λ i. record (after (book_in m) lane act new.cursors new.live new.deferred) { notes = sym longer.items i }) ∙ sym (ap book_in same) in
        record { kept = subst (λ b. IsKept (set new.trees) b) book (kept h.kept is_lane leaves); waiting = waiting; room = room }

    -- an act that uses up two nodes at most, beside those that wait
    pub acted_in_room : {s : MsState} → state_in set spare m ≡ s → 0 < s.room → collected_by m.collected.0 act ≤ m.collected.0 + 1 → settled_by m.settled.0 act ≡ m.settled.0
        → spare m.trees + waiting_nodes (set new.trees) ≤ spare new.trees + waiting_nodes (set m.trees) + 2 → HoldsTogether set spare new
    acted_in_room view some next stay uses =
        let room = ap (λ (s : MsState). s.room) view in
        let group : new.collected.0 ≡ collected_by m.collected.0 act = ap (λ (n : Inside R). n.collected.0) same in
        let settled : new.settled.0 ≡ settled_by m.settled.0 act = ap (λ (n : Inside R). n.settled.0) same in
        acted (omega (arith, room)) (omega (arith, room, h.kept.order, longer.len, longer.capacity))

-- an act that changes no unit, and settles nothing
still : {sets new : Sets} {m : Book} {lane : ℕ} {act : Act} {ends : List ℕ} → IsKept sets m → MayDo (origin_in m) m.notes lane act → disabled_by None act ≡ None → act ≢ Unload
    → leaves_units act ≡ true → settled_by (settled_group (origin_in m) m.notes) act ≡ settled_group (origin_in m) m.notes → Mirrors (origin_in m) (noted m.notes lane act) new
    → (loaded_by m.loaded act ≡ true → (number : ℕ) → number < CURSORS → slice_index ends number ≡ cursor_by number (cursor_at m.notes number) act)
    → Leaves new m lane act ends m.live m.deferred
still {sets} {new} {m} {lane} {act} k may enabled stays leaves same mirrors cursors = record {
  may = may;
  enabled = enabled;
  stays = stays;
  mirrors = mirrors;
  cursors = cursors;
  live = k.live ∙ sym (live_still (origin_in m) m.notes k.legal lane act leaves);
  deferred = k.deferred ∙ sym (deferred_still (origin_in m) m.notes k.legal lane act leaves same);
}

-- each act: what it does to the trees, the cursors and the totals

pub misses : {sets : Sets} {m : Book} {lane count : ℕ} → IsKept sets m → MayMiss (origin_in m) m.notes count → Leaves sets m lane (Miss count) m.cursors m.live m.deferred
misses {sets} {m} {lane} {count} k may =
    still k may refl (λ f. cc) refl refl (mirrors_quiet (origin_in m) m.notes sets k.legal k.mirrors lane (Miss count) refl refl refl (λ u. refl) (λ t x. x)) k.cursors

module _ {sets new : Sets} {m : Book} {lane : ℕ} (k : IsKept sets m) where
  pub grants : {group : Group} {seg : Seg} {ends : List ℕ} → MayGrant (origin_in m) m.notes group.0 seg → Moves sets new 0 (allocating_of group.0) seg → MovesCursor m.cursors ends seg
      → Leaves new m lane (Grant group seg) ends (m.live + seg.count) m.deferred
  grants {group} {seg} may moved cursors = record {
    may = may;
    enabled = refl;
    stays = λ f. cc;
    mirrors = mirrors_grant (origin_in m) m.notes sets k.legal k.mirrors new lane group seg may moved;
    cursors = λ h n l. cursors n l ∙ ap (λ c. cond (cursor_of seg.count == n) (end_of seg) c) (k.cursors h n l);
    live = omega (arith, k.live, (grant_totals (origin_in m) m.notes k.legal lane group seg may).0);
    deferred = omega (arith, k.deferred, (grant_totals (origin_in m) m.notes k.legal lane group seg may).1);
  }

  pub frees : {group : Group} {seg : Seg} → MayFree (origin_in m) m.notes group.0 seg → Adds sets new (freeing_of group.0) seg → Leaves new m lane (Free group seg) m.cursors (m.live - seg.count) (m.deferred + seg.count)
  frees {group} {seg} may adds = record {
    may = may;
    enabled = refl;
    stays = λ f. cc;
    mirrors = mirrors_free (origin_in m) m.notes sets k.legal k.mirrors new lane group seg may adds;
    cursors = k.cursors;
    live = omega (arith, k.live, (free_totals (origin_in m) m.notes k.legal lane group seg may).0);
    deferred = omega (arith, k.deferred, (free_totals (origin_in m) m.notes k.legal lane group seg may).1);
  }

  pub takes_back : {group : Group} {seg : Seg} → MayTakeBack (origin_in m) m.notes lane group.0 seg → Moves sets new (allocating_of group.0) 0 seg
      → Leaves new m lane (Unalloc group seg) m.cursors (m.live - seg.count) m.deferred
  takes_back {group} {seg} may moved = record {
    may = may;
    enabled = refl;
    stays = λ f. cc;
    mirrors = mirrors_unalloc (origin_in m) m.notes sets k.legal k.mirrors new lane group seg may moved;
    cursors = k.cursors;
    live = omega (arith, k.live, (unalloc_totals (origin_in m) m.notes k.legal lane group seg may).0);
    deferred = omega (arith, k.deferred, (unalloc_totals (origin_in m) m.notes k.legal lane group seg may).1);
  }

  pub collects : {group : Group} → group.0 ≡ m.collected + 1 → Clears sets new (allocating_of group.0) → Leaves new m lane (Collect group) m.cursors m.live m.deferred
  collects {group} next clears =
      let may : MayDo (origin_in m) m.notes lane (Collect group) = omega (arith, k.collected) in
      still k may refl (λ f. cc) refl refl (mirrors_collect (origin_in m) m.notes sets k.legal k.mirrors new lane group may clears) k.cursors

  pub settles : {group : Group} {gone : ℕ} → group.0 ≡ m.settled + 1 → group.0 ≤ m.collected → Settles m.loaded sets new group.0 → gone ≡ size_of (sets (deferred_of group.0))
      → Leaves new m lane (Settle group) m.cursors m.live (m.deferred - gone)
  settles {group} next closed moves gone =
      let act : Act = Settle group in
      let may : MayDo (origin_in m) m.notes lane act = (omega (arith, k.settled), omega (arith, k.collected)) in
      record {
        may = may;
        enabled = refl;
        stays = λ f. cc;
        mirrors = mirrors_settle (origin_in m) m.notes sets k.legal k.mirrors new lane group may.0 may.1 (subst (λ b. Settles b sets new group.0) k.loaded moves);
        cursors = k.cursors;
        live = k.live ∙ sym (live_still (origin_in m) m.notes k.legal lane act refl);
        deferred = omega (arith, k.deferred, gone, vacates k lane group next);
      }

  pub loads : {ends : List ℕ} {given : List Seg} → m.loaded ≡ false → Fills sets new m.units given
      → ((u : ℕ) → u < m.units → covered given u ≡ held (origin_in m) m.notes (settled_group (origin_in m) m.notes) u)
      → ((number : ℕ) → number < CURSORS → slice_index ends number ≡ 0) → Leaves new m lane Load ends m.live m.deferred
  loads {ends} {given} idle fills holds start =
      let may : MayDo (origin_in m) m.notes lane Load = sym k.loaded ∙ idle in
      still k may refl (λ f. cc) refl refl
      (mirrors_load (origin_in m) m.notes sets k.legal k.mirrors new lane given may fills
      (λ u l. ap not (holds u l) ∙ sym (vacant_held k idle (settled_group (origin_in m) m.notes) u))) (λ h n l. start n l)
