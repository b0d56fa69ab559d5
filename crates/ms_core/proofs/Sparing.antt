-- The nodes that wait for a settle, as the trees change.
use Rattle.std.proofs.Common.{◌≡◌, ℕ, ◌+◌, ◌≤◌, ◌<◌, Bool, false, sym, ap, ◌∙◌, subst, arith}
use Rattle.ms_core.proofs.Words.{◌||◌, ◌&&◌, not, Result, Ok, Err, OnOk, Seg, covers, has_before, begins_run, units_none, all_units, Sets, nodes_of, all_nodes, IsSegment, AllStay, OthersStay, nodes_of_add, freeing_of, Settles, Adds, Moves, waiting_nodes, deferred_of}

-- sets of the same units have the same nodes

nodes_same : (p q : ℕ → Bool) → ((u : ℕ) → p u ≡ q u) → nodes_of p ≡ nodes_of q
nodes_same p q same = let e : p ≡ q = λ i u. same u i in ap nodes_of e

nodes_none : (p : ℕ → Bool) → ((u : ℕ) → p u ≡ false) → nodes_of p ≡ 0
nodes_none p none = units_none (begins_run p) all_units (λ u. ap (λ b. b && not (has_before p u)) (none u))

-- trees that stay have the same nodes
pub nodes_stay : (sets new : Sets) → AllStay sets new → all_nodes new ≡ all_nodes sets
nodes_stay sets new stay = let same : new ≡ sets = λ i tree u. stay tree u i in ap all_nodes same

-- trees of no units have none
pub waiting_none : (sets : Sets) → ((tree u : ℕ) → sets tree u ≡ false) → waiting_nodes sets ≡ 0
waiting_none sets none =
    omega (arith, nodes_none (sets 5) (none 5), nodes_none (sets 6) (none 6), nodes_none (sets 7) (none 7), nodes_none (sets 8) (none 8), nodes_none (sets 9) (none 9), nodes_none (sets 10) (none 10))

-- trees 5 to 10 are as before
pub waiting_same : (sets new : Sets) → ((tree u : ℕ) → 5 ≤ tree → tree ≤ 10 → new tree u ≡ sets tree u) → waiting_nodes new ≡ waiting_nodes sets
waiting_same sets new same =
    omega (
      arith,
      nodes_same (new 5) (sets 5) (λ u. same 5 u (omega arith) (omega arith)),
      nodes_same (new 6) (sets 6) (λ u. same 6 u (omega arith) (omega arith)),
      nodes_same (new 7) (sets 7) (λ u. same 7 u (omega arith) (omega arith)),
      nodes_same (new 8) (sets 8) (λ u. same 8 u (omega arith) (omega arith)),
      nodes_same (new 9) (sets 9) (λ u. same 9 u (omega arith) (omega arith)),
      nodes_same (new 10) (sets 10) (λ u. same 10 u (omega arith) (omega arith)),
    )

-- one of the trees gains a segment
module _ {sets new : Sets} {seg : Seg} (group : ℕ) (is : IsSegment seg) (a : Adds sets new (freeing_of group) seg) where
  grows : nodes_of (new (freeing_of group)) ≤ nodes_of (sets (freeing_of group)) + 1
  grows =
      omega (arith, nodes_same (new (freeing_of group)) (λ u. covers seg u || sets (freeing_of group) u) a.added, nodes_of_add (sets (freeing_of group)) seg is)

  grows_at : (tree : ℕ) → tree ≡ freeing_of group → nodes_of (new tree) ≤ nodes_of (sets tree) + 1
  grows_at tree e = subst (λ t. nodes_of (new t) ≤ nodes_of (sets t) + 1) (sym e) grows

  stays_at : (tree : ℕ) → (tree ≡ freeing_of group → ⊥) → nodes_of (new tree) ≡ nodes_of (sets tree)
  stays_at tree apart = nodes_same (new tree) (sets tree) (λ u. a.others tree u apart)

  pub waiting_free : waiting_nodes new ≤ waiting_nodes sets + 1
  waiting_free = grind (arith, grows_at 5, grows_at 6, grows_at 7, grows_at 8, stays_at 5, stays_at 6, stays_at 7, stays_at 8, stays_at 9, stays_at 10)

module _ {loaded : Bool} {sets new : Sets} {group : ℕ} (s : Settles loaded sets new group) where
  same_at : (tree : ℕ) → (tree ≡ 0 → ⊥) → (tree ≡ deferred_of group → ⊥) → (tree ≡ freeing_of group → ⊥) → nodes_of (new tree) ≡ nodes_of (sets tree)
  same_at tree some apart other = nodes_same (new tree) (sets tree) (λ u. s.others tree u some apart other)

  gone_at : (tree : ℕ) → tree ≡ freeing_of group → nodes_of (new tree) ≡ 0
  gone_at tree e = nodes_none (new tree) (λ u. ap (λ t. new t u) e ∙ s.given u)

  moved_at : (from to : ℕ) → from ≡ freeing_of group → to ≡ deferred_of group → nodes_of (new to) ≡ nodes_of (sets from)
  moved_at from to e f = nodes_same (new to) (sets from) (λ u. ap (λ t. new t u) f ∙ (s.deferred u ∙ ap (λ t. sets t u) (sym e)))

  -- what a group gave back takes the place of what was deferred
  pub waiting_settle : waiting_nodes new ≤ waiting_nodes sets
  waiting_settle =
      grind (
        arith,
        gone_at 5,
        gone_at 6,
        gone_at 7,
        gone_at 8,
        moved_at 5 9,
        moved_at 6 9,
        moved_at 7 9,
        moved_at 8 9,
        moved_at 5 10,
        moved_at 6 10,
        moved_at 7 10,
        moved_at 8 10,
        same_at 5,
        same_at 6,
        same_at 7,
        same_at 8,
        same_at 9,
        same_at 10,
      )

-- a tree of what a group gained changes, and the tree of what is vacant
pub waiting_moved : {sets new : Sets} {from into : ℕ} {seg : Seg} → Moves sets new from into seg → from < 5 → into < 5 → waiting_nodes new ≡ waiting_nodes sets
waiting_moved {sets} {new} m low high = waiting_same sets new (λ other u from to. m.others other u (λ e. omega arith) (λ e. omega arith))

pub waiting_cleared : {sets new : Sets} {tree : ℕ} → OthersStay sets new tree → tree < 5 → waiting_nodes new ≡ waiting_nodes sets
waiting_cleared {sets} {new} others low = waiting_same sets new (λ other u from to. others other u (λ e. omega arith))

-- what follows where a call went well
pub on_ok : {T E P Q : Type 0} (r : Result T E) → (P → Q) → OnOk r P → OnOk r Q
on_ok (Ok t) f p = f p
on_ok (Err e) f p = tt
