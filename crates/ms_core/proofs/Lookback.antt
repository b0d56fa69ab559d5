-- What a look through the segment, the trees or the notes finds.
use Rattle.std.proofs.Common.{◌≡◌, ℕ, zero, suc, ◌+◌, ◌-◌, ◌≤◌, ◌<◌, Bool, true, false, Option, Some, None, List, [], ◌∷◌, ◌++◌, length, get_or, take, drop, refl, sym, ◌∙◌, ap, subst, arith, ◌⊎◌, inl, inr, IfSome, IfNone}
use Rattle.std.proofs.lemmas.Bool.{or_parts}
use Rattle.ms_core.proofs.Words.{◌||◌, ◌%◌, take-append-drop, get_or-take, length-take, Seg, Covers, or_cases, Sets, Origin, granted, act_on, last_act, settled_group, collected_group, is_loaded, MayDo, IsLegal, IsWithin, IsGrantedBy, Act, Settle, Noted, last_act-push, legal_before, legal_last, last_gained, Finds, in_any, IsLowestLacking, IsSettleBefore, Mirrors, IsBarred, by_vacant, by_given, by_gained, allocating_of, number_of, Tree, Allocatable, Allocating, Freeing, Deferred}
use Rattle.ms_core.proofs.Barring.{barred, live_of_trees, gained_near}

pub finds_along : (p q : ℕ → Bool) (seg : Seg) (found : Option ℕ) → ((u : ℕ) → p u ≡ q u) → Finds p seg found → Finds q seg found
finds_along p q seg (Some x) same f =
    (record { inside = f.0.inside; held = sym (same x) ∙ f.0.held; lowest = λ u c l. sym (same u) ∙ f.0.lowest u c l }, tt)
finds_along p q seg None same f = (tt, λ u c. sym (same u) ∙ f.1 u c)

-- where a set is what lacks something
pub finds_lacking : (p : ℕ → Bool) (Has : ℕ → Type 0) (seg : Seg) (found : Option ℕ) → ((u : ℕ) → Covers seg u → p u ≡ true → Has u → ⊥) → ((u : ℕ) → Covers seg u → p u ≡ false → Has u)
    → Finds p seg found → IfSome found (IsLowestLacking Has seg) × IfNone found ((u : ℕ) → Covers seg u → Has u)
finds_lacking p Has seg (Some x) bars frees f =
    (record { inside = f.0.inside; lacks = bars x f.0.inside f.0.held; below = λ u c l. frees u c (f.0.lowest u c l) }, tt)
finds_lacking p Has seg None bars frees f = (tt, λ u c. frees u c (f.1 u c))

-- a grant's group is at most three above the settled one
last_near : (o : Origin) (h : List Noted) (u lane group : ℕ) → IsLegal o h → last_act o h u ≡ granted (Some lane) group → group ≤ settled_group o h + 3
last_near o h u lane group legal e = gained_near o h group u legal (last_gained o h u lane group e)

stop_act : (o : Origin) (h : List Noted) (u by lane group : ℕ) (act : Act) → MayDo o h by act → IsSettleBefore act group
    → (last_act o h u ≡ granted (Some lane) group → group ≤ settled_group o h + 3) → act_on u (last_act o h u) by act ≡ granted (Some lane) group → ⊥
stop_act o h u by lane group (Settle s) may ago near e = let n = near e in omega (arith, may.0)
stop_act o h u by lane group _ may ago near e = absurd ago

take_step : (notes : List Noted) (i : ℕ) (d : Noted) → i < length notes → take i notes ++ get_or notes i d ∷ [] ≡ take (suc i) notes
take_step [] i d l = absurd (omega arith)
take_step (x ∷ xs) zero d l = refl
take_step (x ∷ xs) (suc i) d l = ap (λ (r : List Noted). x ∷ r) (take_step xs i d (omega arith))

-- no grant of a group stands before the settle of the group three before it
pub settle_stops : (o : Origin) (notes : List Noted) (i : ℕ) (d : Noted) (u lane group : ℕ) → IsLegal o notes → 0 < i → i ≤ length notes → IsSettleBefore (get_or notes (i - 1) d).act group
    → last_act o notes u ≡ last_act o (take i notes) u → last_act o notes u ≡ granted (Some lane) group → ⊥
settle_stops o notes i d u lane group legal some le ago same e =
    let x : Noted = get_or notes (i - 1) d in
    let l : List Noted = take (i - 1) notes in
    let whole : suc (i - 1) ≡ i = omega arith in
    let joined : l ++ x ∷ [] ≡ take i notes = take_step notes (i - 1) d (omega arith) ∙ ap (λ n. take n notes) whole in
    let begins : IsLegal o (take i notes) = legal_before o (take i notes) (drop i notes) (subst (IsLegal o) (sym (take-append-drop i notes)) legal) in
    let legal_there : IsLegal o (l ++ x ∷ []) = subst (IsLegal o) (sym joined) begins in
    let may : MayDo o l x.lane x.act = legal_last o l x [] legal_there in
    let now : last_act o (l ++ x ∷ []) u ≡ granted (Some lane) group = ap (λ (h : List Noted). last_act o h u) joined ∙ (sym same ∙ e) in
    stop_act o l u x.lane lane group x.act may ago (last_near o l u lane group (legal_before o l (x ∷ []) legal_there)) (sym (last_act-push o l x u) ∙ now)

-- what bars a free, tree by tree

any_none : (sets : Sets) (trees : List Tree) (u : ℕ) → in_any sets trees u ≡ false → (k : ℕ) → k < length trees → sets (number_of (get_or trees k Allocatable)) u ≡ false
any_none sets [] u e k l = absurd (omega arith)
any_none sets (t ∷ ts) u e zero l = (or_parts (sets (number_of t) u) (in_any sets ts u) e).0
any_none sets (t ∷ ts) u e (suc k) l = any_none sets ts u (or_parts (sets (number_of t) u) (in_any sets ts u) e).1 k (omega arith)

any_some : (sets : Sets) (trees : List Tree) (u : ℕ) → in_any sets trees u ≡ true → (k : ℕ) × (k < length trees) × (sets (number_of (get_or trees k Allocatable)) u ≡ true)
any_some sets [] u e = absurd (cc)
any_some sets (t ∷ ts) u e = by_head (any_some sets ts u) (or_cases (sets (number_of t) u) (in_any sets ts u) e) where
  by_head : (in_any sets ts u ≡ true → (k : ℕ) × (k < length ts) × (sets (number_of (get_or ts k Allocatable)) u ≡ true)) → (sets (number_of t) u ≡ true) ⊎ (in_any sets ts u ≡ true)
      → (k : ℕ) × (k < length (t ∷ ts)) × (sets (number_of (get_or (t ∷ ts) k Allocatable)) u ≡ true)
  by_head later (inl here) = (0, omega arith, here)
  by_head later (inr there) = let f = later there in (suc f.0, omega arith, f.2)

-- the trees of what is not handed out
abbrev pub not_handed_out : List Tree
not_handed_out =
    Allocatable ∷ Freeing (record { 0 = 0 }) ∷ Freeing (record { 0 = 1 }) ∷ Freeing (record { 0 = 2 }) ∷ Freeing (record { 0 = 3 })
    ∷ Deferred (record { 0 = 0 }) ∷ Deferred (record { 0 = 1 }) ∷ []

number_at : (k : ℕ) → k < 6 → number_of (get_or not_handed_out (suc k) Allocatable) ≡ 5 + k
number_at zero l = refl
number_at (suc zero) l = refl
number_at (suc (suc zero)) l = refl
number_at (suc (suc (suc zero))) l = refl
number_at (suc (suc (suc (suc zero)))) l = refl
number_at (suc (suc (suc (suc (suc zero))))) l = refl
number_at (suc (suc (suc (suc (suc (suc k)))))) l = absurd (omega arith)

-- the trees of the groups after one, as many as are open
abbrev pub later_trees : ℕ → List Tree
later_trees group = Allocating (record { 0 = group % 4 + 1 }) ∷ Allocating (record { 0 = group % 4 + 2 }) ∷ Allocating (record { 0 = group % 4 + 3 }) ∷ []

later_is : (group k : ℕ) → k < 3 → number_of (get_or (later_trees group) k Allocatable) ≡ allocating_of (group + (k + 1))
later_is group zero l = omega arith
later_is group (suc zero) l = omega arith
later_is group (suc (suc zero)) l = omega arith
later_is group (suc (suc (suc k))) l = absurd (omega arith)

module _ (o : Origin) (h : List Noted) (sets : Sets) (legal : IsLegal o h) (m : Mirrors o h sets) (loaded : is_loaded h ≡ true) (group many : ℕ)
    (above : collected_group o h < group) (open_many : many + (group - collected_group o h) ≡ 4) (near : group ≤ collected_group o h + 3) where
  abbrev pub bars : ℕ → Bool
  bars u = in_any sets not_handed_out u || in_any sets (take many (later_trees group)) u

  later_at : (k : ℕ) → k < many → number_of (get_or (take many (later_trees group)) k Allocatable) ≡ allocating_of (group + (k + 1))
  later_at k l = ap number_of (get_or-take many (later_trees group) k Allocatable l) ∙ later_is group k (omega arith)

  many_long : length (take many (later_trees group)) ≡ many
  many_long = let three : length (later_trees group) ≡ 3 = refl in omega (arith, length-take many (later_trees group))

  barred_so : (u : ℕ) → bars u ≡ true → IsBarred o h sets group u
  barred_so u e = by_part (or_cases (in_any sets not_handed_out u) (in_any sets (take many (later_trees group)) u) e) where
    by_place : (k : ℕ) → k < 7 → sets (number_of (get_or not_handed_out k Allocatable)) u ≡ true → IsBarred o h sets group u
    by_place zero l f = by_vacant f
    by_place (suc k) l f = by_given (5 + k) (omega arith) (omega arith) (ap (λ n. sets n u) (sym (number_at k (omega arith))) ∙ f)

    by_part : (in_any sets not_handed_out u ≡ true) ⊎ (in_any sets (take many (later_trees group)) u ≡ true) → IsBarred o h sets group u
    by_part (inl f) = let t = any_some sets not_handed_out u f in by_place t.0 t.1 t.2
    by_part (inr f) =
        let t = any_some sets (take many (later_trees group)) u f in
        let low : t.0 < many = omega (arith, many_long, t.1) in
        by_gained (group + (t.0 + 1)) (omega arith) (omega arith) (ap (λ n. sets n u) (sym (later_at t.0 low)) ∙ t.2)

  free_so : (u : ℕ) → u < o.units → bars u ≡ false → IsGrantedBy group (last_act o h u)
  free_so u inside e = live_of_trees o h sets legal m loaded group u inside above vacant given gained where
    fixed : in_any sets not_handed_out u ≡ false
    fixed = (or_parts (in_any sets not_handed_out u) (in_any sets (take many (later_trees group)) u) e).0

    moving : in_any sets (take many (later_trees group)) u ≡ false
    moving = (or_parts (in_any sets not_handed_out u) (in_any sets (take many (later_trees group)) u) e).1

    vacant : sets 0 u ≡ false
    vacant = any_none sets not_handed_out u fixed 0 (omega arith)

    given : (tree : ℕ) → 5 ≤ tree → tree ≤ 10 → sets tree u ≡ false
    given tree low high =
        let same : 5 + (tree - 5) ≡ tree = omega arith in
        ap (λ n. sets n u) (sym (number_at (tree - 5) (omega arith) ∙ same)) ∙ any_none sets not_handed_out u fixed (suc (tree - 5)) (omega arith)

    gained : (t : ℕ) → group < t → t ≤ collected_group o h + 4 → sets (allocating_of t) u ≡ false
    gained t later within =
        let k : ℕ = t - group - 1 in
        let low : k < many = omega arith in
        let same : group + (k + 1) ≡ t = omega arith in
        ap (λ n. sets (allocating_of n) u) (sym same) ∙ (ap (λ n. sets n u) (sym (later_at k low)) ∙ any_none sets (take many (later_trees group)) u moving k (omega (arith, many_long)))

  pub not_live : (seg : Seg) (found : Option ℕ) → IsWithin o.units seg → Finds bars seg found
      → IfSome found (IsLowestLacking (λ u. IsGrantedBy group (last_act o h u)) seg) × IfNone found ((u : ℕ) → Covers seg u → IsGrantedBy group (last_act o h u))
  not_live seg found within f =
      finds_lacking bars (λ u. IsGrantedBy group (last_act o h u)) seg found
      (λ u c e live. barred o h sets legal m loaded group u (let w = within.within in omega (arith, c.1)) above (barred_so u e) live)
      (λ u c e. free_so u (let w = within.within in omega (arith, c.1)) e) f
