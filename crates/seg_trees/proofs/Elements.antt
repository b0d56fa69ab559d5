-- The thirteen trees as a list: one of them changes, two change places, and how many runs they have together.
use Rattle.std.proofs.Common.{◌≡◌, ℕ, zero, suc, ◌+◌, ◌-◌, ◌≤◌, ◌<◌, Bool, true, false, List, [], ◌∷◌, length, get_or, set, get_or-set_other, length-set, add-zero, zero-add, refl, sym, ap, ◌∙◌, subst, arith}
use Rattle.std.specs.List.{sum_by, All, range_with_len}
use Rattle.std.proofs.lemmas.List.Elements.{All-set}
use Rattle.std.proofs.lemmas.List.Sums.{sum_by-cons}
use Rattle.std.proofs.lemmas.List.Sorted.{All-permutation, sum_by-IsPermutation}
use Rattle.std.specs.Prelude.{IsPermutation}
use Rattle.zms_units.specs.declared.segments.Seg.{Seg}
use Rattle.zms_units.specs.Segments.{covered}
use Rattle.std.specs.Prelude.{◌||◌, ◌&&◌, not}
use Rattle.seg_trees.proofs.Sizes.{nodes_of-covered}
use Rattle.seg_trees.specs.OneSet.{OneSet, IsWhole}
use Rattle.seg_trees.specs.Sets.{Sets, OthersStay, TakesNone, nodes_of, all_nodes}
use Rattle.seg_trees.specs.Kept.{TreeLists, HasRoom, sets_of, lists_of, runs_in}

pub at_list : (ts : List OneSet) (i : ℕ) (d : OneSet) → i < length ts → get_or (lists_of ts) i [] ≡ (get_or ts i d).runs
at_list [] i d l = absurd (omega arith)
at_list (t ∷ ts) zero d l = refl
at_list (t ∷ ts) (suc i) d l = at_list ts i d (omega arith)

pub set_list : (ts : List OneSet) (i : ℕ) (x : OneSet) → i < length ts → get_or (lists_of (set ts i x)) i [] ≡ x.runs
set_list [] i x l = absurd (omega arith)
set_list (t ∷ ts) zero x l = refl
set_list (t ∷ ts) (suc i) x l = set_list ts i x (omega arith)

pub other_list : (ts : List OneSet) (i k : ℕ) (x : OneSet) → (k ≡ i → ⊥) → get_or (lists_of (set ts i x)) k [] ≡ get_or (lists_of ts) k []
other_list [] i k x f = refl
other_list (t ∷ ts) zero zero x f = absurd (f refl)
other_list (t ∷ ts) zero (suc k) x f = refl
other_list (t ∷ ts) (suc i) zero x f = refl
other_list (t ∷ ts) (suc i) (suc k) x f = other_list ts i k x (λ e. f (omega arith))

pub runs_in-cons : (t : OneSet) (ts : List OneSet) → runs_in (t ∷ ts) ≡ length t.runs + runs_in ts
runs_in-cons t ts = sum_by-cons (λ (s : OneSet). length s.runs) t ts

pub runs_in-set : (ts : List OneSet) (i : ℕ) (x d : OneSet) → i < length ts → runs_in (set ts i x) + length (get_or ts i d).runs ≡ runs_in ts + length x.runs
runs_in-set [] i x d l = absurd (omega arith)
runs_in-set (t ∷ ts) zero x d l = omega (arith, runs_in-cons t ts, runs_in-cons x ts)
runs_in-set (t ∷ ts) (suc i) x d l = omega (arith, runs_in-cons t ts, runs_in-cons t (set ts i x), runs_in-set ts i x d (omega arith))

pub runs_in-at : (ts : List OneSet) (i : ℕ) (d : OneSet) → i < length ts → length (get_or ts i d).runs ≤ runs_in ts
runs_in-at [] i d l = absurd (omega arith)
runs_in-at (t ∷ ts) zero d l = omega (arith, runs_in-cons t ts)
runs_in-at (t ∷ ts) (suc i) d l = omega (arith, runs_in-cons t ts, runs_in-at ts i d (omega arith))

-- one tree changes
module _ (ts : List OneSet) (i : ℕ) (lists : List (List Seg)) (within : i < length ts) (view : lists_of ts ≡ lists) where
  pub old_is : (d : OneSet) (u : ℕ) → covered (get_or ts i d).runs u ≡ sets_of lists i u
  old_is d u = ap (λ rs. covered rs u) (sym (at_list ts i d within)) ∙ ap (λ ls. sets_of ls i u) view

  pub new_is : (x : OneSet) (u : ℕ) → sets_of (lists_of (set ts i x)) i u ≡ covered x.runs u
  new_is x u = ap (λ rs. covered rs u) (set_list ts i x within)

  pub others_stay : (x : OneSet) → OthersStay (sets_of lists) (sets_of (lists_of (set ts i x))) i
  others_stay x k u f = ap (λ rs. covered rs u) (other_list ts i k x f) ∙ ap (λ ls. sets_of ls k u) view

-- one tree gets more room
pub same_lists : (ts : List OneSet) (i : ℕ) (x d : OneSet) → i < length ts → x.runs ≡ (get_or ts i d).runs → lists_of (set ts i x) ≡ lists_of ts
same_lists [] i x d l e = absurd (omega arith)
same_lists (t ∷ ts) zero x d l e = ap (λ rs. rs ∷ lists_of ts) e
same_lists (t ∷ ts) (suc i) x d l e = ap (λ ls. t.runs ∷ ls) (same_lists ts i x d (omega arith) e)

pub more_room : (ts : List OneSet) (i least : ℕ) (x d : OneSet) → i < length ts → (get_or ts i d).capacity ≤ x.capacity → All (λ (t : OneSet). least ≤ t.capacity) ts → All (λ (t : OneSet). least ≤ t.capacity) (set ts i x)
more_room ts i least x d l le a = All-set (λ (t : OneSet). least ≤ t.capacity) ts i x (omega (arith, a i d l)) a

-- as many runs as the lists have
pub runs_in_same : (ts us : List OneSet) → lists_of ts ≡ lists_of us → runs_in ts ≡ runs_in us
runs_in_same ts us e = by_lists ts ∙ ap (λ ls. sum_by length ls) e ∙ sym (by_lists us) where
  by_lists : (ts : List OneSet) → runs_in ts ≡ sum_by length (lists_of ts)
  by_lists [] = refl
  by_lists (t ∷ ts) = runs_in-cons t ts ∙ ap (λ n. length t.runs + n) (by_lists ts) ∙ sym (sum_by-cons length t.runs (lists_of ts))

lists_long : (ts : List OneSet) → length (lists_of ts) ≡ length ts
lists_long [] = refl
lists_long (t ∷ ts) = ap suc (lists_long ts)

pub whole_same : (ts us : List OneSet) → lists_of ts ≡ lists_of us → All IsWhole us → All IsWhole ts
whole_same ts us e a i d l =
    let m : i < length us = omega (arith, lists_long ts, lists_long us, ap length e) in
    let same : (get_or ts i d).runs ≡ (get_or us i d).runs = sym (at_list ts i d l) ∙ (ap (λ (ls : List (List Seg)). get_or ls i []) e ∙ at_list us i d m) in
    subst (λ (rs : List Seg). nodes_of (covered rs) ≡ length rs) (sym same) (a i d m)

pub runs_none : (ts : List OneSet) → ((i : ℕ) (d : OneSet) → i < length ts → length (get_or ts i d).runs ≡ 0) → runs_in ts ≡ 0
runs_none [] f = refl
runs_none (t ∷ ts) f = omega (arith, runs_in-cons t ts, f 0 t (omega arith), runs_none ts (λ i d l. f (suc i) d (omega arith)))

-- the nodes of all trees are their runs
nodes_from : (sets : Sets) (k : ℕ) (ts : List OneSet) → ((i : ℕ) (d : OneSet) → i < length ts → nodes_of (sets (k + i)) ≡ length (get_or ts i d).runs)
    → sum_by (λ tree. nodes_of (sets tree)) (range_with_len k (length ts)) ≡ runs_in ts
nodes_from sets k [] f = refl
nodes_from sets k (t ∷ ts) f =
    let e : sum_by (λ tree. nodes_of (sets tree)) (k ∷ range_with_len (k + 1) (length ts)) ≡ nodes_of (sets k) + sum_by (λ tree. nodes_of (sets tree)) (range_with_len (k + 1) (length ts)) =
    sum_by-cons (λ tree. nodes_of (sets tree)) k (range_with_len (k + 1) (length ts)) in
    let h : nodes_of (sets k) ≡ length t.runs = ap (λ n. nodes_of (sets n)) (sym (add-zero k)) ∙ f 0 t (omega arith) in
    let r = nodes_from sets (k + 1) ts (λ i d l. let same : (k + 1) + i ≡ k + suc i = omega arith in ap (λ n. nodes_of (sets n)) same ∙ f (suc i) d (omega arith)) in
    omega (arith, e, h, r, runs_in-cons t ts)

pub all_nodes-is : (ts : List OneSet) → length ts ≡ 13 → All IsWhole ts → all_nodes (sets_of (lists_of ts)) ≡ runs_in ts
unfolding all_nodes
all_nodes-is ts e a =
    let P : ℕ → Type 0 = λ n. sum_by (λ tree. nodes_of (sets_of (lists_of ts) tree)) (range_with_len 0 n) ≡ runs_in ts in
    subst P e
    (nodes_from (sets_of (lists_of ts)) 0 ts
    (λ i d l. ap (λ rs. nodes_of (covered rs)) (ap (λ n. get_or (lists_of ts) n []) (zero-add i) ∙ at_list ts i d l) ∙ a i d l))

-- what is spare and what all trees have is the memory at hand
all_memory : (ts : List OneSet) (limit : ℕ) → length ts ≡ 13 → runs_in ts ≤ limit → All IsWhole ts → limit - runs_in ts + all_nodes (sets_of (lists_of ts)) ≡ limit
all_memory ts limit e fits whole = omega (arith, all_nodes-is ts e whole)

pub memory_kept : (ts us : List OneSet) (b c : OneSet) (limit : ℕ) (s : TreeLists) → length ts ≡ 13 → length us ≡ 13 → HasRoom ts b limit → HasRoom us c limit
    → ◌≡◌ {A = TreeLists} (record { lists = lists_of ts; spare = limit - runs_in ts }) s → TakesNone s.spare (sets_of s.lists) (limit - runs_in us) (sets_of (lists_of us))
memory_kept ts us b c limit s e f old new view =
    all_memory us limit f new.fits new.whole
    ∙ sym (subst (λ (v : TreeLists). v.spare + all_nodes (sets_of v.lists) ≡ limit) view (all_memory ts limit e old.fits old.whole))

-- one tree changes, of which there is room for the new runs
pub room_set : (ts : List OneSet) (i limit : ℕ) (d buffer x : OneSet) → i < length ts → HasRoom ts buffer limit
    → runs_in ts + length x.runs ≤ limit + length (get_or ts i d).runs → x.capacity ≡ (get_or ts i d).capacity → IsWhole x → HasRoom (set ts i x) buffer limit
room_set ts i limit d buffer x l h fits same whole =
    record {
      most = h.most;
      fits = omega (arith, runs_in-set ts i x d l);
      room = All-set (λ (t : OneSet). limit ≤ t.capacity) ts i x (omega (arith, h.room i d l)) h.room;
      buffer_room = h.buffer_room;
      whole = All-set IsWhole ts i x whole h.whole;
    }

-- two trees become one, and the other one is emptied
pub empty_whole : (rs : List Seg) → length rs ≡ 0 → nodes_of (covered rs) ≡ length rs
empty_whole [] e = nodes_of-covered [] (omega arith)
empty_whole (r ∷ rs) e = absurd (omega arith)

pub room_vacated : (ts us : List OneSet) (from into limit : ℕ) (d buffer other merged x : OneSet) → from < length ts → into < length ts → (from ≡ into → ⊥) → us ≡ set ts into merged → other ≡ get_or ts into other
    → HasRoom ts buffer limit → length merged.runs ≤ length (get_or ts from d).runs + length (get_or ts into d).runs → merged.capacity ≡ buffer.capacity → IsWhole merged
    → length x.runs ≡ 0 → x.capacity ≡ (get_or us from d).capacity → HasRoom (set us from x) other limit
room_vacated ts us from into limit d buffer other merged x l m apart e is h few same whole none kept =
    let n : from < length us = omega (arith, ap (λ (v : List OneSet). length v) e, length-set ts into merged) in
    let stays : get_or us from d ≡ get_or ts from d = ap (λ (v : List OneSet). get_or v from d) e ∙ get_or-set_other ts into from merged d apart in
    let room : All (λ (t : OneSet). limit ≤ t.capacity) us = subst (All (λ (t : OneSet). limit ≤ t.capacity)) (sym e) (All-set (λ (t : OneSet). limit ≤ t.capacity) ts into merged (omega (arith, h.buffer_room)) h.room) in
    record {
      most = h.most;
      fits = omega (arith, h.fits, runs_in-set us from x d n, ap runs_in e, runs_in-set ts into merged d m, ap (λ (t : OneSet). length t.runs) stays);
      room = All-set (λ (t : OneSet). limit ≤ t.capacity) us from x (omega (arith, room from d n)) room;
      buffer_room = omega (arith, h.room into other m, ap (λ (t : OneSet). t.capacity) is);
      whole = All-set IsWhole us from x (empty_whole x.runs none) (subst (All IsWhole) (sym e) (All-set IsWhole ts into merged whole h.whole));
    }

-- two trees change places
pub room_swapped : (ts us : List OneSet) (limit : ℕ) (buffer : OneSet) → IsPermutation ts us → HasRoom ts buffer limit → HasRoom us buffer limit
room_swapped ts us limit buffer p h =
    record {
      most = h.most;
      fits = omega (arith, h.fits, sum_by-IsPermutation (λ (t : OneSet). length t.runs) ts us p);
      room = All-permutation (λ (t : OneSet). limit ≤ t.capacity) ts us p h.room;
      buffer_room = h.buffer_room;
      whole = All-permutation IsWhole ts us p h.whole;
    }

nothing : OneSet
nothing = record { runs = []; capacity = 0 }

at_any : (ts : List OneSet) (k : ℕ) → get_or (lists_of ts) k [] ≡ (get_or ts k nothing).runs
unfolding nothing
at_any [] k = refl
at_any (t ∷ ts) zero = refl
at_any (t ∷ ts) (suc k) = at_any ts k

pub moved : (ts us : List OneSet) (i k : ℕ) → ((d : OneSet) → get_or us k d ≡ get_or ts i d) → (u : ℕ) → sets_of (lists_of us) k u ≡ sets_of (lists_of ts) i u
moved ts us i k f u = ap (λ rs. covered rs u) (at_any us k ∙ ap (λ (t : OneSet). t.runs) (f nothing) ∙ sym (at_any ts i))

pub two_runs : (ts : List OneSet) (i k : ℕ) (d e : OneSet) → (i ≡ k → ⊥) → i < length ts → k < length ts → length (get_or ts i d).runs + length (get_or ts k e).runs ≤ runs_in ts
two_runs [] i k d e f l m = absurd (omega arith)
two_runs (t ∷ ts) zero zero d e f l m = absurd (f refl)
two_runs (t ∷ ts) zero (suc k) d e f l m = omega (arith, runs_in-cons t ts, runs_in-at ts k e (omega arith))
two_runs (t ∷ ts) (suc i) zero d e f l m = omega (arith, runs_in-cons t ts, runs_in-at ts i d (omega arith))
two_runs (t ∷ ts) (suc i) (suc k) d e f l m = omega (arith, runs_in-cons t ts, two_runs ts i k d e (λ h. f (ap suc h)) (omega arith) (omega arith))

pub stays_at : (ts : List OneSet) (i k : ℕ) (x : OneSet) (u : ℕ) → (k ≡ i → ⊥) → sets_of (lists_of (set ts i x)) k u ≡ sets_of (lists_of ts) k u
stays_at ts i k x u f = ap (λ rs. covered rs u) (other_list ts i k x f)

-- what the front of a segment adds to a tree that has none of it, or all
pub none_added : (c f i : Bool) → (c ≡ true → f ≡ true) → i ≡ ((c && not f) || i)
none_added true f i h = rw (h refl) refl
none_added false f i h = refl

pub all_added : (c f i : Bool) → (c ≡ true → f ≡ false) → (c || i) ≡ ((c && not f) || i)
all_added true f i h = rw (h refl) refl
all_added false f i h = refl
