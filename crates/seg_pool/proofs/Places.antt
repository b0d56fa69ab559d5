-- How each change of the places keeps the list of vacant ones.
use Rattle.std.proofs.Common.{◌≡◌, ◌≢◌, ℕ, zero, suc, ◌+◌, ◌-◌, ◌^◌, ◌<◌, ◌≤◌, List, [], ◌∷◌, ◌++◌, map, length, get_or, set, Option, Some, None, is_some, IsSome, count_by, cond, slice_get, refl, sym, ap, subst, ◌∙◌, arith, length-set, true≢false}
use Rattle.std.proofs.lemmas.List.{map-set, map_push, length-map, length_push, get_or-map, get_or-set_same, get_or-set_other, get_or_past, get_or_append_left, get_or_push}
use Rattle.std.proofs.lemmas.List.Sums.{sum_by-set, sum_by_push}
use Rattle.std.proofs.lemmas.Option.{slice_get_within, slice_get-get_or, slice_get_read, get_or_from_slice_get}
use Rattle.seg_pool.specs.declared.slot.Slot.{Slot}
use Rattle.seg_pool.specs.declared.slot.Slot.TheVariants.{Vacant, Used}
use Rattle.seg_pool.specs.Slots.{node_of, IsVacantList, IsSound, SameSlots}

module _ {N : Type 0} where
  -- a place starts one list of vacant places at most
  pub IsVacantList-count_unique : (slots : List (Slot N)) (m n place : ℕ) → length slots ≤ 2 ^ 24 → IsVacantList slots m place → IsVacantList slots n place → m ≡ n
  IsVacantList-count_unique slots zero zero place fits p q = refl
  IsVacantList-count_unique slots zero (suc n) place fits p q = absurd (omega (arith, slice_get_within slots place _ q.1))
  IsVacantList-count_unique slots (suc m) zero place fits p q = absurd (omega (arith, slice_get_within slots place _ p.1))
  IsVacantList-count_unique slots (suc m) (suc n) place fits p q =
      let first = p.1 in
      let second = q.1 in
      let same : q.0 ≡ p.0 = cc in
      ap suc (IsVacantList-count_unique slots m n p.0 fits p.2 (subst (IsVacantList slots n) same q.2))

  -- a write at a place that is not on the list keeps the list
  pub IsVacantList-set : (slots : List (Slot N)) (place : ℕ) (e : Slot N) (n from : ℕ) → ((m : ℕ) → m < n → IsVacantList slots (suc m) place → ⊥) → IsVacantList slots n from → IsVacantList (set slots place e) n from
  IsVacantList-set slots place e zero from off p = p
  IsVacantList-set slots place e (suc n) from off p =
      let other : from ≢ place = λ same. off n (omega arith) (subst (IsVacantList slots (suc n)) same p) in
      let within = slice_get_within slots from _ p.1 in
      let kept : slice_get (set slots place e) from ≡ Some (Vacant p.0) =
      slice_get-get_or (set slots place e) from e (omega (arith, length-set slots place e))
      ∙ ap Some (get_or-set_other slots place from e e other ∙ get_or_from_slice_get slots from _ e p.1) in
      (p.0, kept, IsVacantList-set slots place e n p.0 (λ m below. off m (omega arith)) p.2)

  -- one place more keeps the list
  pub IsVacantList-push : (slots : List (Slot N)) (e : Slot N) (n from : ℕ) → IsVacantList slots n from → IsVacantList (slots ++ e ∷ []) n from
  IsVacantList-push slots e zero from p = p
  IsVacantList-push slots e (suc n) from p =
      let within = slice_get_within slots from _ p.1 in
      let kept : slice_get (slots ++ e ∷ []) from ≡ Some (Vacant p.0) =
      slice_get-get_or (slots ++ e ∷ []) from e (omega (arith, length_push slots e))
      ∙ ap Some (get_or_append_left slots (e ∷ []) e from within ∙ get_or_from_slice_get slots from _ e p.1) in
      (p.0, kept, IsVacantList-push slots e n p.0 p.2)

  -- a place in use is on no list of vacant places
  pub used_is_off_list : (slots : List (Slot N)) (place : ℕ) (node : N) → slice_get slots place ≡ Some (Used node) → (m : ℕ) → IsVacantList slots (suc m) place → ⊥
  used_is_off_list slots place node found m p = let listed = p.1 in cc

  -- the count of nodes after a write
  pub count-set : (slots : List (Slot N)) (place : ℕ) (old new : Slot N) → slice_get slots place ≡ Some old → count_by is_some (map node_of (set slots place new)) + cond (is_some (node_of old)) 1 0 ≡ count_by is_some (map node_of slots) + cond (is_some (node_of new)) 1 0
  count-set slots place old new found =
      let within = slice_get_within slots place old found in
      let read : get_or (map node_of slots) place None ≡ node_of old =
      get_or-map node_of slots place old None within ∙ ap node_of (get_or_from_slice_get slots place old old found) in
      let counted = sum_by-set (λ o. cond (is_some o) 1 0) (map node_of slots) place (node_of new) None (omega (arith, length-map slots node_of)) in
      rw (map-set node_of slots place new, ← read) counted

  -- a place that finds a node is in use
  pub used_at : (slots : List (Slot N)) (place : ℕ) → IsSome (get_or (map node_of slots) place None) → (node : N) × (slice_get slots place ≡ Some (Used node))
  used_at slots place present =
      let inside : place < length (map node_of slots) = grind (arith, get_or_past) in
      let within : place < length slots = omega (arith, length-map slots node_of) in
      by_slot (get_or slots place (Vacant 0)) (slice_get-get_or slots place (Vacant 0) within) (subst IsSome (get_or-map node_of slots place (Vacant 0) None within) present)
    where
      by_slot : (e : Slot N) → slice_get slots place ≡ Some e → IsSome (node_of e) → (node : N) × (slice_get slots place ≡ Some (Used node))
      by_slot (Vacant _) found some = absurd (true≢false (sym some))
      by_slot (Used node) found some = (node, found)

  pub used_within : (slots : List (Slot N)) (place : ℕ) → IsSome (get_or (map node_of slots) place None) → place < length slots
  used_within slots place present = slice_get_within slots place _ (used_at slots place present).1

  -- what a read of a place in use gives
  pub read_used : (slots : List (Slot N)) (place : ℕ) (e : Slot N) → IsSome (get_or (map node_of slots) place None) → e ≡ get_or slots place e → slice_get slots place ≡ Some e
  read_used slots place e present read = slice_get_read slots (length slots) place e refl (used_within slots place present) read

  -- where a place is spare, the first of the list is vacant
  pub vacant_at_head : (slots : List (Slot N)) (spare head : ℕ) → 1 ≤ spare → IsSound slots spare head → (next : ℕ) × (slice_get slots head ≡ Some (Vacant next))
  vacant_at_head slots zero head some sound = absurd (omega arith)
  vacant_at_head slots (suc n) head some sound = (sound.linked.0, sound.linked.1)

  pub head_within : (slots : List (Slot N)) (spare head : ℕ) → 1 ≤ spare → IsSound slots spare head → head < length slots
  head_within slots spare head some sound = slice_get_within slots head _ (vacant_at_head slots spare head some sound).1

  pub read_head : (slots : List (Slot N)) (spare head : ℕ) (e : Slot N) → 1 ≤ spare → IsSound slots spare head → e ≡ get_or slots head e → slice_get slots head ≡ Some e
  read_head slots spare head e some sound read = slice_get_read slots (length slots) head e refl (head_within slots spare head some sound) read

  -- what contracts see at a place that a read gave
  pub node_at_slot : (slots : List (Slot N)) (place : ℕ) (e : Slot N) → slice_get slots place ≡ Some e → get_or (map node_of slots) place None ≡ node_of e
  node_at_slot slots place e found =
      get_or-map node_of slots place e None (slice_get_within slots place e found) ∙ ap node_of (get_or_from_slice_get slots place e e found)

  -- the first vacant place leaves the list: the rest is shorter, so it does not come back to that place
  pub IsSound-take : (slots : List (Slot N)) (spare head next : ℕ) (node : N) → 1 ≤ spare → IsSound slots spare head → slice_get slots head ≡ Some (Vacant next) → IsSound (set slots head (Used node)) (spare - 1) next
  IsSound-take slots zero head next node some sound found = absurd (omega arith)
  IsSound-take slots (suc n) head next node some sound found =
      let listed = sound.linked.1 in
      let same : sound.linked.0 ≡ next = cc in
      let off : (m : ℕ) → m < n → IsVacantList slots (suc m) head → ⊥ =
      λ m below p. omega (arith, IsVacantList-count_unique slots (suc m) (suc n) head sound.fits p sound.linked) in
      let less : suc n - 1 ≡ n = omega arith in
      rw less (record {
        total = omega (arith, sound.total, count-set slots head (Vacant next) (Used node) found, length-set slots head (Used node));
        linked = IsVacantList-set slots head (Used node) n next off (subst (IsVacantList slots n) same sound.linked.2);
        fits = omega (arith, sound.fits, length-set slots head (Used node));
      })

  pub IsSound-give : (slots : List (Slot N)) (spare head place : ℕ) (node : N) → IsSound slots spare head → slice_get slots place ≡ Some (Used node) → IsSound (set slots place (Vacant head)) (spare + 1) place
  IsSound-give slots spare head place node sound found =
      let within = slice_get_within slots place _ found in
      let count = count-set slots place (Used node) (Vacant head) found in
      let written : slice_get (set slots place (Vacant head)) place ≡ Some (Vacant head) =
      slice_get-get_or _ place (Vacant head) (omega (arith, length-set slots place (Vacant head)))
      ∙ ap Some (get_or-set_same slots place (Vacant head) (Vacant head) within) in
      let more : spare + 1 ≡ suc spare = omega arith in
      rw more (record {
        total = omega (arith, sound.total, length-set slots place (Vacant head));
        linked = (head, written, IsVacantList-set slots place (Vacant head) spare head (λ m _. used_is_off_list slots place node found m) sound.linked);
        fits = omega (arith, sound.fits, length-set slots place (Vacant head));
      })

  pub IsSound-rewrite : (slots : List (Slot N)) (spare head place : ℕ) (old new : N) → IsSound slots spare head → slice_get slots place ≡ Some (Used old) → IsSound (set slots place (Used new)) spare head
  IsSound-rewrite slots spare head place old new sound found =
      record {
        total = omega (arith, sound.total, count-set slots place (Used old) (Used new) found, length-set slots place (Used new));
        linked = IsVacantList-set slots place (Used new) spare head (λ m _. used_is_off_list slots place old found m) sound.linked;
        fits = omega (arith, sound.fits, length-set slots place (Used new));
      }

  -- a place more, which names the one that was first
  pub IsSound-push : (slots : List (Slot N)) (spare head : ℕ) → length slots + 1 ≤ 2 ^ 24 → IsSound slots spare head → IsSound (slots ++ Vacant head ∷ []) (suc spare) (length slots)
  IsSound-push slots spare head fits sound =
      let longer = length_push slots (Vacant head) in
      let written : slice_get (slots ++ Vacant head ∷ []) (length slots) ≡ Some (Vacant head) =
      slice_get-get_or (slots ++ Vacant head ∷ []) (length slots) (Vacant head) (omega arith)
      ∙ ap Some (get_or_push slots (Vacant head) (Vacant head) (length slots) refl) in
      record {
        total = rw (map_push node_of slots (Vacant head), sum_by_push (λ o. cond (is_some o) 1 0) (map node_of slots) None) (omega (arith, sound.total));
        linked = (head, written, IsVacantList-push slots (Vacant head) spare head sound.linked);
        fits = omega arith;
      }

  pub SameSlots-push : (slots more : List (Slot N)) (head : ℕ) → SameSlots slots more → SameSlots slots (more ++ Vacant head ∷ [])
  SameSlots-push slots more head same =
      record {
        at = λ place. rw (map_push node_of more (Vacant head)) (None-push (map node_of more) place ∙ same.at place);
        count = rw (map_push node_of more (Vacant head), sum_by_push (λ o. cond (is_some o) 1 0) (map node_of more) None) (omega (arith, same.count));
      }
    where
      None-push : (xs : List (Option N)) (place : ℕ) → get_or (xs ++ None ∷ []) place None ≡ get_or xs place None
      None-push [] zero = refl
      None-push [] (suc place) = refl
      None-push (x ∷ xs) zero = refl
      None-push (x ∷ xs) (suc place) = None-push xs place
