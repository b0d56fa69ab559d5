use Rattle.std.proofs.Common.{◌≡◌, ◌≢◌, ℕ, ◌<◌, ⊎_elim, List, [], ◌∷◌, ◌++◌, length, sym, subst, arith, Some}
use Rattle.std.specs.Prelude.{slice_get}
use Rattle.std.proofs.Math.ListN.{length-set}
use Rattle.turn_passes.specs.Parts.{Joined}
use Rattle.turn_passes.proofs.Pairs.{get_set, get_push_front, get_push_last, one_item, read_at}
use Rattle.turn_passes.proofs.lists.join_passes.Goals as goal

-- the last of a list, and those before it
last_at : {A : Type 0} (xs ys : List A) (x : A) (n : ℕ) → xs ≡ ys ++ x ∷ [] → length ys ≡ n → slice_get xs n ≡ Some x
last_at xs ys x n is count = subst (λ (l : List _). slice_get l n ≡ Some x) (sym is) (subst (λ (k : ℕ). slice_get (ys ++ x ∷ []) k ≡ Some x) count (get_push_last ys x))

front_of : {A : Type 0} (xs ys : List A) (x : A) → xs ≡ ys ++ x ∷ [] → (k : ℕ) (y : A) → slice_get ys k ≡ Some y → slice_get xs k ≡ Some y
front_of xs ys x is k y e = subst (λ (l : List _). slice_get l k ≡ Some y) (sym is) (get_push_front ys (x ∷ []) k y e)

pub join_pass-requires-clause-first : goal.join_pass-requires-clause-first
join_pass-requires-clause-first g c κs within =
    let at = c.len-at.result in
    let so_far = c.loop-pass.invariant in
    let below : at < length c.loop-pass.first.items = omega (arith, so_far.size, so_far.most, c.len-at.ensures, c.in-Some.ensures.len) in
    let turn = read_at c.args.turns.now at c.index-turns-at.result (omega (arith, so_far.size)) c.index-turns-at.is in
    let first = read_at c.loop-pass.first.items at c.index_mut.result.now below c.index_mut.ensures.value in
    c.requires.first.at at _ _ turn (so_far.rest at c.index_mut.result.now (omega (arith, c.len-at.ensures, c.in-Some.ensures.len)) first)

pub join_pass-requires-clause-second : goal.join_pass-requires-clause-second
join_pass-requires-clause-second g c κs within =
    let at = c.len-at.result in
    let so_far = c.loop-pass.invariant in
    let turn = read_at c.args.turns.now at c.index-turns-at.result (omega (arith, so_far.size, so_far.most, c.len-at.ensures, c.in-Some.ensures.len)) c.index-turns-at.is in
    c.requires.second.at at _ _ turn (so_far.front at c.in-Some.pass (last_at c.loop-pass.second.items c.pop.new.self.items c.in-Some.pass at c.in-Some.ensures.items (omega (arith, c.pop.new.self.ok.0, c.len-at.ensures))))

pub loop-pass-preserved : goal.loop-pass-preserved
loop-pass-preserved g c =
    let at = c.len-at.result in
    let so_far = c.loop-pass.invariant in
    let fewer = c.in-Some.ensures.len in
    let first = read_at c.loop-pass.first.items at c.index_mut.result.now (omega (arith, so_far.size, so_far.most, c.len-at.ensures, fewer)) c.index_mut.ensures.value in
    let second = so_far.front at c.in-Some.pass (last_at c.loop-pass.second.items c.pop.new.self.items c.in-Some.pass at c.in-Some.ensures.items (omega (arith, c.pop.new.self.ok.0, c.len-at.ensures))) in
    let was = so_far.rest at c.index_mut.result.now (omega (arith, c.len-at.ensures, fewer)) first in
    record {
      size = rw length-set so_far.size;
      most = omega (arith, so_far.most, fewer);
      front = λ k q e. so_far.front k q (front_of c.loop-pass.second.items c.pop.new.self.items c.in-Some.pass c.in-Some.ensures.items k q e);
      rest = λ k p lt e.
          ⊎_elim
          (λ (t : (k ≡ at) × (c.join_pass.new.first ≡ p)). absurd (omega (arith, c.len-at.ensures)))
          (λ (t : (k ≢ at) × (slice_get c.loop-pass.first.items k ≡ Some p)). so_far.rest k p (omega (arith, fewer)) t.1)
          (get_set c.loop-pass.first.items at k c.join_pass.new.first p e);
      done = λ k p q r le e f h.
          ⊎_elim
          (λ (t : (k ≡ at) × (c.join_pass.new.first ≡ r)).
          let same_p = one_item c.args.first.now.items at _ p was (subst (λ (n : ℕ). slice_get c.args.first.now.items n ≡ Some p) t.0 e) in
          let same_q = one_item c.args.second.items at _ q second (subst (λ (n : ℕ). slice_get c.args.second.items n ≡ Some q) t.0 f) in
          subst (λ x. Joined p q x) t.1 (subst (λ x. Joined p x c.join_pass.new.first) same_q (subst (λ x. Joined x c.in-Some.pass c.join_pass.new.first) same_p c.join_pass.ensures)))
          (λ (t : (k ≢ at) × (slice_get c.loop-pass.first.items k ≡ Some r)). so_far.done k p q r (omega (arith, fewer, c.len-at.ensures, t.0)) e f t.1)
          (get_set c.loop-pass.first.items at k c.join_pass.new.first r h);
    }
