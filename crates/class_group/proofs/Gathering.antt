-- The passes of all classes, as they are split, joined and closed.
use Rattle.std.proofs.Common.{◌≡◌, ℕ, List, length, sym, ◌∙◌, arith}
use Rattle.std.proofs.lemmas.Option.{slice_get_within}
use Rattle.turn_passes.specs.Parts.{IsFresh, IsRest, Joined}
use Rattle.turn_passes.specs.Pairs.{Each, EachThird}
use Rattle.turn_passes.proofs.Pairs.{some_at}
use Rattle.turn_passes.proofs.Parts.{ready_fresh, idle_ready, idle_rest, idle_joined}
use Rattle.class_group.specs.Turns.{ClassTurns}
use Rattle.class_group.specs.Passes.{ClassKnown, right_of, KnowAll, Seated, AreIdle, AreFresh, AreRests, StandAlike, HaveAll}

-- passes that know the same fixed parts
pub know_along : (t : ClassTurns) (p q : List ClassKnown) → KnowAll t p → length p ≡ length q → Each (λ k c d. d.fixed ≡ c.fixed) p q → KnowAll t q
know_along t p q know count same = record {
  count = know.count ∙ count;
  each = λ k d f.
      let c = some_at p k (omega (arith, count, slice_get_within q k d f)) in
      let knows = know.each k c.0 c.1 in
      record { origin = knows.origin; is = same.at k c.0 d c.1 f ∙ knows.is; stands = knows.stands };
}

pub fresh_seated : (right : ℕ) (t : ClassTurns) (p : List ClassKnown) → AreFresh right t p → Seated right t p
fresh_seated right t p f = record { each = record { at = λ k turn c e g. ready_fresh right_of right turn c (f.each.at k turn c e g) }; know = f.know }

pub seated_idle : (right : ℕ) (t : ClassTurns) (p : List ClassKnown) → Seated right t p → AreIdle t p
seated_idle right t p s = record { each = record { at = λ k turn c e g. idle_ready right_of right turn c (s.each.at k turn c e g) }; know = s.know }

pub rests_idle : (right : ℕ) (t : ClassTurns) (p : List ClassKnown) → AreRests right t p → AreIdle t p
rests_idle right t p r = record { each = record { at = λ k turn c e g. idle_rest right turn c (r.each.at k turn c e g) }; know = r.know }

module _ (right : ℕ) (t : ClassTurns) (p q : List ClassKnown) (know : KnowAll t p) (same : Each (λ k c d. d.fixed ≡ c.fixed) p q) where
  pub rests_next : length q ≡ length p → Each (λ k turn c. IsRest right turn c) t.cells q → AreRests right t q
  rests_next count each = record { each = each; know = know_along t p q know (sym count) same }

  pub fresh_next : length q ≡ length t.cells → Each (λ k turn c. IsFresh right turn c) t.cells q → AreFresh right t q
  fresh_next count each = record { each = each; know = know_along t p q know (sym know.count ∙ sym count) same }

-- what stands where passes were joined, place by place
module _ (t : ClassTurns) (p q r : List ClassKnown) (first : AreIdle t p) (second : AreIdle t q) (size : length r ≡ length p) (each : EachThird (λ k c d e. Joined c d e) p q r) where
  other : length q ≡ length p
  other = sym second.know.count ∙ first.know.count

  pub joined_alike : StandAlike r p
  joined_alike = record {
    count = size;
    each = record {
      at = λ k c e x y.
          let lt = slice_get_within p k c x in
          let d = some_at q k (omega (arith, other)) in
          (each.at k c d.0 e x d.1 y).fixed;
    };
  }

  pub joined_idle : AreIdle t r
  joined_idle = record {
    each = record {
      at = λ k turn e x y.
          let lt = slice_get_within r k e y in
          let c = some_at p k (omega (arith, size)) in
          let d = some_at q k (omega (arith, size, other)) in
          idle_joined turn c.0 d.0 e (first.each.at k turn c.0 x c.1) (each.at k c.0 d.0 e c.1 d.1 y);
    };
    know = know_along t p r first.know (sym size) joined_alike.each;
  }

  pub joined_first : HaveAll r p
  joined_first = record {
    at = λ k c e x y.
        let lt = slice_get_within p k c x in
        let d = some_at q k (omega (arith, other)) in
        (each.at k c d.0 e x d.1 y).first;
  }

  pub joined_second : HaveAll r q
  joined_second = record {
    at = λ k d e x y.
        let lt = slice_get_within q k d x in
        let c = some_at p k (omega (arith, other)) in
        (each.at k c.0 d e c.1 x y).second;
  }
