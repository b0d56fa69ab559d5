-- The passes of all cells, as they are split, joined and closed.
use Rattle.std.proofs.Common.{◌≡◌, ℕ, List, length, sym, ap, ◌∙◌, subst, arith}
use Rattle.std.proofs.lemmas.Option.{slice_get_within}
use Rattle.turn_cell.specs.Known.{TableId}
use Rattle.turn_passes.specs.Parts.{IsFresh, IsRest, Joined}
use Rattle.turn_passes.specs.Pairs.{Each, EachThird}
use Rattle.turn_passes.proofs.Parts.{ready_fresh, idle_ready, idle_rest, idle_joined}
use Rattle.ms_model.specs.Parts.{right_of, gate_right}
use Rattle.ms_cell.specs.Turns.{Turns}
use Rattle.ms_cell.specs.Passes.{Passes, KnowAll, Seated, AreIdle, AreFresh, AreRests, StandAlike, HaveAll}
use Rattle.ms_cell.proofs.Lifting.{some_at}

-- passes that know the same fixed parts
pub know_along : (t : Turns) (p q : Passes) → KnowAll t p → q.gate.fixed ≡ p.gate.fixed → length p.metaslabs ≡ length q.metaslabs → Each (λ k c d. d.fixed ≡ c.fixed) p.metaslabs q.metaslabs → KnowAll t q
know_along t p q know gate count same = record {
  count = know.count ∙ count;
  opened = gate ∙ know.opened;
  each = λ k d f.
      let c = some_at p.metaslabs k (omega (arith, count, slice_get_within q.metaslabs k d f)) in
      let knows = know.each k c.0 c.1 in
      record { standing = knows.standing; is = same.at k c.0 d c.1 f ∙ knows.is; stands = knows.stands };
}

pub fresh_seated : (right : ℕ) (t : Turns) (p : Passes) → AreFresh right t p → Seated right t p
fresh_seated right t p f = record {
  gate = ready_fresh gate_right right t.gate p.gate f.gate;
  each = record { at = λ k turn c e g. ready_fresh right_of right turn c (f.each.at k turn c e g) };
  know = f.know;
}

pub seated_idle : (right : ℕ) (t : Turns) (p : Passes) → Seated right t p → AreIdle t p
seated_idle right t p s = record {
  gate = idle_ready gate_right right t.gate p.gate s.gate;
  each = record { at = λ k turn c e g. idle_ready right_of right turn c (s.each.at k turn c e g) };
  know = s.know;
}

pub rests_idle : (right : ℕ) (t : Turns) (p : Passes) → AreRests right t p → AreIdle t p
rests_idle right t p r = record {
  gate = idle_rest right t.gate p.gate r.gate;
  each = record { at = λ k turn c e g. idle_rest right turn c (r.each.at k turn c e g) };
  know = r.know;
}

pub rests_next : (right : ℕ) (t : Turns) (p q : Passes) → KnowAll t p → IsRest right t.gate q.gate → q.gate.fixed ≡ p.gate.fixed → length q.metaslabs ≡ length p.metaslabs
    → Each (λ k turn c. IsRest right turn c) t.metaslabs q.metaslabs → Each (λ k c d. d.fixed ≡ c.fixed) p.metaslabs q.metaslabs → AreRests right t q
rests_next right t p q know gate opened count each same = record { gate = gate; each = each; know = know_along t p q know opened (sym count) same }

pub fresh_next : (right : ℕ) (t : Turns) (p q : Passes) → KnowAll t p → IsFresh right t.gate q.gate → q.gate.fixed ≡ p.gate.fixed → length q.metaslabs ≡ length t.metaslabs
    → Each (λ k turn c. IsFresh right turn c) t.metaslabs q.metaslabs → Each (λ k c d. d.fixed ≡ c.fixed) p.metaslabs q.metaslabs → AreFresh right t q
fresh_next right t p q know gate opened count each same = record { gate = gate; each = each; know = know_along t p q know opened (sym know.count ∙ sym count) same }

-- what stands where passes were joined, place by place
pub record JoinedAll (p q r : Passes) : Type 0 where
  pub gate : Joined p.gate q.gate r.gate
  pub size : length r.metaslabs ≡ length p.metaslabs
  pub other : length q.metaslabs ≡ length p.metaslabs
  pub each : EachThird (λ k c d e. Joined c d e) p.metaslabs q.metaslabs r.metaslabs

pub joined_alike : (p q r : Passes) → JoinedAll p q r → StandAlike r p
joined_alike p q r j = record {
  gate = j.gate.fixed;
  count = j.size;
  each = record {
    at = λ k c e x y.
        let lt = slice_get_within p.metaslabs k c x in
        let d = some_at q.metaslabs k (omega (arith, j.other)) in
        (j.each.at k c d.0 e x d.1 y).fixed;
  };
}

pub joined_idle : (t : Turns) (p q r : Passes) → AreIdle t p → JoinedAll p q r → AreIdle t r
joined_idle t p q r i j = record {
  gate = idle_joined t.gate p.gate q.gate r.gate i.gate j.gate;
  each = record {
    at = λ k turn e x y.
        let lt = slice_get_within r.metaslabs k e y in
        let c = some_at p.metaslabs k (omega (arith, j.size)) in
        let d = some_at q.metaslabs k (omega (arith, j.size, j.other)) in
        idle_joined turn c.0 d.0 e (i.each.at k turn c.0 x c.1) (j.each.at k c.0 d.0 e c.1 d.1 y);
  };
  know = know_along t p r i.know j.gate.fixed (sym j.size) (joined_alike p q r j).each;
}

pub joined_first : (p q r : Passes) → JoinedAll p q r → HaveAll r p
joined_first p q r j = record {
  gate = j.gate.first;
  each = record {
    at = λ k c e x y.
        let lt = slice_get_within p.metaslabs k c x in
        let d = some_at q.metaslabs k (omega (arith, j.other)) in
        (j.each.at k c d.0 e x d.1 y).first;
  };
}

pub joined_second : (p q r : Passes) → JoinedAll p q r → HaveAll r q
joined_second p q r j = record {
  gate = j.gate.second;
  each = record {
    at = λ k d e x y.
        let lt = slice_get_within q.metaslabs k d x in
        let c = some_at p.metaslabs k (omega (arith, j.other)) in
        (j.each.at k c.0 d e c.1 x y).second;
  };
}

pub joined_all : (t : Turns) (p now q given r : Passes) → p ≡ now → q ≡ given → AreIdle t now → AreIdle t given → Joined p.gate q.gate r.gate → length r.metaslabs ≡ length p.metaslabs
    → EachThird (λ k c d e. Joined c d e) p.metaslabs q.metaslabs r.metaslabs → JoinedAll now given r
joined_all t p now q given r opens takes first second gate size each =
    subst (λ (x : Passes). JoinedAll x given r) opens
    (subst (λ (y : Passes). JoinedAll p y r) takes
    (record {
      gate = gate;
      size = size;
      other = ap (λ (y : Passes). length y.metaslabs) takes ∙ (sym second.know.count ∙ (first.know.count ∙ ap (λ (x : Passes). length x.metaslabs) (sym opens)));
      each = each;
    }))

-- the same, where the cells and the passes are open
know_in : (t board : Turns) (p now : Passes) → t ≡ board → p ≡ now → KnowAll board now → KnowAll t p
know_in t board p now is opens know = subst (λ (b : Turns). KnowAll b p) (sym is) (subst (KnowAll board) (sym opens) know)

pub alike_in : (t : Turns) (p now q : Passes) → p ≡ now → KnowAll t now → KnowAll t q → q.gate.fixed ≡ p.gate.fixed → Each (λ k c d. d.fixed ≡ c.fixed) p.metaslabs q.metaslabs → StandAlike q now
alike_in t p now q opens know also gate same = record {
  gate = gate ∙ ap (λ (x : Passes). x.gate.fixed) opens;
  count = sym also.count ∙ know.count;
  each = subst (λ (x : Passes). Each (λ k c d. d.fixed ≡ c.fixed) x.metaslabs q.metaslabs) opens same;
}

pub rests_in : (right : ℕ) (t board : Turns) (p now q : Passes) (turns : List TableId) → t ≡ board → p ≡ now → turns ≡ t.metaslabs → KnowAll board now → IsRest right t.gate q.gate → q.gate.fixed ≡ p.gate.fixed
    → length q.metaslabs ≡ length p.metaslabs → Each (λ k turn c. IsRest right turn c) turns q.metaslabs → Each (λ k c d. d.fixed ≡ c.fixed) p.metaslabs q.metaslabs → AreRests right board q
rests_in right t board p now q turns is opens same know gate opened count each fixed =
    subst (λ (b : Turns). AreRests right b q) is
    (rests_next right t p q (know_in t board p now is opens know) gate opened count (subst (λ (l : List TableId). Each (λ k turn c. IsRest right turn c) l q.metaslabs) same each) fixed)

pub fresh_in : (right : ℕ) (t board : Turns) (p now q : Passes) (turns : List TableId) → t ≡ board → p ≡ now → turns ≡ t.metaslabs → KnowAll board now → IsFresh right t.gate q.gate → q.gate.fixed ≡ p.gate.fixed
    → length q.metaslabs ≡ length turns → Each (λ k turn c. IsFresh right turn c) turns q.metaslabs → Each (λ k c d. d.fixed ≡ c.fixed) p.metaslabs q.metaslabs → AreFresh right board q
fresh_in right t board p now q turns is opens same know gate opened count each fixed =
    subst (λ (b : Turns). AreFresh right b q) is
    (fresh_next right t p q (know_in t board p now is opens know) gate opened (count ∙ ap length same) (subst (λ (l : List TableId). Each (λ k turn c. IsFresh right turn c) l q.metaslabs) same each) fixed)
