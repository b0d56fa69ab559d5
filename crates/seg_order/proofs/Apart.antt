-- Lists of places, and which parts share none.
use Rattle.std.proofs.Common.{◌≡◌, ℕ, zero, suc, ◌<◌, List, [], ◌∷◌, ◌++◌, length, get_or, sym, subst, append_assoc, arith, Contains}
use Rattle.seg_order.specs.declared.links.Side.{Side}
use Rattle.seg_order.specs.declared.links.Side.TheVariants.{Left, Right}
use Rattle.seg_order.specs.Lists.{Each, IsApart, AreApart, IsDistinct, Parts}
use Rattle.seg_order.specs.Sides.{between}

module _ (P : ℕ → Type 0) where
  pub Each-append : (xs ys : List ℕ) → Each P xs → Each P ys → Each P (xs ++ ys)
  Each-append [] ys h k = k
  Each-append (x ∷ xs) ys h k = (h.0, Each-append xs ys h.1 k)

  pub Each-front : (xs ys : List ℕ) → Each P (xs ++ ys) → Each P xs
  Each-front [] ys h = tt
  Each-front (x ∷ xs) ys h = (h.0, Each-front xs ys h.1)

  pub Each-back : (xs ys : List ℕ) → Each P (xs ++ ys) → Each P ys
  Each-back [] ys h = h
  Each-back (x ∷ xs) ys h = Each-back xs ys h.1

  pub Each-at : (xs : List ℕ) (k x : ℕ) → Each P xs → k < length xs → get_or xs k x ≡ x → P x
  Each-at [] k x h within found = absurd (omega arith)
  Each-at (y ∷ ys) zero x h within found = subst P found h.0
  Each-at (y ∷ ys) (suc k) x h within found = Each-at ys k x h.1 (omega arith) found

  pub Each-in : (xs : List ℕ) (x : ℕ) → Each P xs → Contains xs x → P x
  Each-in xs x h found = Each-at xs found.0 x h found.1 found.2

  -- what holds of the three parts of a list
  pub record EachOf (xs : List ℕ) (k : ℕ) (ys : List ℕ) : Type 0 where
    pub near : Each P xs
    pub at : P k
    pub far : Each P ys

  pub from_between : (side : Side) (xs : List ℕ) (k : ℕ) (ys : List ℕ) → Each P (between side xs k ys) → EachOf xs k ys
  from_between Left xs k ys h =
      let rest = Each-back xs (k ∷ ys) h in
      record { near = Each-front xs (k ∷ ys) h; at = rest.0; far = rest.1 }
  from_between Right xs k ys h =
      let rest = Each-back ys (k ∷ xs) h in
      record { near = rest.1; at = rest.0; far = Each-front ys (k ∷ xs) h }

  pub to_between : (side : Side) (xs : List ℕ) (k : ℕ) (ys : List ℕ) → Each P xs → P k → Each P ys → Each P (between side xs k ys)
  to_between Left xs k ys h p q = Each-append xs (k ∷ ys) h (p, q)
  to_between Right xs k ys h p q = Each-append ys (k ∷ xs) q (p, h)

pub Each-weaker : (P Q : ℕ → Type 0) → ((x : ℕ) → P x → Q x) → (xs : List ℕ) → Each P xs → Each Q xs
Each-weaker P Q f [] h = tt
Each-weaker P Q f (x ∷ xs) h = (f x h.0, Each-weaker P Q f xs h.1)

pub Each-both : (P Q R : ℕ → Type 0) → ((x : ℕ) → P x → Q x → R x) → (xs : List ℕ) → Each P xs → Each Q xs → Each R xs
Each-both P Q R f [] h k = tt
Each-both P Q R f (x ∷ xs) h k = (f x h.0 k.0, Each-both P Q R f xs h.1 k.1)

pub AreApart-sym : (xs ys : List ℕ) → AreApart xs ys → AreApart ys xs
AreApart-sym xs [] h = tt
AreApart-sym xs (y ∷ ys) h = (
  Each-weaker (λ k. IsApart k (y ∷ ys)) (λ j. j ≡ y → ⊥) (λ k p e. p.0 (sym e)) xs h,
  AreApart-sym xs ys (Each-weaker (λ k. IsApart k (y ∷ ys)) (λ k. IsApart k ys) (λ k p. p.1) xs h),
)

pub AreApart-between : (xs : List ℕ) (side : Side) (near : List ℕ) (at : ℕ) (far : List ℕ) → AreApart xs near → IsApart at xs → AreApart xs far → AreApart xs (between side near at far)
AreApart-between xs side near at far a b c =
    let two = Each-both (λ k. IsApart k near) (λ k. k ≡ at → ⊥) (λ k. IsApart k near × (k ≡ at → ⊥)) (λ k p q. (p, q)) xs a b in
    Each-both (λ k. IsApart k near × (k ≡ at → ⊥)) (λ k. IsApart k far) (λ k. IsApart k (between side near at far))
    (λ k p q. to_between (λ j. j ≡ k → ⊥) side near at far p.0 (λ e. p.1 (sym e)) q) xs two c

pub distinct_split : (xs ys : List ℕ) → IsDistinct (xs ++ ys) → IsDistinct xs × IsDistinct ys × AreApart xs ys
distinct_split [] ys d = (tt, d, tt)
distinct_split (x ∷ xs) ys d =
    let rest = distinct_split xs ys d.1 in
    ((Each-front (λ j. j ≡ x → ⊥) xs ys d.0, rest.0), rest.1, (Each-back (λ j. j ≡ x → ⊥) xs ys d.0, rest.2))

pub distinct_join : (xs ys : List ℕ) → IsDistinct xs → IsDistinct ys → AreApart xs ys → IsDistinct (xs ++ ys)
distinct_join [] ys d e a = e
distinct_join (x ∷ xs) ys d e a =
    (Each-append (λ j. j ≡ x → ⊥) xs ys d.0 a.0, distinct_join xs ys d.1 e a.1)

pub flip : {xs : List ℕ} {k : ℕ} {ys : List ℕ} → Parts xs k ys → Parts ys k xs
flip p = record {
  near_distinct = p.far_distinct;
  far_distinct = p.near_distinct;
  at_near = p.at_far;
  at_far = p.at_near;
  across = p.back;
  back = p.across;
}

parts_left : (xs : List ℕ) (k : ℕ) (ys : List ℕ) → IsDistinct (xs ++ k ∷ ys) → Parts xs k ys
parts_left xs k ys d =
    let s = distinct_split xs (k ∷ ys) d in
    let across : AreApart xs ys = Each-weaker (λ j. IsApart j (k ∷ ys)) (λ j. IsApart j ys) (λ j p. p.1) xs s.2 in
    record {
      near_distinct = s.0;
      far_distinct = s.1.1;
      at_near = Each-weaker (λ j. IsApart j (k ∷ ys)) (λ j. j ≡ k → ⊥) (λ j p e. p.0 (sym e)) xs s.2;
      at_far = s.1.0;
      across = across;
      back = AreApart-sym xs ys across;
    }

pub parts_from : (side : Side) (xs : List ℕ) (k : ℕ) (ys : List ℕ) → IsDistinct (between side xs k ys) → Parts xs k ys
parts_from Left xs k ys d = parts_left xs k ys d
parts_from Right xs k ys d = flip (parts_left ys k xs d)

joined_left : (xs : List ℕ) (k : ℕ) (ys : List ℕ) → Parts xs k ys → IsDistinct (xs ++ k ∷ ys)
joined_left xs k ys p =
    distinct_join xs (k ∷ ys) p.near_distinct (p.at_far, p.far_distinct)
    (Each-both (λ j. j ≡ k → ⊥) (λ j. IsApart j ys) (λ j. IsApart j (k ∷ ys)) (λ j a b. (λ e. a (sym e), b)) xs p.at_near p.across)

pub parts_to : (side : Side) (xs : List ℕ) (k : ℕ) (ys : List ℕ) → Parts xs k ys → IsDistinct (between side xs k ys)
parts_to Left xs k ys p = joined_left xs k ys p
parts_to Right xs k ys p = joined_left ys k xs (flip p)

-- a turn of three parts leaves them apart
pub regroup : (side : Side) (outer : List ℕ) (top : ℕ) (inner : List ℕ) (at : ℕ) (far : List ℕ) → Parts (between side outer top inner) at far → Parts inner at far × Parts outer top (between side inner at far)
regroup side outer top inner at far p =
    let three = parts_from side outer top inner p.near_distinct in
    let apart_at = from_between (λ j. j ≡ at → ⊥) side outer top inner p.at_near in
    let apart_far = from_between (λ j. IsApart j far) side outer top inner p.across in
    let first : Parts inner at far =
    record {
      near_distinct = three.far_distinct;
      far_distinct = p.far_distinct;
      at_near = apart_at.far;
      at_far = p.at_far;
      across = apart_far.far;
      back = AreApart-sym inner far apart_far.far;
    } in
    let across : AreApart outer (between side inner at far) =
    AreApart-between outer side inner at far three.across apart_at.near apart_far.near in (
      first,
      record {
        near_distinct = three.near_distinct;
        far_distinct = parts_to side inner at far first;
        at_near = three.at_near;
        at_far = to_between (λ j. j ≡ top → ⊥) side inner at far three.at_far (λ e. apart_at.at (sym e)) apart_far.at;
        across = across;
        back = AreApart-sym outer (between side inner at far) across;
      },
    )

pub regroup_back : (side : Side) (outer : List ℕ) (top : ℕ) (low : List ℕ) (mid : ℕ) (high : List ℕ) → Parts outer top (between side low mid high) → Parts outer top low × Parts (between side outer top low) mid high
regroup_back Left outer top low mid high p =
    let r = regroup Right high mid low top outer (flip p) in (flip r.0, flip r.1)
regroup_back Right outer top low mid high p =
    let r = regroup Left high mid low top outer (flip p) in (flip r.0, flip r.1)

pub between_turn : (side : Side) (outer : List ℕ) (top : ℕ) (inner : List ℕ) (at : ℕ) (far : List ℕ) → between side (between side outer top inner) at far ≡ between side outer top (between side inner at far)
between_turn Left outer top inner at far = append_assoc outer (top ∷ inner) (at ∷ far)
between_turn Right outer top inner at far = sym (append_assoc far (at ∷ inner) (top ∷ outer))

-- a place is apart from the parts of a list from which it is apart
pub apart_from : (side : Side) (k : ℕ) (xs : List ℕ) (at : ℕ) (ys : List ℕ) → IsApart k (between side xs at ys) → EachOf (λ j. j ≡ k → ⊥) xs at ys
apart_from side k xs at ys h = from_between (λ j. j ≡ k → ⊥) side xs at ys h
