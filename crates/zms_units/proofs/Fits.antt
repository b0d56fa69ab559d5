-- The fit: its units are in the set, and there is one.
use Rattle.std.proofs.Common.{◌≡◌, ℕ, ◌≤◌, ◌<◌, Bool, true, false, refl, sym, ap, ◌∙◌, arith, ◌⊎◌, inl, inr}
use Rattle.zms_units.specs.declared.segments.Seg.{Seg}
use Rattle.zms_units.specs.Segments.{end_of, Covers}
use Rattle.zms_units.specs.Runs.{IsLongFrom, IsFirstFrom, IsBest, IsAmple, IsNext, IsFit, NoneInRow}
use Rattle.zms_units.proofs.Bools.{le_or}

-- what cannot fail holds, of numbers and tests
stable_le : (a b : ℕ) → ((a ≤ b → ⊥) → ⊥) → a ≤ b
stable_le a b unfailing = by_order (le_or a b) where
  by_order : (a ≤ b) ⊎ (b < a) → a ≤ b
  by_order (inl h) = h
  by_order (inr h) = absurd (unfailing (λ le. omega arith))

stable_is : (b c : Bool) → ((b ≡ c → ⊥) → ⊥) → b ≡ c
stable_is true true unfailing = refl
stable_is false false unfailing = refl
stable_is true false unfailing = absurd (unfailing (λ e. cc))
stable_is false true unfailing = absurd (unfailing (λ e. cc))

-- what holds in both cases cannot fail
either : (A P : Type 0) → (A → P) → ((A → ⊥) → P) → (P → ⊥) → ⊥
either A P holds lacks failing = failing (lacks (λ a. failing (holds a)))

next_long : (set : ℕ → Bool) (units cursor count : ℕ) (run : Seg) → IsNext set units cursor count run → IsLongFrom set units count 0 run
next_long set units cursor count run (inl f) = record { maximal = f.is_long.maximal; long = f.is_long.long; from = omega arith }
next_long set units cursor count run (inr w) = w.1.is_long

module _ (set : ℕ → Bool) (units ashift cursor count : ℕ) (seg : Seg) (f : IsFit set units ashift cursor count seg) where
  surely : (P : Type 0) → (IsLongFrom set units count 0 f.run → P) → (P → ⊥) → ⊥
  surely P holds = either (IsAmple set units ashift) P (λ a. holds (next_long set units cursor count f.run (f.ample a))) (λ no_ample. holds (f.scarce no_ample).is_long)

  -- the run that the fit begins is maximal and long enough
  pub fit_long : IsLongFrom set units count 0 f.run
  fit_long =
      record {
        maximal = record {
          some = stable_le _ _ (surely _ (λ l. l.maximal.some));
          within = stable_le _ _ (surely _ (λ l. l.maximal.within));
          inside = λ u c. stable_is _ _ (surely _ (λ l. l.maximal.inside u c));
          before = λ u e. stable_is _ _ (surely _ (λ l. l.maximal.before u e));
          after = λ h. stable_is _ _ (surely _ (λ l. l.maximal.after h));
        };
        long = stable_le _ _ (surely _ (λ l. l.long));
        from = omega arith;
      }

  pub fit_within : end_of seg ≤ units
  fit_within =
      let within = fit_long.maximal.within in
      let long = fit_long.long in
      let starts = f.starts in
      let counts = f.counts in
      omega arith

  pub fit_inside : (u : ℕ) → Covers seg u → set u ≡ true
  fit_inside u c =
      let long = fit_long.long in
      let starts = f.starts in
      let counts = f.counts in
      fit_long.maximal.inside u (omega arith, omega arith)

  -- so many units of the set stand in a row
  pub fit_in_row : NoneInRow set units count → ⊥
  fit_in_row none =
      let within = fit_within in
      let counts = f.counts in
      none seg.start (omega arith) (λ u h l. fit_inside u (h, omega arith))

module _ (set : ℕ → Bool) (units : ℕ) where
  one_first : (count at : ℕ) (a b : Seg) → IsFirstFrom set units count at a → IsFirstFrom set units count at b → a.start ≡ b.start
  one_first count at a b f g =
      let low = f.lowest b g.is_long in
      let high = g.lowest a f.is_long in
      omega arith

  one_next : (cursor count : ℕ) (a b : Seg) → IsNext set units cursor count a → IsNext set units cursor count b → a.start ≡ b.start
  one_next cursor count a b (inl f) (inl g) = one_first count cursor a b f g
  one_next cursor count a b (inl f) (inr w) = absurd (w.0 a f.is_long)
  one_next cursor count a b (inr w) (inl g) = absurd (w.0 b g.is_long)
  one_next cursor count a b (inr v) (inr w) = one_first count 0 a b v.1 w.1

  one_best : (count : ℕ) (a b : Seg) → IsBest set units count a → IsBest set units count b → a.start ≡ b.start
  one_best count a b f g =
      let as_long : a.count ≡ b.count = let le = f.shortest b g.is_long in let ge = g.shortest a f.is_long in omega arith in
      let low = f.lowest b g.is_long (sym as_long) in
      let high = g.lowest a f.is_long as_long in
      omega arith

  stable_same : (a b : ℕ) → ((a ≡ b → ⊥) → ⊥) → a ≡ b
  stable_same a b unfailing =
      let le : a ≤ b = stable_le a b (λ failing. unfailing (λ e. failing (omega arith))) in
      let ge : b ≤ a = stable_le b a (λ failing. unfailing (λ e. failing (omega arith))) in
      omega arith

  -- two fits of one question are the same segment
  pub one_fit : (ashift cursor count : ℕ) (a b : Seg) → IsFit set units ashift cursor count a → IsFit set units ashift cursor count b → a ≡ b
  one_fit ashift cursor count a b f g = same_seg (f.starts ∙ same_start ∙ sym g.starts) (f.counts ∙ sym g.counts) where
    same_start : f.run.start ≡ g.run.start
    same_start =
        stable_same _ _ (either (IsAmple set units ashift) _ (λ ample. one_next cursor count f.run g.run (f.ample ample) (g.ample ample)) (λ scarce. one_best count f.run g.run (f.scarce scarce) (g.scarce scarce)))

    same_seg : a.start ≡ b.start → a.count ≡ b.count → a ≡ b
    same_seg e h =
        let with_start : ℕ → Seg = λ n. record { start = n; count = a.count } in
        let with_count : ℕ → Seg = λ n. record { start = b.start; count = n } in
        ap with_start e ∙ ap with_count h
