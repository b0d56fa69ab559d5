-- What is asked of the runs of a set looks at no unit from its range on: two sets that agree below it have the same runs.
use Rattle.std.proofs.Common.{◌≡◌, ℕ, ◌<◌, Bool, sym, ◌∙◌, arith, inl, inr}
use Rattle.zms_units.specs.declared.segments.Seg.{Seg}
use Rattle.zms_units.specs.Segments.{end_of}
use Rattle.zms_units.specs.Runs.{IsMaximalRun, IsLongFrom, IsFirstFrom, NoneFrom, IsBest, IsAmple, IsNext, IsFit, NoneInRow}
use Rattle.zms_units.proofs.Counting.{units_same_below}

-- two sets agree on the units 0 to units-1
abbrev pub SameBelow : ℕ → (ℕ → Bool) → (ℕ → Bool) → Type 0
SameBelow units p q = (u : ℕ) → u < units → p u ≡ q u

pub same_back : (units : ℕ) (p q : ℕ → Bool) → SameBelow units p q → SameBelow units q p
same_back units p q same u l = sym (same u l)

pub maximal_along : (units : ℕ) (p q : ℕ → Bool) → SameBelow units p q → (run : Seg) → IsMaximalRun p units run → IsMaximalRun q units run
maximal_along units p q same run m =
    let some = m.some in
    let within = m.within in
    record {
      some = m.some;
      within = m.within;
      inside = λ u c. sym (same u (omega arith)) ∙ m.inside u c;
      before = λ u e. sym (same u (omega arith)) ∙ m.before u e;
      after = λ h. sym (same (end_of run) h) ∙ m.after h;
    }

pub long_along : (units : ℕ) (p q : ℕ → Bool) → SameBelow units p q → (count at : ℕ) (run : Seg) → IsLongFrom p units count at run → IsLongFrom q units count at run
long_along units p q same count at run l = record { maximal = maximal_along units p q same run l.maximal; long = l.long; from = l.from }

pub first_along : (units : ℕ) (p q : ℕ → Bool) → SameBelow units p q → (count at : ℕ) (run : Seg) → IsFirstFrom p units count at run → IsFirstFrom q units count at run
first_along units p q same count at run f =
    record { is_long = long_along units p q same count at run f.is_long; lowest = λ other l. f.lowest other (long_along units q p (same_back units p q same) count at other l) }

pub none_along : (units : ℕ) (p q : ℕ → Bool) → SameBelow units p q → (count at : ℕ) → NoneFrom p units count at → NoneFrom q units count at
none_along units p q same count at none run l = none run (long_along units q p (same_back units p q same) count at run l)

pub best_along : (units : ℕ) (p q : ℕ → Bool) → SameBelow units p q → (count : ℕ) (run : Seg) → IsBest p units count run → IsBest q units count run
best_along units p q same count run b =
    let back : (other : Seg) → IsLongFrom q units count 0 other → IsLongFrom p units count 0 other = λ other l. long_along units q p (same_back units p q same) count 0 other l in
    record {
      is_long = long_along units p q same count 0 run b.is_long;
      shortest = λ other l. b.shortest other (back other l);
      lowest = λ other l e. b.lowest other (back other l) e;
    }

pub ample_along : (units ashift : ℕ) (p q : ℕ → Bool) → SameBelow units p q → IsAmple p units ashift → IsAmple q units ashift
ample_along units ashift p q same a =
    let share = a.share in
    record { run = a.run; maximal = maximal_along units p q same a.run a.maximal; long = a.long; share = omega (arith, units_same_below p q units same) }

pub next_along : (units : ℕ) (p q : ℕ → Bool) → SameBelow units p q → (cursor count : ℕ) (run : Seg) → IsNext p units cursor count run → IsNext q units cursor count run
next_along units p q same cursor count run (inl f) = inl (first_along units p q same count cursor run f)
next_along units p q same cursor count run (inr w) = inr (none_along units p q same count cursor w.0, first_along units p q same count 0 run w.1)

pub fit_along : (units : ℕ) (p q : ℕ → Bool) → SameBelow units p q → (ashift cursor count : ℕ) (seg : Seg) → IsFit p units ashift cursor count seg → IsFit q units ashift cursor count seg
fit_along units p q same ashift cursor count seg f =
    record {
      run = f.run;
      starts = f.starts;
      counts = f.counts;
      ample = λ a. next_along units p q same cursor count f.run (f.ample (ample_along units ashift q p (same_back units p q same) a));
      scarce = λ no_ample. best_along units p q same count f.run (f.scarce (λ a. no_ample (ample_along units ashift p q same a)));
    }

pub row_along : (units : ℕ) (p q : ℕ → Bool) → SameBelow units p q → (count : ℕ) → NoneInRow p units count → NoneInRow q units count
row_along units p q same count none start within all = none start within (λ u h l. same u (omega arith) ∙ all u h l)
