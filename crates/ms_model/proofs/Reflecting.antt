-- What follows where the checker's table reflects a journal.
use Rattle.std.proofs.Common.{◌≡◌, ℕ, ◌≤◌, ◌<◌, Bool, true, false, List, [], ◌∷◌, ◌++◌, length, sym, ap, ◌∙◌, subst, arith, max, ◌⊎◌, inl, inr}
use Rattle.std.specs.Prelude.{not, nat_le, None, ◌||◌, ◌+◌, if◌then◌else◌, take, drop, get_or}
use Rattle.std.proofs.Common.{append_assoc}
use Rattle.std.proofs.lemmas.List.{take_more, take-append-drop, length-take-le}
use Rattle.std.proofs.lemmas.List.Folds.{list_any_more}
use Rattle.zms_units.specs.declared.segments.Group.{Group}
use Rattle.zms_units.specs.Segments.{covers, covered}
use Rattle.std.specs.List.{fold, All, slice_index}
use Rattle.std.proofs.lemmas.Bool.{leb-true, le-leb}
use Rattle.std.proofs.lemmas.List.Sums.{fold_push}
use Rattle.std.proofs.lemmas.List.Elements.{All-nil, All-cons, All-head, All-tail}
use Rattle.zms_units.proofs.Along.{SameBelow, same_back, fit_along, row_along}
use Rattle.zms_units.specs.declared.segments.Seg.{Seg}
use Rattle.zms_units.specs.Runs.{IsFit, NoneInRow}
use Rattle.zms_units.specs.Cursors.{cursor_of}
use Rattle.zms_units.proofs.Bools.{le_or}
use Rattle.ms_model.specs.Origin.{Origin}
use Rattle.ms_model.specs.Units.{LastAct, granted, untouched, act_on, last_act, settled_by, collected_by, loaded_by, disabled_by}
use Rattle.ms_model.specs.Spaces.{keeps_busy, is_vacant}
use Rattle.ms_model.specs.Cursors.{cursor_by, cursor_at}
use Rattle.ms_model.specs.Legal.{ChangesAbove, IsWithin, MayDo, IsLegal}
use Rattle.ms_model.specs.declared.notes.Act.{Act}
use Rattle.ms_model.specs.declared.notes.Act.TheVariants.{Grant, Free, Unalloc}
use Rattle.ms_model.specs.declared.notes.Noted.{Noted}
use Rattle.ms_model.specs.declared.checking.Checker.{Checker}
use Rattle.ms_model.specs.Checking.{Decides, act_at, vacant_in, changed_by, changed_group, Reflects, TakesIn, IsTable, LiesWithin, IsFirstIllegal, origin_from}
use Rattle.zms_units.proofs.CursorPlaces.{cursor_below}
use Rattle.ms_model.proofs.Histories.{last_act-push, settled_group-push, collected_group-push, is_loaded-push, worker_at-push, cursor_at-push, legal_push}

-- a vacant unit of the table is one of the journal
pub same_vacant : (o : Origin) (h : List Noted) (c : Checker) → Reflects o h c → SameBelow o.units (vacant_in c) (is_vacant o h)
same_vacant o h c r u l = ap (λ a. not (keeps_busy c.settled.0 a)) (r.acts u l) ∙ ap (λ s. not (keeps_busy s (last_act o h u))) r.settled

module _ (o : Origin) (h : List Noted) (c : Checker) where
  pub row_same : (count : ℕ) (answer : Bool) → Reflects o h c → Decides answer (NoneInRow (vacant_in c) (length c.lasts.items) count) → Decides answer (NoneInRow (is_vacant o h) o.units count)
  row_same count answer r d =
      let same = same_vacant o h c r in
      let here : Decides answer (NoneInRow (vacant_in c) o.units count) = rw r.units at d in
      record {
        holds = λ is. row_along o.units (vacant_in c) (is_vacant o h) same count (here.holds is);
        fails = λ is none. here.fails is (row_along o.units (is_vacant o h) (vacant_in c) (same_back o.units (vacant_in c) (is_vacant o h) same) count none);
      }

  pub fit_same : (seg : Seg) (answer : Bool) → IsWithin (length c.lasts.items) seg → IsTable c → Reflects o h c
      → Decides answer (IsFit (vacant_in c) (length c.lasts.items) c.ashift (slice_index c.cursors (cursor_of seg.count)) seg.count seg)
      → Decides answer (IsFit (is_vacant o h) o.units o.ashift (cursor_at h (cursor_of seg.count)) seg.count seg)
  fit_same seg answer within table r d =
      let same = same_vacant o h c r in
      let some = within.some in
      let end = within.within in
      let most = table.most in
      let cursor = r.cursors (cursor_of seg.count) (cursor_below seg.count some (omega arith)) in
      let of_units : Decides answer (IsFit (vacant_in c) o.units c.ashift (slice_index c.cursors (cursor_of seg.count)) seg.count seg) = rw r.units at d in
      let of_shift : Decides answer (IsFit (vacant_in c) o.units o.ashift (slice_index c.cursors (cursor_of seg.count)) seg.count seg) = rw r.shift at of_units in
      let here : Decides answer (IsFit (vacant_in c) o.units o.ashift (cursor_at h (cursor_of seg.count)) seg.count seg) = rw cursor at of_shift in
      record {
        holds = λ is. fit_along o.units (vacant_in c) (is_vacant o h) same _ _ _ seg (here.holds is);
        fails = λ is f. here.fails is (fit_along o.units (is_vacant o h) (vacant_in c) (same_back o.units (vacant_in c) (is_vacant o h) same) _ _ _ seg f);
      }

changed_group-push : (h : List Noted) (note : Noted) → changed_group (h ++ note ∷ []) ≡ changed_by (changed_group h) note.act
changed_group-push h note = fold_push _ _ h note

-- the table after one more note
pub reflects_push : (o : Origin) (h : List Noted) (note : Noted) (old new : Checker) → Reflects o h old → TakesIn old new note.lane note.act → Reflects o (h ++ note ∷ []) new
reflects_push o h note old new r t =
    let units = r.units in
    record {
      units = t.units ∙ r.units;
      most = r.most;
      shift = t.shift ∙ r.shift;
      shifts = r.shifts;
      acts = λ u l. t.acts u (omega arith) ∙ (ap (λ a. act_on u a note.lane note.act) (r.acts u l) ∙ sym (last_act-push o h note u));
      settled = t.settled ∙ (ap (λ n. settled_by n note.act) r.settled ∙ sym (settled_group-push o h note));
      collected = t.collected ∙ (ap (λ n. collected_by n note.act) r.collected ∙ sym (collected_group-push o h note));
      loaded = t.loaded ∙ (ap (λ b. loaded_by b note.act) r.loaded ∙ sym (is_loaded-push h note));
      worker = t.worker ∙ (ap (λ w. disabled_by w note.act) r.worker ∙ sym (worker_at-push h note));
      cursors = λ number l. t.cursors number l ∙ (ap (λ n. cursor_by number n note.act) (r.cursors number l) ∙ sym (cursor_at-push h note number));
      changed = t.changed ∙ (ap (λ n. changed_by n note.act) r.changed ∙ sym (changed_group-push h note));
    }

-- the groups of changes, and whether they are settled

step_low : (s so_far : ℕ) (act : Act) → changed_by so_far act ≤ s → so_far ≤ s
step_low s so_far (Grant group seg) h = omega arith
step_low s so_far (Free group seg) h = omega arith
step_low s so_far (Unalloc group seg) h = omega arith
step_low s so_far _ h = h

step_settled : (s so_far : ℕ) (act : Act) → changed_by so_far act ≤ s → ChangesAbove s act → ⊥
step_settled s so_far (Grant group seg) h above = omega arith
step_settled s so_far (Free group seg) h above = omega arith
step_settled s so_far (Unalloc group seg) h above = omega arith
step_settled s so_far _ h above = above

step_high : (s so_far : ℕ) (act : Act) → so_far ≤ s → (ChangesAbove s act → ⊥) → changed_by so_far act ≤ s
step_high s so_far (Grant group seg) h none = by_order (le_or group.0 s) where
  by_order : (group.0 ≤ s) ⊎ (s < group.0) → max so_far group.0 ≤ s
  by_order (inl le) = omega arith
  by_order (inr lt) = absurd (none lt)
step_high s so_far (Free group seg) h none = by_order (le_or group.0 s) where
  by_order : (group.0 ≤ s) ⊎ (s < group.0) → max so_far group.0 ≤ s
  by_order (inl le) = omega arith
  by_order (inr lt) = absurd (none lt)
step_high s so_far (Unalloc group seg) h none = by_order (le_or group.0 s) where
  by_order : (group.0 ≤ s) ⊎ (s < group.0) → max so_far group.0 ≤ s
  by_order (inl le) = omega arith
  by_order (inr lt) = absurd (none lt)
step_high s so_far _ h none = h

-- no note changes anything in a later group
abbrev Quiet_above : ℕ → List Noted → Type 0
Quiet_above s h = All (λ (note : Noted). ChangesAbove s note.act → ⊥) h

changes : ℕ → Noted → ℕ
changes so_far note = changed_by so_far note.act

fold_low : (s so_far : ℕ) (h : List Noted) → fold (λ n (note : Noted). changed_by n note.act) so_far h ≤ s → so_far ≤ s
fold_low s so_far [] le = le
fold_low s so_far (note ∷ h) le = step_low s so_far note.act (fold_low s (changed_by so_far note.act) h le)

fold_quiet : (s so_far : ℕ) (h : List Noted) → fold (λ n (note : Noted). changed_by n note.act) so_far h ≤ s → Quiet_above s h
fold_quiet s so_far [] le = All-nil (λ (note : Noted). ChangesAbove s note.act → ⊥)
fold_quiet s so_far (note ∷ h) le =
    All-cons (λ (note : Noted). ChangesAbove s note.act → ⊥) note h
    (step_settled s so_far note.act (fold_low s (changed_by so_far note.act) h le))
    (fold_quiet s (changed_by so_far note.act) h le)

quiet_fold : (s so_far : ℕ) (h : List Noted) → so_far ≤ s → Quiet_above s h → fold (λ n (note : Noted). changed_by n note.act) so_far h ≤ s
quiet_fold s so_far [] le all = le
quiet_fold s so_far (note ∷ h) le all =
    quiet_fold s (changed_by so_far note.act) h
    (step_high s so_far note.act le (All-head (λ (note : Noted). ChangesAbove s note.act → ⊥) note h all))
    (All-tail (λ (note : Noted). ChangesAbove s note.act → ⊥) note h all)

pub settled_decides : (changed settled s : ℕ) (h : List Noted) → changed ≡ changed_group h → settled ≡ s → Decides (nat_le changed settled) (Quiet_above s h)
settled_decides changed settled s h e f =
    record {
      holds = λ is. fold_quiet s 0 h (omega (arith, leb-true changed settled is));
      fails = λ is all. differ (le-leb changed settled (omega (arith, quiet_fold s 0 h (omega arith) all))) is;
    } where
      differ : nat_le changed settled ≡ true → nat_le changed settled ≡ false → ⊥
      differ h g = cc

-- an act that may be done lies within the units
pub may_lie : (o : Origin) (h : List Noted) (lane : ℕ) (act : Act) → MayDo o h lane act → LiesWithin o.units act
may_lie o h lane (Grant group seg) may = may.within
may_lie o h lane (Free group seg) may = may.within
may_lie o h lane (Unalloc group seg) may = may.within
may_lie o h lane _ may = tt

-- the table before the first note, with one more segment of the base

with_base : (here before : Bool) (opened : ℕ) (now was : LastAct) → now ≡ (if here then granted None opened else was) → was ≡ (if before then granted None opened else untouched)
    → now ≡ (if before || here then granted None opened else untouched)
with_base true true opened now was e f = e
with_base true false opened now was e f = e
with_base false true opened now was e f = e ∙ f
with_base false false opened now was e f = e ∙ f

pub reflects_base : (base : List Seg) (k units ashift opened : ℕ) (d : Seg) (old new : Checker) (group : Group) → k < length base → group.0 ≡ opened
    → Reflects (origin_from (take k base) units ashift opened) [] old
    → length new.lasts.items ≡ length old.lasts.items
    → ((u : ℕ) → act_at new.lasts.items u ≡ (if covers (get_or base k d) u then granted None group.0 else act_at old.lasts.items u))
    → new ≡ record old { lasts = new.lasts }
    → Reflects (origin_from (take (k + 1) base) units ashift opened) [] new
reflects_base base k units ashift opened d old new group l e r len acts stays =
    record {
      units = len ∙ r.units;
      most = r.most;
      shift = ap (λ (c : Checker). c.ashift) stays ∙ r.shift;
      shifts = r.shifts;
      acts = λ u lt. act u lt;
      settled = ap (λ (c : Checker). c.settled.0) stays ∙ r.settled;
      collected = ap (λ (c : Checker). c.collected.0) stays ∙ r.collected;
      loaded = ap (λ (c : Checker). c.loaded) stays ∙ r.loaded;
      worker = ap (λ (c : Checker). c.worker) stays ∙ r.worker;
      cursors = λ number lt. ap (λ (c : Checker). slice_index c.cursors number) stays ∙ r.cursors number lt;
      changed = ap (λ (c : Checker). c.changed.0) stays ∙ r.changed;
    } where
      act : (u : ℕ) → u < units → act_at new.lasts.items u ≡ last_act (origin_from (take (k + 1) base) units ashift opened) [] u
      act u lt =
          let now : act_at new.lasts.items u ≡ (if covers (get_or base k d) u then granted None opened else act_at old.lasts.items u) = rw e at acts u in
          with_base (covers (get_or base k d) u) (covered (take k base) u) opened _ _ now (r.acts u lt)
          ∙ ap (λ (b : Bool). if b then granted None opened else untouched) (sym (list_any_more (λ (seg : Seg). covers seg u) base k d l))

-- the note at a place of a journal

module _ (o : Origin) (notes : List Noted) (k : ℕ) (d : Noted) (l : k < length notes) where
  one_more : take (k + 1) notes ≡ take k notes ++ get_or notes k d ∷ []
  one_more = take_more notes k d l

  split : take k notes ++ (get_or notes k d ∷ drop (k + 1) notes) ≡ notes
  split =
      sym (append_assoc (take k notes) (get_or notes k d ∷ []) (drop (k + 1) notes)) ∙ (ap (λ t. t ++ drop (k + 1) notes) (sym one_more) ∙ take-append-drop (k + 1) notes)

  pub not_legal : IsLegal o notes → (MayDo o (take k notes) (get_or notes k d).lane (get_or notes k d).act → ⊥) → ⊥
  not_legal legal refused = refused (legal (take k notes) (get_or notes k d) (drop (k + 1) notes) split)

  pub illegal_at : IsLegal o (take k notes) → (MayDo o (take k notes) (get_or notes k d).lane (get_or notes k d).act → ⊥) → IsFirstIllegal o notes (k + 1)
  illegal_at legal refused =
      record {
        before = take k notes;
        note = get_or notes k d;
        rest = drop (k + 1) notes;
        stands = split;
        place_is = omega (arith, length-take-le k notes (omega arith));
        legal = legal;
        refused = refused;
      }

  pub next_legal : IsLegal o (take k notes) → MayDo o (take k notes) (get_or notes k d).lane (get_or notes k d).act → IsLegal o (take (k + 1) notes)
  next_legal legal may = subst (λ h. IsLegal o h) (sym one_more) (legal_push o (take k notes) (get_or notes k d) legal may)

  pub next_reflects : (old new : Checker) → Reflects o (take k notes) old → TakesIn old new (get_or notes k d).lane (get_or notes k d).act → Reflects o (take (k + 1) notes) new
  next_reflects old new r t = subst (λ h. Reflects o h new) (sym one_more) (reflects_push o (take k notes) (get_or notes k d) old new r t)

pub lies_at : (o : Origin) (h : List Noted) (c : Checker) (lane : ℕ) (act : Act) → Reflects o h c → MayDo o h lane act → LiesWithin (length c.lasts.items) act
lies_at o h c lane act r may = subst (λ n. LiesWithin n act) (sym r.units) (may_lie o h lane act may)
