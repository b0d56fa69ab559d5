-- A keeper stays sound as it gathers.
use Rattle.std.proofs.Common.{◌≡◌, ◌≢◌, ℕ, ◌+◌, ◌≤◌, ◌<◌, cond, eq-eqb, Some, List, [], ◌∷◌, ◌++◌, length, refl, sym, ◌∙◌, ap, subst, arith, ◌⊎◌, inl, inr, length-append, Vec}
use Rattle.std.specs.Prelude.{◌==◌, if◌then◌else◌, slice_get}
use Rattle.std.specs.declared.alloc.Global.{Global}
use Rattle.std.proofs.lemmas.Bool.{ne_eqb}
use Rattle.std.proofs.lemmas.Option.{slice_get_within}
use Rattle.zms_units.specs.declared.places.MsId.{MsId}
use Rattle.zms_units.specs.declared.places.VdevRow.{VdevRow}
use Rattle.zms_units.specs.declared.segments.Group.{Group}
use Rattle.zms_units.proofs.Bools.{le_or}
use Rattle.zms_units.proofs.Counting.{units_same}
use Rattle.zms_dev.specs.Disk.{DiskState}
use Rattle.lane_steps.proofs.Steps.{prefix_trans}
use Rattle.turn_cell.specs.Notes.{IsPrefix}
use Rattle.turn_cell.specs.Lanes.{noting, notes_of}
use Rattle.turn_passes.proofs.Pairs.{get_push}
use Rattle.vdev_map.specs.Numbers.{IsIn, number_of, row_at, metaslabs_in}
use Rattle.vdev_map.specs.declared.layout.Batch.{Batch}
use Rattle.vdev_map.specs.declared.table.Table.{Table}
use Rattle.ms_model.specs.Origin.{Origin}
use Rattle.ms_model.specs.Units.{held, collected_group}
use Rattle.ms_model.specs.Events.{Event, at_metaslab, metaslab_steps}
use Rattle.ms_model.specs.declared.notes.Noted.{Noted}
use Rattle.ms_model.specs.declared.notes.GateNote.{GateNote}
use Rattle.ms_cell.specs.Turns.{Turns}
use Rattle.ms_cell.specs.Passes.{Passes, Seated, origin_in, seen_in}
use Rattle.ms_cell.specs.Journey.{Journey}
use Rattle.ms_cell.specs.GateAnswers.{IsClosedBefore}
use Rattle.ms_cell.proofs.Gathering.{fresh_seated}
use Rattle.ms_cell.proofs.JournalLaws.{journeys_join, keeper_gate, stays_seated}
use Rattle.pool_keeper.specs.History.{History, Grows, GrowsTo}
use Rattle.pool_keeper.specs.Groups.{IsKnown, IsChange, AreGathered, AreCounted}
use Rattle.pool_keeper.specs.Keeper.{IsOf, IsSound, history_of}
use Rattle.pool_keeper.specs.Answers.{IsCollected}
use Rattle.pool_keeper.specs.declared.keeper.Keeper.{Keeper}
use Rattle.pool_keeper.proofs.Growing.{grows_none}
use Rattle.pool_keeper.proofs.Holding.{held_grown}
use Rattle.pool_keeper.proofs.Remembering.{number_within}
use Rattle.pool_keeper.proofs.Knowing.{known_still, origin_same, gate_grows, notes_elsewhere}
use Rattle.pool_keeper.proofs.Collecting.{collect_of, marked, known_next, mark_grows, change_next}

pub same_or : (a b : ℕ) → (a ≡ b) ⊎ (a ≢ b)
same_or a b = by_two (le_or a b) (le_or b a) where
  by_two : (a ≤ b) ⊎ (b < a) → (b ≤ a) ⊎ (a < b) → (a ≡ b) ⊎ (a ≢ b)
  by_two (inl le) (inl ge) = inl (omega arith)
  by_two (inl le) (inr lt) = inr (λ e. absurd (omega arith))
  by_two (inr lt) _ = inr (λ e. absurd (omega arith))

-- journals of which one is another

abbrev pub put : (ℕ → List Noted) → ℕ → List Noted → ℕ → List Noted
put journal k mark j = if j == k then mark else journal j

put_there : (journal : ℕ → List Noted) (k : ℕ) (mark : List Noted) → put journal k mark k ≡ mark
put_there journal k mark = ap (λ b. cond b mark (journal k)) (eq-eqb k k refl)

put_elsewhere : (journal : ℕ → List Noted) (k : ℕ) (mark : List Noted) (j : ℕ) → j ≢ k → put journal k mark j ≡ journal j
put_elsewhere journal k mark j ne = ap (λ b. cond b mark (journal j)) (ne_eqb j k ne)

pub grows_put : (h : History) (k : ℕ) (mark : List Noted) → Grows (h.origin k) (h.journal k) mark → GrowsTo h (put h.journal k mark)
grows_put h k mark grows = record { each = λ j lt. turn j (same_or j k) } where
  turn : (j : ℕ) → (j ≡ k) ⊎ (j ≢ k) → Grows (h.origin j) (h.journal j) (put h.journal k mark j)
  turn j (inl is) = subst (λ x. Grows (h.origin x) (h.journal x) (put h.journal k mark x)) (sym is) (subst (Grows (h.origin k) (h.journal k)) (sym (put_there h.journal k mark)) grows)
  turn j (inr ne) = subst (Grows (h.origin j) (h.journal j)) (sym (put_elsewhere h.journal k mark j ne)) (grows_none (h.origin j) (h.journal j))

-- rows that count a group count it still
pub counted_grown : (h : History) (group : ℕ) (table : Table) (journal : ℕ → List Noted) → ((k : ℕ) → k < metaslabs_in h.layout.vdevs → group ≤ collected_group (h.origin k) (h.journal k)) → GrowsTo h journal
    → ((id : MsId) → IsIn h.layout.vdevs id → number_of h.layout.vdevs id < metaslabs_in h.layout.vdevs)
    → AreCounted h.layout.vdevs group table h.origin h.journal → AreCounted h.layout.vdevs group table h.origin journal
counted_grown h group table journal collected grows within was = record {
  each = λ id inside.
      let k = number_of h.layout.vdevs id in
      let lt = within id inside in
      was.each id inside ∙ units_same (held (h.origin k) (h.journal k) group) (held (h.origin k) (journal k) group) (row_at h.layout.vdevs id.vdev).units (λ u. sym ((grows.each k lt).holds group u (collected k lt)));
}

-- each metaslab has collected the last group
module _ (vdevs : List VdevRow) (origin : ℕ → Origin) (g : ℕ) (journal : ℕ → List Noted) (p : Passes) (batches : List Batch) (are : AreGathered vdevs origin g journal p batches) where
  pub last_collected : (k : ℕ) → k < metaslabs_in vdevs → g ≤ collected_group (origin k) (journal k)
  last_collected k lt = by_case (le_or (length batches) k) where
    by_case : (length batches ≤ k) ⊎ (k < length batches) → g ≤ collected_group (origin k) (journal k)
    by_case (inl le) = omega (arith, (are.others k le lt).mark_collected)
    by_case (inr less) = omega (arith, (are.before k less).mark_collected)

  -- what the keeper noted nothing at stays as it was known
  module _ (es : List Event) (q : Passes) (w : Journey 0 es p q) (enough : metaslabs_in vdevs ≤ length p.metaslabs) (none : (k : ℕ) → notes_of (metaslab_steps k es) ≡ []) where
    pub gathered_still : AreGathered vdevs origin g journal q batches
    gathered_still = record {
      few = are.few;
      before = λ k lt. known_still es p q (origin k) k g (g + 1) (journal k) w (omega (arith, are.few)) (none k) (are.before k lt);
      others = λ k le lt. known_still es p q (origin k) k g g (journal k) w (omega arith) (none k) (are.others k le lt);
      changes = are.changes;
    }

pub closed_later : (opened group : ℕ) (h j : List GateNote) → IsPrefix h j → IsClosedBefore opened group h → IsClosedBefore opened group j
closed_later opened group h j grows was = record { before = was.before; begins = prefix_trans was.before h j was.begins grows; closed = was.closed }

pub closed_lower : (opened lower group : ℕ) (h : List GateNote) → lower ≤ group → IsClosedBefore opened group h → IsClosedBefore opened lower h
closed_lower opened lower group h le was = record { before = was.before; begins = was.begins; closed = omega (arith, le, was.closed) }

module _ {D R : Type 0} (state : D → DiskState) (faults : D → ℕ) (t : Turns) (k : Keeper D R) (of : IsOf t k.start) (s : IsSound state faults k) where
  abbrev p : Passes
  p = k.passes

  abbrev g : ℕ
  g = k.store.table.group.0

  abbrev vdevs : List VdevRow
  vdevs = k.start.store.value.layout.vdevs

  abbrev origin : ℕ → Origin
  origin = origin_in k.start.passes.value

  pub seated : Seated 0 t p
  seated = stays_seated 0 t s.events k.start.passes.value p (fresh_seated 0 t k.start.passes.value of.fresh) s.journey

  pub places : length t.metaslabs ≡ metaslabs_in vdevs
  places = of.count ∙ ap metaslabs_in of.vdevs

  pub origin_is : (j : ℕ) → j < length t.metaslabs → origin_in p j ≡ origin j
  origin_is j lt = origin_same 0 s.events k.start.passes.value p s.journey j (omega (arith, of.fresh.know.count))

  -- which group is next at the first metaslab that has not collected it
  pub next_due : (n group : ℕ) → n ≡ length k.gathered.items → n < length t.metaslabs → group ≡ g → group + 1 ≡ collected_group (origin_in p n) (seen_in p n) + 1
  next_due n group at lt is =
      let known = s.gathered.others n (omega (arith, at)) (omega (arith, places)) in
      let same : collected_group (origin_in p n) (seen_in p n) ≡ collected_group (origin n) (seen_in p n) = ap (λ (o : Origin). collected_group o (seen_in p n)) (origin_is n lt) in
      omega (arith, is, known.seen_collected, same)

  -- it noted nothing
  pub sound_still : (q : Passes) (v : Vec Batch Global) → Journey 0 [] p q → v.items ≡ k.gathered.items → IsSound state faults (record k { passes = q; gathered = v })
  sound_still q v w same = record {
    events = s.events ++ [];
    journey = journeys_join 0 s.events [] k.start.passes.value p q s.journey w;
    journal = s.journal;
    layout = s.layout;
    from = s.from;
    gathered = subst (AreGathered vdevs origin g s.journal q) (sym same)
        (gathered_still vdevs origin g s.journal p k.gathered.items s.gathered [] q w (omega (arith, places, seated.know.count)) (λ j. refl));
    counted = s.counted;
    gate = keeper_gate k.start.store.value.table.group.0 [] p q w ∙ s.gate;
    closed = λ some. closed_later k.start.store.value.table.group.0 (g + 1) p.gate.seen q.gate.seen (gate_grows 0 [] p q w) (s.closed (subst (λ (l : List Batch). 0 < length l) same some));
    noted = s.noted;
    counts = s.counts;
    device = s.device;
  }

  -- it gathered the next metaslab
  module _ (lane number : ℕ) (group : Group) (batch : Batch) (q : Passes) (v : Vec Batch Global) (at : number ≡ length k.gathered.items) (lt : number < length t.metaslabs) (next : group.0 ≡ g + 1)
      (done : IsCollected t lane number group batch p q) (is : v.items ≡ k.gathered.items ++ batch ∷ []) (closed : IsClosedBefore t.opened (g + 1) p.gate.seen) where
    abbrev act : List Event
    act = at_metaslab number (noting done.runs.before (collect_of lane group)) ∷ []

    abbrev h : History
    h = history_of k.start s.journal

    here : number < length p.metaslabs
    here = omega (arith, seated.know.count)

    known : IsKnown g g (origin number) (s.journal number) (seen_in p number)
    known = s.gathered.others number (omega (arith, at)) (omega (arith, places))

    abbrev mark : List Noted
    mark = marked lane number group batch.allocs batch.frees p q (origin number) g (s.journal number) done.runs here (origin_is number lt) next known

    abbrev journal : ℕ → List Noted
    journal = put s.journal number mark

    there : IsKnown g (g + 1) (origin number) (journal number) (seen_in q number)
    there = subst (λ x. IsKnown g (g + 1) (origin number) x (seen_in q number)) (sym (put_there s.journal number mark))
        (known_next lane number group batch.allocs batch.frees p q (origin number) g (s.journal number) done.runs here (origin_is number lt) next known)

    elsewhere : (j c : ℕ) → j ≢ number → j < metaslabs_in vdevs → IsKnown g c (origin j) (s.journal j) (seen_in p j) → IsKnown g c (origin j) (journal j) (seen_in q j)
    elsewhere j c ne less was =
        subst (λ x. IsKnown g c (origin j) x (seen_in q j)) (sym (put_elsewhere s.journal number mark j ne))
        (known_still act p q (origin j) j g c (s.journal j) done.runs.journey (omega (arith, places, seated.know.count)) (notes_elsewhere number j _ ne) was)

    grows : GrowsTo h journal
    grows = grows_put h number mark (mark_grows lane number group batch.allocs batch.frees p q (origin number) g (s.journal number) done.runs here (origin_is number lt) next known)

    more : length v.items ≡ number + 1
    more = ap length is ∙ omega (arith, length-append k.gathered.items (batch ∷ []), at)

    change : IsChange vdevs (g + 1) number (origin number) mark batch
    change = change_next lane number group batch.allocs batch.frees p q (origin number) g (s.journal number) done.runs here (origin_is number lt) next known vdevs batch.id
        (subst (λ (w : List VdevRow). IsIn w batch.id) of.vdevs done.inside) (subst (λ (w : List VdevRow). number_of w batch.id ≡ number) of.vdevs done.place)

    change_at : (j : ℕ) (b : Batch) → (slice_get k.gathered.items j ≡ Some b) ⊎ ((j ≡ length k.gathered.items) × (batch ≡ b)) → IsChange vdevs (g + 1) j (origin j) (journal j) b
    change_at j b (inl old) =
        let less : j < number = omega (arith, at, slice_get_within k.gathered.items j b old) in
        subst (λ x. IsChange vdevs (g + 1) j (origin j) x b) (sym (put_elsewhere s.journal number mark j (λ e. absurd (omega arith)))) (s.gathered.changes j b old)
    change_at j b (inr (last, one)) =
        subst (λ x. IsChange vdevs (g + 1) j (origin j) (journal j) x) one
        (subst (λ x. IsChange vdevs (g + 1) x (origin x) (journal x) batch) (at ∙ sym last)
        (subst (λ x. IsChange vdevs (g + 1) number (origin number) x batch) (sym (put_there s.journal number mark)) change))

    before_at : (j : ℕ) → j < number + 1 → (j ≡ number) ⊎ (j ≢ number) → IsKnown g (g + 1) (origin j) (journal j) (seen_in q j)
    before_at j less (inl e) = subst (λ x. IsKnown g (g + 1) (origin x) (journal x) (seen_in q x)) (sym e) there
    before_at j less (inr ne) = elsewhere j (g + 1) ne (omega (arith, places)) (s.gathered.before j (omega (arith, at)))

    gathered : AreGathered vdevs origin g journal q v.items
    gathered = record {
      few = omega (arith, more, places);
      before = λ j less. before_at j (omega (arith, more)) (same_or j number);
      others = λ j le less. elsewhere j g (λ e. absurd (omega (arith, more))) less (s.gathered.others j (omega (arith, at, more)) less);
      changes = λ j b get. change_at j b (get_push k.gathered.items batch j b (subst (λ (l : List Batch). slice_get l j ≡ Some b) is get));
    }

    pub sound_more : IsSound state faults (record k { passes = q; gathered = v })
    sound_more = record {
      events = s.events ++ act;
      journey = journeys_join 0 s.events act k.start.passes.value p q s.journey done.runs.journey;
      journal = journal;
      layout = s.layout;
      from = s.from;
      gathered = gathered;
      counted = counted_grown h g k.store.table journal (last_collected vdevs origin g s.journal p k.gathered.items s.gathered) grows (number_within vdevs) s.counted;
      gate = keeper_gate k.start.store.value.table.group.0 act p q done.runs.journey ∙ s.gate;
      closed = λ some.
          closed_later k.start.store.value.table.group.0 (g + 1) p.gate.seen q.gate.seen (gate_grows 0 act p q done.runs.journey)
          (subst (λ (n : ℕ). IsClosedBefore n (g + 1) p.gate.seen) of.opened closed);
      noted = s.noted;
      counts = s.counts;
      device = λ ready. held_grown h journal g k.first k.store.table (state k.start.store.value.disk) (state k.store.disk) grows (s.device ready);
    }
