-- The batches of a group that each metaslab has collected: what they change, and what the group holds with them.
use Rattle.std.proofs.Common.{◌≡◌, ℕ, zero, suc, ◌+◌, ◌<◌, ◌≤◌, Bool, true, false, cond, Some, List, [], ◌∷◌, length, ◌⊎◌, inl, inr, refl, sym, ◌∙◌, ap, subst, arith}
use Rattle.std.specs.Prelude.{not, ◌&&◌, ◌||◌, ◌==◌, slice_get}
use Rattle.std.specs.List.{All}
use Rattle.std.proofs.lemmas.Bool.Decides.{nat_tests}
use Rattle.std.proofs.lemmas.List.Elements.{All-nil, All-cons}
use Rattle.turn_passes.proofs.Pairs.{some_at}
use Rattle.zms_units.specs.Runs.{units_in, AreMaximalRuns}
use Rattle.zms_units.specs.Segments.{AreSegs, covered, total_of}
use Rattle.zms_units.specs.declared.places.MsId.{MsId}
use Rattle.zms_units.specs.declared.places.VdevRow.{VdevRow}
use Rattle.zms_units.specs.declared.segments.Seg.{Seg}
use Rattle.zms_units.proofs.Bools.{le_or, same_not}
use Rattle.zms_units.proofs.Counting.{units_same, units_or, units_le}
use Rattle.zms_units.proofs.RisingSegs.{rising_above}
use Rattle.ms_model.specs.Origin.{Origin}
use Rattle.ms_model.specs.Units.{held, settled_group}
use Rattle.ms_model.specs.Gains.{is_gained, is_given}
use Rattle.ms_model.specs.Legal.{IsLegal}
use Rattle.ms_model.specs.declared.notes.Noted.{Noted}
use Rattle.ms_model.proofs.Overlaps.{unit_facts}
use Rattle.vdev_map.specs.Numbers.{IsIn, number_of, row_at, metaslabs_in}
use Rattle.vdev_map.specs.declared.layout.Batch.{Batch}
use Rattle.vdev_map.specs.declared.table.Table.{Table}
use Rattle.vdev_map.proofs.InOrder.{one_number}
use Rattle.meta_store.specs.Batches.{IsBatch, AreInOrder, AreBatches, AreBacked, IsBacked, is_of, after_batches, after}
use Rattle.meta_store.specs.Groups.{Finds}
use Rattle.meta_store.specs.Heads.{head_of}
use Rattle.meta_store.specs.NextGroups.{IsNextTable}
use Rattle.meta_store.specs.NextWords.{allocs_of, frees_of}
use Rattle.meta_store.specs.Words.{row_of, units_of}
use Rattle.meta_store.proofs.BatchOrder.{of_it}
use Rattle.meta_store.proofs.HeldRuns.{maximal_count}
use Rattle.pool_keeper.specs.History.{History, contents_of}
use Rattle.pool_keeper.specs.Groups.{IsChange, AreCounted}
use Rattle.pool_keeper.proofs.Backing.{unit_backs}
use Rattle.pool_keeper.proofs.Remembering.{number_within, finds_same}

-- one metaslab

sums_by : (given gained was : Bool) → cond given false (cond gained true was) ≡ (not given && (gained || was))
sums_by true gained was = refl
sums_by false true was = refl
sums_by false false was = refl

now_or_given : (given gained was : Bool) → (given ≡ true → (was ≡ true) ⊎ (gained ≡ true)) → ((not given && (gained || was)) || given) ≡ (gained || was)
now_or_given false gained was back = or_false_at (gained || was) where
  or_false_at : (b : Bool) → (b || false) ≡ b
  or_false_at true = refl
  or_false_at false = refl
now_or_given true true was back = refl
now_or_given true false true back = refl
now_or_given true false false back = absurd (none (back refl)) where
  none : (false ≡ true) ⊎ (false ≡ true) → ⊥
  none (inl e) = cc
  none (inr e) = cc

not_both : (given gained was : Bool) → (not given && (gained || was)) ≡ true → given ≡ false
not_both true gained was e = cc
not_both false gained was e = refl

covers_below : (units : ℕ) (runs : List Seg) (set : ℕ → Bool) (u : ℕ) → AreMaximalRuns set units runs → covered runs u ≡ true → u < units
covers_below units runs set u are e = turn (le_or units u) where
  turn : (units ≤ u) ⊎ (u < units) → u < units
  turn (inl le) = absurd (same_not e (rising_above 0 units runs are.rising u le))
  turn (inr lt) = lt

in_set : (units : ℕ) (runs : List Seg) (set : ℕ → Bool) (u : ℕ) → AreMaximalRuns set units runs → covered runs u ≡ true → set u ≡ true
in_set units runs set u are e = sym (are.whole u (covers_below units runs set u are e)) ∙ e

-- the group after t is collected, with what it gained and gave back as runs
module _ (o : Origin) (h : List Noted) (t : ℕ) (batch : Batch) (legal : IsLegal o h) (near : settled_group o h ≤ t) (allocs : AreMaximalRuns (is_gained (t + 1) h) o.units batch.allocs)
    (frees : AreMaximalRuns (is_given (t + 1) h) o.units batch.frees) where
  abbrev gained : ℕ → Bool
  gained = is_gained (t + 1) h

  abbrev given : ℕ → Bool
  given = is_given (t + 1) h

  abbrev was_held : ℕ → Bool
  was_held u = held o h t u

  abbrev now_held : ℕ → Bool
  now_held u = held o h (t + 1) u

  given_backed : (u : ℕ) → u < o.units → given u ≡ true → (was_held u ≡ true) ⊎ (covered batch.allocs u ≡ true)
  given_backed u lt e = turn ((unit_backs o h t u legal near).gifts e) where
    turn : (was_held u ≡ true) ⊎ (gained u ≡ true) → (was_held u ≡ true) ⊎ (covered batch.allocs u ≡ true)
    turn (inl was) = inl was
    turn (inr new) = inr (allocs.whole u lt ∙ new)

  pub one_backed : IsBacked was_held batch
  one_backed = record {
    allocs = λ u e. (unit_backs o h t u legal near).gains (in_set o.units batch.allocs gained u allocs e);
    frees = λ u e. given_backed u (covers_below o.units batch.frees given u frees e) (in_set o.units batch.frees given u frees e);
  }

  adds : (u : ℕ) → now_held u ≡ (not (given u) && (gained u || was_held u))
  adds u = (unit_facts o h t u legal).adds

  pub one_after : (u : ℕ) → u < o.units → cond (covered batch.frees u) false (cond (covered batch.allocs u) true (was_held u)) ≡ now_held u
  one_after u lt = rw (frees.whole u lt, allocs.whole u lt) (sums_by (given u) (gained u) (was_held u) ∙ sym (adds u))

  pub one_count : units_in now_held o.units + total_of batch.frees ≡ units_in was_held o.units + total_of batch.allocs
  one_count =
      let now : ℕ → Bool = λ u. not (given u) && (gained u || was_held u) in
      let total : units_in (λ u. now u || given u) o.units ≡ units_in now o.units + units_in given o.units = units_or now given o.units (λ u e. not_both (given u) (gained u) (was_held u) e) in
      let sum : units_in (λ u. gained u || was_held u) o.units ≡ units_in gained o.units + units_in was_held o.units = units_or gained was_held o.units (λ u e. (unit_backs o h t u legal near).gains e) in
      let same : units_in (λ u. now u || given u) o.units ≡ units_in (λ u. gained u || was_held u) o.units =
      units_same (λ u. now u || given u) (λ u. gained u || was_held u) o.units (λ u. now_or_given (given u) (gained u) (was_held u) (unit_backs o h t u legal near).gifts) in
      let now_is : units_in now_held o.units ≡ units_in now o.units = units_same now_held now o.units adds in
      omega (arith, total, sum, same, now_is, maximal_count gained o.units batch.allocs allocs, maximal_count given o.units batch.frees frees)

-- lists of batches, one for each metaslab in order

all_from : {A : Type 0} (P : A → Type 0) (xs : List A) → ((k : ℕ) (x : A) → slice_get xs k ≡ Some x → P x) → All P xs
all_from P [] each = All-nil P
all_from P (x ∷ xs) each = All-cons P x xs (each zero x refl) (all_from P xs (λ k y e. each (suc k) y e))

abbrev InPlaces : List VdevRow → ℕ → List Batch → Type 0
InPlaces vdevs low batches = (k : ℕ) (b : Batch) → slice_get batches k ≡ Some b → number_of vdevs b.id ≡ low + k

later : (vdevs : List VdevRow) (low : ℕ) (b : Batch) (batches : List Batch) → InPlaces vdevs low (b ∷ batches) → InPlaces vdevs (low + 1) batches
later vdevs low b batches are k c e = let n : number_of vdevs c.id ≡ low + suc k = are (suc k) c e in omega arith

in_order : (vdevs : List VdevRow) (low : ℕ) (batches : List Batch) → InPlaces vdevs low batches → AreInOrder vdevs low batches
in_order vdevs low [] are = tt
in_order vdevs low (b ∷ batches) are =
    let first : number_of vdevs b.id ≡ low + 0 = are zero b refl in
    (omega arith, subst (λ (n : ℕ). AreInOrder vdevs (n + 1) batches) (let e : low ≡ number_of vdevs b.id = omega arith in e) (in_order vdevs (low + 1) batches (later vdevs low b batches are)))

own : (n : ℕ) → (n == n) ≡ true
own n = grind (arith, nat_tests)

is_of_own : (b : Batch) (id : MsId) → b.id ≡ id → is_of b id ≡ true
is_of_own b id same = subst (λ (i : MsId). is_of b i ≡ true) same (rw (own b.id.vdev, own b.id.index) refl)

not_of : (vdevs : List VdevRow) (b : Batch) (id : MsId) → (number_of vdevs b.id ≡ number_of vdevs id → ⊥) → is_of b id ≡ false
not_of vdevs b id ne = by_test (is_of b id) refl where
  by_test : (x : Bool) → is_of b id ≡ x → x ≡ false
  by_test true is = absurd (ne (ap (number_of vdevs) (of_it b id is)))
  by_test false is = refl

-- the batch of a metaslab is the one at its place
module _ (vdevs : List VdevRow) (id : MsId) where
  pub after_at : (low k : ℕ) (batches : List Batch) (b : Batch) (u : ℕ) (was : Bool) → InPlaces vdevs low batches → slice_get batches k ≡ Some b → b.id ≡ id
      → after_batches batches id u was ≡ cond (covered b.frees u) false (cond (covered b.allocs u) true was)
  after_at low k [] b u was are e same = absurd (cc)
  after_at low zero (c ∷ batches) b u was are e same =
      let one : c ≡ b = cc in
      rw (is_of_own c id (ap (λ (x : Batch). x.id) one ∙ same)) (ap (λ (x : Batch). cond (covered x.frees u) false (cond (covered x.allocs u) true was)) one)
  after_at low (suc k) (c ∷ batches) b u was are e same =
      let first : number_of vdevs c.id ≡ low + 0 = are zero c refl in
      let there : number_of vdevs b.id ≡ low + suc k = are (suc k) b e in
      let number : number_of vdevs b.id ≡ number_of vdevs id = ap (number_of vdevs) same in
      rw (not_of vdevs c id (λ bad. absurd (omega arith))) (after_at (low + 1) k batches b u was (later vdevs low c batches are) e same)

  pub runs_at : (low k : ℕ) (batches : List Batch) (b : Batch) → InPlaces vdevs low batches → slice_get batches k ≡ Some b → b.id ≡ id → (allocs_of batches id ≡ b.allocs) × (frees_of batches id ≡ b.frees)
  runs_at low k [] b are e same = absurd (cc)
  runs_at low zero (c ∷ batches) b are e same =
      let one : c ≡ b = cc in
      rw (is_of_own c id (ap (λ (x : Batch). x.id) one ∙ same)) (ap (λ (x : Batch). x.allocs) one, ap (λ (x : Batch). x.frees) one)
  runs_at low (suc k) (c ∷ batches) b are e same =
      let first : number_of vdevs c.id ≡ low + 0 = are zero c refl in
      let there : number_of vdevs b.id ≡ low + suc k = are (suc k) b e in
      let number : number_of vdevs b.id ≡ number_of vdevs id = ap (number_of vdevs) same in
      rw (not_of vdevs c id (λ bad. absurd (omega arith))) (runs_at (low + 1) k batches b (later vdevs low c batches are) e same)

-- all metaslabs have collected the group after g

module _ (h : History) (g : ℕ) (batches : List Batch) (enough : metaslabs_in h.layout.vdevs ≤ length batches)
    (known : (k : ℕ) → k < metaslabs_in h.layout.vdevs → IsLegal (h.origin k) (h.journal k) × (settled_group (h.origin k) (h.journal k) ≤ g))
    (changes : (k : ℕ) (b : Batch) → slice_get batches k ≡ Some b → IsChange h.layout.vdevs (g + 1) k (h.origin k) (h.journal k) b)
    (units : (id : MsId) → IsIn h.layout.vdevs id → (h.origin (number_of h.layout.vdevs id)).units ≡ (row_at h.layout.vdevs id.vdev).units) where
  abbrev vdevs : List VdevRow
  vdevs = h.layout.vdevs

  abbrev o : MsId → Origin
  o id = h.origin (number_of vdevs id)

  abbrev j : MsId → List Noted
  j id = h.journal (number_of vdevs id)

  in_places : InPlaces vdevs 0 batches
  in_places k b e = let is = (changes k b e).place in omega arith

  -- of a batch
  record OfIt (b : Batch) : Type 0 where
    inside : IsIn vdevs b.id
    gained : AreMaximalRuns (is_gained (g + 1) (j b.id)) (o b.id).units b.allocs
    given : AreMaximalRuns (is_given (g + 1) (j b.id)) (o b.id).units b.frees
    legal : IsLegal (o b.id) (j b.id)
    near : settled_group (o b.id) (j b.id) ≤ g

  of_it_at : (k : ℕ) (b : Batch) → slice_get batches k ≡ Some b → OfIt b
  of_it_at k b e =
      let is = changes k b e in
      let at : k ≡ number_of vdevs b.id = sym is.place in
      let facts = known (number_of vdevs b.id) (number_within vdevs b.id is.inside) in
      record {
        inside = is.inside;
        gained = subst (λ (n : ℕ). AreMaximalRuns (is_gained (g + 1) (h.journal n)) (h.origin n).units b.allocs) at is.gained;
        given = subst (λ (n : ℕ). AreMaximalRuns (is_given (g + 1) (h.journal n)) (h.origin n).units b.frees) at is.given;
        legal = facts.0;
        near = facts.1;
      }

  -- of a metaslab
  record ItsBatch (id : MsId) : Type 0 where
    batch : Batch
    at : slice_get batches (number_of vdevs id) ≡ Some batch
    same : batch.id ≡ id
    is : OfIt batch

  its_batch : (id : MsId) → IsIn vdevs id → ItsBatch id
  its_batch id inside =
      let k = number_of vdevs id in
      let found = some_at batches k (omega (arith, enough, number_within vdevs id inside)) in
      let is = changes k found.0 found.1 in
      record { batch = found.0; at = found.1; same = one_number vdevs id found.0.id inside is.inside is.place; is = of_it_at k found.0 found.1 }

  pub all_backed : AreBacked (contents_of h g) batches
  all_backed = all_from (λ (b : Batch). IsBacked ((contents_of h g).held b.id) b) batches (λ k b e.
      let of = of_it_at k b e in one_backed (o b.id) (j b.id) g b of.legal of.near of.gained of.given)

  -- with them it holds what the next holds
  pub all_after : (image : List ℕ) (group : ℕ) → Finds image group (after (contents_of h g) batches) → Finds image group (contents_of h (g + 1))
  all_after image group found = finds_same image group (after (contents_of h g) batches) (contents_of h (g + 1)) refl (λ id u inside lt.
      let its = its_batch id inside in
      let of = its.is in
      let less : u < (o its.batch.id).units = subst (λ (i : MsId). u < (o i).units) (sym its.same) (omega (arith, units id inside)) in
      let here = one_after (o its.batch.id) (j its.batch.id) g its.batch of.legal of.near of.gained of.given u less in
      after_at vdevs id 0 (number_of vdevs id) batches its.batch u (held (o id) (j id) g u) in_places its.at its.same
      ∙ subst (λ (i : MsId). cond (covered its.batch.frees u) false (cond (covered its.batch.allocs u) true (held (o i) (j i) g u)) ≡ held (o i) (j i) (g + 1) u) its.same here) found

  module _ (table : Table) (of_vdevs : table.vdevs ≡ vdevs) (counted : AreCounted vdevs g table h.origin h.journal) where
    units_at : (id : MsId) → units_of table id ≡ (row_at vdevs id.vdev).units
    units_at id = ap (λ (v : List VdevRow). (row_at v id.vdev).units) of_vdevs

    pub all_fit : AreBatches table batches
    all_fit = record {
      each = all_from (IsBatch table) batches (λ k b e.
          let of = of_it_at k b e in
          let is = units_at b.id ∙ sym (units b.id of.inside) in
          let count = one_count (o b.id) (j b.id) g b of.legal of.near of.gained of.given in
          let row : (row_of table b.id).held ≡ units_in (held (o b.id) (j b.id) g) (o b.id).units = counted.each b.id of.inside ∙ ap (units_in (held (o b.id) (j b.id) g)) (sym (units b.id of.inside)) in
          record {
            in_table = subst (λ (v : List VdevRow). IsIn v b.id) (sym of_vdevs) of.inside;
            allocs = subst (λ (n : ℕ). AreSegs n b.allocs) (sym is) of.gained.rising;
            frees = subst (λ (n : ℕ). AreSegs n b.frees) (sym is) of.given.rising;
            least = omega (arith, count, row);
            most = omega (arith, count, row, is, units_le (held (o b.id) (j b.id) (g + 1)) (o b.id).units);
          });
      order = in_order table.vdevs 0 batches (λ k b e. ap (λ (v : List VdevRow). number_of v b.id) of_vdevs ∙ in_places k b e);
    }

    pub all_counted : (next : Table) → IsNextTable (head_of h.layout) table batches next → AreCounted vdevs (g + 1) next h.origin h.journal
    all_counted next is = record {
      each = λ id inside.
          let its = its_batch id inside in
          let of = its.is in
          let runs = runs_at vdevs id 0 (number_of vdevs id) batches its.batch in_places its.at its.same in
          let row = is.rows id (subst (λ (v : List VdevRow). IsIn v id) (sym of_vdevs) inside) in
          let held_is : (row_of next id).held + total_of its.batch.frees ≡ (row_of table id).held + total_of its.batch.allocs = rw (runs.0, runs.1) at row.held in
          let count : units_in (held (o id) (j id) (g + 1)) (o id).units + total_of its.batch.frees ≡ units_in (held (o id) (j id) g) (o id).units + total_of its.batch.allocs =
          subst (λ (i : MsId). units_in (held (o i) (j i) (g + 1)) (o i).units + total_of its.batch.frees ≡ units_in (held (o i) (j i) g) (o i).units + total_of its.batch.allocs) its.same
          (one_count (o its.batch.id) (j its.batch.id) g its.batch of.legal of.near of.gained of.given) in
          let was : (row_of table id).held ≡ units_in (held (o id) (j id) g) (o id).units = counted.each id inside ∙ ap (units_in (held (o id) (j id) g)) (sym (units id inside)) in
          let now : (row_of next id).held ≡ units_in (held (o id) (j id) (g + 1)) (o id).units = omega (arith, held_is, count, was) in
          now ∙ ap (units_in (held (o id) (j id) (g + 1))) (units id inside);
    }
