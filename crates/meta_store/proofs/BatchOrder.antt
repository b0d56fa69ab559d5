-- Batches in order: which one is that of a metaslab.
use Rattle.std.proofs.Common.{◌≡◌, inl, inr, ℕ, zero, suc, ◌+◌, ◌<◌, ◌≤◌, Bool, true, false, List, [], ◌∷◌, length, get_or, drop, refl, sym, ◌∙◌, ap, subst, arith}
use Rattle.std.specs.Prelude.{◌⊎◌, ◌==◌, if◌then◌else◌}
use Rattle.std.specs.List.{All}
use Rattle.std.proofs.lemmas.Bool.{cases_lt, and_parts, eqb-true}
use Rattle.std.proofs.lemmas.Bool.Decides.{nat_tests}
use Rattle.std.proofs.lemmas.List.{drop_more, drop_all}
use Rattle.std.proofs.lemmas.List.Elements.{All-head, All-tail}
use Rattle.zms_units.specs.declared.places.MsId.{MsId}
use Rattle.zms_units.specs.declared.places.VdevRow.{VdevRow}
use Rattle.zms_units.specs.Segments.{covered, AreSegs}
use Rattle.zms_units.specs.declared.segments.Seg.{Seg}
use Rattle.vdev_map.specs.Numbers.{IsIn, number_of}
use Rattle.vdev_map.specs.declared.layout.Batch.{Batch}
use Rattle.vdev_map.specs.declared.table.Table.{Table}
use Rattle.vdev_map.proofs.InOrder.{one_number}
use Rattle.meta_store.specs.Batches.{IsBatch, AreInOrder, AreBatches, AreBacked, IsBacked, is_of, after_batches}
use Rattle.meta_store.specs.Groups.{Contents}
use Rattle.meta_store.specs.NextRows.{is_first_of, IsRest}
use Rattle.meta_store.specs.NextWords.{allocs_of, frees_of, is_held_after, AreChanges}
use Rattle.meta_store.specs.Words.{row_of, units_of}

pub of_it : (batch : Batch) (id : MsId) → is_of batch id ≡ true → batch.id ≡ id
of_it batch id is =
    let both = and_parts (batch.id.vdev == id.vdev) (batch.id.index == id.index) is in
    let vdev : batch.id.vdev ≡ id.vdev = eqb-true batch.id.vdev id.vdev both.0 in
    let index : batch.id.index ≡ id.index = eqb-true batch.id.index id.index both.1 in
    λ i. record { vdev = vdev i; index = index i }

-- by whether the first is of the metaslab
abbrev chosen : Bool → List Seg → List Seg → List Seg
chosen b first rest = if b then first else rest

module _ (table : Table) where
  abbrev vdevs : List VdevRow
  vdevs = table.vdevs

  abbrev Each : List Batch → Type 0
  Each batches = All (IsBatch table) batches

  -- no batch of a metaslab that is passed
  none_later : (low : ℕ) (batches : List Batch) (id : MsId) → Each batches → AreInOrder vdevs low batches → IsIn vdevs id → number_of vdevs id < low → (allocs_of batches id ≡ []) × (frees_of batches id ≡ [])
  none_later low [] id each order in_ passed = (refl, refl)
  none_later low (batch ∷ batches) id each order in_ passed =
      let rest = none_later (number_of vdevs batch.id + 1) batches id (All-tail (IsBatch table) batch batches each) order.1 in_ (omega (arith, order.0)) in
      by_test (is_of batch id) refl rest
    where
      by_test : (b : Bool) → is_of batch id ≡ b → (allocs_of batches id ≡ []) × (frees_of batches id ≡ []) → (chosen b batch.allocs (allocs_of batches id) ≡ []) × (chosen b batch.frees (frees_of batches id) ≡ [])
      by_test true is rest = absurd (let same : number_of vdevs batch.id ≡ number_of vdevs id = ap (number_of vdevs) (of_it batch id is) in omega (arith, order.0))
      by_test false is rest = rest

  -- the runs of a metaslab whose batch is the first, or that has none
  pub first_runs : (rest : List Batch) (id : MsId) → Each rest → AreInOrder vdevs (number_of vdevs id) rest → IsIn vdevs id → is_first_of rest id ≡ false → (allocs_of rest id ≡ []) × (frees_of rest id ≡ [])
  first_runs [] id each order in_ not_first = (refl, refl)
  first_runs (batch ∷ batches) id each order in_ not_first = rw not_first (elim (cases_lt (number_of vdevs id) (number_of vdevs batch.id)) [
    | inl later ↦ none_later (number_of vdevs batch.id + 1) batches id (All-tail (IsBatch table) batch batches each) order.1 in_ (omega arith)
    | inr here ↦ none_later (number_of vdevs batch.id + 1) batches id (All-tail (IsBatch table) batch batches each) order.1 in_ (omega (arith, order.0))
  ])

  -- what is left once a metaslab is done
  abbrev left : Bool → List Batch → List Batch
  left b [] = []
  left b (batch ∷ batches) = if b then batches else batch ∷ batches

  pub record IsLeft (rest after : List Batch) (number : ℕ) : Type 0 where
    pub order : AreInOrder vdevs number after
    pub allocs : (id : MsId) → IsIn vdevs id → number ≤ number_of vdevs id → allocs_of rest id ≡ allocs_of after id
    pub frees : (id : MsId) → IsIn vdevs id → number ≤ number_of vdevs id → frees_of rest id ≡ frees_of after id

  module _ (batch : Batch) (batches : List Batch) (id : MsId) (each : Each (batch ∷ batches)) (order : AreInOrder vdevs (number_of vdevs id) (batch ∷ batches)) (in_ : IsIn vdevs id) where
    batch_in : IsIn vdevs batch.id
    batch_in = let b = All-head (IsBatch table) batch batches each in b.in_table

    module _ (is : is_of batch id ≡ true) where
      number_is : number_of vdevs batch.id ≡ number_of vdevs id
      number_is = ap (number_of vdevs) (of_it batch id is)

      passes : (other : MsId) → number_of vdevs id + 1 ≤ number_of vdevs other → is_of batch other ≡ false
      passes other later = by_test (is_of batch other) refl where
        by_test : (b : Bool) → is_of batch other ≡ b → b ≡ false
        by_test true same = absurd (let number : number_of vdevs batch.id ≡ number_of vdevs other = ap (number_of vdevs) (of_it batch other same) in omega (arith, number_is))
        by_test false same = refl

      pub left_taken : IsLeft (batch ∷ batches) batches (number_of vdevs id + 1)
      left_taken = record {
        order = subst (λ (n : ℕ). AreInOrder vdevs (n + 1) batches) number_is order.1;
        allocs = λ other other_in later. ap (λ (b : Bool). chosen b batch.allocs (allocs_of batches other)) (passes other later);
        frees = λ other other_in later. ap (λ (b : Bool). chosen b batch.frees (frees_of batches other)) (passes other later);
      }

    pub left_kept : is_of batch id ≡ false → IsLeft (batch ∷ batches) (batch ∷ batches) (number_of vdevs id + 1)
    left_kept not_it = record {
      order = (
        elim (cases_lt (number_of vdevs id) (number_of vdevs batch.id)) [
          | inl later ↦ omega arith
          | inr here ↦
              let same : batch.id ≡ id = one_number vdevs id batch.id in_ batch_in (let e : number_of vdevs batch.id ≡ number_of vdevs id = omega (arith, order.0) in e) in
              absurd (differs same)
        ],
        order.1,
      );
      allocs = λ other other_in later. refl;
      frees = λ other other_in later. refl;
    } where
      own : (n : ℕ) → (n == n) ≡ true
      own n = grind (arith, nat_tests)

      differs : batch.id ≡ id → ⊥
      differs same =
          let it : is_of batch batch.id ≡ true = rw (own batch.id.vdev, own batch.id.index) refl in
          let here : is_of batch id ≡ true = subst (λ (i : MsId). is_of batch i ≡ true) same it in
          let wrong : true ≡ false = sym here ∙ not_it in cc

  pub rest_none : (batches : List Batch) → AreBatches table batches → IsRest vdevs batches 0 0
  rest_none batches are = record { order = are.order; allocs = λ id in_ le. refl; frees = λ id in_ le. refl }

  module _ (all : List Batch) (next : ℕ) (id : MsId) (in_ : IsIn vdevs id) (rests : IsRest vdevs all (number_of vdevs id) next) where
    pub rest_left : (after : ℕ) → IsLeft (drop next all) (drop after all) (number_of vdevs id + 1) → IsRest vdevs all (number_of vdevs id + 1) after
    rest_left after is = record {
      order = is.order;
      allocs = λ other other_in later. rests.allocs other other_in (omega arith) ∙ is.allocs other other_in later;
      frees = λ other other_in later. rests.frees other other_in (omega arith) ∙ is.frees other other_in later;
    }

    each_drop : (n : ℕ) (batches : List Batch) → Each batches → Each (drop n batches)
    each_drop zero batches each = each
    each_drop (suc n) [] each = each
    each_drop (suc n) (batch ∷ batches) each = each_drop n batches (All-tail (IsBatch table) batch batches each)

    abbrev step_by : Bool → ℕ
    step_by b = if b then next + 1 else next

    pub rest_more : (d : Batch) → Each all → IsRest vdevs all (number_of vdevs id + 1) (if is_first_of (drop next all) id then next + 1 else next)
    rest_more d each = elim (cases_lt next (length all)) [
      | inl inside ↦
          let batch = get_or all next d in
          let here : drop next all ≡ batch ∷ drop (next + 1) all = drop_more all next d inside in
          let first : is_first_of (drop next all) id ≡ is_of batch id = ap (λ (bs : List Batch). is_first_of bs id) here in
          let order : AreInOrder vdevs (number_of vdevs id) (batch ∷ drop (next + 1) all) = subst (λ (bs : List Batch). AreInOrder vdevs (number_of vdevs id) bs) here rests.order in
          let its : Each (batch ∷ drop (next + 1) all) = subst Each here (each_drop next all each) in
          subst (λ (b : Bool). IsRest vdevs all (number_of vdevs id + 1) (step_by b)) (sym first) (by_test batch here its order (is_of batch id) refl)
      | inr past ↦
          let none : drop next all ≡ [] = drop_all next all past in
          subst (λ (b : Bool). IsRest vdevs all (number_of vdevs id + 1) (step_by b)) (sym (ap (λ (bs : List Batch). is_first_of bs id) none))
          (rest_left next (record {
            order = subst (λ (bs : List Batch). AreInOrder vdevs (number_of vdevs id + 1) bs) (sym none) tt;
            allocs = λ other other_in later. refl;
            frees = λ other other_in later. refl;
          }))
    ] where
      by_test : (batch : Batch) → drop next all ≡ batch ∷ drop (next + 1) all → Each (batch ∷ drop (next + 1) all) → AreInOrder vdevs (number_of vdevs id) (batch ∷ drop (next + 1) all)
          → (b : Bool) → is_of batch id ≡ b → IsRest vdevs all (number_of vdevs id + 1) (step_by b)
      by_test batch here its order true is =
          rest_left (next + 1) (subst (λ (bs : List Batch). IsLeft bs (drop (next + 1) all) (number_of vdevs id + 1)) (sym here) (left_taken batch (drop (next + 1) all) id its order in_ is))
      by_test batch here its order false is =
          rest_left next (subst (λ (bs : List Batch). IsLeft bs bs (number_of vdevs id + 1)) (sym here) (left_kept batch (drop (next + 1) all) id its order in_ is))

    -- the runs where it is the first
    pub taken_runs : (d : Batch) → is_first_of (drop next all) id ≡ true → next < length all → (allocs_of all id ≡ (get_or all next d).allocs) × (frees_of all id ≡ (get_or all next d).frees)
    taken_runs d first inside =
        let batch = get_or all next d in
        let here : drop next all ≡ batch ∷ drop (next + 1) all = drop_more all next d inside in
        let is : is_of batch id ≡ true = sym (ap (λ (bs : List Batch). is_first_of bs id) here) ∙ first in (
          rests.allocs id in_ (omega arith) ∙ ap (λ (bs : List Batch). allocs_of bs id) here ∙ ap (λ (b : Bool). chosen b batch.allocs (allocs_of (drop (next + 1) all) id)) is,
          rests.frees id in_ (omega arith) ∙ ap (λ (bs : List Batch). frees_of bs id) here ∙ ap (λ (b : Bool). chosen b batch.frees (frees_of (drop (next + 1) all) id)) is,
        )

    pub no_runs : Each all → is_first_of (drop next all) id ≡ false → (allocs_of all id ≡ []) × (frees_of all id ≡ [])
    no_runs each not_first =
        let none = first_runs (drop next all) id (each_drop next all each) rests.order in_ not_first in
        (rests.allocs id in_ (omega arith) ∙ none.0, rests.frees id in_ (omega arith) ∙ none.1)

    pub first_inside : is_first_of (drop next all) id ≡ true → next < length all
    first_inside first = elim (cases_lt next (length all)) [
      | inl inside ↦ inside
      | inr past ↦ let wrong : true ≡ false = sym first ∙ ap (λ (bs : List Batch). is_first_of bs id) (drop_all next all past) in absurd (cc)
    ]

  -- a batch's runs are changes
  pub batch_changes : (batch : Batch) (id : MsId) → IsBatch table batch → batch.id ≡ id → AreChanges table id batch.allocs batch.frees
  batch_changes batch id is same = subst (λ (i : MsId). AreChanges table i batch.allocs batch.frees) same (record { allocs_lie = is.allocs; frees_lie = is.frees; least = is.least; most = is.most })

  pub no_changes : (id : MsId) → (row_of table id).held ≤ units_of table id → AreChanges table id [] []
  no_changes id few = record { allocs_lie = omega arith; frees_lie = omega arith; least = omega arith; most = omega arith }

  -- the runs of a metaslab lie in it
  pub runs_lie : (batches : List Batch) (id : MsId) → Each batches → AreSegs (units_of table id) (allocs_of batches id) × AreSegs (units_of table id) (frees_of batches id)
  runs_lie [] id each = (omega arith, omega arith)
  runs_lie (batch ∷ batches) id each = by_test (is_of batch id) refl (runs_lie batches id (All-tail (IsBatch table) batch batches each)) where
    by_test : (b : Bool) → is_of batch id ≡ b → AreSegs (units_of table id) (allocs_of batches id) × AreSegs (units_of table id) (frees_of batches id)
        → AreSegs (units_of table id) (chosen b batch.allocs (allocs_of batches id)) × AreSegs (units_of table id) (chosen b batch.frees (frees_of batches id))
    by_test true is rest = let changes = batch_changes batch id (All-head (IsBatch table) batch batches each) (of_it batch id is) in (changes.allocs_lie, changes.frees_lie)
    by_test false is rest = rest

-- a unit after the batches
pub after_is : (batches : List Batch) (id : MsId) (u : ℕ) (held : Bool) → after_batches batches id u held ≡ is_held_after (allocs_of batches id) (frees_of batches id) u held
after_is [] id u held = refl
after_is (batch ∷ batches) id u held = by_test (is_of batch id) (after_is batches id u held) where
  by_test : (b : Bool) → after_batches batches id u held ≡ is_held_after (allocs_of batches id) (frees_of batches id) u held → (if b then is_held_after batch.allocs batch.frees u held else after_batches batches id u held) ≡ is_held_after (chosen b batch.allocs (allocs_of batches id)) (chosen b batch.frees (frees_of batches id)) u held
  by_test true rest = refl
  by_test false rest = rest

-- no unit is allocated that is held, and none is freed that is neither
pub record AreBackedRuns (held : ℕ → Bool) (allocs frees : List Seg) : Type 0 where
  pub fresh : (u : ℕ) → covered allocs u ≡ true → held u ≡ false
  pub freed : (u : ℕ) → covered frees u ≡ true → (held u ≡ true) ⊎ (covered allocs u ≡ true)

pub backed_runs : (contents : Contents) (batches : List Batch) (id : MsId) → AreBacked contents batches → AreBackedRuns (contents.held id) (allocs_of batches id) (frees_of batches id)
backed_runs contents [] id backed = record { fresh = λ u is. let wrong : false ≡ true = is in cc; freed = λ u is. let wrong : false ≡ true = is in cc }
backed_runs contents (batch ∷ batches) id backed = by_test (is_of batch id) refl (backed_runs contents batches id (All-tail (λ b. IsBacked (contents.held b.id) b) batch batches backed)) where
  by_test : (b : Bool) → is_of batch id ≡ b → AreBackedRuns (contents.held id) (allocs_of batches id) (frees_of batches id)
      → AreBackedRuns (contents.held id) (chosen b batch.allocs (allocs_of batches id)) (chosen b batch.frees (frees_of batches id))
  by_test true is rest =
      let own = All-head (λ b. IsBacked (contents.held b.id) b) batch batches backed in
      subst (λ (i : MsId). AreBackedRuns (contents.held i) batch.allocs batch.frees) (of_it batch id is) (record { fresh = own.allocs; freed = own.frees })
  by_test false is rest = rest

-- all that the batches do to a metaslab
pub all_changes : (table : Table) (batches : List Batch) (id : MsId) → All (IsBatch table) batches → (row_of table id).held ≤ units_of table id → AreChanges table id (allocs_of batches id) (frees_of batches id)
all_changes table [] id each few = no_changes table id few
all_changes table (batch ∷ batches) id each few = by_test (is_of batch id) refl (all_changes table batches id (All-tail (IsBatch table) batch batches each) few) where
  by_test : (b : Bool) → is_of batch id ≡ b → AreChanges table id (allocs_of batches id) (frees_of batches id) → AreChanges table id (chosen b batch.allocs (allocs_of batches id)) (chosen b batch.frees (frees_of batches id))
  by_test true is rest = batch_changes table batch id (All-head (IsBatch table) batch batches each) (of_it batch id is)
  by_test false is rest = rest
