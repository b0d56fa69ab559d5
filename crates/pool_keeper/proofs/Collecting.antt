-- The keeper collects a group at one metaslab.
use Rattle.std.proofs.Common.{◌≡◌, ℕ, ◌+◌, ◌<◌, None, Some, Option, Result, Ok, Err, List, [], ◌∷◌, ◌++◌, length, refl, sym, ◌∙◌, ap, subst, arith}
use Rattle.zms_units.proofs.Bools.{or_false}
use Rattle.zms_units.specs.Runs.{AreMaximalRuns}
use Rattle.zms_units.specs.declared.segments.Group.{Group}
use Rattle.zms_units.specs.declared.segments.Seg.{Seg}
use Rattle.lane_steps.proofs.Steps.{prefix_trans, quiet_notes}
use Rattle.turn_cell.specs.Notes.{IsPrefix}
use Rattle.turn_cell.specs.Lanes.{noting}
use Rattle.ms_model.specs.Origin.{Origin}
use Rattle.ms_model.specs.Parts.{right_of}
use Rattle.ms_model.specs.Units.{collected_group, settled_group}
use Rattle.ms_model.specs.Gains.{is_gained, is_given}
use Rattle.ms_model.specs.Legal.{IsLegal}
use Rattle.ms_model.specs.Events.{at_metaslab}
use Rattle.ms_model.specs.declared.notes.Act.TheVariants.{Collect}
use Rattle.ms_model.specs.declared.notes.Noted.{Noted}
use Rattle.ms_model.proofs.Histories.{legal_before, legal_push, settled_group-push, collected_group-push, is_gained-push, is_given-push}
use Rattle.vdev_map.specs.Numbers.{IsIn, number_of}
use Rattle.zms_units.specs.declared.places.VdevRow.{VdevRow}
use Rattle.meta_store.proofs.HeldRuns.{maximal_same}
use Rattle.ms_core.specs.declared.faults.MsFault.TheVariants.{Short}
use Rattle.ms_cell.specs.declared.answers.CellFault.{CellFault}
use Rattle.ms_cell.specs.declared.answers.CellFault.TheVariants.{Ms, Memory}
use Rattle.ms_cell.specs.Turns.{Turns}
use Rattle.ms_cell.specs.Passes.{Passes, Seated, origin_in, seen_in}
use Rattle.ms_cell.specs.Journey.{Journey, Turned}
use Rattle.ms_cell.specs.Answers.{CollectAnswer, IsGathered}
use Rattle.ms_cell.proofs.Groups.{settled_told, collected_told}
use Rattle.ms_cell.proofs.JournalLaws.{journeys_join, keeper_groups, stays_seated}
use Rattle.pool_keeper.specs.Answers.{Collected}
use Rattle.pool_keeper.specs.Groups.{IsKnown, IsChange}
use Rattle.pool_keeper.specs.History.{Grows}
use Rattle.pool_keeper.proofs.Growing.{grows_along}
use Rattle.zms_units.specs.declared.places.MsId.{MsId}
use Rattle.pool_keeper.proofs.Knowing.{look_at, notes_there, origin_same, step_left, step_found, step_quiet, settled_then, collected_then}

pub legal_prefix : (o : Origin) (h j : List Noted) → IsPrefix h j → IsLegal o j → IsLegal o h
legal_prefix o h j begins legal = legal_before o h begins.0 (subst (IsLegal o) (sym begins.1) legal)

abbrev pub collect_of : ℕ → Group → Noted
collect_of lane group = record { lane = lane; act = Collect group }

-- tries that gave nothing, and the collect
pub collected_now : (t : Turns) (lane number room : ℕ) (group : Group) (allocs frees : List Seg) (answer : Result (Unit {0}) CellFault) (p q r : Passes) → answer ≡ Ok tt → Seated 0 t p → number < length t.metaslabs
    → group.0 ≡ collected_group (origin_in p number) (seen_in p number) + 1 → Journey 0 [] p q → Turned 0 number (CollectAnswer lane group room allocs frees answer) q r → Collected lane number group allocs frees p r
collected_now t lane number room group allocs frees answer p q r is seated lt next calm turn =
    let told : (turn.note ≡ Some (collect_of lane group)) × IsGathered group allocs frees (origin_in q number) turn.before =
    subst (λ (a : Result (Unit {0}) CellFault). CollectAnswer lane group room allocs frees a (origin_in q number) turn.before turn.note) is turn.answer in
    let here : number < length p.metaslabs = omega (arith, seated.know.count) in
    let there : number < length q.metaslabs = omega (arith, here, calm.count) in
    let act : Journey 0 (at_metaslab number (noting turn.before (collect_of lane group)) ∷ []) q r =
    subst (λ (n : Option Noted). Journey 0 (at_metaslab number (record { before = turn.before; note = n }) ∷ []) q r) told.0 turn.journey in
    let origin : origin_in q number ≡ origin_in p number = origin_same 0 [] p q calm number here in
    let runs : IsGathered group allocs frees (origin_in p number) turn.before = subst (λ (o : Origin). IsGathered group allocs frees o turn.before) origin told.1 in
    let seen : collected_group (origin_in p number) (seen_in q number) ≡ collected_group (origin_in p number) (seen_in p number) = collected_then [] p q calm (origin_in p number) number here [] refl in
    let found : collected_group (origin_in p number) turn.before ≡ collected_group (origin_in p number) (seen_in q number) =
    collected_told (origin_in p number) turn.before (seen_in q number) (quiet_notes right_of 0 (seen_in q number) turn.before (step_quiet 0 number _ q r act there)) in
    record {
      before = turn.before;
      journey = journeys_join 0 [] (at_metaslab number (noting turn.before (collect_of lane group)) ∷ []) p q r calm act;
      runs = runs;
      legal = legal_push (origin_in p number) turn.before (collect_of lane group) runs.legal (next ∙ ap (λ (n : ℕ). n + 1) (sym (found ∙ seen)));
    }

-- what is known then of that metaslab, and the batch

module _ (lane number : ℕ) (group : Group) (allocs frees : List Seg) (p q : Passes) (o : Origin) (g : ℕ) (mark : List Noted) (done : Collected lane number group allocs frees p q) (lt : number < length p.metaslabs)
    (same : origin_in p number ≡ o) (next : group.0 ≡ g + 1) (was : IsKnown g g o mark (seen_in p number)) where
  abbrev pub collect : Noted
  collect = collect_of lane group

  abbrev pub marked : List Noted
  marked = done.before ++ collect ∷ []

  legal : IsLegal o marked
  legal = subst (λ (x : Origin). IsLegal x marked) same done.legal

  before_settled : settled_group o done.before ≡ g
  before_settled = settled_told o done.before (seen_in p number) (quiet_notes right_of 0 (seen_in p number) done.before (step_quiet 0 number _ p q done.journey lt)) ∙ was.seen_settled

  pub known_next : IsKnown g (g + 1) o marked (seen_in q number)
  known_next = record {
    begins = step_left 0 number (noting done.before collect) p q done.journey lt;
    legal = legal;
    mark_settled = omega (arith, settled_group-push o done.before collect, before_settled);
    mark_collected = collected_group-push o done.before collect ∙ next;
    seen_settled = settled_then _ p q done.journey o number lt (collect ∷ []) (notes_there number done.before collect) ∙ was.seen_settled;
    seen_collected = collected_then _ p q done.journey o number lt (collect ∷ []) (notes_there number done.before collect) ∙ next;
  }

  pub mark_grows : Grows o mark marked
  mark_grows = grows_along o mark marked
      (prefix_trans mark (seen_in p number) marked was.begins (prefix_trans (seen_in p number) done.before marked (step_found 0 number _ p q done.journey lt) (collect ∷ [], refl))) legal

  pub change_next : (vdevs : List VdevRow) (id : MsId) → IsIn vdevs id → number_of vdevs id ≡ number → IsChange vdevs (g + 1) number o marked (record { id = id; allocs = allocs; frees = frees })
  change_next vdevs id inside place =
      let gained : AreMaximalRuns (is_gained group.0 done.before) o.units allocs = subst (λ (x : Origin). AreMaximalRuns (is_gained group.0 done.before) x.units allocs) same done.runs.gained in
      let given : AreMaximalRuns (is_given group.0 done.before) o.units frees = subst (λ (x : Origin). AreMaximalRuns (is_given group.0 done.before) x.units frees) same done.runs.given in
      record {
        inside = inside;
        place = place;
        gained = subst (λ (n : ℕ). AreMaximalRuns (is_gained n marked) o.units allocs) next
            (maximal_same (is_gained group.0 done.before) (is_gained group.0 marked) o.units allocs (λ u. sym (is_gained-push group.0 done.before collect u)) gained);
        given = subst (λ (n : ℕ). AreMaximalRuns (is_given n marked) o.units frees) next
            (maximal_same (is_given group.0 done.before) (is_given group.0 marked) o.units frees (λ u. sym (is_given-push group.0 done.before collect u ∙ or_false (is_given group.0 done.before u))) given);
      }

-- a collect that gave nothing

pub still_collected : (t : Turns) (p q : Passes) (k : ℕ) → Seated 0 t p → k < length t.metaslabs → Journey 0 [] p q → collected_group (origin_in q k) (seen_in q k) ≡ collected_group (origin_in p k) (seen_in p k)
still_collected t p q k seated lt calm = (keeper_groups [] p q k calm (omega (arith, seated.know.count))).0

pub collect_seated : (t : Turns) (number : ℕ) (Answer : Origin → List Noted → Option Noted → Type 0) (note : Unit {0}) (p q : Passes) → Seated 0 t p → Turned 0 number Answer p q → Seated 0 t q
collect_seated t number Answer note p q seated turn = stays_seated 0 t _ p q seated turn.journey

quiet_answer : (lane : ℕ) (group : Group) (room : ℕ) (allocs frees : List Seg) (fault : CellFault) (o : Origin) (h : List Noted) (added : Option Noted) → CollectAnswer lane group room allocs frees (Err fault) o h added
    → (added ≡ None) × ((allocs ≡ []) × (frees ≡ []))
quiet_answer lane group room allocs frees (Ms (Short need)) o h added told = (told.0, told.1.1)
quiet_answer lane group room allocs frees Memory o h added told = told
quiet_answer lane group room allocs frees _ o h added told = absurd told

pub quiet_collect : (lane number room : ℕ) (group : Group) (allocs frees : List Seg) (fault : CellFault) (p q : Passes) → Turned 0 number (CollectAnswer lane group room allocs frees (Err fault)) p q
    → Journey 0 [] p q × ((allocs ≡ []) × (frees ≡ []))
quiet_collect lane number room group allocs frees fault p q turn =
    let told = quiet_answer lane group room allocs frees fault (origin_in p number) turn.before turn.note turn.answer in
    (look_at 0 number turn.before p q (subst (λ (n : Option Noted). Journey 0 (at_metaslab number (record { before = turn.before; note = n }) ∷ []) p q) told.0 turn.journey), told.1)
