-- What an image shows of a group is certain.
use Rattle.std.proofs.Common.{◌≡◌, ℕ, ◌%◌, ◌<◌, Bool, List, sym, ◌∙◌, ap, subst, arith}
use Rattle.zms_units.specs.Segments.{covered}
use Rattle.zms_units.specs.declared.places.MsId.{MsId}
use Rattle.zms_units.specs.declared.places.VdevRow.{VdevRow}
use Rattle.zms_units.specs.declared.segments.Group.{Group}
use Rattle.zms_units.specs.declared.segments.Seg.{Seg}
use Rattle.vdev_map.specs.Numbers.{IsIn, row_at}
use Rattle.vdev_map.specs.declared.layout.Layout.{Layout}
use Rattle.vdev_map.specs.declared.layout.Head.{Head}
use Rattle.vdev_map.specs.declared.table.Table.{Table}
use Rattle.uber_ring.specs.Slots.{IsValid, IsNewest}
use Rattle.uber_ring.specs.declared.slot.Uber.{Uber}
use Rattle.uber_ring.proofs.NewestSoFar.{one_in_slot}
use Rattle.space_map.specs.Replay.{Replays, is_held}
use Rattle.space_map.specs.declared.places.MapKind.{MapKind}
use Rattle.space_map.specs.declared.places.MapKind.TheVariants.{Side}
use Rattle.space_map.specs.declared.places.Found.{Found}
use Rattle.space_map.proofs.Deciding.{runs_certain}
use Rattle.meta_store.specs.Causes.{IsAsked, asked_group}
use Rattle.meta_store.specs.Groups.{HasRows, HasGroup, Contents, Finds, layout_of}
use Rattle.meta_store.specs.Heads.{IsWholeHead}
use Rattle.meta_store.specs.Laws.{SameContents}
use Rattle.meta_store.specs.Words.{units_of, words_in, AreHeldRuns}
use Rattle.meta_store.specs.declared.causes.At.{At}
use Rattle.meta_store.proofs.KeptPlaces.{group_of_table}

pub one_of_group : (image : List ℕ) (one other : Uber) → one.group.0 ≡ other.group.0 → IsValid image one → IsValid image other → one ≡ other
one_of_group image one other same first second = one_in_slot image one other (ap (λ (n : ℕ). n % 128) same) first second

pub one_newest : (image : List ℕ) (one other : Uber) → IsNewest image one → IsNewest image other → one ≡ other
one_newest image one other first second =
    one_of_group image one other (omega (arith, first.greatest other second.valid, second.greatest one first.valid)) first.valid second.valid

pub one_asked : (image : List ℕ) (at : At) (one other : Uber) → IsAsked image at one → IsAsked image at other → one ≡ other
one_asked image at one other first second =
    let newest : first.newest ≡ second.newest = one_newest image first.newest second.newest first.is_newest second.is_newest in
    let group : one.group ≡ other.group = first.group ∙ ap (λ (u : Uber). asked_group at u.group) newest ∙ sym second.group in
    one_of_group image one other (λ i. (group i).0) first.valid second.valid

pub one_head : (bytes : List ℕ) (head other : Head) → IsWholeHead bytes head → IsWholeHead bytes other → head ≡ other
one_head bytes head other first second =
    let form : head.form ≡ other.form = first.whole ∙ sym second.whole in
    let flush : head.flush ≡ other.flush = sym first.is.flush ∙ second.is.flush in
    let log : head.log ≡ other.log = sym first.is.log ∙ second.is.log in
    (λ i. record { form = form i; flush = flush i; log = log i })

pub one_table : (image : List ℕ) (uber : Uber) (head other_head : Head) (table other : Table) → HasRows image uber head table → HasRows image uber other_head other → table ≡ other
one_table image uber head other_head table other first second = first.has_table.is ∙ sym second.has_table.is

pub one_replay : (kind : MapKind) (words : List ℕ) (u : ℕ) (one other : Bool) → Replays kind words u one → Replays kind words u other → one ≡ other
one_replay kind words u one other first second =
    sym first.says ∙ ap (λ (f : List Found). is_held f u) (runs_certain kind words first.found second.found first.decodes second.decodes) ∙ second.says

module _ (image : List ℕ) (group : ℕ) (one other : Contents) (first : Finds image group one) (second : Finds image group other) where
  same_uber : first.uber ≡ second.uber
  same_uber = one_of_group image first.uber second.uber (first.named ∙ sym second.named) first.has.valid second.has.valid

  rows_there : HasRows image second.uber first.head first.table
  rows_there = subst (λ (u : Uber). HasRows image u first.head first.table) same_uber first.has.rows

  same_table : first.table ≡ second.table
  same_table = one_table image second.uber first.head second.head first.table second.table rows_there second.has.rows

  same_head : first.head ≡ second.head
  same_head = one_head _ first.head second.head rows_there.has_head second.has.rows.has_head

  pub found_once : SameContents one other
  found_once = record {
    layout = first.layout ∙ (λ i. layout_of (same_head i) (same_table i)) ∙ sym second.layout;
    held = λ id u in_ lt.
        let here : IsIn first.table.vdevs id = subst (λ (vdevs : List VdevRow). IsIn vdevs id) (ap (λ (l : Layout). l.vdevs) first.layout) in_ in
        let units : (row_at one.layout.vdevs id.vdev).units ≡ units_of first.table id = ap (λ (l : Layout). (row_at l.vdevs id.vdev).units) first.layout in
        let below : u < units_of first.table id = omega arith in
        one_replay (Side (units_of second.table id)) (words_in image second.table id) u (one.held id u) (other.held id u)
        (subst (λ (t : Table). Replays (Side (units_of t id)) (words_in image t id) u (one.held id u)) same_table (first.found id u here below))
        (second.found id u (subst (λ (t : Table). IsIn t.vdevs id) same_table here) (omega (arith, ap (λ (t : Table). units_of t id) same_table, below)));
  }

-- the runs that the words of a metaslab hold are the units that the group finds there
pub runs_are_found : (image : List ℕ) (uber : Uber) (head : Head) (table : Table) (id : MsId) (runs : List Seg) (contents : Contents) → HasGroup image uber head table → Finds image table.group.0 contents
    → IsIn table.vdevs id → AreHeldRuns (words_in image table id) (units_of table id) runs → (u : ℕ) → u < units_of table id → covered runs u ≡ contents.held id u
runs_are_found image uber head table id runs contents has finds inside are u lt =
    let named : uber.group.0 ≡ table.group.0 = ap (λ (g : Group). g.0) (group_of_table image uber head table has.rows.has_table) in
    let same : finds.uber ≡ uber = one_of_group image finds.uber uber (finds.named ∙ sym named) finds.has.valid has.valid in
    let rows : HasRows image uber finds.head finds.table = subst (λ (v : Uber). HasRows image v finds.head finds.table) same finds.has.rows in
    let is : finds.table ≡ table = one_table image uber finds.head head finds.table table rows has.rows in
    let within : u < units_of finds.table id = omega (arith, ap (λ (t : Table). units_of t id) is, lt) in
    let says : Replays (Side (units_of table id)) (words_in image table id) u (contents.held id u) =
    subst (λ (t : Table). Replays (Side (units_of t id)) (words_in image t id) u (contents.held id u)) is (finds.found id u (subst (λ (t : Table). IsIn t.vdevs id) (sym is) inside) within) in
    one_replay (Side (units_of table id)) (words_in image table id) u (covered runs u) (contents.held id u) (record { found = are.found; decodes = are.decodes; says = sym (are.maximal.whole u lt) }) says
