-- The closed journals of a pool whose lanes came back.
use Rattle.std.proofs.Common.{◌≡◌, ℕ, ◌+◌, ◌-◌, ◌≤◌, List, [], Option, Some, None, map, length, refl, sym, ap, ◌∙◌, subst, arith}
use Rattle.std.specs.Prelude.{slice_get}
use Rattle.std.specs.List.{All, Contains}
use Rattle.std.proofs.lemmas.Option.{slice_get_within}
use Rattle.zms_units.specs.declared.segments.Seg.{Seg}
use Rattle.zms_units.specs.declared.places.VdevRow.{VdevRow}
use Rattle.zms_dev.specs.Disk.{DiskState}
use Rattle.vdev_map.specs.Numbers.{metaslabs_in}
use Rattle.turn_cell.specs.Known.{Known, TableId}
use Rattle.turn_cell.specs.Notes.{Own, notes_at}
use Rattle.turn_cell.specs.Lanes.{Follows}
use Rattle.turn_cell.proofs.Lanes.{ready_after, went_settled}
use Rattle.turn_passes.specs.Parts.{IsFresh, IsRest}
use Rattle.turn_passes.proofs.Journals.{all_at_most}
use Rattle.turn_passes.proofs.Pairs.{some_at}
use Rattle.turn_passes.proofs.Parts.{has_along, owned_in, has_settled, unused_none, ready_fresh}
use Rattle.ms_model.specs.declared.notes.Noted.{Noted}
use Rattle.ms_core.specs.Standing.{standing_of}
use Rattle.ms_core.specs.declared.kept.Standing.{Standing}
use Rattle.ms_cell.specs.Turns.{StandsAt}
use Rattle.ms_cell.specs.Passes.{Passes, AreFresh, HaveAll, StandAlike as CellsStandAlike}
use Rattle.ms_cell.proofs.Gathering.{seated_idle, rests_idle}
use Rattle.ms_cell.proofs.JournalLaws.{each_journey, of_holders, have_all_along}
use Rattle.class_model.specs.declared.origin.ClassOrigin.{ClassOrigin}
use Rattle.class_model.specs.Legal.{IsClassLegal}
use Rattle.class_group.specs.Turns.{StandsAt as ClassStandsAt, origin_from as class_origin_from}
use Rattle.class_group.specs.Passes.{ClassKnown, AreFresh as ClassesAreFresh}
use Rattle.class_group.proofs.JournalLaws.{each_journey as class_each_journey, of_holders as class_of_holders}
use Rattle.lane_passes.specs.Lanes.{Ground, ground_of, cell_events, class_steps, fixed_at}
use Rattle.lane_passes.proofs.Journeys.{fixed_there, fixed_in}
use Rattle.meta_store.specs.Stores.{StoreState}
use Rattle.pool_keeper.specs.Notes.{KeeperNoted, keeper_right}
use Rattle.pool_keeper.specs.declared.keeper.Start.{Start}
use Rattle.range_tree.specs.declared.trees.RangeTrees.{RangeTrees}
use Rattle.cmd_text.specs.declared.script.Command.{Command}
use Rattle.lane_run.specs.Answers.{paired}
use Rattle.lane_run.specs.Lines.{Lines}
use Rattle.lane_run.specs.Runs.{commands_of}
use Rattle.lane_run.specs.declared.replies.Reply.{Reply}
use Rattle.pool_seats.specs.Seats.{AreSeated, IsNewLane, IsPrepared}
use Rattle.pool_seats.specs.Joining.{AreIdleRest, Keeps}
use Rattle.pool_seats.specs.Closing.{IsClosedPool}
use Rattle.pool_seats.specs.declared.closing.Closed.{Closed}
use Rattle.pool_seats.specs.declared.opening.Prepared.{Prepared}
use Rattle.pool_seats.specs.declared.pool.Rest.{Rest}
use Rattle.pool_seats.specs.declared.pool.Seat.{Seat}
use Rattle.pool_seats.proofs.Alike.{cells_then, cells_back, classes_then, classes_back}
use Rattle.pool_lanes.specs.Lanes.{ground_in, IsOfStore, AreLegal, AreWithin, IsBacked, AreBacked}
use Rattle.pool_lanes.specs.Ending.{ended_by}
use Rattle.pool_lanes.specs.Merging.{replies_of}
use Rattle.pool_lanes.specs.Returning.{IsReplied, AreReplied}
use Rattle.pool_lanes.proofs.Grounds.{alike_stands, classes_stand, stands_of}
use Rattle.pool_lanes.proofs.Numbering.{all_from_one}

abbrev base_from : Option Standing → List Seg
base_from None = []
base_from (Some s) = s.base

-- the pool as it was prepared, the passes of the rest and of the keeper before its lanes began and behind them, and the closed pool
module _ {D : Type 0} (state : D → DiskState) (faults : D → ℕ) (store : StoreState D) (bases : List (List Seg)) (lanes : ℕ) (p : Prepared) (prepared : IsPrepared store bases lanes p)
    (rest : Rest) (before after zero : Known KeeperNoted (Start D RangeTrees)) (keeps : Keeps p.rest before rest after) (idle : AreIdleRest p.pool rest)
    (c : Closed D) (closed : IsClosedPool state faults p.pool rest after zero c) where
  abbrev pub origins : List (Option ClassOrigin)
  origins = map (λ (x : ClassKnown). x.fixed) rest.classes

  vdevs : p.pool.cells.vdevs ≡ store.layout.vdevs
  vdevs = prepared.begins.vdevs

  rest_has : HaveAll closed.last p.rest.cells
  rest_has = have_all_along p.pool.cells p.rest.cells rest.cells closed.last (rests_idle (lanes + 1) p.pool.cells p.rest.cells prepared.rights.cells) idle.cells keeps.rest.cells closed.has

  last_alike : CellsStandAlike closed.last p.rest.cells
  last_alike = cells_then p.rest.cells rest.cells closed.last keeps.rest.alike.cells closed.alike

  -- what passes that stand for what the prepared ones do say of the closed pool
  pub stands : (q : Passes) → CellsStandAlike q p.rest.cells → map (λ (x : Known Noted Standing). x.fixed) q.metaslabs ≡ stands_of c.metaslabs.items
  stands q alike = alike_stands p.pool.cells q closed.last c.gate c.metaslabs.items (cells_then q p.rest.cells closed.last (cells_back p.rest.cells q alike) last_alike) closed.cells

  class_there : (k : ℕ) (x : ClassKnown) → slice_get rest.classes k ≡ Some x → fixed_at (slice_get origins k) ≡ x.fixed
  class_there k x e = fixed_there rest.classes k ∙ ap fixed_in e

  pub of_store : length p.pool.classes.cells ≡ 4 → IsOfStore store bases (ended_by c origins)
  of_store four = record {
    opened = closed.cells.opened ∙ prepared.begins.opened;
    count = closed.cells.count ∙ (prepared.begins.count ∙ ap metaslabs_in vdevs);
    stand = λ k m e.
        subst (λ (v : List VdevRow). StandsAt v store.table.group.0 k (standing_of m)) vdevs
        (subst (λ (n : ℕ). StandsAt p.pool.cells.vdevs n k (standing_of m)) prepared.begins.opened (closed.cells.known k m e));
    bases_are = record {
      at = λ k base m e f.
          let lt = slice_get_within c.metaslabs.items k m f in
          let x = some_at p.rest.cells.metaslabs k (omega (arith, lt, closed.cells.count, prepared.rights.cells.know.count)) in
          let y = some_at closed.last.metaslabs k (omega (arith, lt, closed.cells.count, closed.cells.passes)) in
          let s = prepared.bases_stand.each.at k base x.0 e x.1 in
          ap base_from (sym (closed.cells.stand.at k y.0 m y.1 f) ∙ (last_alike.each.at k x.0 y.0 x.1 y.1 ∙ s.1.0)) ∙ s.1.1;
    };
    weights = p.pool.classes.weights;
    first = prepared.weights;
    four = closed.classes.count ∙ four;
    classes = λ k j e.
        let x = some_at rest.classes k (omega (arith, slice_get_within c.classes.items k j e, closed.classes.count, closed.classes.passes)) in
        subst (λ (o : Option ClassOrigin). ClassStandsAt store.layout.vdevs p.pool.classes.weights k (class_origin_from o)) (sym (class_there k x.0 x.1))
        (subst (λ (v : List VdevRow). ClassStandsAt v p.pool.classes.weights k (class_origin_from x.0.fixed)) (prepared.one ∙ vdevs) (closed.classes.each.at k x.0 j x.1 e).stands);
  }

  pub are_legal : AreLegal (ended_by c origins)
  are_legal = record {
    gate = closed.cells.gate_legal;
    metaslabs = closed.cells.lawful;
    classes = λ k j e.
        let x = some_at rest.classes k (omega (arith, slice_get_within c.classes.items k j e, closed.classes.count, closed.classes.passes)) in
        let at = closed.classes.each.at k x.0 j x.1 e in (
          subst (λ (o : Option ClassOrigin). IsClassLegal (class_origin_from o) j.notes) (sym (class_there k x.0 x.1)) at.back.legal,
          at.class,
        );
  }

  module _ (turn : TableId) (rights : IsRest (lanes + 1) turn before) (none : IsFresh 0 turn zero) where
    zero_none : notes_at keeper_right 0 closed.keeper.notes.items ≡ []
    zero_none =
        let mine : Contains zero.own (0, []) = subst (λ (o : Own KeeperNoted). Contains o (0, [])) (sym none.own) (0, omega arith, refl) in
        let there = closed.kept.has_zero.rights (0, []) mine in
        sym (owned_in keeper_right closed.kept.last.own closed.keeper.notes.items (0, []) closed.kept.ends.owns there.0 there.1 there.2)

    keeper_within : All (λ (n : KeeperNoted). (1 ≤ n.0) × (n.0 ≤ lanes)) closed.keeper.notes.items
    keeper_within =
        let most = all_at_most keeper_right lanes closed.keeper.notes.items closed.kept.rights
        (λ r above below.
        unused_none keeper_right (lanes + 1) r turn before closed.kept.last closed.keeper.notes.items (omega (arith, above)) below rights (has_along before after closed.kept.last closed.kept.has keeps.has) closed.kept.ends) in
        let least = all_from_one keeper_right closed.keeper.notes.items zero_none in
        λ i n there. (least i n there, most i n there)

    pub are_within : AreWithin lanes (ended_by c origins)
    are_within = record {
      cells = of_holders lanes p.pool.cells p.rest.cells closed.last c.gate c.metaslabs.items prepared.rights.cells rest_has closed.cells;
      classes = class_of_holders lanes p.pool.classes p.rest.classes rest.classes c.classes.items prepared.rights.classes keeps.rest.classes closed.classes;
      keeper = subst (All (λ (n : KeeperNoted). (1 ≤ n.0) × (n.0 ≤ lanes))) closed.notes keeper_within;
    }

    -- a lane that came back
    module _ (commands : List Command) (replies : List Reply) (k : ℕ) (s : Seat D) (new : IsNewLane (k + 1) p.pool p.rest s.passes) (fresh : IsFresh (k + 1) turn s.keeper) (r : IsReplied p.pool turn commands rest after replies s) where
      lane_is : k + 1 ≡ s.passes.lane
      lane_is = sym new.lane_is

      ground_is : ground_of p.pool.cells s.passes ≡ ground_in store (ended_by c origins)
      ground_is =
          ap (λ (v : List VdevRow). record { vdevs = v; opened = p.pool.cells.opened; metaslabs = map (λ x. x.fixed) s.passes.cells.metaslabs; classes = map (λ x. x.fixed) s.passes.classes }) vdevs
          ∙ (ap (λ (n : ℕ). record { vdevs = store.layout.vdevs; opened = n; metaslabs = map (λ x. x.fixed) s.passes.cells.metaslabs; classes = map (λ x. x.fixed) s.passes.classes }) prepared.begins.opened
          ∙ (ap (λ (l : List (Option Standing)). record { vdevs = store.layout.vdevs; opened = store.table.group.0; metaslabs = l; classes = map (λ x. x.fixed) s.passes.classes }) (stands s.passes.cells new.cells_alike)
          ∙ ap (λ (l : List (Option ClassOrigin)). record { vdevs = store.layout.vdevs; opened = store.table.group.0; metaslabs = stands_of c.metaslabs.items; classes = l })
          (classes_stand rest.classes s.passes.classes (classes_then rest.classes p.rest.classes s.passes.classes (classes_back p.rest.classes rest.classes keeps.rest.alike.classes) new.classes_alike))))

      pub seat_backed : IsBacked s.passes.lane (ground_in store (ended_by c origins)) (paired (commands_of s.passes.lane commands) (replies_of s.passes.lane replies)) (ended_by c origins)
      seat_backed =
          let mine : IsFresh s.passes.lane turn s.keeper = subst (λ (n : ℕ). IsFresh n turn s.keeper) lane_is fresh in
          let ready = ready_after keeper_right s.passes.lane turn r.steps s.keeper r.last.keeper (ready_fresh keeper_right s.passes.lane turn s.keeper mine) r.went in
          record {
            events = r.events;
            steps = r.steps;
            lines = subst (λ (g : Ground). Lines s.passes.lane g (paired (commands_of s.passes.lane commands) (replies_of s.passes.lane replies)) r.events r.steps) ground_is r.lines;
            cells =
                each_journey s.passes.lane p.pool.cells (cell_events r.events) s.passes.cells r.last.passes.cells closed.last c.gate c.metaslabs.items
                (subst (λ (n : ℕ). AreFresh n p.pool.cells s.passes.cells) lane_is new.cells) r.journey.cells
                (have_all_along p.pool.cells r.last.passes.cells rest.cells closed.last (seated_idle r.last.passes.lane p.pool.cells r.last.passes.cells r.seated.cells) idle.cells r.back.cells closed.has) closed.cells;
            classes =
                class_each_journey s.passes.lane p.pool.classes (class_steps r.events) s.passes.classes r.last.passes.classes rest.classes c.classes.items
                (subst (λ (n : ℕ). ClassesAreFresh n p.pool.classes s.passes.classes) lane_is new.classes) r.journey.classes r.back.classes closed.classes;
            keeper =
                subst (λ (l : List KeeperNoted). Follows keeper_right s.passes.lane [] r.steps l) closed.notes
                (went_settled keeper_right s.passes.lane r.steps s.keeper r.last.keeper closed.keeper.notes.items r.went mine.seen
                (has_settled keeper_right s.passes.lane turn r.last.keeper closed.kept.last closed.keeper.notes.items ready (has_along r.last.keeper after closed.kept.last closed.kept.has r.back.has) closed.kept.ends));
          }

    pub all_backed : (commands : List Command) (seats : List (Seat D)) (first : Known KeeperNoted (Start D RangeTrees)) (replies : List Reply) → length seats ≡ lanes → AreSeated turn first p.lanes.items seats
        → AreReplied p.pool turn commands seats rest after replies → AreBacked lanes (ground_in store (ended_by c origins)) commands (ended_by c origins) replies
    all_backed commands seats first replies many seated replied = record {
      lanes_are = replied.lanes;
      each = λ lane least most.
          let s = some_at seats (lane - 1) (omega (arith, least, most, many)) in
          let at = seated (lane - 1) s.0 s.1 in
          let new = prepared.new (lane - 1) s.0.passes at.0 in
          let is : s.0.passes.lane ≡ lane = new.lane_is ∙ (omega (arith, least)) in
          subst (λ (n : ℕ). IsBacked n (ground_in store (ended_by c origins)) (paired (commands_of n commands) (replies_of n replies)) (ended_by c origins)) is
          (seat_backed commands replies (lane - 1) s.0 new at.1.0 (replied.each (lane - 1) s.0 s.1));
    }
