-- The replies of all lanes, by what each lane did.
use Rattle.std.proofs.Common.{◌≡◌, ℕ, ◌+◌, List, length, map, sym, ap, ◌∙◌, subst, arith, Some, Ok}
use Rattle.std.specs.Prelude.{slice_get, Result, IfOk, option_map}
use Rattle.std.specs.Global.{Vec}
use Rattle.std.specs.List.{All}
use Rattle.std.specs.declared.alloc.AllocError.{AllocError}
use Rattle.std.proofs.lemmas.List.{length-map}
use Rattle.std.proofs.lemmas.Option.{slice_get_within, slice_get-map, same_Some, get_or_from_slice_get}
use Rattle.turn_cell.specs.Known.{Known, TableId}
use Rattle.turn_cell.proofs.Lanes.{ready_after}
use Rattle.turn_passes.proofs.Pairs.{some_at}
use Rattle.turn_passes.proofs.Parts.{idle_ready}
use Rattle.ms_cell.proofs.Gathering.{seated_idle as cells_idle}
use Rattle.class_group.proofs.Gathering.{seated_idle as classes_idle}
use Rattle.lane_passes.specs.Lanes.{ground_of}
use Rattle.pool_keeper.specs.Notes.{KeeperNoted, keeper_right}
use Rattle.pool_keeper.specs.declared.keeper.Start.{Start}
use Rattle.range_tree.specs.declared.trees.RangeTrees.{RangeTrees}
use Rattle.cmd_text.specs.declared.script.Command.{Command}
use Rattle.lane_run.specs.Answers.{paired}
use Rattle.lane_run.specs.Lines.{Lines}
use Rattle.lane_run.specs.Runs.{commands_of}
use Rattle.lane_run.specs.declared.replies.Reply.{Reply}
use Rattle.pool_seats.specs.Joining.{IsBack, AreBackFrom}
use Rattle.pool_seats.specs.declared.pool.Pool.{Pool}
use Rattle.pool_seats.specs.declared.pool.Rest.{Rest}
use Rattle.pool_seats.specs.declared.pool.Seat.{Seat}
use Rattle.pool_lanes.specs.Lanes.{IsCommandWithin}
use Rattle.pool_lanes.specs.Merging.{replies_of, AreLists, AreMerged}
use Rattle.pool_lanes.specs.Returning.{EachRan, AreListsOf, AreReplied, AreNumbered}
use Rattle.pool_lanes.specs.Running.{CanRun, AreRan}
use Rattle.pool_lanes.specs.declared.running.Ran.{Ran}

-- what is said of a list that was answered
if_ok : {A : Type 0} (P : A → Type 0) (r : Result A AllocError) (x : A) → r ≡ Ok x → IfOk r P → P x
if_ok P r x is h = subst (λ (y : Result _ AllocError). IfOk y P) is h

abbrev list_of : Vec Reply → List Reply
list_of v = v.items

module _ {D : Type 0} (pool : Pool) (turn : TableId) (commands : List Command) (seats : List (Seat D)) (rans : List (Ran D))
    (many : length rans ≡ length seats) (ran : AreRan pool turn commands seats rans) where
  pub are_back : All (CanRun pool turn) seats → EachRan (λ r. IsBack pool turn r.seat) rans
  are_back can = λ k r e.
      let lt = slice_get_within rans k r e in
      let s = some_at seats k (omega (arith, lt, many)) in
      let did = ran k s.0 r s.1 e in
      let may = subst (CanRun pool turn) (get_or_from_slice_get seats k s.0 s.0 s.1) (can k s.0 (omega (arith, lt, many))) in
      record {
        cells = cells_idle r.seat.passes.lane pool.cells r.seat.passes.cells did.seated.cells;
        classes = classes_idle r.seat.passes.lane pool.classes r.seat.passes.classes did.seated.classes;
        keeper = idle_ready keeper_right s.0.passes.lane turn r.seat.keeper (ready_after keeper_right s.0.passes.lane turn did.steps s.0.keeper r.seat.keeper may.ready did.went);
      }

  module _ (lists : List (Vec Reply)) (numbered : AreNumbered seats) (are : AreListsOf rans lists) where
    -- the list of a place, and whose it is
    pub listed : (k : ℕ) (list : List Reply) → slice_get (map list_of lists) k ≡ Some list → (v : Vec Reply) × ((slice_get lists k ≡ Some v) × (v.items ≡ list))
    listed k list e =
        let v = some_at lists k (omega (arith, slice_get_within (map list_of lists) k list e, length-map lists list_of)) in
        (v.0, (v.1, same_Some v.0.items list (sym (ap (option_map list_of) v.1) ∙ (sym (slice_get-map list_of lists k) ∙ e))))

    pub are_lists : All (IsCommandWithin (length seats)) commands → AreLists commands (map list_of lists)
    are_lists within = record {
      lanes = λ i c there. ((within i c there).least, omega (arith, (within i c there).most, length-map lists list_of, are.count, many));
      counts = λ k list e.
          let v = listed k list e in
          let r = some_at rans k (omega (arith, slice_get_within lists k v.0 v.1.0, are.count)) in
          let s = some_at seats k (omega (arith, slice_get_within lists k v.0 v.1.0, are.count, many)) in
          let at = if_ok (λ (x : Vec Reply). length x.items ≡ length (commands_of s.0.passes.lane commands)) r.0.replies v.0 (are.each.at k r.0 v.0 r.1 v.1.0) (ran k s.0 r.0 s.1 r.1).each in
          ap length (sym v.1.1) ∙ (at ∙ ap (λ (n : ℕ). length (commands_of n commands)) (numbered k s.0 s.1));
      theirs = λ k list e.
          let v = listed k list e in
          let r = some_at rans k (omega (arith, slice_get_within lists k v.0 v.1.0, are.count)) in
          let s = some_at seats k (omega (arith, slice_get_within lists k v.0 v.1.0, are.count, many)) in
          let at = if_ok (λ (x : Vec Reply). All (λ (y : Reply). y.lane ≡ s.0.passes.lane) x.items) r.0.replies v.0 (are.each.at k r.0 v.0 r.1 v.1.0) (ran k s.0 r.0 s.1 r.1).theirs in
          subst (λ (l : List Reply). All (λ (y : Reply). y.lane ≡ k + 1) l) v.1.1 (subst (λ (n : ℕ). All (λ (y : Reply). y.lane ≡ n) v.0.items) (numbered k s.0 s.1) at);
    }

    pub are_replied : (rest : Rest) (keeper : Known KeeperNoted (Start D RangeTrees)) (replies : List Reply) → EachRan (λ r. AreBackFrom rest keeper r.seat) rans → AreMerged commands (map list_of lists) replies
        → AreReplied pool turn commands seats rest keeper replies
    are_replied rest keeper replies back merged = record {
      lanes = merged.lanes;
      each = λ k s e.
          let lt = slice_get_within seats k s e in
          let r = some_at rans k (omega (arith, lt, many)) in
          let v = some_at lists k (omega (arith, lt, many, are.count)) in
          let did = ran k s r.0 e r.1 in
          let own : v.0.items ≡ replies_of s.passes.lane replies =
          sym (merged.each k v.0.items (slice_get-map list_of lists k ∙ ap (option_map list_of) v.1)) ∙ ap (λ (n : ℕ). replies_of n replies) (sym (numbered k s e)) in
          let lines = if_ok (λ (x : Vec Reply). Lines s.passes.lane (ground_of pool.cells s.passes) (paired (commands_of s.passes.lane commands) x.items) did.events did.steps) r.0.replies v.0 (are.each.at k r.0 v.0 r.1 v.1) did.lines in
          record {
            last = r.0.seat;
            events = did.events;
            steps = did.steps;
            journey = did.journey;
            went = did.went;
            seated = did.seated;
            lines = subst (λ (l : List Reply). Lines s.passes.lane (ground_of pool.cells s.passes) (paired (commands_of s.passes.lane commands) l) did.events did.steps) own lines;
            back = back k r.0 r.1;
          };
    }
