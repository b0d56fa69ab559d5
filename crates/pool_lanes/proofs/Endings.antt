-- A run that has ended.
use Rattle.std.proofs.Common.{◌≡◌, ℕ, ◌+◌, List, Option, Some, None, Ok, Err, map, length, sym, ap, ◌∙◌, subst}
use Rattle.std.specs.Prelude.{Result, IfOk, IfSome}
use Rattle.std.specs.Global.{Vec}
use Rattle.std.specs.declared.alloc.AllocError.{AllocError}
use Rattle.std.proofs.lemmas.Option.{same_Some}
use Rattle.zms_units.specs.declared.segments.Group.{Group}
use Rattle.zms_units.specs.declared.segments.Seg.{Seg}
use Rattle.zms_dev.specs.Disk.{DiskState}
use Rattle.turn_cell.specs.Known.{Known, TableId}
use Rattle.turn_passes.specs.Parts.{IsFresh, IsRest}
use Rattle.ms_model.specs.declared.notes.Noted.{Noted}
use Rattle.ms_core.specs.declared.kept.Standing.{Standing}
use Rattle.ms_cell.specs.Passes.{Passes}
use Rattle.class_model.specs.declared.origin.ClassOrigin.{ClassOrigin}
use Rattle.meta_store.specs.Stores.{StoreState}
use Rattle.pool_keeper.specs.Notes.{KeeperNoted}
use Rattle.pool_keeper.specs.declared.keeper.Start.{Start}
use Rattle.range_tree.specs.declared.trees.RangeTrees.{RangeTrees}
use Rattle.cmd_text.specs.declared.script.Script.{Script}
use Rattle.lane_run.specs.declared.replies.Reply.{Reply}
use Rattle.pool_seats.specs.Joining.{AreIdleRest, Keeps}
use Rattle.pool_seats.specs.Seats.{StartsWith, AreSeated, IsPrepared}
use Rattle.pool_seats.specs.Closing.{IsClosedPool}
use Rattle.pool_seats.specs.declared.closing.Closed.{Closed}
use Rattle.pool_seats.specs.declared.opening.Prepared.{Prepared}
use Rattle.pool_seats.specs.declared.pool.Rest.{Rest}
use Rattle.pool_seats.specs.declared.pool.Seat.{Seat}
use Rattle.pool_lanes.specs.Lanes.{ground_in, IsKept, AreBacked, AreTold, HaveRun}
use Rattle.pool_lanes.specs.declared.lanes.Lanes.{Lanes}
use Rattle.pool_lanes.specs.Ending.{ended_by, HasEnded}
use Rattle.pool_lanes.specs.Returning.{AreReplied}
use Rattle.pool_lanes.proofs.Backing.{origins, stands, of_store, are_legal, are_within, all_backed}
use Rattle.pool_lanes.proofs.Grounds.{stands_of}
use Rattle.pool_lanes.proofs.Keeping.{kept}
use Rattle.pool_lanes.proofs.Seating.{is_of}

if_ok_map : {A : Type 0} (P Q : A → Type 0) (r : Result A AllocError) → ((x : A) → P x → Q x) → IfOk r P → IfOk r Q
if_ok_map P Q (Ok x) f h = f x h
if_ok_map P Q (Err e) f h = h

if_some_map : {A : Type 0} (P Q : A → Type 0) (o : Option A) → ((x : A) → P x → Q x) → IfSome o P → IfSome o Q
if_some_map P Q (Some x) f h = f x h
if_some_map P Q None f h = h

-- what is handed out of it
pub have_run : {D : Type 0} (state : D → DiskState) (faults : D → ℕ) (store : StoreState D) (bases : List (List Seg)) (script : Script) (opened : Group) (c : Closed D) (replies : Result (Vec Reply) AllocError) (out : Lanes D) → opened ≡ store.table.group
    → HasEnded state faults store bases script c replies → IfSome out.journals (λ j. (origins : List (Option ClassOrigin)) → AreTold opened (ended_by c origins) j out) → out.replies ≡ replies → out.group ≡ c.store.table.group → out.meta ≡ c.store.disk
    → IfSome out.journals (λ j. HaveRun state faults store bases script j out)
have_run {D = D} state faults store bases script opened c replies out is e told same group meta =
    if_some_map (λ j. (origins : List (Option ClassOrigin)) → AreTold opened (ended_by c origins) j out) (λ j. HaveRun state faults store bases script j out) out.journals
    (λ j h. record {
      ended = ended_by c e.origins;
      ground = e.ground;
      told = subst (λ (g : Group). AreTold g (ended_by c e.origins) j out) is (h e.origins);
      legal = e.legal;
      within = e.within;
      kept =
          subst (λ (g : Group). IsKept state faults store (ended_by c e.origins) g out.meta) (sym group)
          (subst (λ (d : D). IsKept state faults store (ended_by c e.origins) c.store.table.group d) (sym meta) e.kept);
      replies = subst (λ (r : Result (Vec Reply) AllocError). IfOk r (λ x. AreBacked script.lanes (ground_in store (ended_by c e.origins)) script.commands (ended_by c e.origins) x.items)) (sym same) e.replies_are;
    })
    told

module _ {D : Type 0} (state : D → DiskState) (faults : D → ℕ) (store : StoreState D) (bases : List (List Seg)) (script : Script) (p : Prepared) (prepared : IsPrepared store bases script.lanes p)
    (turn : TableId) (first before after zero : Known KeeperNoted (Start D RangeTrees)) (starts : StartsWith store p.keeper first.fixed) (follows : before.fixed ≡ first.fixed) (rights : IsRest (script.lanes + 1) turn before) (none : IsFresh 0 turn zero)
    (rest : Rest) (keeps : Keeps p.rest before rest after) (idle : AreIdleRest p.pool rest) (c : Closed D) (closed : IsClosedPool state faults p.pool rest after zero c) where
  start_is : closed.keeper.start ≡ starts.start
  start_is = same_Some closed.keeper.start starts.start (sym closed.kept.start ∙ (keeps.fixed ∙ (follows ∙ starts.is)))

  store_is : closed.keeper.start.store.value ≡ store
  store_is = ap (λ (s : Start D RangeTrees). s.store.value) start_is ∙ starts.store_is

  passes_are : closed.keeper.start.passes.value ≡ p.keeper
  passes_are = ap (λ (s : Start D RangeTrees). s.passes.value) start_is ∙ starts.passes_are

  abbrev all_origins : List (Option ClassOrigin)
  all_origins = origins state faults store bases script.lanes p prepared rest before after zero keeps idle c closed

  is_kept : IsKept state faults store (ended_by c all_origins) c.store.table.group c.store.disk
  is_kept =
      subst (λ (s : StoreState D). IsKept state faults store (ended_by c all_origins) s.table.group s.disk) closed.store
      (kept state faults p.pool.cells closed.keeper (is_of store bases script.lanes p prepared closed.keeper.start store_is passes_are) closed.kept.sound closed.last (ended_by c all_origins) closed.has_keeper closed.cells
      (subst (λ (q : Passes). map (λ (x : Known Noted Standing). x.fixed) q.metaslabs ≡ stands_of c.metaslabs.items) (sym passes_are) (stands state faults store bases script.lanes p prepared rest before after zero keeps idle c closed p.keeper prepared.keeper_alike))
      store store_is (sym closed.notes))

  pub ended : (seats : List (Seat D)) (replies : Result (Vec Reply) AllocError) → length seats ≡ script.lanes → AreSeated turn first p.lanes.items seats → IfOk replies (λ r. AreReplied p.pool turn script.commands seats rest after r.items)
      → HasEnded state faults store bases script c replies
  ended seats replies many seated replied = record {
    origins = all_origins;
    ground = of_store state faults store bases script.lanes p prepared rest before after zero keeps idle c closed prepared.four;
    legal = are_legal state faults store bases script.lanes p prepared rest before after zero keeps idle c closed;
    within = are_within state faults store bases script.lanes p prepared rest before after zero keeps idle c closed turn rights none;
    kept = is_kept;
    replies_are =
        if_ok_map (λ r. AreReplied p.pool turn script.commands seats rest after r.items) (λ r. AreBacked script.lanes (ground_in store (ended_by c all_origins)) script.commands (ended_by c all_origins) r.items) replies
        (λ r h. all_backed state faults store bases script.lanes p prepared rest before after zero keeps idle c closed turn rights none script.commands seats first r.items many seated h) replied;
  }
