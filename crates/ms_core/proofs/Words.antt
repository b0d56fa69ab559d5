-- The words of the crates below and of this one's specs that the proofs of this crate share, so that each is named once.
pub use Rattle.ms_core.specs.Asked.{Finds, in_any, IsSettleBefore}
pub use Rattle.ms_core.specs.Kept.{Book, IsKept, HoldsTogether, IsNotedIn, IsRoomier, MovesCursor, state_in, origin_in, waiting_nodes, book_in}
pub use Rattle.ms_core.specs.Mirrors.{Mirrors, IsBarred, by_vacant, by_given, by_gained, allocating_of, freeing_of, deferred_of, Settles, Adds, CanMove, Moves, Clears, Fills, number_of, is_changed, tree_of}
pub use Rattle.ms_core.specs.State.{MsState, AreOfLanes, settled_of, collected_of, origin_of}
pub use Rattle.ms_core.specs.Weights.{as_one_run}
pub use Rattle.ms_core.specs.declared.metaslab.Metaslab.TheInside.{Inside}
pub use Rattle.ms_core.specs.declared.tree.Change.{Change}
pub use Rattle.ms_core.specs.declared.tree.Change.TheVariants.{Gained, Given}
pub use Rattle.ms_core.specs.declared.tree.Tree.{Tree}
pub use Rattle.ms_core.specs.declared.tree.Tree.TheVariants.{Allocating, Freeing, Allocatable, Deferred}
pub use Rattle.ms_model.proofs.Changes.{gained_far, given_far, gained_last, last_gained, last_given, last_opened, granted_by_live, live_busy, live_not_given, leaves_units, still_act, given_busy, open_settled, vacant_next, held_unloaded, vacant_unloaded, ChangesIn, gained_quiet, gives_quiet, own_group, vacant_not_gained}
pub use Rattle.ms_model.proofs.Histories.{last_act-push, settled_group-push, collected_group-push, is_loaded-push, worker_at-push, cursor_at-push, legal_push, legal_none, legal_before, legal_last, is_gained-push, is_given-push}
pub use Rattle.ms_model.proofs.Overlaps.{settled_le_collected, opened_le_settled, vacant_free}
pub use Rattle.ms_model.proofs.Totals.{totals}
pub use Rattle.ms_model.proofs.UnitFacts.{IsGainOf}
pub use Rattle.ms_model.specs.Counts.{live_units, deferred_units, vacant_units}
pub use Rattle.ms_model.specs.Cursors.{cursor_by, cursor_at}
pub use Rattle.ms_model.specs.Gains.{is_gained, is_given, gained_by, gives}
pub use Rattle.ms_model.specs.Laws.{IsFreeOfAll}
pub use Rattle.ms_model.specs.Legal.{IsLowestLacking, IsGrantedBy, IsLegal, MayGrant, MayFree, MayTakeBack, IsOpenGroup, MayDo, MayMiss, TakesRequests, IsWithin}
pub use Rattle.ms_model.specs.Origin.{Origin}
pub use Rattle.ms_model.specs.Spaces.{keeps_busy, is_live, is_deferred, is_vacant}
pub use Rattle.ms_model.specs.Units.{noted, LastAct, granted, freed, taken_back, untouched, last_act, is_grant, settled_group, collected_group, is_loaded, act_on, settled_by, collected_by, loaded_by, disabled_by, worker_at, held}
pub use Rattle.ms_model.specs.declared.notes.Act.{Act}
pub use Rattle.ms_model.specs.declared.notes.Act.TheVariants.{Grant, Free, Unalloc, Settle, Miss, Collect, Load, Unload}
pub use Rattle.ms_model.specs.declared.notes.Noted.{Noted}
pub use Rattle.seg_trees.proofs.Nodes.{nodes_of_add, may_reserve}
pub use Rattle.seg_trees.proofs.Sizes.{range-is}
pub use Rattle.seg_trees.specs.Sets.{Sets, range as all_units, size_of, nodes_of, AllStay, OthersStay, OthersStayBut, HoldsAll, HoldsNone, AreDisjoint, all_nodes, IsSegment, TakesNone}
pub use Rattle.std.proofs.Math.Pow.{pow_mono}
pub use Rattle.std.proofs.lemmas.Bool.{le-ltb, le-leb, lt-ltb, leb-true, leb-false}
pub use Rattle.std.proofs.lemmas.Bool.Decides.{nat_tests}
pub use Rattle.std.proofs.lemmas.List.{take-append-drop, get_or-take, length-take, length-append, get_or-replicate, take_all}
pub use Rattle.std.proofs.lemmas.List.Elements.{All-nil, All-push}
pub use Rattle.std.proofs.lemmas.List.Folds.{list_any_more}
pub use Rattle.std.proofs.lemmas.Nat.Bits.{bit_at-trailing_zeros, bit_at_above}
pub use Rattle.std.specs.Int.{w32}
pub use Rattle.std.specs.List.{count_by, All}
pub use Rattle.std.specs.Prelude.{not, ◌%◌, ◌≢◌, ◌||◌, nat_lt, slice_index, ◌&&◌, ◌==◌, nat_le, Result, Ok, Err, OnOk, true}
pub use Rattle.std.specs.Vec.{vec_len, vec_capacity}
pub use Rattle.zms_units.proofs.Along.{SameBelow, maximal_along, fit_along, row_along}
pub use Rattle.zms_units.proofs.ApartRuns.{apart_next, apart_push, apart_above}
pub use Rattle.zms_units.proofs.Buckets.{Holds, in_bucket, bucket_holds}
pub use Rattle.zms_units.proofs.Counting.{count_cons, units_more, units_same, units_none, units_or, units_seg, run_count_same, units_le, run_count-length}
pub use Rattle.zms_units.proofs.Fits.{fit_within, fit_inside}
pub use Rattle.zms_units.proofs.Maximal.{apart_maximal, ends_last}
pub use Rattle.zms_units.proofs.RisingSegs.{rising_at, rising_front}
pub use Rattle.zms_units.proofs.Rows.{around}
pub use Rattle.zms_units.proofs.Bools.{le_or, same_not, or_false, or_cases, true_or_false, or_right, true_and, or_none, and_false}
pub use Rattle.zms_units.proofs.Covers.{covers_true, covers_high, covered-push, covers_yes, covers_low}
pub use Rattle.zms_units.proofs.CursorPlaces.{cursor_below}
pub use Rattle.zms_units.specs.Apart.{AreApartFrom}
pub use Rattle.zms_units.specs.Cursors.{cursor_of}
pub use Rattle.zms_units.specs.Runs.{units_in, begins_run, run_count, IsFit, NoneInRow, AreMaximalRuns, IsMaximalRun, has_before, IsLongFrom, IsFirstFrom, NoneFrom}
pub use Rattle.zms_units.specs.Limits.{IsLane, CURSORS, MAX_UNITS}
pub use Rattle.zms_units.specs.Segments.{covers, end_of, covered, Covers, AreSegs, AreRisingFrom}
pub use Rattle.zms_units.specs.Weights.{is_in_bucket, IsHistogramOf}
pub use Rattle.zms_units.specs.declared.histograms.Histogram.{Histogram}
pub use Rattle.zms_units.specs.declared.segments.Group.{Group}
pub use Rattle.zms_units.specs.declared.segments.Seg.{Seg}
