-- One load of a lane.
use Rattle.std.proofs.Common.{◌≡◌, ℕ, ◌+◌, ◌-◌, ◌^◌, Option, Some, None, Result, Ok, Err, List, [], ◌∷◌, sym, subst, arith}
use Rattle.std.specs.Prelude.{min}
use Rattle.turn_cell.specs.Lanes.{Went}
use Rattle.ms_cell.specs.declared.loader.LoadFault.{LoadFault}
use Rattle.ms_cell.specs.declared.loader.LoadFault.TheVariants.{Suspended, Device, Damaged, Memory}
use Rattle.ms_cell.specs.Loads.{Counts}
use Rattle.pool_keeper.specs.Notes.{KeeperNoted, keeper_right}
use Rattle.pool_keeper.specs.Lines.{LoadNoted}
use Rattle.pool_keeper.specs.Serving.{IsRefusal, Follows}
use Rattle.pool_keeper.specs.declared.lane_keeper.LaneKeeper.{LaneKeeper}
use Rattle.pool_keeper.proofs.Knowing.{went_look}

-- by what it answered and noted
module _ {D R : Type 0} where
  pub follows_load : (a b : LaneKeeper D R) (lane : ℕ) (answer : Result (Unit {0}) LoadFault) (before : List KeeperNoted) (note : Option KeeperNoted) → b.turn.now ≡ a.turn.now → b.lane ≡ a.lane → a.lane ≡ lane
      → Went keeper_right lane (record { before = before; note = note } ∷ []) a.pass b.pass → LoadNoted lane answer before note → Counts answer a.refusals a.last b.refusals b.last → Follows a b
  follows_load a b lane answer before note turn same is went noted counts = by_answer answer noted counts where
    mine : Went keeper_right a.lane (record { before = before; note = note } ∷ []) a.pass b.pass
    mine = subst (λ (n : ℕ). Went keeper_right n (record { before = before; note = note } ∷ []) a.pass b.pass) (sym is) went

    quiet : note ≡ None → Went keeper_right a.lane [] a.pass b.pass
    quiet none = went_look keeper_right a.lane before a.pass b.pass (subst (λ (n : Option KeeperNoted). Went keeper_right a.lane (record { before = before; note = n } ∷ []) a.pass b.pass) none mine)

    refusal : (fault : LoadFault) → IsRefusal fault → LoadNoted lane (Err fault) before note → (b.refusals ≡ min (a.refusals + 1) (2 ^ 64 - 1)) × (b.last ≡ Some fault) → Follows a b
    refusal fault real told now = record {
      turn = turn;
      lane = same;
      steps = record { before = before; note = note } ∷ [];
      refused = fault ∷ [];
      went = λ ready. mine;
      loads = ((real, subst (λ (n : ℕ). LoadNoted n (Err fault) before note) (sym is) told), tt);
      count = λ low. now.0;
      last = now.1;
    }

    none_refused : note ≡ None → b.refusals ≡ a.refusals → b.last ≡ a.last → Follows a b
    none_refused none count last = record {
      turn = turn;
      lane = same;
      steps = [];
      refused = [];
      went = λ ready. quiet none;
      loads = tt;
      count = λ low. omega (arith, count);
      last = last;
    }

    by_answer : (r : Result (Unit {0}) LoadFault) → LoadNoted lane r before note → Counts r a.refusals a.last b.refusals b.last → Follows a b
    by_answer (Ok x) told now = none_refused told now.0 now.1
    by_answer (Err Memory) told now = none_refused told now.0 now.1
    by_answer (Err (Suspended first)) told now = refusal (Suspended first) tt told now
    by_answer (Err (Device low high)) told now = refusal (Device low high) tt told now
    by_answer (Err (Damaged id damage)) told now = refusal (Damaged id damage) tt told now
