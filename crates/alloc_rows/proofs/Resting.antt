-- A pool is at rest behind each call.
use Rattle.std.proofs.Common.{◌≡◌, Bool, List, arith}
use Rattle.range_tree.specs.declared.trees.RangeTrees.{RangeTrees}
use Rattle.ms_cell.specs.Turns.{Turns}
use Rattle.ms_cell.specs.Passes.{Passes, AreFresh, AreRests}
use Rattle.ms_cell.proofs.Gathering.{fresh_seated, rests_idle}
use Rattle.class_group.specs.Turns.{ClassTurns}
use Rattle.class_group.specs.Passes.{ClassKnown, AreFresh as ClassesFresh, AreRests as ClassesRests}
use Rattle.class_group.proofs.Gathering.{fresh_seated as classes_seated, rests_idle as classes_idle}
use Rattle.lane_passes.specs.Lanes.{LaneEvent, Ground, Acted}
use Rattle.lane_passes.specs.declared.passes.LanePasses.{LanePasses}
use Rattle.lane_passes.proofs.Acting.{acted_seated}
use Rattle.alloc_rows.specs.Serving.{IsServing}
use Rattle.alloc_rows.specs.Resting.{AreAtRest}
use Rattle.alloc_rows.proofs.Serving.{serves_at_first}

pub rests_behind : (t : Turns) (c : ClassTurns) (keeper other keeper_now other_now : Passes) (collected collected_now : Bool) (p q : LanePasses RangeTrees) (rest : Passes) (class_rest : List ClassKnown) (Fact : Ground → List LaneEvent → Type 0)
    → AreAtRest t c keeper other collected p rest class_rest → Acted t Fact p q → ((u : Turns) → IsServing u keeper other collected → IsServing u keeper_now other_now collected_now)
    → AreAtRest t c keeper_now other_now collected_now q rest class_rest
rests_behind t c keeper other keeper_now other_now collected collected_now p q rest class_rest Fact at acted follows = record {
  lane_at = acted_seated t c Fact p q at.lane_at acted;
  loader_at = follows t at.loader_at;
  rest_at = at.rest_at;
  class_rest_at = at.class_rest_at;
}

pub rests_at_first : (t : Turns) (c : ClassTurns) (keeper other cells rest : Passes) (collected : Bool) (classes class_rest : List ClassKnown)
    → c.vdevs ≡ t.vdevs → AreFresh 0 t keeper → AreFresh 1 t cells → AreFresh 2 t other → AreRests 3 t rest → ClassesFresh 1 c classes → ClassesRests 2 c class_rest
    → AreAtRest t c keeper other collected (record { lane = 1; cells = cells; classes = classes }) rest class_rest
rests_at_first t c keeper other cells rest collected classes class_rest one first lane second others lane_classes other_classes = record {
  lane_at = record { lane = omega arith; cells = fresh_seated 1 t cells lane; classes = classes_seated 1 c classes lane_classes; one = one };
  loader_at = serves_at_first t keeper other collected first second;
  rest_at = rests_idle 3 t rest others;
  class_rest_at = classes_idle 2 c class_rest other_classes;
}
