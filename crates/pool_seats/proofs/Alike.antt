-- Passes that stand for the same, one after the other.
use Rattle.std.proofs.Common.{ℕ, List, refl, sym, ap, ◌∙◌, arith}
use Rattle.std.proofs.lemmas.Option.{slice_get_within}
use Rattle.turn_passes.proofs.Pairs.{some_at, one_item}
use Rattle.ms_cell.specs.Passes.{Passes, StandAlike as CellsStandAlike}
use Rattle.class_group.specs.Passes.{ClassKnown, StandAlike as ClassesStandAlike}
use Rattle.lane_passes.specs.declared.passes.LanePasses.{LanePasses}
use Rattle.range_tree.specs.declared.trees.RangeTrees.{RangeTrees}
use Rattle.pool_seats.specs.Seats.{StandAlike, IsNewLane}
use Rattle.pool_seats.specs.declared.pool.Pool.{Pool}
use Rattle.pool_seats.specs.declared.pool.Rest.{Rest}

pub cells_same : (p : Passes) → CellsStandAlike p p
cells_same p = record { gate = refl; count = refl; each = record { at = λ k c d e f. ap (λ x. x.fixed) (one_item p.metaslabs k d c f e) } }

pub cells_back : (p q : Passes) → CellsStandAlike q p → CellsStandAlike p q
cells_back p q a = record { gate = sym a.gate; count = sym a.count; each = record { at = λ k c d e f. sym (a.each.at k d c f e) } }

pub cells_then : (p q r : Passes) → CellsStandAlike q p → CellsStandAlike r q → CellsStandAlike r p
cells_then p q r a b = record {
  gate = b.gate ∙ a.gate;
  count = b.count ∙ a.count;
  each = record {
    at = λ k c e x y.
        let d = some_at q.metaslabs k (omega (arith, slice_get_within p.metaslabs k c x, a.count)) in
        b.each.at k d.0 e d.1 y ∙ a.each.at k c d.0 x d.1;
  };
}

pub classes_same : (p : List ClassKnown) → ClassesStandAlike p p
classes_same p = record { count = refl; each = record { at = λ k c d e f. ap (λ x. x.fixed) (one_item p k d c f e) } }

pub classes_back : (p q : List ClassKnown) → ClassesStandAlike q p → ClassesStandAlike p q
classes_back p q a = record { count = sym a.count; each = record { at = λ k c d e f. sym (a.each.at k d c f e) } }

pub classes_then : (p q r : List ClassKnown) → ClassesStandAlike q p → ClassesStandAlike r q → ClassesStandAlike r p
classes_then p q r a b = record {
  count = b.count ∙ a.count;
  each = record {
    at = λ k c e x y.
        let d = some_at q k (omega (arith, slice_get_within p k c x, a.count)) in
        b.each.at k d.0 e d.1 y ∙ a.each.at k c d.0 x d.1;
  };
}

pub same : (p : Rest) → StandAlike p p
same p = record { cells = cells_same p.cells; classes = classes_same p.classes }

pub then : (p q r : Rest) → StandAlike q p → StandAlike r q → StandAlike r p
then p q r a b = record { cells = cells_then p.cells q.cells r.cells a.cells b.cells; classes = classes_then p.classes q.classes r.classes a.classes b.classes }

-- a new lane stands for what any rest does that stands for what its own did
pub lane_of : (lane : ℕ) (pool : Pool) (p q : Rest) (l : LanePasses RangeTrees) → StandAlike q p → IsNewLane lane pool p l → IsNewLane lane pool q l
lane_of lane pool p q l a new = record {
  lane_is = new.lane_is;
  cells = new.cells;
  classes = new.classes;
  cells_alike = cells_then q.cells p.cells l.cells (cells_back p.cells q.cells a.cells) new.cells_alike;
  classes_alike = classes_then q.classes p.classes l.classes (classes_back p.classes q.classes a.classes) new.classes_alike;
}

pub back : (p q : Rest) → StandAlike q p → StandAlike p q
back p q a = record { cells = cells_back p.cells q.cells a.cells; classes = classes_back p.classes q.classes a.classes }
