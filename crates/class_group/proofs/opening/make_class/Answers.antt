use Rattle.std.proofs.Common.{List, ℕ, subst}
use Rattle.class_core.specs.Classes.{IsOriginOf}
use Rattle.class_group.proofs.Places.{stands_of}
use Rattle.class_group.proofs.opening.make_class.Goals as goal

pub returns-clause-knows : goal.returns-clause-knows
returns-clause-knows c = record {
  origin = c.in_ok-cell.cell.origin;
  is = c.in-Ok.ensures.fixed;
  stands = stands_of c.args.layout.now.vdevs c.args.weights.now c.args.class c.in_ok-cell.cell.origin
      (subst (λ (l : List ℕ). IsOriginOf c.args.layout.now.vdevs c.args.class l c.in_ok-cell.cell.origin) c.as_slice.ensures c.in_ok-cell.ensures.origin);
}
