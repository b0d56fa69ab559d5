use Rattle.std.proofs.Common.{◌≡◌, ◌+◌, ℕ, List, sym, subst, arith}
use Rattle.zms_units.specs.declared.segments.Seg.{Seg}
use Rattle.ms_model.specs.Units.{collected_group}
use Rattle.ms_cell.specs.Passes.{origin_in, seen_in}
use Rattle.pool_keeper.specs.Answers.{Collected}
use Rattle.pool_keeper.proofs.gathering.collect.Goals as goal

pub collect_runs-requires-clause-within : goal.collect_runs-requires-clause-within
collect_runs-requires-clause-within g c = omega (arith, c.id_at-id.ensures.number, c.requires.number)

pub collect_runs-requires-clause-group : goal.collect_runs-requires-clause-group
collect_runs-requires-clause-group g c = subst (λ (k : ℕ). c.args.group.0 ≡ collected_group (origin_in c.args.passes.now k) (seen_in c.args.passes.now k) + 1) (sym c.id_at-id.ensures.number) c.requires.group

pub returns-clause-collected : goal.returns-clause-collected
returns-clause-collected g c = record {
  inside = c.id_at-id.ensures.id;
  place = c.id_at-id.ensures.number;
  runs =
      subst (λ (l : List Seg). Collected c.args.lane c.args.number c.args.group l c.from_vec-2.result c.args.passes.now c.collect_runs.new.passes) (sym c.from_vec.ensures)
      (subst (λ (l : List Seg). Collected c.args.lane c.args.number c.args.group c.in_ok-buf.buf.allocs.items l c.args.passes.now c.collect_runs.new.passes) (sym c.from_vec-2.ensures)
      (subst (λ (k : ℕ). Collected c.args.lane k c.args.group c.in_ok-buf.buf.allocs.items c.in_ok-buf.buf.frees.items c.args.passes.now c.collect_runs.new.passes) c.id_at-id.ensures.number c.in_ok-buf.ensures.collected));
}
