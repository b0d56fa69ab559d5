use Rattle.std.proofs.Common.{◌≡◌, ◌+◌, ◌≤◌, ℕ, subst, sym, refl, arith}
use Rattle.lane_steps.proofs.Steps.{prefix_trans}
use Rattle.ms_model.specs.Units.{settled_group, collected_group}
use Rattle.ms_cell.specs.Passes.{origin_in, seen_in}
use Rattle.cell_rows.proofs.Holders.{seated_at, turned_to}
use Rattle.cell_rows.proofs.Settling.{collected_one, settled_one, gate_later}
use Rattle.cell_rows.proofs.keeper.settle_one.Goals as goal

pub collect_at-requires-clause-group : goal.collect_at-requires-clause-group
collect_at-requires-clause-group g c =
    let has = c.requires.settled.others c.args.number (omega arith) c.requires.number in
    subst (λ (k : ℕ). c.args.settled + 1 ≡ collected_group (origin_in c.args.passes.now k) (seen_in c.args.passes.now k) + 1) (sym c.id_at-id.ensures.number) (omega (arith, has.collected))

pub settle_at-requires-clause-next : goal.settle_at-requires-clause-next
settle_at-requires-clause-next g c =
    let q = c.collect_at.new.passes in
    let has = c.requires.settled.others c.args.number (omega arith) c.requires.number in
    let w = turned_to 0 _ c.args.number _ c.args.passes.now q c.id_at-id.ensures.number c.in-Ok.ensures in
    let both = collected_one c.args.cells.now c.args.passes.now q 1 0 c.args.number c.args.settled _ _ _ c.requires.seated c.requires.number has w in
    subst (λ (k : ℕ). c.args.settled + 1 ≡ settled_group (origin_in q k) (seen_in q k) + 1) (sym c.id_at-id.ensures.number) (omega (arith, both.1))

pub settle_at-requires-clause-collected : goal.settle_at-requires-clause-collected
settle_at-requires-clause-collected g c =
    let q = c.collect_at.new.passes in
    let has = c.requires.settled.others c.args.number (omega arith) c.requires.number in
    let w = turned_to 0 _ c.args.number _ c.args.passes.now q c.id_at-id.ensures.number c.in-Ok.ensures in
    let both = collected_one c.args.cells.now c.args.passes.now q 1 0 c.args.number c.args.settled _ _ _ c.requires.seated c.requires.number has w in
    subst (λ (k : ℕ). c.args.settled + 1 ≤ collected_group (origin_in q k) (seen_in q k)) (sym c.id_at-id.ensures.number) (omega (arith, both.0))

pub settle_at-requires-clause-seated : goal.settle_at-requires-clause-seated
settle_at-requires-clause-seated g c = seated_at 0 c.args.passes.now c.collect_at.new.passes _ _ c.in-Ok.ensures c.args.cells.now c.requires.seated

pub returns-in-Ok-clause-seated : goal.returns-in-Ok-clause-seated
returns-in-Ok-clause-seated g c =
    let q = c.collect_at.new.passes in
    let s = seated_at 0 c.args.passes.now q _ _ c.in-Ok.ensures c.args.cells.now c.requires.seated in
    seated_at 0 q c.settle_at.new.passes _ _ c.settle_at.ensures c.args.cells.now s

pub returns-in-Ok-clause-settled : goal.returns-in-Ok-clause-settled
returns-in-Ok-clause-settled g c = λ _.
    let q = c.collect_at.new.passes in
    let s = seated_at 0 c.args.passes.now q _ _ c.in-Ok.ensures c.args.cells.now c.requires.seated in
    let w = turned_to 0 _ c.args.number _ c.args.passes.now q c.id_at-id.ensures.number c.in-Ok.ensures in
    let v = turned_to 0 _ c.args.number _ q c.settle_at.new.passes c.id_at-id.ensures.number c.settle_at.ensures in
    settled_one c.args.cells.now c.args.passes.now q c.settle_at.new.passes 1 0 c.args.number c.args.settled _ _ _ c.requires.seated s c.requires.number refl c.requires.settled w v

pub returns-in-Ok-clause-later : goal.returns-in-Ok-clause-later
returns-in-Ok-clause-later g c =
    let q = c.collect_at.new.passes in
    let s = seated_at 0 c.args.passes.now q _ _ c.in-Ok.ensures c.args.cells.now c.requires.seated in
    prefix_trans _ _ _ (gate_later c.args.cells.now c.args.passes.now q c.requires.seated _ _ c.in-Ok.ensures) (gate_later c.args.cells.now q c.settle_at.new.passes s _ _ c.settle_at.ensures)

pub returns-clause-seated : goal.returns-clause-seated
returns-clause-seated g c = seated_at 0 c.args.passes.now c.collect_at.new.passes _ _ c.in-Err.ensures c.args.cells.now c.requires.seated
