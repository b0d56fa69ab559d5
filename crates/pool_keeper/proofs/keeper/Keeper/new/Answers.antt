use Rattle.std.proofs.Common.{None, sym, subst, refl}
use Rattle.pool_keeper.specs.Keeper.{MayBegin}
use Rattle.pool_keeper.proofs.Beginning.{sound_begun}
use Rattle.pool_keeper.proofs.keeper.Keeper.new.Goals as goal

pub returns-clause-sound : goal.returns-clause-sound
returns-clause-sound g c =
    let may = c.requires.1 in
    let there = subst (λ x. MayBegin c.requires.0 x c.of-2.result.value) (sym c.of.ensures) (subst (λ x. MayBegin c.requires.0 c.args.store x) (sym c.of-2.ensures) may) in
    sound_begun g.D.Disk.state g.D.Disk.faults c.requires.0
    (record { start = record { store = c.of.result; passes = c.of-2.result }; store = c.args.store; passes = c.args.passes; first = None; notes = c.new.result; gathered = c.new-2.result })
    there refl c.new.ensures.items c.new-2.ensures.items (g.met.D.Disk.only_now c.of.result.value.disk) c.of.ensures c.of-2.ensures
