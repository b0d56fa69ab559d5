use Rattle.std.proofs.Common.{arith}
use Rattle.alloc_rows.proofs.Handing.{load_keeps, step_grows, loaded_place}
use Rattle.alloc_rows.proofs.loading.hand.Goals as goal

pub returns-in-Ok-None-clause-keeps : goal.returns-in-Ok-None-clause-keeps
returns-in-Ok-None-clause-keeps g c = load_keeps c.args.lane _ _ _ c.args.keeper.now c.load_at.new.passes c.load_at.ensures

pub returns-in-Ok-None-clause-later : goal.returns-in-Ok-None-clause-later
returns-in-Ok-None-clause-later g c = step_grows _ _ c.args.keeper.now c.load_at.new.passes c.load_at.ensures.journey (omega (arith, c.place_of.ensures.within, c.requires.seated.know.count))

pub returns-in-Ok-Some-clause-keeps : goal.returns-in-Ok-Some-clause-keeps
returns-in-Ok-Some-clause-keeps g c = load_keeps c.args.lane _ _ _ c.args.keeper.now c.load_at.new.passes c.load_at.ensures

pub returns-in-Ok-Some-clause-later : goal.returns-in-Ok-Some-clause-later
returns-in-Ok-Some-clause-later g c = step_grows _ _ c.args.keeper.now c.load_at.new.passes c.load_at.ensures.journey (omega (arith, c.place_of.ensures.within, c.requires.seated.know.count))

pub returns-in-Err-clause-keeps : goal.returns-in-Err-clause-keeps
returns-in-Err-clause-keeps g c = load_keeps c.args.lane _ _ _ c.args.keeper.now c.load_at.new.passes c.load_at.ensures

pub returns-in-Err-clause-later : goal.returns-in-Err-clause-later
returns-in-Err-clause-later g c = step_grows _ _ c.args.keeper.now c.load_at.new.passes c.load_at.ensures.journey (omega (arith, c.place_of.ensures.within, c.requires.seated.know.count))

pub returns-in-Ok-None-clause-loaded : goal.returns-in-Ok-None-clause-loaded
returns-in-Ok-None-clause-loaded g c =
    loaded_place c.args.lane _ _ c.args.keeper.now c.load_at.new.passes (rw c.in-Ok-None.field-0-is at c.in-Ok-None.ensures) (omega (arith, c.place_of.ensures.within, c.requires.seated.know.count))
