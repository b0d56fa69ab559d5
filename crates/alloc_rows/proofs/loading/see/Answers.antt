use Rattle.std.proofs.Common.{arith}
use Rattle.alloc_rows.proofs.Handing.{sight_keeps, seen_place}
use Rattle.alloc_rows.proofs.loading.see.Goals as goal

pub returns-clause-keeps : goal.returns-clause-keeps
returns-clause-keeps g c = sight_keeps _ c.look_at.result.0 c.look_at.result.1 c.look_at.result.2 c.args.keeper.now c.look_at.new.passes (c.look_at.ensures 0 c.requires.seated)

pub returns-clause-place : goal.returns-clause-place
returns-clause-place g c =
    seen_place _ c.look_at.result.0 c.look_at.result.1 c.look_at.result.2 c.args.keeper.now c.look_at.new.passes (c.look_at.ensures 0 c.requires.seated) (omega (arith, c.place_of.ensures.within, c.requires.seated.know.count))
