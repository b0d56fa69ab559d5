use Rattle.vdev_map.specs.Numbers.{number_of}
use Rattle.alloc_rows.proofs.Handing.{handed_at}
use Rattle.alloc_rows.proofs.Serving.{kept_along}
use Rattle.alloc_rows.proofs.loading.RowLoader.load_kept.Goals as goal

pub hand-requires-clause-seated : goal.hand-requires-clause-seated
hand-requires-clause-seated g c = (c.see.ensures.keeps c.args.cells.now c.requires.seated).0

pub returns-in-None-clause-loaded : goal.returns-in-None-clause-loaded
returns-in-None-clause-loaded g c =
    handed_at c.hand.result (number_of c.args.cells.now.vdevs c.args.id) c.args.self.now.keeper c.see.new.keeper c.hand.new.keeper c.if-see.ensures.place c.hand.ensures.later c.hand.ensures.loaded

pub returns-in-None-clause-keeps : goal.returns-in-None-clause-keeps
returns-in-None-clause-keeps g c = kept_along c.args.self.now.keeper c.see.new.keeper c.hand.new.keeper c.see.ensures.keeps c.hand.ensures.keeps
