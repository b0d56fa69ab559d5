use Rattle.std.proofs.Common.{sym, subst, Option}
use Rattle.class_core.specs.Rankings.{IsFirstIn}
use Rattle.class_core.specs.declared.ranking.Rank.{Rank}
use Rattle.class_core.proofs.Ranks.{first_shown}
use Rattle.class_core.proofs.ranking.Ranking.first_in.Goals as goal

pub returns : goal.returns
returns c =
    let shown = first_shown c.args.self.now c.args.from c.range.result c.next.new.self c.next.result (c.range.ensures.in_range tt) c.next.ensures.steps in
    subst (λ (x : Option Rank). IsFirstIn c.args.self.now c.args.from x) (sym c.copied.ensures) shown
