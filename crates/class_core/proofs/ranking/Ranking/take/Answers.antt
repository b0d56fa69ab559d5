use Rattle.std.proofs.Common.{false, cond, ◌∙◌, ap}
use Rattle.std.specs.Ordering.{is_eq}
use Rattle.class_core.specs.Rankings.{rank_cmp, rank_of, has, is_same}
use Rattle.class_core.specs.declared.ranking.Rank.{Rank}
use Rattle.class_core.proofs.Booleans.{cond_and}
use Rattle.class_core.proofs.Ranks.{rank_same}
use Rattle.class_core.proofs.ranking.Ranking.take.Goals as goal

pub returns : goal.returns
returns c = λ g.
    c.remove.ensures.updates.0 (rank_of g)
    ∙ (ap (λ b. cond b false (has c.args.self.now g)) (ap (λ (k : Rank). is_eq (rank_cmp k (rank_of g))) c.of.ensures ∙ rank_same c.args.got g)
    ∙ cond_and (is_same c.args.got g) (has c.args.self.now g))
