use Rattle.std.proofs.Common.{true, cond, ◌∙◌, ap}
use Rattle.std.specs.Ordering.{is_eq}
use Rattle.class_core.specs.Rankings.{rank_cmp, rank_of, has, is_same}
use Rattle.class_core.specs.declared.ranking.Rank.{Rank}
use Rattle.class_core.proofs.Booleans.{cond_or}
use Rattle.class_core.proofs.Ranks.{rank_same}
use Rattle.class_core.proofs.ranking.Ranking.put.Goals as goal

pub returns-clause-ok : goal.returns-clause-ok
returns-clause-ok c = λ g.
    c.in_ok-insert.ensures.updates.0 (rank_of g)
    ∙ (ap (λ b. cond b true (has c.args.self.now g)) (ap (λ (k : Rank). is_eq (rank_cmp k (rank_of g))) c.of.ensures ∙ rank_same c.args.got g)
    ∙ cond_or (is_same c.args.got g) (has c.args.self.now g))
