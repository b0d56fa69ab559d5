use Rattle.space_map.proofs.Condensing.{holds_all_but_free}
use Rattle.space_map.proofs.laws.condensed_holds_the_rest.Goals as goal

pub returns : goal.returns
returns c = λ group units free named some within segs. holds_all_but_free group units free named some within segs
