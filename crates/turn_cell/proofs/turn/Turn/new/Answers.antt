use Rattle.std.proofs.Common.{rules, ◌≡◌, [], ◌∷◌, Some}
use Rattle.turn_cell.proofs.Keeps.{begins}
use Rattle.turn_cell.proofs.turn.Turn.new.Goals as goal

pub new-requires : goal.new-requires
new-requires g c =
    let key : c.of-key.result.value ≡ c.args.value = search rules in
    let slot : c.push.new.self.items ≡ Some c.args.value ∷ [] = search rules in
    rw (slot, key) (begins g.T.Kept.journal g.T.Kept.right g.T.Kept.stands (g.T.Kept.fixed c.args.value) c.args.value c.requires.empty c.requires.stands)
