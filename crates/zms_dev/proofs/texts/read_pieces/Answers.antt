use Rattle.std.proofs.Common.{◌∙◌, arith}
use Rattle.zms_dev.specs.Stream.{told}
use Rattle.zms_dev.proofs.Piecewise.{moves_more, added_more}
use Rattle.zms_dev.proofs.texts.read_pieces.Goals as goal

pub loop-taken-preserved : goal.loop-taken-preserved
loop-taken-preserved g c =
    let was = c.loop-taken.invariant in
    record {
      within = omega (arith, was.within, c.in_ok-n.ensures.bound, c.loop-taken-test.true);
      moves = λ tells.
          moves_more (told (g.S.Source.state c.args.source.now).left) (told (g.S.Source.state c.loop-taken.source).left) (told (g.S.Source.state c.read_piece.new.source).left)
          c.args.into.now.items c.loop-taken.into.items c.read_piece.new.into.items c.loop-taken.taken c.in_ok-n.n
          (was.moves tells) (c.in_ok-n.ensures.moves (was.kind ∙ tells));
      appends = added_more c.args.into.now.items c.loop-taken.into.items c.read_piece.new.into.items c.loop-taken.taken c.in_ok-n.n was.appends c.in_ok-n.ensures.appends;
      kind = c.in_ok-n.ensures.kind ∙ was.kind;
      steady = c.in_ok-n.ensures.cause.steady ∙ was.steady;
    }
