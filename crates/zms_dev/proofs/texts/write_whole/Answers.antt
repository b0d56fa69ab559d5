use Rattle.std.proofs.Common.{◌∙◌, arith}
use Rattle.std.proofs.lemmas.Grind.{common_steps}
use Rattle.zms_dev.specs.Stream.{told}
use Rattle.zms_dev.proofs.Piecewise.{written_more}
use Rattle.zms_dev.proofs.texts.write_whole.Goals as goal

pub loop-written-preserved : goal.loop-written-preserved
loop-written-preserved g c =
    let was = c.loop-written.invariant in
    record {
      within = grind (arith, common_steps);
      taken = λ tells.
          written_more c.args.bytes.now (told (g.S.Sink.state c.args.sink.now).taken) (told (g.S.Sink.state c.loop-written.sink).taken) (told (g.S.Sink.state c.write.new.self).taken) c.loop-written.written c.in_ok-n.n (was.taken tells) (c.in_ok-n.ensures.bytes (was.kind ∙ tells));
      kind = c.in_ok-n.ensures.kind ∙ was.kind;
      steady = c.in_ok-n.ensures.some (grind (arith, common_steps)) ∙ was.steady;
    }
