use Rattle.std.proofs.Common.{refl}
use Rattle.zms_dev.proofs.Told.{counted, data_written}
use Rattle.zms_dev.proofs.memory.data.MemDataData.TheImpl.Goals as goal

pub write-tells : goal.write-tells
write-tells c = record {
  wrote = λ told. data_written _ _ c.args.at c.args.bytes.now c.result c.ensures.bytes;
  discards = λ told. c.ensures.discards;
  kind = record { contents = refl; discards = refl };
  cause = counted c.args.self.now.script c.new.self.now.script c.result c.ensures.script;
}
