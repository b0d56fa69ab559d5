use Rattle.std.proofs.Common.{◌≡◌, [], take, length}
use Rattle.ms_model.specs.Checking.{Reflects, origin_from}
use Rattle.ms_model.proofs.checking.Checker.new.Given as goal

abbrev pub invariant-loop-seg : goal.invariant-loop-seg
invariant-loop-seg l = record {
  len : length l.checker.lasts.items ≡ l.fn.units;
  reflects : Reflects (origin_from (take l.seg-index l.fn.base) l.fn.units l.fn.ashift l.fn.opened.0) [] l.checker;
}
