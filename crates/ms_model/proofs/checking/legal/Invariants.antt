use Rattle.std.proofs.Common.{take}
use Rattle.ms_model.specs.Legal.{IsLegal}
use Rattle.ms_model.specs.Checking.{Reflects, origin_from}
use Rattle.ms_model.proofs.checking.legal.Given as goal

abbrev pub invariant-loop-index : goal.invariant-loop-index
invariant-loop-index l = record {
  reflects : Reflects (origin_from l.fn.base l.fn.units l.fn.ashift l.fn.opened.0) (take l.index l.fn.notes) l.checker;
  legal : IsLegal (origin_from l.fn.base l.fn.units l.fn.ashift l.fn.opened.0) (take l.index l.fn.notes);
}
