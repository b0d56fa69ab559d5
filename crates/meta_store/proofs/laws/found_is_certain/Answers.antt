use Rattle.meta_store.proofs.FoundOnce.{found_once}
use Rattle.meta_store.proofs.laws.found_is_certain.Goals as goal

pub returns : goal.returns
returns c = found_once
