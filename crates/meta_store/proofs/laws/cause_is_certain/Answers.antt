use Rattle.meta_store.proofs.CauseOnce.{cause_once, opens_no_cause}
use Rattle.meta_store.proofs.laws.cause_is_certain.Goals as goal

pub returns-clause-one : goal.returns-clause-one
returns-clause-one c = cause_once

pub returns-clause-none : goal.returns-clause-none
returns-clause-none c = opens_no_cause
