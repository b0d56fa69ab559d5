use Rattle.pool_keeper.proofs.Growing.{grows_rest}
use Rattle.pool_keeper.proofs.laws.held_stays.Goals as goal

pub returns : goal.returns
returns c o h more t u legal le = (grows_rest o h more legal).holds t u le
