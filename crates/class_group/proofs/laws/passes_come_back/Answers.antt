use Rattle.class_group.proofs.Gathering.{fresh_seated, seated_idle, rests_idle}
use Rattle.class_group.proofs.JournalLaws.{have_themselves, have_all_along}
use Rattle.class_group.proofs.laws.passes_come_back.Goals as goal

pub returns : goal.returns
returns c = record { fresh = fresh_seated; seated = seated_idle; rests = rests_idle; whole = have_themselves; along = have_all_along }
