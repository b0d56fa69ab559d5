use Rattle.meta_store.proofs.SlotGroups.{IsNextBelow}
use Rattle.meta_store.proofs.rewinding.next_to_close.Given as goal

abbrev pub invariant-loop-found : goal.invariant-loop-found
invariant-loop-found l = IsNextBelow l.groups l.opened l.found-index l.next
