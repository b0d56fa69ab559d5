-- What a load's answer says of it.
use Rattle.std.proofs.Common.{◌≡◌, ℕ, Option, None, Some, Result, Ok, Err}
use Rattle.ms_cell.specs.Loads.{Counts, IsPlace, IsLoadedAt}
use Rattle.ms_cell.specs.Passes.{Passes}
use Rattle.ms_cell.specs.declared.loader.LoadFault.{LoadFault}
use Rattle.ms_cell.specs.declared.loader.LoadFault.TheVariants.{Suspended, Device, Damaged, Memory}
use Rattle.pool_alloc.specs.Loads.{of_result, CountsOne}
use Rattle.lane_run.specs.Answers.{load_answer, load_of, is_done}
use Rattle.lane_run.specs.declared.replies.Answer.{Answer}

nothing_told : (answer : Answer) → None ≡ Some answer → ⊥
nothing_told answer e = cc

pub placed_told : (result : Result (Unit {0}) LoadFault) (answer : Answer) (number : ℕ) (p q : Passes) → load_answer result ≡ Some answer → IsLoadedAt result number p q → IsPlace (is_done result) number p q
placed_told (Ok done) answer number p q told x = x
placed_told (Err (Suspended first)) answer number p q told x = x
placed_told (Err (Device before after)) answer number p q told x = x
placed_told (Err (Damaged id damage)) answer number p q told x = x
placed_told (Err Memory) answer number p q told x = absurd (nothing_told answer told)

pub load_counted : (result : Result (Unit {0}) LoadFault) (count : ℕ) (last : Option LoadFault) (count_now : ℕ) (last_now : Option LoadFault) → Counts result count last count_now last_now
    → CountsOne (of_result load_of result) count last count_now last_now
load_counted (Ok done) count last count_now last_now x = x
load_counted (Err (Suspended first)) count last count_now last_now x = x
load_counted (Err (Device before after)) count last count_now last_now x = x
load_counted (Err (Damaged id damage)) count last count_now last_now x = x
load_counted (Err Memory) count last count_now last_now x = x
