-- Which calls of an object in memory fail.
use Rattle.std.specs.Prelude.{ℕ, ◌+◌, ◌-◌, ◌^◌, Bool, not, ◌&&◌, ◌==◌, nat_lt, if◌then◌else◌, List}
use Rattle.std.specs.List.{list_any}
use Rattle.zms_dev.specs.Causes.{one_more}

-- how many calls were made, how many there is room for, which of them are to fail, and how many have failed
pub record ScriptState : Type 0 where
  pub made : ℕ
  pub room : ℕ
  pub failing : List ℕ
  pub faults : ℕ

-- no call was made yet
abbrev pub fresh : ℕ → List ℕ → ScriptState
fresh room failing = record { made = 0; room = room; failing = failing; faults = 0 }

-- the next call is not past the room, and is not named
abbrev pub allows : ScriptState → Bool
allows s = nat_lt s.made s.room && not (list_any (λ n. n == s.made) s.failing)

-- one call on, which went well or failed
abbrev pub after_call : ScriptState → Bool → ScriptState
after_call s went_well = record {
  made = if nat_lt s.made s.room then s.made + 1 else s.made;
  room = s.room;
  failing = s.failing;
  faults = if went_well then s.faults else one_more s.faults;
}
