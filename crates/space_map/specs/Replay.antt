-- What the runs of a map say of one unit.
use Rattle.std.specs.Prelude.{◌≡◌, ℕ, ◌+◌, nat_le, nat_lt, Bool, true, false, ◌&&◌, List, reverse}
use Rattle.std.specs.List.{find}
use Rattle.std.specs.Option.{option_map_or}
use Rattle.sm_entry.specs.declared.SmType.{SmType}
use Rattle.sm_entry.specs.declared.SmType.TheVariants.{Alloc, Free}
use Rattle.space_map.specs.declared.places.Found.{Found}
use Rattle.space_map.specs.declared.places.MapKind.{MapKind}
use Rattle.space_map.specs.Reading.{Decodes}

-- is it allocated that a type says?
abbrev pub is_alloc : SmType → Bool
is_alloc Alloc = true
is_alloc Free = false

-- does a run cover a unit?
abbrev pub run_covers : ℕ → Found → Bool
run_covers u found = nat_le found.run.offset u && nat_lt u (found.run.offset + found.run.run)

-- is a unit held? The last run that covers it says so; one that no run covers is free
abbrev pub is_held : List Found → ℕ → Bool
is_held found u = option_map_or (λ (last : Found). is_alloc last.run.kind) (find (run_covers u) (reverse found)) false

-- the words of a map say that a unit is held, or that it is free
pub record Replays (kind : MapKind) (words : List ℕ) (u : ℕ) (held : Bool) : Type 0 where
  pub found : List Found
  pub decodes : Decodes kind words found
  pub says : is_held found u ≡ held
