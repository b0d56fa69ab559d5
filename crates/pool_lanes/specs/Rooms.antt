-- Room that was taken beforehand.
use Rattle.std.specs.Prelude.{◌≡◌, ℕ, ◌≤◌, [], vec_capacity}
use Rattle.pool_lanes.specs.declared.rooms.Rooms.{Rooms}

module _ {D : Type 0} where
  -- empty lists with room for so many lanes, commands and metaslabs
  pub record AreRooms (most_lanes most_commands most_metaslabs : ℕ) (r : Rooms D) : Type 0 where
    pub seats : (r.seats.items ≡ []) × (most_lanes ≤ vec_capacity r.seats)
    pub lists : (r.lists.items ≡ []) × (most_lanes ≤ vec_capacity r.lists)
    pub replies : (r.replies.items ≡ []) × (most_commands ≤ vec_capacity r.replies)
    pub metaslabs : (r.metaslabs.items ≡ []) × (most_metaslabs ≤ vec_capacity r.metaslabs)
    pub journals : (r.journals.items ≡ []) × (most_metaslabs ≤ vec_capacity r.journals)
    pub totals : (r.totals.items ≡ []) × (most_metaslabs ≤ vec_capacity r.totals)
    pub classes : (r.classes.items ≡ []) × (4 ≤ vec_capacity r.classes)
