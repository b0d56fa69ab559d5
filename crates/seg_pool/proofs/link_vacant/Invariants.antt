use Rattle.std.proofs.Common.{◌≡◌, ◌+◌, vec_len}
use Rattle.std.specs.Vec.{vec_capacity}
use Rattle.seg_pool.specs.Slots.{IsSound, SameSlots}
use Rattle.seg_pool.proofs.link_vacant.Given as goal

abbrev pub invariant-loop : goal.invariant-loop
invariant-loop g l =
    IsSound l.slots.items (l.spare + l.counter) l.first
    × SameSlots l.initial.slots.items l.slots.items
    × (vec_len l.slots ≡ vec_len l.initial.slots + l.counter)
    × (vec_capacity l.slots ≡ vec_capacity l.initial.slots)
