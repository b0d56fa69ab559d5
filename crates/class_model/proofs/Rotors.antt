-- The rotor is at a vdev of the class.
use Rattle.std.proofs.Common.{ℕ, suc, ◌+◌, ◌<◌, Bool, true, false, eqb, List, [], ◌∷◌, length, refl, arith}
use Rattle.std.specs.Prelude.{nat_le, if◌then◌else◌}
use Rattle.std.specs.List.{fold}
use Rattle.std.proofs.lemmas.List.{length-map}
use Rattle.ms_model.specs.declared.notes.ClassNote.{ClassNote}
use Rattle.ms_model.specs.declared.notes.ClassNote.TheVariants.{Pick, Granted, Missed, Weigh}
use Rattle.class_model.specs.Replay.{LaneNote, Rotor, IsAmong, IsVdevOf, vdevs_of, first_or, next_in, next_of, turned, rotor_after, rotor_at}
use Rattle.class_model.specs.declared.origin.ClassOrigin.{ClassOrigin}

first_among : (vs : List ℕ) → 0 < length vs → IsAmong vs (first_or 0 vs)
first_among [] some = absurd (omega arith)
first_among (v ∷ vs) some = (0, refl)

first_behind : (all us : List ℕ) (first : ℕ) → IsAmong all first → ((u : ℕ) → IsAmong us u → IsAmong all u) → IsAmong all (first_or first us)
first_behind all [] first is more = is
first_behind all (u ∷ us) first is more = more u (0, refl)

next_at : (all us : List ℕ) (first u v : ℕ) (b : Bool) → IsAmong all (first_or first us) → IsAmong all (next_in first us v) → IsAmong all (if b then first_or first us else next_in first us v)
next_at all us first u v true here there = here
next_at all us first u v false here there = there

next_among : (all us : List ℕ) (first v : ℕ) → IsAmong all first → ((u : ℕ) → IsAmong us u → IsAmong all u) → IsAmong all (next_in first us v)
next_among all [] first v is more = is
next_among all (u ∷ us) first v is more =
    let rest : (x : ℕ) → IsAmong us x → IsAmong all x = λ x at. more x (suc at.0, at.1) in
    next_at all us first u v (eqb u v) (first_behind all us first is rest) (next_among all us first v is rest)

-- one rotor or another
abbrev chosen : Bool → Rotor → Rotor → Rotor
chosen b r s = if b then r else s

chosen_among : (vs : List ℕ) (b : Bool) (r s : Rotor) → IsAmong vs r.vdev → IsAmong vs s.vdev → IsAmong vs (chosen b r s).vdev
chosen_among vs true r s one other = one
chosen_among vs false r s one other = other

turned_among : (vs : List ℕ) (v used : ℕ) → 0 < length vs → IsAmong vs v → IsAmong vs (turned vs v used).vdev
turned_among vs v used some is =
    chosen_among vs (nat_le 1048576 used) (record { vdev = next_of vs v; used = 0 }) (record { vdev = v; used = used })
    (next_among vs vs (first_or 0 vs) v (first_among vs some) (λ u a. a)) is

after_among : (vs : List ℕ) (r : Rotor) (n : ClassNote) → 0 < length vs → IsAmong vs r.vdev → IsAmong vs (rotor_after vs r n).vdev
after_among vs r (Pick _ _ _ _ _ _) some is = is
after_among vs r (Granted id bytes _) some is =
    chosen_among vs (eqb id.vdev r.vdev) (turned vs r.vdev (r.used + bytes)) r (turned_among vs r.vdev (r.used + bytes) some is) is
after_among vs r (Missed _ _) some is = is
after_among vs r (Weigh _ _) some is = is

fold_among : (vs : List ℕ) (r : Rotor) (h : List LaneNote) → 0 < length vs → IsAmong vs r.vdev → IsAmong vs (fold (λ so_far n. rotor_after vs so_far n.1) r h).vdev
fold_among vs r [] some is = is
fold_among vs r (n ∷ h) some is = fold_among vs (rotor_after vs r n.1) h some (after_among vs r n.1 some is)

pub rotor_is : (o : ClassOrigin) (h : List LaneNote) → 0 < length o.vdevs → IsVdevOf o (rotor_at o h).vdev
rotor_is o h some =
    let many : 0 < length (vdevs_of o) = omega (arith, some, length-map o.vdevs (λ one. one.vdev)) in
    fold_among (vdevs_of o) (record { vdev = first_or 0 (vdevs_of o); used = 0 }) h many (first_among (vdevs_of o) many)
