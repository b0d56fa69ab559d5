-- What the definitions are to mean: the statements of the laws.
use Rattle.std.specs.Prelude.{◌≡◌, ℕ, ◌+◌, ◌-◌, ◌<◌, ◌≤◌, Bool, true, false, not, ◌&&◌, ◌||◌, max, List, ◌∷◌, ◌++◌}
use Rattle.zms_units.specs.declared.segments.Seg.{Seg}
use Rattle.zms_units.specs.Segments.{covers, Covers}
use Rattle.std.specs.List.{All}
use Rattle.ms_model.specs.Origin.{Origin}
use Rattle.ms_model.specs.Units.{held, settled_group}
use Rattle.ms_model.specs.Spaces.{is_live, is_deferred, is_vacant}
use Rattle.ms_model.specs.Gains.{is_gained, is_given}
use Rattle.ms_model.specs.Legal.{IsLegal}
use Rattle.ms_model.specs.Counts.{live_units, deferred_units, vacant_units}
use Rattle.ms_model.specs.declared.notes.Act.{Act}
use Rattle.ms_model.specs.declared.notes.Act.TheVariants.{Grant, Free, Unalloc, Work}
use Rattle.ms_model.specs.declared.notes.Noted.{Noted}
use Rattle.zms_units.specs.declared.segments.Group.{Group}

-- a unit is neither handed out, nor waiting to be vacant, nor held by a group from which the pool may still be opened
pub record IsFreeOfAll (o : Origin) (h : List Noted) (u : ℕ) : Type 0 where
  pub live : is_live o h u ≡ false
  pub deferred : is_deferred o h u ≡ false
  pub retained : (t : ℕ) → max o.opened (settled_group o h - 2) ≤ t → held o h t u ≡ false

-- an act hands a unit out, or lets a worker take it
abbrev pub Takes : Act → ℕ → Type 0
Takes (Grant _ seg) u = Covers seg u
Takes (Work _ _ seg) u = Covers seg u
Takes _ u = ⊥

-- each unit that a note takes was free of all just before it
abbrev pub TakesFreeUnits : Origin → List Noted → Type 0
TakesFreeUnits o h = (before : List Noted) (note : Noted) (rest : List Noted) (u : ℕ) → before ++ (note ∷ rest) ≡ h → Takes note.act u → IsFreeOfAll o before u

-- and in a legal history all are
abbrev pub GrantsOverlapNothing : Type 0
GrantsOverlapNothing = (o : Origin) (h : List Noted) → IsLegal o h → TakesFreeUnits o h

-- a unit is in exactly one of three states
pub data IsOneOfThree (live deferred vacant : Bool) : Type 0 where
  is_live_alone : live ≡ true → deferred ≡ false → vacant ≡ false → IsOneOfThree live deferred vacant
  is_deferred_alone : live ≡ false → deferred ≡ true → vacant ≡ false → IsOneOfThree live deferred vacant
  is_vacant_alone : live ≡ false → deferred ≡ false → vacant ≡ true → IsOneOfThree live deferred vacant

abbrev pub StatesAreApart : Type 0
StatesAreApart = (o : Origin) (h : List Noted) (u : ℕ) → IsOneOfThree (is_live o h u) (is_deferred o h u) (is_vacant o h u)

-- so their numbers add up to the range
abbrev pub TotalsAddUp : Type 0
TotalsAddUp = (o : Origin) (h : List Noted) → live_units o h + deferred_units o h + vacant_units o h ≡ o.units

-- what is before a note of a legal history is legal too
abbrev pub BeginningsAreLegal : Type 0
BeginningsAreLegal = (o : Origin) (h rest : List Noted) → IsLegal o (h ++ rest) → IsLegal o h

-- what a group holds is what the group before it held and what it gained, less what it gave back
abbrev pub GroupsAddUp : Type 0
GroupsAddUp =
    (o : Origin) (h : List Noted) (t u : ℕ) → IsLegal o h
    → held o h (t + 1) u ≡ (not (is_given (t + 1) h u) && (is_gained (t + 1) h u || held o h t u))

-- a note doesn't change a unit's last act
abbrev pub Spares : ℕ → Act → Type 0
Spares u (Grant _ seg) = covers seg u ≡ false
Spares u (Free _ seg) = covers seg u ≡ false
Spares u (Unalloc _ seg) = covers seg u ≡ false
Spares u _ = Unit {0}

-- a unit that was freed in a group, and not handed out since, is deferred until the second settle after the group's own,
-- and vacant from then on
abbrev pub FreesWait : Type 0
FreesWait =
    (o : Origin) (before : List Noted) (lane : ℕ) (group : Group) (seg : Seg) (rest : List Noted) (u : ℕ)
    → Covers seg u → All (λ (note : Noted). Spares u note.act) rest
    → (settled_group o (before ++ (record { lane = lane; act = Free group seg } ∷ rest)) < group.0 + 2 → is_deferred o (before ++ (record { lane = lane; act = Free group seg } ∷ rest)) u ≡ true)
    × (group.0 + 2 ≤ settled_group o (before ++ (record { lane = lane; act = Free group seg } ∷ rest)) → is_vacant o (before ++ (record { lane = lane; act = Free group seg } ∷ rest)) u ≡ true)
