-- What one command did.
use Rattle.std.specs.Prelude.{◌≡◌, ℕ, Option, Some, None, List, [], ◌∷◌, ◌++◌}
use Rattle.zms_units.specs.declared.segments.Seg.{Seg}
use Rattle.zms_units.specs.declared.segments.Group.{Group}
use Rattle.ms_model.specs.Origin.{Origin}
use Rattle.ms_model.specs.Units.{last_act}
use Rattle.ms_model.specs.Legal.{MayDo, MayFree, IsGrantedBy, IsLowestLacking}
use Rattle.ms_model.specs.declared.notes.Act.{Act}
use Rattle.ms_model.specs.declared.notes.Act.TheVariants.{Grant, Free, Miss}
use Rattle.ms_model.specs.declared.notes.Noted.{Noted}
use Rattle.zms_top.specs.Sound.{Loads}

-- the act by which a look is noted: a grant of what it found, or a miss
abbrev pub act_of : Group → ℕ → Option Seg → Act
act_of group count None = Miss count
act_of group count (Some seg) = Grant group seg

abbrev pub HasCount : ℕ → Option Seg → Type 0
HasCount count None = Unit {0}
HasCount count (Some seg) = seg.count ≡ count

-- a look at a metaslab that is loaded first where it needs to be
pub record IsLook (o : Origin) (lane : ℕ) (group : Group) (count : ℕ) (old new : List Noted) (found : Option Seg) : Type 0 where
  pub before : List Noted
  pub loads : Loads lane old before
  pub note : new ≡ before ++ (record { lane = lane; act = act_of group count found } ∷ [])
  pub may : MayDo o before lane (act_of group count found)
  pub counts : HasCount count found

-- how a free is noted: not at all, where a unit may not be freed
abbrev pub free_notes : ℕ → Group → Seg → Option ℕ → List Noted
free_notes lane group seg None = record { lane = lane; act = Free group seg } ∷ []
free_notes lane group seg (Some _) = []

-- the segment may be freed, or this is its lowest unit that may not be
abbrev pub MayFreeOrLacks : Origin → List Noted → Group → Seg → Option ℕ → Type 0
MayFreeOrLacks o h group seg None = MayFree o h group.0 seg
MayFreeOrLacks o h group seg (Some unit) = IsLowestLacking (λ u. IsGrantedBy group.0 (last_act o h u)) seg unit

-- a free at a metaslab that is loaded first where it needs to be
pub record IsGivenBack (o : Origin) (lane : ℕ) (group : Group) (seg : Seg) (old new : List Noted) (refused : Option ℕ) : Type 0 where
  pub before : List Noted
  pub loads : Loads lane old before
  pub notes : new ≡ before ++ free_notes lane group seg refused
  pub may : MayFreeOrLacks o before group seg refused
