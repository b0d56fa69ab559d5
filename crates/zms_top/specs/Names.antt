-- Where a lane's blocks lie, by their names.
use Rattle.std.specs.Prelude.{◌≡◌, ℕ, Option, Some, None, IfSome, List, [], ◌∷◌}
use Rattle.std.specs.Borrow.{Bor}
use Rattle.std.specs.HashMap.{HashMap, get_by}
use Rattle.std.specs.Str.{bytes_eq}
use Rattle.zms_units.specs.declared.blocks.Dva.{Dva}
use Rattle.zms_units.specs.declared.segments.Seg.{Seg}
use Rattle.ms_model.specs.Legal.{IsWithin}
use Rattle.zms_top.specs.Answers.{Replied, copies_after, copies_named}
use Rattle.zms_top.specs.Lines.{Shape, dva_at}
use Rattle.cmd_text.specs.declared.script.What.{What}
use Rattle.zms_top.specs.declared.replies.Answer.{Answer}

-- the segments of a lane's blocks by their names, as the code keeps them
abbrev pub Blocks : Type 0 → Type 0
Blocks S = HashMap (Bor (List ℕ)) Seg S

-- the segment of the block of a name
abbrev pub seg_named : {S : Type 0} → Blocks S → List ℕ → Option Seg
seg_named blocks name = get_by (λ known. bytes_eq name known.now) blocks

-- a block's one copy, in the pool's first metaslab
abbrev pub copies_at : Shape → Option Seg → Option (List Dva)
copies_at pool None = None
copies_at pool (Some seg) = Some (dva_at pool 0 seg ∷ [])

-- each block lies within the metaslab
abbrev pub AreWithin : {S : Type 0} → ℕ → Blocks S → Type 0
AreWithin units blocks = (name : List ℕ) → IfSome (seg_named blocks name) (IsWithin units)

-- a command's answer is learnt: the block that it granted, if it granted one, is known by its name, and all others as before
pub record Learns {S : Type 0} (pool : Shape) (what : What) (answer : Answer) (old new : Blocks S) : Type 0 where
  pub known : (name : List ℕ) → copies_at pool (seg_named new name) ≡ copies_after name (copies_at pool (seg_named old name)) what answer
  pub within : AreWithin pool.units old → AreWithin pool.units new

-- by each name the block is known that the lane was granted under it
pub record AreNamed {S : Type 0} (pool : Shape) (done : List Replied) (blocks : Blocks S) : Type 0 where
  pub known : (name : List ℕ) → copies_at pool (seg_named blocks name) ≡ copies_named name done
  pub within : AreWithin pool.units blocks
