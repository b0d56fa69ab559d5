-- A lane's blocks, by their names.
use Rattle.std.specs.Prelude.{◌≡◌, ℕ, ◌≤◌, Option, Some, None, IfSome, List, length}
use Rattle.std.specs.Borrow.{Bor}
use Rattle.std.specs.HashMap.{HashMap, get_by}
use Rattle.std.specs.Str.{bytes_eq}
use Rattle.zms_units.specs.declared.blocks.Block.{Block}
use Rattle.zms_units.specs.declared.blocks.Dva.{Dva}
use Rattle.cmd_text.specs.declared.script.What.{What}
use Rattle.lane_run.specs.Answers.{Replied, copies_after, copies_named}
use Rattle.lane_run.specs.declared.replies.Answer.{Answer}

-- a lane's blocks by their names, as the code keeps them
abbrev pub Blocks : Type 0 → Type 0
Blocks S = HashMap (Bor (List ℕ)) Block S

abbrev pub block_named : {S : Type 0} → Blocks S → List ℕ → Option Block
block_named blocks name = get_by (λ known. bytes_eq name known.now) blocks

abbrev pub copies_in : Option Block → Option (List Dva)
copies_in None = None
copies_in (Some block) = Some block.copies

-- each has at most three copies
abbrev pub AreSmall : {S : Type 0} → Blocks S → Type 0
AreSmall blocks = (name : List ℕ) → IfSome (block_named blocks name) (λ block. length block.copies ≤ 3)

-- a command's answer is learnt: the block that it granted, if it granted one, is known by its name, and all others as before
pub record Learns {S : Type 0} (what : What) (answer : Answer) (old new : Blocks S) : Type 0 where
  pub known : (name : List ℕ) → copies_in (block_named new name) ≡ copies_after name (copies_in (block_named old name)) what answer
  pub small : AreSmall old → AreSmall new

-- by each name the block is known that the lane was granted under it
pub record AreNamed {S : Type 0} (done : List Replied) (blocks : Blocks S) : Type 0 where
  pub known : (name : List ℕ) → copies_in (block_named blocks name) ≡ copies_named name done
  pub small : AreSmall blocks
