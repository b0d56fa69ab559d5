-- The text of the places of copies.
use Rattle.std.specs.Prelude.{ℕ, List, ◌∷◌, ◌++◌, decimal}
use Rattle.zms_units.specs.declared.blocks.Dva.{Dva}
use Rattle.zms_units.specs.Classes.{class_word}

-- ` CLASS V:OFFSET:SIZE`
abbrev pub copy_text : Dva → List ℕ
copy_text dva = 32 ∷ (class_word dva.class ++ (32 ∷ (decimal dva.vdev ++ (58 ∷ (decimal dva.offset ++ (58 ∷ decimal dva.size))))))
