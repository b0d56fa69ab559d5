-- A piece of a text.
use Rattle.std.specs.Prelude.{ℕ, List, [], Option, Some, None, decimal}
use Rattle.trace_text.specs.Numbers.{weight_text}
use Rattle.trace_text.specs.declared.pieces.Piece.{Piece}
use Rattle.trace_text.specs.declared.pieces.Piece.TheVariants.{Text, Number, Weight}

-- the text of what may be missing
abbrev pub text_if : {A : Type 0} → (A → List ℕ) → Option A → List ℕ
text_if text None = []
text_if text (Some a) = text a

abbrev pub piece_text : Piece → List ℕ
piece_text (Text text) = text.now
piece_text (Number n) = decimal n
piece_text (Weight w) = weight_text w
