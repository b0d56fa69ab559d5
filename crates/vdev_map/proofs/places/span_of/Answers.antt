use Rattle.std.proofs.Common.{ℕ, ◌+◌, ◌*◌, ◌%◌, sym, ap, subst, ◌∙◌}
use Rattle.vdev_map.specs.Numbers.{row_at}
use Rattle.vdev_map.specs.Places.{words_len, row_place, place_of, len_of, IsPiece}
use Rattle.vdev_map.specs.declared.layout.Form.{Form}
use Rattle.vdev_map.specs.declared.places.Piece.{Piece}
use Rattle.vdev_map.specs.declared.places.Piece.TheVariants.{WholeSlot, Side}
use Rattle.vdev_map.specs.declared.layout.Form.TheVariants.{Logged}
use Rattle.vdev_map.proofs.Apart.{is_apart}
use Rattle.vdev_map.proofs.places.span_of.Goals as goal

pub returns-in-Log-clause-apart : goal.returns-in-Log-clause-apart
returns-in-Log-clause-apart c =
    let head = c.args.head.now in
    let vdevs = c.args.vdevs.now in
    is_apart head vdevs c.args.piece c.log_place.result c.log_len.result c.requires.piece
    (c.log_place.ensures ∙ sym (ap (place_of head vdevs) c.in-Log.is)) (c.log_len.ensures ∙ sym (ap (len_of head vdevs) c.in-Log.is))

pub returns-in-WholeSlot-clause-apart : goal.returns-in-WholeSlot-clause-apart
returns-in-WholeSlot-clause-apart c =
    let head = c.args.head.now in
    let vdevs = c.args.vdevs.now in
    let id = c.in-WholeSlot.id in
    let in_ : IsPiece head vdevs (WholeSlot id c.in-WholeSlot.group) = subst (λ (p : Piece). IsPiece head vdevs p) c.in-WholeSlot.is c.requires.piece in
    is_apart head vdevs c.args.piece c.part_of.result.at c.part_of.result.len c.requires.piece
    (c.part_of.ensures.at ∙ ap (λ (form : Form). row_place head vdevs id + words_len form (row_at vdevs id.vdev).units * (c.in-WholeSlot.group.0 % 8)) in_.0 ∙ sym (ap (place_of head vdevs) c.in-WholeSlot.is))
    (c.part_of.ensures.len ∙ ap (λ (form : Form). words_len form (row_at vdevs id.vdev).units) in_.0 ∙ sym (ap (len_of head vdevs) c.in-WholeSlot.is))

pub returns-in-Side-clause-apart : goal.returns-in-Side-clause-apart
returns-in-Side-clause-apart c =
    let head = c.args.head.now in
    let vdevs = c.args.vdevs.now in
    let id = c.in-Side.id in
    let in_ : IsPiece head vdevs (Side id c.in-Side.side) = subst (λ (p : Piece). IsPiece head vdevs p) c.in-Side.is c.requires.piece in
    is_apart head vdevs c.args.piece c.part_of-in-Side.result.at c.part_of-in-Side.result.len c.requires.piece
    (c.part_of-in-Side.ensures.at ∙ ap (λ (form : Form). row_place head vdevs id + words_len form (row_at vdevs id.vdev).units * c.from.result) in_.0
    ∙ ap (λ (n : ℕ). row_place head vdevs id + words_len Logged (row_at vdevs id.vdev).units * n) c.from.ensures ∙ sym (ap (place_of head vdevs) c.in-Side.is))
    (c.part_of-in-Side.ensures.len ∙ ap (λ (form : Form). words_len form (row_at vdevs id.vdev).units) in_.0 ∙ sym (ap (len_of head vdevs) c.in-Side.is))
