use Rattle.std.proofs.Common.{[], ◌∷◌, ℕ, ◌+◌, sym, ◌∙◌, subst, arith}
use Rattle.vdev_map.specs.Tables.{IsUnflushed, IsSide}
use Rattle.uber_ring.specs.Numbers.{number_at}
use Rattle.uber_ring.specs.TableBytes.{row_at, AreZeros}
use Rattle.uber_ring.specs.TableFields.{IsRight, row_fields, place, words, unflushed, held, side, row_zeros}
use Rattle.uber_ring.proofs.TableRows.{place_right, place_shown, words_right, words_shown, unflushed_is, held_right, held_shown, side_is}
use Rattle.uber_ring.proofs.Wrong.{wrong_here, fault_is, not_true}
use Rattle.uber_ring.proofs.rows.row_of.Goals as goal

pub returns-then-place-row_place-clause-err : goal.returns-then-place-row_place-clause-err
returns-then-place-row_place-clause-err c =
    let bytes = c.args.bytes.now in
    let head = c.args.head.now in
    let P = IsRight head c.args.uber.now bytes in
    fault_is P bytes (row_fields c.args.m) (row_at c.args.counts.vdevs c.args.counts.logs c.args.m) c.malformed.result c.malformed.ensures
    (wrong_here P bytes ([]) (place c.args.m) ((words c.args.m) ∷ (unflushed c.args.m) ∷ (held c.args.m) ∷ (side c.args.m) ∷ (row_zeros c.args.m) ∷ []) (row_at c.args.counts.vdevs c.args.counts.logs c.args.m)
    tt
    (λ right. c.if-place-row_place.true ((c.u64_at-place.ensures ∙ (λ j. number_at bytes (row_at (c.requires.counts.vdevs j) (c.requires.counts.logs j) c.args.m) 8)) ∙ place_shown bytes head c.args.vdevs.now c.requires.vdevs c.id_of-id.result c.args.m c.id_of-id.ensures.id c.id_of-id.ensures.number c.requires.number right ∙ sym c.row_place.ensures.place)) (λ j. row_at (c.requires.counts.vdevs j) (c.requires.counts.logs j) c.args.m))

pub returns-then-words-room_of-clause-err : goal.returns-then-words-room_of-clause-err
returns-then-words-room_of-clause-err c =
    let bytes = c.args.bytes.now in
    let head = c.args.head.now in
    let P = IsRight head c.args.uber.now bytes in
    fault_is P bytes (row_fields c.args.m) (row_at c.args.counts.vdevs c.args.counts.logs c.args.m + 8) c.malformed-then-words-room_of.result c.malformed-then-words-room_of.ensures
    (wrong_here P bytes ((place c.args.m) ∷ []) (words c.args.m) ((unflushed c.args.m) ∷ (held c.args.m) ∷ (side c.args.m) ∷ (row_zeros c.args.m) ∷ []) (row_at c.args.counts.vdevs c.args.counts.logs c.args.m + 8) (
      place_right bytes head c.args.vdevs.now c.requires.vdevs c.id_of-id.result c.args.m c.id_of-id.ensures.id c.id_of-id.ensures.number c.requires.number (sym (c.u64_at-place.ensures ∙ (λ j. number_at bytes (row_at (c.requires.counts.vdevs j) (c.requires.counts.logs j) c.args.m) 8)) ∙ c.if-place-row_place.false ∙ c.row_place.ensures.place),
      tt,
    )
    (λ right. let w = (c.u64_at-words.ensures ∙ (λ j. number_at bytes (row_at (c.requires.counts.vdevs j) (c.requires.counts.logs j) c.args.m + 8) 8)) in omega (arith, w, c.if-words-room_of.true, c.room_of.ensures, words_shown bytes head c.args.vdevs.now c.requires.vdevs c.id_of-id.result c.args.m c.id_of-id.ensures.id c.id_of-id.ensures.number c.requires.number right)) (λ j. row_at (c.requires.counts.vdevs j) (c.requires.counts.logs j) c.args.m + 8))

pub returns-then-not-is_unflushed-clause-err : goal.returns-then-not-is_unflushed-clause-err
returns-then-not-is_unflushed-clause-err c =
    let bytes = c.args.bytes.now in
    let head = c.args.head.now in
    let P = IsRight head c.args.uber.now bytes in
    fault_is P bytes (row_fields c.args.m) (row_at c.args.counts.vdevs c.args.counts.logs c.args.m + 16) c.malformed-then-not-is_unflushed.result c.malformed-then-not-is_unflushed.ensures
    (wrong_here P bytes ((place c.args.m) ∷ (words c.args.m) ∷ []) (unflushed c.args.m) ((held c.args.m) ∷ (side c.args.m) ∷ (row_zeros c.args.m) ∷ []) (row_at c.args.counts.vdevs c.args.counts.logs c.args.m + 16) (
      place_right bytes head c.args.vdevs.now c.requires.vdevs c.id_of-id.result c.args.m c.id_of-id.ensures.id c.id_of-id.ensures.number c.requires.number (sym (c.u64_at-place.ensures ∙ (λ j. number_at bytes (row_at (c.requires.counts.vdevs j) (c.requires.counts.logs j) c.args.m) 8)) ∙ c.if-place-row_place.false ∙ c.row_place.ensures.place),
      (
        words_right bytes head c.args.vdevs.now c.requires.vdevs c.id_of-id.result c.args.m c.id_of-id.ensures.id c.id_of-id.ensures.number c.requires.number (let w = (c.u64_at-words.ensures ∙ (λ j. number_at bytes (row_at (c.requires.counts.vdevs j) (c.requires.counts.logs j) c.args.m + 8) 8)) in omega (arith, w, c.if-words-room_of.false, c.room_of.ensures)),
        tt,
      ),
    )
    (λ right. not_true c.is_unflushed.result (IsUnflushed head c.args.uber.now.group.0 c.u64_at-unflushed.result) c.is_unflushed.ensures.1 c.if-not-is_unflushed.true (subst (IsUnflushed head c.args.uber.now.group.0) (unflushed_is bytes head c.args.vdevs.now c.requires.vdevs c.id_of-id.result c.args.m c.id_of-id.ensures.id c.id_of-id.ensures.number c.requires.number ∙ sym (c.u64_at-unflushed.ensures ∙ (λ j. number_at bytes (row_at (c.requires.counts.vdevs j) (c.requires.counts.logs j) c.args.m + 16) 8))) right)) (λ j. row_at (c.requires.counts.vdevs j) (c.requires.counts.logs j) c.args.m + 16))

pub returns-then-held-from-clause-err : goal.returns-then-held-from-clause-err
returns-then-held-from-clause-err c =
    let bytes = c.args.bytes.now in
    let head = c.args.head.now in
    let P = IsRight head c.args.uber.now bytes in
    fault_is P bytes (row_fields c.args.m) (row_at c.args.counts.vdevs c.args.counts.logs c.args.m + 24) c.malformed-then-held-from.result c.malformed-then-held-from.ensures
    (wrong_here P bytes ((place c.args.m) ∷ (words c.args.m) ∷ (unflushed c.args.m) ∷ []) (held c.args.m) ((side c.args.m) ∷ (row_zeros c.args.m) ∷ []) (row_at c.args.counts.vdevs c.args.counts.logs c.args.m + 24) (
      place_right bytes head c.args.vdevs.now c.requires.vdevs c.id_of-id.result c.args.m c.id_of-id.ensures.id c.id_of-id.ensures.number c.requires.number (sym (c.u64_at-place.ensures ∙ (λ j. number_at bytes (row_at (c.requires.counts.vdevs j) (c.requires.counts.logs j) c.args.m) 8)) ∙ c.if-place-row_place.false ∙ c.row_place.ensures.place),
      (
        words_right bytes head c.args.vdevs.now c.requires.vdevs c.id_of-id.result c.args.m c.id_of-id.ensures.id c.id_of-id.ensures.number c.requires.number (let w = (c.u64_at-words.ensures ∙ (λ j. number_at bytes (row_at (c.requires.counts.vdevs j) (c.requires.counts.logs j) c.args.m + 8) 8)) in omega (arith, w, c.if-words-room_of.false, c.room_of.ensures)),
        (
          subst (IsUnflushed head c.args.uber.now.group.0) ((c.u64_at-unflushed.ensures ∙ (λ j. number_at bytes (row_at (c.requires.counts.vdevs j) (c.requires.counts.logs j) c.args.m + 16) 8)) ∙ sym (unflushed_is bytes head c.args.vdevs.now c.requires.vdevs c.id_of-id.result c.args.m c.id_of-id.ensures.id c.id_of-id.ensures.number c.requires.number)) (c.is_unflushed.ensures.0 c.if-not-is_unflushed.false),
          tt,
        ),
      ),
    )
    (λ right. let h = (c.u64_at-held.ensures ∙ (λ j. number_at bytes (row_at (c.requires.counts.vdevs j) (c.requires.counts.logs j) c.args.m + 24) 8)) in omega (arith, h, c.if-held-from.true, c.from.ensures, held_shown bytes head c.args.vdevs.now c.requires.vdevs c.id_of-id.result c.args.m c.id_of-id.ensures.id c.id_of-id.ensures.number c.requires.number right)) (λ j. row_at (c.requires.counts.vdevs j) (c.requires.counts.logs j) c.args.m + 24))

pub returns-then-not-is_side-clause-err : goal.returns-then-not-is_side-clause-err
returns-then-not-is_side-clause-err c =
    let bytes = c.args.bytes.now in
    let head = c.args.head.now in
    let P = IsRight head c.args.uber.now bytes in
    fault_is P bytes (row_fields c.args.m) (row_at c.args.counts.vdevs c.args.counts.logs c.args.m + 32) c.malformed-then-not-is_side.result c.malformed-then-not-is_side.ensures
    (wrong_here P bytes ((place c.args.m) ∷ (words c.args.m) ∷ (unflushed c.args.m) ∷ (held c.args.m) ∷ []) (side c.args.m) ((row_zeros c.args.m) ∷ []) (row_at c.args.counts.vdevs c.args.counts.logs c.args.m + 32) (
      place_right bytes head c.args.vdevs.now c.requires.vdevs c.id_of-id.result c.args.m c.id_of-id.ensures.id c.id_of-id.ensures.number c.requires.number (sym (c.u64_at-place.ensures ∙ (λ j. number_at bytes (row_at (c.requires.counts.vdevs j) (c.requires.counts.logs j) c.args.m) 8)) ∙ c.if-place-row_place.false ∙ c.row_place.ensures.place),
      (
        words_right bytes head c.args.vdevs.now c.requires.vdevs c.id_of-id.result c.args.m c.id_of-id.ensures.id c.id_of-id.ensures.number c.requires.number (let w = (c.u64_at-words.ensures ∙ (λ j. number_at bytes (row_at (c.requires.counts.vdevs j) (c.requires.counts.logs j) c.args.m + 8) 8)) in omega (arith, w, c.if-words-room_of.false, c.room_of.ensures)),
        (
          subst (IsUnflushed head c.args.uber.now.group.0) ((c.u64_at-unflushed.ensures ∙ (λ j. number_at bytes (row_at (c.requires.counts.vdevs j) (c.requires.counts.logs j) c.args.m + 16) 8)) ∙ sym (unflushed_is bytes head c.args.vdevs.now c.requires.vdevs c.id_of-id.result c.args.m c.id_of-id.ensures.id c.id_of-id.ensures.number c.requires.number)) (c.is_unflushed.ensures.0 c.if-not-is_unflushed.false),
          (
            held_right bytes head c.args.vdevs.now c.requires.vdevs c.id_of-id.result c.args.m c.id_of-id.ensures.id c.id_of-id.ensures.number c.requires.number (let h = (c.u64_at-held.ensures ∙ (λ j. number_at bytes (row_at (c.requires.counts.vdevs j) (c.requires.counts.logs j) c.args.m + 24) 8)) in omega (arith, h, c.if-held-from.false, c.from.ensures)),
            tt,
          ),
        ),
      ),
    )
    (λ right. not_true c.is_side.result (IsSide head c.u32_at-side.result) c.is_side.ensures.1 c.if-not-is_side.true (subst (IsSide head) (side_is bytes head c.args.vdevs.now c.requires.vdevs c.id_of-id.result c.args.m c.id_of-id.ensures.id c.id_of-id.ensures.number c.requires.number ∙ sym (c.u32_at-side.ensures ∙ (λ j. number_at bytes (row_at (c.requires.counts.vdevs j) (c.requires.counts.logs j) c.args.m + 32) 4))) right)) (λ j. row_at (c.requires.counts.vdevs j) (c.requires.counts.logs j) c.args.m + 32))

pub returns-then-not-has_zeros-clause-err : goal.returns-then-not-has_zeros-clause-err
returns-then-not-has_zeros-clause-err c =
    let bytes = c.args.bytes.now in
    let head = c.args.head.now in
    let P = IsRight head c.args.uber.now bytes in
    fault_is P bytes (row_fields c.args.m) (row_at c.args.counts.vdevs c.args.counts.logs c.args.m + 36) c.malformed-then-not-has_zeros.result c.malformed-then-not-has_zeros.ensures
    (wrong_here P bytes ((place c.args.m) ∷ (words c.args.m) ∷ (unflushed c.args.m) ∷ (held c.args.m) ∷ (side c.args.m) ∷ []) (row_zeros c.args.m) ([]) (row_at c.args.counts.vdevs c.args.counts.logs c.args.m + 36) (
      place_right bytes head c.args.vdevs.now c.requires.vdevs c.id_of-id.result c.args.m c.id_of-id.ensures.id c.id_of-id.ensures.number c.requires.number (sym (c.u64_at-place.ensures ∙ (λ j. number_at bytes (row_at (c.requires.counts.vdevs j) (c.requires.counts.logs j) c.args.m) 8)) ∙ c.if-place-row_place.false ∙ c.row_place.ensures.place),
      (
        words_right bytes head c.args.vdevs.now c.requires.vdevs c.id_of-id.result c.args.m c.id_of-id.ensures.id c.id_of-id.ensures.number c.requires.number (let w = (c.u64_at-words.ensures ∙ (λ j. number_at bytes (row_at (c.requires.counts.vdevs j) (c.requires.counts.logs j) c.args.m + 8) 8)) in omega (arith, w, c.if-words-room_of.false, c.room_of.ensures)),
        (
          subst (IsUnflushed head c.args.uber.now.group.0) ((c.u64_at-unflushed.ensures ∙ (λ j. number_at bytes (row_at (c.requires.counts.vdevs j) (c.requires.counts.logs j) c.args.m + 16) 8)) ∙ sym (unflushed_is bytes head c.args.vdevs.now c.requires.vdevs c.id_of-id.result c.args.m c.id_of-id.ensures.id c.id_of-id.ensures.number c.requires.number)) (c.is_unflushed.ensures.0 c.if-not-is_unflushed.false),
          (
            held_right bytes head c.args.vdevs.now c.requires.vdevs c.id_of-id.result c.args.m c.id_of-id.ensures.id c.id_of-id.ensures.number c.requires.number (let h = (c.u64_at-held.ensures ∙ (λ j. number_at bytes (row_at (c.requires.counts.vdevs j) (c.requires.counts.logs j) c.args.m + 24) 8)) in omega (arith, h, c.if-held-from.false, c.from.ensures)),
            (
              subst (IsSide head) ((c.u32_at-side.ensures ∙ (λ j. number_at bytes (row_at (c.requires.counts.vdevs j) (c.requires.counts.logs j) c.args.m + 32) 4)) ∙ sym (side_is bytes head c.args.vdevs.now c.requires.vdevs c.id_of-id.result c.args.m c.id_of-id.ensures.id c.id_of-id.ensures.number c.requires.number)) (c.is_side.ensures.0 c.if-not-is_side.false),
              tt,
            ),
          ),
        ),
      ),
    )
    (λ right. not_true c.has_zeros.result (AreZeros bytes (row_at c.args.counts.vdevs c.args.counts.logs c.args.m + 36) 4) c.has_zeros.ensures.1 c.if-not-has_zeros.true (subst (λ (p : ℕ). AreZeros bytes p 4) (sym (λ j. row_at (c.requires.counts.vdevs j) (c.requires.counts.logs j) c.args.m + 36)) right)) (λ j. row_at (c.requires.counts.vdevs j) (c.requires.counts.logs j) c.args.m + 36))

pub returns-clause-ok : goal.returns-clause-ok
returns-clause-ok c =
    let bytes = c.args.bytes.now in
    let head = c.args.head.now in (
      place_right bytes head c.args.vdevs.now c.requires.vdevs c.id_of-id.result c.args.m c.id_of-id.ensures.id c.id_of-id.ensures.number c.requires.number (sym (c.u64_at-place.ensures ∙ (λ j. number_at bytes (row_at (c.requires.counts.vdevs j) (c.requires.counts.logs j) c.args.m) 8)) ∙ c.if-place-row_place.false ∙ c.row_place.ensures.place),
      (
        words_right bytes head c.args.vdevs.now c.requires.vdevs c.id_of-id.result c.args.m c.id_of-id.ensures.id c.id_of-id.ensures.number c.requires.number (let w = (c.u64_at-words.ensures ∙ (λ j. number_at bytes (row_at (c.requires.counts.vdevs j) (c.requires.counts.logs j) c.args.m + 8) 8)) in omega (arith, w, c.if-words-room_of.false, c.room_of.ensures)),
        (
          subst (IsUnflushed head c.args.uber.now.group.0) ((c.u64_at-unflushed.ensures ∙ (λ j. number_at bytes (row_at (c.requires.counts.vdevs j) (c.requires.counts.logs j) c.args.m + 16) 8)) ∙ sym (unflushed_is bytes head c.args.vdevs.now c.requires.vdevs c.id_of-id.result c.args.m c.id_of-id.ensures.id c.id_of-id.ensures.number c.requires.number)) (c.is_unflushed.ensures.0 c.if-not-is_unflushed.false),
          (
            held_right bytes head c.args.vdevs.now c.requires.vdevs c.id_of-id.result c.args.m c.id_of-id.ensures.id c.id_of-id.ensures.number c.requires.number (let h = (c.u64_at-held.ensures ∙ (λ j. number_at bytes (row_at (c.requires.counts.vdevs j) (c.requires.counts.logs j) c.args.m + 24) 8)) in omega (arith, h, c.if-held-from.false, c.from.ensures)),
            (
              subst (IsSide head) ((c.u32_at-side.ensures ∙ (λ j. number_at bytes (row_at (c.requires.counts.vdevs j) (c.requires.counts.logs j) c.args.m + 32) 4)) ∙ sym (side_is bytes head c.args.vdevs.now c.requires.vdevs c.id_of-id.result c.args.m c.id_of-id.ensures.id c.id_of-id.ensures.number c.requires.number)) (c.is_side.ensures.0 c.if-not-is_side.false),
              (
                subst (λ (p : ℕ). AreZeros bytes p 4) (λ j. row_at (c.requires.counts.vdevs j) (c.requires.counts.logs j) c.args.m + 36) (c.has_zeros.ensures.0 c.if-not-has_zeros.false),
                tt,
              ),
            ),
          ),
        ),
      ),
    )
