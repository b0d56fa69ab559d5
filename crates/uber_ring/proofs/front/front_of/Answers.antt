use Rattle.std.proofs.Common.{[], ◌∷◌, refl, sym, ◌∙◌}
use Rattle.uber_ring.specs.TableFields.{IsRight, front_fields, text, group, vdev_count, metaslab_count, log_count, front_zeros}
use Rattle.uber_ring.proofs.Wrong.{wrong_here, fault_is, not_true}
use Rattle.uber_ring.proofs.front.front_of.Goals as goal

pub returns-then-not-has_text-clause-err : goal.returns-then-not-has_text-clause-err
returns-then-not-has_text-clause-err c head =
    let P = IsRight head c.args.uber.now c.args.bytes.now in
    fault_is P c.args.bytes.now front_fields 0 c.malformed.result c.malformed.ensures
    (wrong_here P c.args.bytes.now ([]) text (group ∷ vdev_count ∷ metaslab_count ∷ log_count ∷ front_zeros ∷ []) 0
    tt
    (not_true c.has_text.result (P text) c.has_text.ensures.1 c.if-not-has_text.true) refl)

pub returns-then-u64_at-uber-clause-err : goal.returns-then-u64_at-uber-clause-err
returns-then-u64_at-uber-clause-err c head =
    let P = IsRight head c.args.uber.now c.args.bytes.now in
    fault_is P c.args.bytes.now front_fields 8 c.malformed-then-u64_at-uber.result c.malformed-then-u64_at-uber.ensures
    (wrong_here P c.args.bytes.now (text ∷ []) group (vdev_count ∷ metaslab_count ∷ log_count ∷ front_zeros ∷ []) 8
    (c.has_text.ensures.0 c.if-not-has_text.false, tt)
    (λ right. c.if-u64_at-uber.true (c.u64_at.ensures ∙ right)) refl)

pub returns-then-not-has_vdevs-clause-err : goal.returns-then-not-has_vdevs-clause-err
returns-then-not-has_vdevs-clause-err c head =
    let P = IsRight head c.args.uber.now c.args.bytes.now in
    fault_is P c.args.bytes.now front_fields 16 c.malformed-then-not-has_vdevs.result c.malformed-then-not-has_vdevs.ensures
    (wrong_here P c.args.bytes.now (text ∷ group ∷ []) vdev_count (metaslab_count ∷ log_count ∷ front_zeros ∷ []) 16
    (c.has_text.ensures.0 c.if-not-has_text.false, (sym c.u64_at.ensures ∙ c.if-u64_at-uber.false, tt))
    (not_true c.has_vdevs.result (P vdev_count) c.has_vdevs.ensures.1 c.if-not-has_vdevs.true) refl)

pub returns-then-not-has_rows-clause-err : goal.returns-then-not-has_rows-clause-err
returns-then-not-has_rows-clause-err c head =
    let P = IsRight head c.args.uber.now c.args.bytes.now in
    fault_is P c.args.bytes.now front_fields 20 c.malformed-then-not-has_rows.result c.malformed-then-not-has_rows.ensures
    (wrong_here P c.args.bytes.now (text ∷ group ∷ vdev_count ∷ []) metaslab_count (log_count ∷ front_zeros ∷ []) 20
    (c.has_text.ensures.0 c.if-not-has_text.false, (sym c.u64_at.ensures ∙ c.if-u64_at-uber.false, (c.has_vdevs.ensures.0 c.if-not-has_vdevs.false, tt)))
    (not_true c.has_rows.result (P metaslab_count) c.has_rows.ensures.1 c.if-not-has_rows.true) refl)

pub returns-then-not-has_logs-clause-err : goal.returns-then-not-has_logs-clause-err
returns-then-not-has_logs-clause-err c head =
    let P = IsRight head c.args.uber.now c.args.bytes.now in
    fault_is P c.args.bytes.now front_fields 24 c.malformed-then-not-has_logs.result c.malformed-then-not-has_logs.ensures
    (wrong_here P c.args.bytes.now (text ∷ group ∷ vdev_count ∷ metaslab_count ∷ []) log_count (front_zeros ∷ []) 24
    (c.has_text.ensures.0 c.if-not-has_text.false, (sym c.u64_at.ensures ∙ c.if-u64_at-uber.false, (c.has_vdevs.ensures.0 c.if-not-has_vdevs.false, (c.has_rows.ensures.0 c.if-not-has_rows.false, tt))))
    (not_true c.has_logs.result (P log_count) c.has_logs.ensures.1 c.if-not-has_logs.true) refl)

pub returns-then-not-has_zeros-clause-err : goal.returns-then-not-has_zeros-clause-err
returns-then-not-has_zeros-clause-err c head =
    let P = IsRight head c.args.uber.now c.args.bytes.now in
    fault_is P c.args.bytes.now front_fields 28 c.malformed-then-not-has_zeros.result c.malformed-then-not-has_zeros.ensures
    (wrong_here P c.args.bytes.now (text ∷ group ∷ vdev_count ∷ metaslab_count ∷ log_count ∷ []) front_zeros ([]) 28
    (c.has_text.ensures.0 c.if-not-has_text.false, (sym c.u64_at.ensures ∙ c.if-u64_at-uber.false, (c.has_vdevs.ensures.0 c.if-not-has_vdevs.false, (c.has_rows.ensures.0 c.if-not-has_rows.false, (c.has_logs.ensures.0 c.if-not-has_logs.false, tt)))))
    (not_true c.has_zeros.result (P front_zeros) c.has_zeros.ensures.1 c.if-not-has_zeros.true) refl)
