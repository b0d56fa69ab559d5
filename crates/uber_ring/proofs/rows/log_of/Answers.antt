use Rattle.std.proofs.Common.{◌≡◌, [], ◌∷◌, ℕ, ◌+◌, ◌∙◌, ap, arith}
use Rattle.uber_ring.specs.Numbers.{number_at}
use Rattle.uber_ring.specs.TableBytes.{vdev_count_in, log_at}
use Rattle.uber_ring.specs.TableFields.{IsRight, log_fields, log_group, log_words}
use Rattle.uber_ring.proofs.TableRows.{log_group_is, log_words_is}
use Rattle.uber_ring.proofs.Wrong.{wrong_here, fault_is}
use Rattle.uber_ring.proofs.rows.log_of.Goals as goal

pub returns-then-group-first-clause-err : goal.returns-then-group-first-clause-err
returns-then-group-first-clause-err c uber =
    let bytes = c.args.bytes.now in
    let P = IsRight c.args.head.now uber bytes in
    fault_is P bytes (log_fields c.args.l) (log_at c.args.counts.vdevs c.args.l) c.malformed.result c.malformed.ensures
    (wrong_here P bytes ([]) (log_group c.args.l) ((log_words c.args.l) ∷ []) (log_at c.args.counts.vdevs c.args.l)
    tt
    (let e : c.u64_at-group.result ≡ number_at bytes (log_at (vdev_count_in bytes) c.args.l) 8 = c.u64_at-group.ensures ∙ ap (λ (v : ℕ). number_at bytes (log_at v c.args.l) 8) c.requires.counts.vdevs in λ right. c.if-group-first.true (omega (arith, e, log_group_is bytes c.args.l c.requires.number, right, c.requires.first))) (omega (arith, c.requires.counts.vdevs)))

pub returns-then-words-log_len-clause-err : goal.returns-then-words-log_len-clause-err
returns-then-words-log_len-clause-err c uber =
    let bytes = c.args.bytes.now in
    let P = IsRight c.args.head.now uber bytes in
    fault_is P bytes (log_fields c.args.l) (log_at c.args.counts.vdevs c.args.l + 8) c.malformed-then-words-log_len.result c.malformed-then-words-log_len.ensures
    (wrong_here P bytes ((log_group c.args.l) ∷ []) (log_words c.args.l) ([]) (log_at c.args.counts.vdevs c.args.l + 8) (
      (let e : c.u64_at-group.result ≡ number_at bytes (log_at (vdev_count_in bytes) c.args.l) 8 = c.u64_at-group.ensures ∙ ap (λ (v : ℕ). number_at bytes (log_at v c.args.l) 8) c.requires.counts.vdevs in omega (arith, e, log_group_is bytes c.args.l c.requires.number, c.if-group-first.false, c.requires.first)),
      tt,
    )
    (let w : c.u64_at-words.result ≡ number_at bytes (log_at (vdev_count_in bytes) c.args.l + 8) 8 = c.u64_at-words.ensures ∙ ap (λ (v : ℕ). number_at bytes (log_at v c.args.l + 8) 8) c.requires.counts.vdevs in λ right. omega (arith, w, log_words_is bytes c.args.l c.requires.number, c.if-words-log_len.true, c.log_len.ensures, right)) (omega (arith, c.requires.counts.vdevs)))

pub returns-clause-ok : goal.returns-clause-ok
returns-clause-ok c uber =
    let bytes = c.args.bytes.now in (
      (let e : c.u64_at-group.result ≡ number_at bytes (log_at (vdev_count_in bytes) c.args.l) 8 = c.u64_at-group.ensures ∙ ap (λ (v : ℕ). number_at bytes (log_at v c.args.l) 8) c.requires.counts.vdevs in omega (arith, e, log_group_is bytes c.args.l c.requires.number, c.if-group-first.false, c.requires.first)),
      (
        (let w : c.u64_at-words.result ≡ number_at bytes (log_at (vdev_count_in bytes) c.args.l + 8) 8 = c.u64_at-words.ensures ∙ ap (λ (v : ℕ). number_at bytes (log_at v c.args.l + 8) 8) c.requires.counts.vdevs in omega (arith, w, log_words_is bytes c.args.l c.requires.number, c.if-words-log_len.false, c.log_len.ensures)),
        tt,
      ),
    )
