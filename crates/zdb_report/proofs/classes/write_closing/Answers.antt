use Rattle.std.proofs.Common.{◌≡◌, ◌∙◌, ℕ, ap}
use Rattle.std.specs.Prelude.{codes}
use Rattle.std.specs.List.{sum_by}
use Rattle.zdb_report.specs.Texts.{counts_text, if_asked, live_bytes, sums_text}
use Rattle.std.specs.Prelude.{None}
use Rattle.zdb_report.proofs.Telling.{lines_are}
use Rattle.zdb_report.proofs.classes.write_closing.Goals as goal

pub returns : goal.returns
returns g c = λ stats rows.
    let sums : counts_text c.sums_of.result.live c.sums_of.result.vacant ≡ sums_text None stats =
    ap (λ (n : ℕ). counts_text n c.sums_of.result.vacant) (c.sums_of.ensures.live stats rows) ∙ ap (λ (n : ℕ). counts_text (sum_by (if_asked None live_bytes) stats) n) (c.sums_of.ensures.vacant stats rows) in
    lines_are _ _ _ _ _ _ _ _ (codes "pool") _ _ (c.class_sums.ensures stats rows) (c.class_sums-2.ensures stats rows) (c.class_sums-3.ensures stats rows) (c.class_sums-4.ensures stats rows) sums _ _ _ c.write.ensures
