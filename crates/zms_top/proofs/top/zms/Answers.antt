use Rattle.std.proofs.Common.{◌≡◌, rules, map, string_bytes, Some}
use Rattle.meta_store.specs.declared.causes.At.{At}
use Rattle.zms_top.specs.Words.{Asks}
use Rattle.zms_top.specs.declared.words.Asked.TheVariants.{Run}
use Rattle.zms_top.proofs.CauseLemmas.{run_cause, still_cause, runs_of_text, run_ends_at, run_is_done, report_is_done, create_is_done}
use Rattle.zms_top.proofs.top.zms.Goals as goal

pub returns-in-Some-Run-clause-cause : goal.returns-in-Some-Run-clause-cause
returns-in-Some-Run-clause-cause g c =
    let asks : Asks (map string_bytes c.args.words.now) (Run c.in-Some-Run.at) = rw c.in-Some-Run.field-0-is at c.in-Some-Run.ensures.asks in
    run_cause (map string_bytes c.args.words.now) _ _ c.in-Some-Run.at c.run-ended.result.0.status _ _ asks c.run-ended.ensures.ends

pub returns-in-Some-Run-clause-run : goal.returns-in-Some-Run-clause-run
returns-in-Some-Run-clause-run g c = λ at asked.
    let asks : Asks (map string_bytes c.args.words.now) (Run c.in-Some-Run.at) = rw c.in-Some-Run.field-0-is at c.in-Some-Run.ensures.asks in
    run_ends_at (map string_bytes c.args.words.now) _ _ c.in-Some-Run.at at _ _ _ asks asked c.run-ended.ensures.ends

pub returns-in-Some-Run-clause-input : goal.returns-in-Some-Run-clause-input
returns-in-Some-Run-clause-input g c = λ none.
    let asks : Asks (map string_bytes c.args.words.now) (Run c.in-Some-Run.at) = rw c.in-Some-Run.field-0-is at c.in-Some-Run.ensures.asks in
    absurd (none c.in-Some-Run.at asks)

pub returns-in-Some-Run-clause-trace : goal.returns-in-Some-Run-clause-trace
returns-in-Some-Run-clause-trace g c = λ none.
    let asks : Asks (map string_bytes c.args.words.now) (Run c.in-Some-Run.at) = rw c.in-Some-Run.field-0-is at c.in-Some-Run.ensures.asks in
    absurd (none c.in-Some-Run.at asks)

pub returns-in_default-clause-run : goal.returns-in_default-clause-run
returns-in_default-clause-run g c = λ at asked.
    let other : (at : At) → c.read_words.result ≡ Some (Run at) → ⊥ = search rules in
    absurd (other at (c.read_words.ensures.only (Run at) asked))

pub returns-in_default-clause-cause : goal.returns-in_default-clause-cause
returns-in_default-clause-cause g c =
    let other : (at : At) → c.read_words.result ≡ Some (Run at) → ⊥ = search rules in
    still_cause (map string_bytes c.args.words.now) _ _
    c.zms_still-status.result.0 c.read_words.result c.read_words.ensures.asks c.read_words.ensures.nothing other (λ none. (c.zms_still-status.ensures.usage none).0) c.zms_still-status.ensures.create c.zms_still-status.ensures.report

pub returns-in_default-clause-unread : goal.returns-in_default-clause-unread
returns-in_default-clause-unread g c = λ of_text.
    let other : (at : At) → c.read_words.result ≡ Some (Run at) → ⊥ = search rules in
    let runs = runs_of_text (map string_bytes c.args.words.now) _ _ c.zms_still-status.result.0 (returns-in_default-clause-cause g c) of_text in
    absurd (other runs.0 (c.read_words.ensures.only (Run runs.0) runs.1))

pub returns-in-Some-Run-clause-complete_run : goal.returns-in-Some-Run-clause-complete_run
returns-in-Some-Run-clause-complete_run g c = λ honest. run_is_done _ _ _ _ (returns-in-Some-Run-clause-cause g c) honest

pub returns-in_default-clause-complete_create : goal.returns-in_default-clause-complete_create
returns-in_default-clause-complete_create g c = λ honest. create_is_done _ _ _ _ (returns-in_default-clause-cause g c) honest

pub returns-in-Some-Run-clause-complete_create : goal.returns-in-Some-Run-clause-complete_create
returns-in-Some-Run-clause-complete_create g c = λ honest. create_is_done _ _ _ _ (returns-in-Some-Run-clause-cause g c) honest

pub returns-in_default-clause-complete_run : goal.returns-in_default-clause-complete_run
returns-in_default-clause-complete_run g c = λ honest. run_is_done _ _ _ _ (returns-in_default-clause-cause g c) honest

pub returns-in-Some-Run-clause-complete_report : goal.returns-in-Some-Run-clause-complete_report
returns-in-Some-Run-clause-complete_report g c = λ honest. report_is_done _ _ _ _ (returns-in-Some-Run-clause-cause g c) honest

pub returns-in_default-clause-complete_report : goal.returns-in_default-clause-complete_report
returns-in_default-clause-complete_report g c = λ honest. report_is_done _ _ _ _ (returns-in_default-clause-cause g c) honest
