use Rattle.std.proofs.lemmas.Result.{err_from_is_err_and}
use Rattle.space_map.proofs.Deciding.{gives_runs, read_more, read_whole, read_refused, refuses_first, runs_certain, runs_show_no_fault}
use Rattle.space_map.proofs.reading.decode.Goals as goal

pub returns-in_err-at-clause-gives : goal.returns-in_err-at-clause-gives
returns-in_err-at-clause-gives c =
    let fault = c.in_err-at.field-0.0 in
    let p = err_from_is_err_and c.from_residual.result c.from_residual.ensures.1 in
    rw (p.1, p.2) (λ runs decodes. gives_runs c.args.kind c.args.words.now runs fault decodes (read_refused c.args.kind c.args.words.now c.loop-at.at c.loop-at.found.items c.loop-at.invariant fault c.in_err-at.ensures.fault))

pub returns-in_err-at-clause-refuses : goal.returns-in_err-at-clause-refuses
returns-in_err-at-clause-refuses c =
    let fault = c.in_err-at.field-0.0 in
    let p = err_from_is_err_and c.from_residual.result c.from_residual.ensures.1 in
    rw (p.1, p.2) (λ first met. refuses_first c.args.kind c.args.words.now first fault met (read_refused c.args.kind c.args.words.now c.loop-at.at c.loop-at.found.items c.loop-at.invariant fault c.in_err-at.ensures.fault))

pub loop-at-preserved : goal.loop-at-preserved
loop-at-preserved c = read_more c.args.kind c.args.words.now c.loop-at.at c.loop-at.found.items c.loop-at.invariant c.in_ok-at.at c.take_entry.new.found.items c.in_ok-at.ensures.ok

pub returns-clause-gives : goal.returns-clause-gives
returns-clause-gives c = λ runs decodes.
    runs_certain c.args.kind c.args.words.now c.loop-at.found.items runs (read_whole c.args.kind c.args.words.now c.loop-at.at c.loop-at.found.items c.loop-at.invariant c.loop-at-test.false) decodes

pub returns-clause-never : goal.returns-clause-never
returns-clause-never c = λ fault first.
    absurd (runs_show_no_fault c.args.kind c.args.words.now c.loop-at.found.items fault
    (read_whole c.args.kind c.args.words.now c.loop-at.at c.loop-at.found.items c.loop-at.invariant c.loop-at-test.false) first)
