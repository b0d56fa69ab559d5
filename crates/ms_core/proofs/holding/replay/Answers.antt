use Rattle.std.proofs.Common.{◌≡◌, ℕ, Bool, true, false, cond, None, List, take, refl, sym, ap, ◌∙◌, add-one}
use Rattle.std.proofs.Math.Seq.{take-suc}
use Rattle.ms_model.proofs.Histories.{held_act, held_act-push}
use Rattle.ms_core.proofs.Words.{held, is_grant, granted, untouched, Noted, take_all}
use Rattle.ms_core.proofs.holding.replay.Goals as goal

grant_first : (opened : ℕ) (b : Bool) → is_grant (cond b (granted None opened) untouched) ≡ b
grant_first opened true = refl
grant_first opened false = refl

pub loop-note-init : goal.loop-note-init
loop-note-init c = λ o base u lt. base u lt ∙ sym (grant_first o.opened (o.base u))

pub loop-note-preserved : goal.loop-note-preserved
loop-note-preserved c = λ o base u lt.
    let i = c.loop-note.note-index in
    let notes = c.args.notes.now in
    let t = c.args.group.0 in
    c.take_in.ensures u (held_act o (take i notes) t u) (rw c.loop-note.auto.table lt) (c.loop-note.invariant o base u lt)
    ∙ ap is_grant (sym (held_act-push o (take i notes) _ t u) ∙ ap (λ (h : List Noted). held_act o h t u) (sym (ap (λ n. take n notes) (add-one i) ∙ take-suc notes i _ c.loop-note-test.true)))

pub returns : goal.returns
returns c = λ o base u lt.
    c.loop-note.invariant o base u lt ∙ ap (λ (h : List Noted). held o h c.args.group.0 u) (take_all c.loop-note.note-index c.args.notes.now c.loop-note-test.false)
